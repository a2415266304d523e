-- The questions about one cell and about two: width, middle, and whether one is inside the other.
use Rattle.std.specs.Prelude.{Bool, true, false, ◌&&◌, ℤ, pos, ◌+ℤ◌, ◌-ℤ◌, Some, None, Option, int_le}
use Rattle.arithmetic.specs.Rounding.{floor}
use Rattle.arithmetic.specs.Values.{Value, empty, bounds}

-- upper minus lower, in steps; none for the empty cell
abbrev pub width_of : Value → Option ℤ
width_of empty = None
width_of (bounds a b) = Some (b -ℤ a)

-- half the sum of the bounds, rounded down; none for the empty cell
abbrev pub middle_of : Value → Option ℤ
middle_of empty = None
middle_of (bounds a b) = Some (floor (a +ℤ b) (pos 2))

-- the first is inside the second, told by the bounds; the empty cell is inside every one
abbrev pub nested : Value → Value → Bool
nested empty d = true
nested (bounds a b) empty = false
nested (bounds a b) (bounds c d) = int_le c a && int_le b d
