-- Meet, the intersection of two cells, and hull, the least cell that holds both: how they join and what they admit.
use Rattle.std.specs.Prelude.{Bool, false, cond, ◌&&◌, ◌||◌, ℤ, ◌*ℤ◌, int_le, int_lt}
use Rattle.std.specs.Int.{int_min, int_max}
use Rattle.arithmetic.specs.Fractions.{Fraction}
use Rattle.arithmetic.specs.Values.{Value, empty, bounds}
use Rattle.cells.specs.Held.{Held, nothing, held}

-- whether two fractions are equal, by their cross products
abbrev pub same_fraction : Fraction → Fraction → Bool
same_fraction v w = int_le (v.num *ℤ w.den) (w.num *ℤ v.den) && int_le (w.num *ℤ v.den) (v.num *ℤ w.den)

-- whether p is the fraction v
abbrev pub has : Held → Fraction → Bool
has nothing v = false
has (held w) v = same_fraction w v

-- the bounds a and b, or empty where they are out of order
abbrev pub if_ordered : ℤ → ℤ → Value
if_ordered a b = cond (int_lt b a) empty (bounds a b)

-- the intersection
abbrev pub met : Value → Value → Value
met empty y = empty
met (bounds a b) empty = empty
met (bounds a b) (bounds c d) = if_ordered (int_max a c) (int_min b d)

-- a value that both have
abbrev pub meet_admits : Held → Held → Fraction → Bool
meet_admits p q v = has p v && has q v

-- the least cell that holds both
abbrev pub hulled : Value → Value → Value
hulled empty y = y
hulled (bounds a b) empty = bounds a b
hulled (bounds a b) (bounds c d) = bounds (int_min a c) (int_max b d)

-- a value that either has
abbrev pub hull_admits : Held → Held → Fraction → Bool
hull_admits p q v = has p v || has q v
