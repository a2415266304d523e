-- The four quotients of bounds, rounded in a direction, and a sum divided by a cell.
use Rattle.std.specs.Prelude.{Bool, false, cond, List, [], ◌∷◌, ℤ, pos}
use Rattle.std.proofs.Common.{arith}
use Rattle.std.proofs.lemmas.Int.{ints}
use Rattle.arithmetic.specs.Fractions.{Fraction}
use Rattle.arithmetic.specs.Values.{Value, empty, bounds, quotients, spans_zero}
use Rattle.rounding.specs.declared.direction.Direction.{Direction}
use Rattle.rounding.specs.Outward.{rounded_in}

-- each bound of the pair a, b by each of the pair c, d
abbrev pub quotients_in : Direction → (a b c d : ℤ) → List ℤ
quotients_in way a b c d = rounded_in way a c ∷ (rounded_in way a d ∷ (rounded_in way b c ∷ (rounded_in way b d ∷ [])))

-- 0 is inside; it is never inside the empty cell
abbrev pub zero_in : Value → Bool
zero_in empty = false
zero_in (bounds c d) = spans_zero c d

-- the fraction 0
abbrev pub nought : Fraction
nought = record { num = pos 0; den = pos 1; positive = omega (arith, ints) }

-- a sum divided by a cell: empty where one of them is, and where the cell holds 0
abbrev pub divided : Value → Value → Value
divided empty v = empty
divided (bounds a b) empty = empty
divided (bounds a b) (bounds c d) = cond (spans_zero c d) empty (quotients (bounds a b) (bounds c d))
