-- The cell formulas: the value that each works out, rounded out once, and the set of fractions that its operands reach.
use Rattle.std.specs.Prelude.{ℕ, ℤ, ◌*ℤ◌}
use Rattle.arithmetic.specs.Sets.{Set, ProductSet, SumSet, TotalSet}
use Rattle.arithmetic.specs.Values.{Value, times, plus, opposite, rescaled, total, rounded}

-- A formula is written once more over sets of operands: with the sets of all fractions inside the cells it gives the
-- values that the operands reach, each operand chosen separately; with sets of one fraction each, the exact value.

-- Σ x_j·y_j over n places from the place `from` on
abbrev pub sum_of_products : (xs ys : ℕ → Value) (from n : ℕ) → Value
sum_of_products xs ys from n = total (λ j. times (xs j) (ys j)) from n

-- beta·r + alpha·t, t being a sum of products: a product of three cells is at the scale u·u·u, so beta·r is multiplied by u
abbrev pub weighted_sum : (u : ℤ) (alpha beta r t : Value) → Value
weighted_sum u alpha beta r t = plus (rescaled u (times beta r)) (times alpha t)

-- alpha·x + beta·r, at the scale u·u
abbrev pub blended_sum : (alpha beta x r : Value) → Value
blended_sum alpha beta x r = plus (times alpha x) (times beta r)

-- alpha·x − t, t being a sum of products, at the scale u·u
abbrev pub remainder_sum : (alpha x t : Value) → Value
remainder_sum alpha x t = plus (times alpha x) (opposite t)

-- beta·r + alpha·Σ x_j·y_j over the places below n, at the scale u: divided by u·u
abbrev pub dot_cell : (u : ℤ) (alpha beta r : Value) (xs ys : ℕ → Value) (n : ℕ) → Value
dot_cell u alpha beta r xs ys n = rounded (u *ℤ u) (weighted_sum u alpha beta r (sum_of_products xs ys 0 n))

abbrev pub DotValues : (A B R : Set) (X Y : ℕ → Set) (n : ℕ) → Set
DotValues A B R X Y n = SumSet (ProductSet B R) (ProductSet A (TotalSet (λ j. ProductSet (X j) (Y j)) 0 n))

-- Σ x_j over the places below n: a sum of cells is in steps already
abbrev pub sum_cell : (xs : ℕ → Value) (n : ℕ) → Value
sum_cell xs n = total xs 0 n

abbrev pub SumValues : (X : ℕ → Set) (n : ℕ) → Set
SumValues X n = TotalSet X 0 n

-- alpha·x + beta·r: divided by u
abbrev pub blend_cell : (u : ℤ) (alpha beta x r : Value) → Value
blend_cell u alpha beta x r = rounded u (blended_sum alpha beta x r)

abbrev pub BlendValues : (A B X R : Set) → Set
BlendValues A B X R = SumSet (ProductSet A X) (ProductSet B R)
