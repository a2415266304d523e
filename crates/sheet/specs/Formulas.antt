-- The formula of each call over sets of operands: which fractions it gives at a row of the new column. With the sets of all that
-- can be chosen inside the cells it gives the reached values; with sets of one each, the value of the exact run.
use Rattle.std.specs.Prelude.{◌≡◌, ℕ, Bool, true, false, ◌==◌, nat_lt, get_or}
use Rattle.arithmetic.specs.Fractions.{Fraction}
use Rattle.arithmetic.specs.Sets.{Set}
use Rattle.arithmetic.specs.Values.{Value}
use Rattle.cells.specs.Formulas.{DotValues, SumValues, BlendValues}
use Rattle.cells.specs.Held.{Held, nothing, held, Chosen}
use Rattle.cells.specs.Rules.{Admitted}
use Rattle.layouts.specs.Rows.{ProductValues, SolveValues}
use Rattle.sheet.specs.declared.shape.Shape.{Shape}
use Rattle.sheet.specs.Calls.{Call, dot, sum, blend, product, solve, join, copy, permute, alpha_of, beta_of, entry_of}

-- a set of operands, each of them a fraction or nothing
abbrev pub Operands : Type 1
Operands = Held → Type 0

-- the fractions among them
abbrev pub Of : Operands → Set
Of S v = S (held v)

-- the first set where the test passes, the second elsewhere
abbrev pub Where : Bool → Set → Set → Set
Where true S T = S
Where false S T = T

-- A and B are the sets for alpha and beta, T i j for an entry of the layout, X k i for a cell of column k, and Z i for a cell of
-- the new column, which a solve reads
abbrev pub Formula : Shape → Call → (A B : Operands) → (T X : ℕ → ℕ → Operands) → (Z : ℕ → Operands) → (row : ℕ) → Set
Formula s (dot k i x y alpha beta) A B T X Z row = Where (row == i) (DotValues (Of A) (Of B) (Of (X k row)) (λ j. Of (X x j)) (λ j. Of (X y j)) s.rows) (Of (X k row))
Formula s (sum k i x) A B T X Z row = Where (row == i) (SumValues (λ j. Of (X x j)) s.rows) (Of (X k row))
Formula s (blend k x alpha beta) A B T X Z row = BlendValues (Of A) (Of B) (Of (X x row)) (Of (X k row))
Formula s (product k x l alpha beta) A B T X Z row = Where (nat_lt row l.matrix.rows) (ProductValues (Of A) (Of B) (Of (X k row)) (λ i j. Of (T i j)) (λ j. Of (X x j)) row l.matrix.columns) (Of (X k row))
Formula s (solve k side t alpha) A B T X Z row = Where (nat_lt row t.matrix.rows) (SolveValues side (Of A) (Of (X k row)) (λ i j. Of (T i j)) (λ j. Of (Z j)) row t.matrix.rows) (Of (X k row))
Formula s (join k x rule) A B T X Z row = Admitted rule.admits (X k row) (X x row)
Formula s (copy k x) A B T X Z row = Of (X x row)
Formula s (permute k order) A B T X Z row = Of (X k (get_or order row 0))

-- the values that a row of the new column reaches over the columns `cols`: each operand is chosen separately inside its cell, a
-- column that is named twice counting as two, and in a solve the new cells of the rows solved before are operands as well
abbrev pub Reached : Shape → Call → (cols : ℕ → ℕ → Value) (new : ℕ → Value) → (row : ℕ) → Set
Reached s call cols new = Formula s call (Chosen s.scale (alpha_of call)) (Chosen s.scale (beta_of call)) (λ i j. Chosen s.scale (entry_of call i j)) (λ k i. Chosen s.scale (cols k i)) (λ i. Chosen s.scale (new i))

-- this one and no other
abbrev pub Only : Held → Operands
Only p q = q ≡ p

-- a member of the set, or nothing where it has none
pub data Gives (S : Set) : Held → Type 0 where
  no_value : ((v : Fraction) → S v → ⊥) → Gives S nothing
  value : {v : Fraction} → S v → Gives S (held v)
