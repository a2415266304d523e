-- What a joining rule is: how it joins two cells, which values it admits, and the laws that it keeps.
use Rattle.std.specs.Prelude.{◌≡◌, Bool, true, ◌⊎◌, ℤ}
use Rattle.arithmetic.specs.Fractions.{Fraction, Same, At}
use Rattle.arithmetic.specs.Values.{Value, empty, bounds, Inside, Within}
use Rattle.cells.specs.Cells.{IsCell}
use Rattle.cells.specs.Held.{Held, Holds, Chosen, Alike}
use Rattle.cells.specs.Scales.{IsScale}

-- e is a bound of the cell c
abbrev pub End : ℤ → Value → Type 0
End e empty = ⊥
End e (bounds a b) = (e ≡ a) ⊎ (e ≡ b)

-- v is admitted from a member of S and a member of T
pub record Admitted (admits : Held → Held → Fraction → Bool) (S T : Held → Type 0) (v : Fraction) : Type 0 where
  pub left : Held
  pub right : Held
  pub in_left : S left
  pub in_right : T right
  pub is : admits left right v ≡ true

-- some value of e steps is admitted from a choice out of a and one out of b
pub record ReachedAt (admits : Held → Held → Fraction → Bool) (u : ℤ) (a b : Value) (e : ℤ) : Type 0 where
  pub value : Fraction
  pub admitted : Admitted admits (Chosen u a) (Chosen u b) value
  pub at : At u e value

-- the laws are asked of cells, and at every legal scale
pub record Rule : Type 0 where
  -- the joined cell
  pub joined : Value → Value → Value
  -- whether a value is admitted from one of each operand
  pub admits : Held → Held → Fraction → Bool
  -- equal fractions are treated alike
  pub alike : (p q p' q' : Held) (v v' : Fraction) → Alike p p' → Alike q q' → Same v v' → admits p q v ≡ true → admits p' q' v' ≡ true
  -- cells join to a cell
  pub keeps : (a b : Value) → IsCell a → IsCell b → IsCell (joined a b)
  -- a value admitted from values inside the operands lies inside the result, a missing one counting as inside any cell
  pub contains : (u : ℤ) (a b : Value) (p q : Held) (v : Fraction) → IsScale u → IsCell a → IsCell b → Holds u a p → Holds u b q → admits p q v ≡ true → Inside u (joined a b) v
  -- each bound of a non-empty result is admitted from some values inside the operands, missing only for an empty one
  pub attained : (u : ℤ) (a b : Value) (e : ℤ) → IsScale u → IsCell a → IsCell b → End e (joined a b) → ReachedAt admits u a b e
  -- operands inside other operands give a result inside theirs
  pub isotone : (u : ℤ) (a b c d : Value) → IsScale u → IsCell a → IsCell b → IsCell c → IsCell d → Within u a c → Within u b d → Within u (joined a b) (joined c d)
  -- the order of the operands does not matter
  pub comm : (a b : Value) → IsCell a → IsCell b → joined a b ≡ joined b a
  -- nor does the bracketing of three
  pub assoc : (a b c : Value) → IsCell a → IsCell b → IsCell c → joined (joined a b) c ≡ joined a (joined b c)
  -- a cell joined with itself is that cell
  pub same : (a : Value) → IsCell a → joined a a ≡ a
