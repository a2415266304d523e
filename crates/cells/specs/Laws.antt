-- What the parts above may rely on: reading back, what is kept, and for each formula that its cell is tight for the values
-- that its operands reach, and that these values grow with the operands.
use Rattle.std.specs.Prelude.{◌≡◌, ℕ, ◌<◌, true, false, ℤ, pos, ◌<ℤ◌, Ok}
use Rattle.arithmetic.specs.Fractions.{Fraction}
use Rattle.arithmetic.specs.Sets.{Included, ProductSet, QuotientSet}
use Rattle.arithmetic.specs.Values.{Value, empty, Ordered, Inside, Within, Nested, Tightly, Apart, times, quotients}
use Rattle.cells.specs.declared.cell.Record.{Record}
use Rattle.cells.specs.Cells.{IsCell, read_as, written}
use Rattle.cells.specs.Faults.{kept}
use Rattle.cells.specs.Formulas.{dot_cell, DotValues, sum_cell, SumValues, blend_cell, BlendValues}
use Rattle.cells.specs.Held.{Chosen}
use Rattle.cells.specs.Joins.{met, hulled}
use Rattle.cells.specs.Questions.{nested}
use Rattle.cells.specs.Quotients.{zero_in, nought, divided}
use Rattle.cells.specs.Rules.{Admitted, Rule}
use Rattle.cells.specs.Scales.{IsScale}

pub record Laws : Type 0 where
  -- the least and the greatest scale are legal
  pub scale_ends : IsScale (pos 1) × IsScale (pos 100000)
  -- every record reads as a cell, and a cell that was written reads as itself
  pub read_cell : (r : Record) → IsCell (read_as r)
  pub read_written : (c : Value) → IsCell c → read_as (written c) ≡ c
  -- a value is kept exactly if it is a cell, and then as the record that is written for it
  pub kept_cell : (v : Value) → IsCell v → kept v ≡ Ok (written v)
  pub kept_is : (v : Value) (r : Record) → Ordered v → kept v ≡ Ok r → IsCell v × (r ≡ written v)
  -- the test of bounds tells whether every fraction inside one cell is inside the other, at any scale
  pub nested_within : (u : ℤ) (a b : Value) → nested a b ≡ true → Within u a b
  pub within_nested : (u : ℤ) (a b : Value) → pos 0 <ℤ u → Ordered a → Within u a b → nested a b ≡ true
  -- a cell is tight for the fractions inside it
  pub inside_tight : (u : ℤ) (c : Value) → pos 0 <ℤ u → Ordered c → Tightly u (Inside u c) c
  -- dot
  pub dot_tight : (u : ℤ) (alpha beta r : Value) (xs ys : ℕ → Value) (n : ℕ) → pos 0 <ℤ u → Ordered alpha → Ordered beta → Ordered r
      → ((j : ℕ) → j < n → Ordered (xs j)) → ((j : ℕ) → j < n → Ordered (ys j))
      → Tightly u (DotValues (Inside u alpha) (Inside u beta) (Inside u r) (λ j. Inside u (xs j)) (λ j. Inside u (ys j)) n) (dot_cell u alpha beta r xs ys n)
  pub dot_grows : (u : ℤ) (alpha beta r alpha' beta' r' : Value) (xs ys xs' ys' : ℕ → Value) (n : ℕ) → Within u alpha alpha' → Within u beta beta' → Within u r r'
      → ((j : ℕ) → j < n → Within u (xs j) (xs' j)) → ((j : ℕ) → j < n → Within u (ys j) (ys' j))
      → Included (DotValues (Inside u alpha) (Inside u beta) (Inside u r) (λ j. Inside u (xs j)) (λ j. Inside u (ys j)) n)
      (DotValues (Inside u alpha') (Inside u beta') (Inside u r') (λ j. Inside u (xs' j)) (λ j. Inside u (ys' j)) n)
  -- sum
  pub sum_tight : (u : ℤ) (xs : ℕ → Value) (n : ℕ) → pos 0 <ℤ u → ((j : ℕ) → j < n → Ordered (xs j)) → Tightly u (SumValues (λ j. Inside u (xs j)) n) (sum_cell xs n)
  pub sum_grows : (u : ℤ) (xs xs' : ℕ → Value) (n : ℕ) → ((j : ℕ) → j < n → Within u (xs j) (xs' j)) → Included (SumValues (λ j. Inside u (xs j)) n) (SumValues (λ j. Inside u (xs' j)) n)
  -- blend
  pub blend_tight : (u : ℤ) (alpha beta x r : Value) → pos 0 <ℤ u → Ordered alpha → Ordered beta → Ordered x → Ordered r
      → Tightly u (BlendValues (Inside u alpha) (Inside u beta) (Inside u x) (Inside u r)) (blend_cell u alpha beta x r)
  pub blend_grows : (u : ℤ) (alpha beta x r alpha' beta' x' r' : Value) → Within u alpha alpha' → Within u beta beta' → Within u x x' → Within u r r'
      → Included (BlendValues (Inside u alpha) (Inside u beta) (Inside u x) (Inside u r)) (BlendValues (Inside u alpha') (Inside u beta') (Inside u x') (Inside u r'))
  -- a quotient by a cell that does not hold 0: the four quotients of bounds, tight for alpha·x over the divisor
  pub divided_apart : (v d : Value) → zero_in d ≡ false → divided v d ≡ quotients v d
  -- by a cell that holds 0: empty, whatever is divided
  pub divided_zero : (v d : Value) → zero_in d ≡ true → divided v d ≡ empty
  pub not_zero_apart : (d : Value) → Ordered d → zero_in d ≡ false → Apart d
  -- and a cell that is told to hold 0 does
  pub zero_held : (u : ℤ) (d : Value) → zero_in d ≡ true → Inside u d nought
  pub quotient_tight : (u : ℤ) (alpha x d : Value) → pos 0 <ℤ u → Ordered alpha → Ordered x → Ordered d → zero_in d ≡ false
      → Tightly u (QuotientSet (ProductSet (Inside u alpha) (Inside u x)) (Inside u d)) (divided (times alpha x) d)
  -- a join, for every rule: the values that it admits from what can be chosen out of the operands. How they grow is the rule's own law
  pub join_tight : (rule : Rule) (u : ℤ) (a b : Value) → IsScale u → IsCell a → IsCell b → Tightly u (Admitted rule.admits (Chosen u a) (Chosen u b)) (rule.joined a b)
  -- meet is the intersection: a fraction is inside it exactly where it is inside both
  pub meet_in : (u : ℤ) (a b : Value) (v : Fraction) → Inside u a v → Inside u b v → Inside u (met a b) v
  pub meet_out : (u : ℤ) (a b : Value) (v : Fraction) → Inside u (met a b) v → Inside u a v × Inside u b v
  -- hull is the least cell that holds both
  pub hull_left : (a b : Value) → Nested a (hulled a b)
  pub hull_right : (a b : Value) → Nested b (hulled a b)
  pub hull_least : (a b c : Value) → Nested a c → Nested b c → Nested (hulled a b) c
