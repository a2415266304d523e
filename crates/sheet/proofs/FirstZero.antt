-- A solve that is refused for a diagonal entry that holds 0 names the first such row in working order.
use Rattle.std.specs.Prelude.{◌≡◌, ℕ, Bool, true, false, cond, ◌&&◌, List, [], ◌∷◌, map, Some, None, Option, nat_lt, nat_le}
use Rattle.std.proofs.Common.{sym, refl, ap, ◌∙◌}
use Rattle.arithmetic.specs.Values.{Value}
use Rattle.cells.specs.declared.cell.Record.{Record}
use Rattle.cells.specs.Quotients.{zero_in}
use Rattle.layouts.specs.declared.side.Side.{Side}
use Rattle.layouts.specs.Matrix.{Matrix}
use Rattle.layouts.specs.Orders.{rows_in_order, first_zero}
use Rattle.sheet.specs.declared.refusal.CallName.{CallName}
use Rattle.sheet.specs.declared.refusal.CallName.TheVariants.{Solve}
use Rattle.sheet.specs.declared.refusal.Refusal.{Refusal}
use Rattle.sheet.specs.declared.refusal.Refusal.TheVariants.{ScaleOutside, ShapeOutside, WrongLength, NoSuchColumn, NoSuchRow, NoCell, LayoutTooLarge, DivisorHoldsZero, NoPermutation, BeyondLimit}
use Rattle.sheet.specs.declared.shape.Shape.{Shape}
use Rattle.sheet.specs.Answers.{call_answer}
use Rattle.sheet.specs.Calls.{Meaning, solve}
use Rattle.sheet.specs.Checks.{Answer, granted, refused, first_refusal, divides, limits, lower_fits, upper_fits}
use Rattle.sheet.specs.Memory.{has_both, cells_in}
use Rattle.sheet.specs.NewColumns.{new_column}

-- the row that an answer tells for a diagonal entry that holds 0
abbrev zero_row : Refusal → Option ℕ
zero_row ScaleOutside = None
zero_row ShapeOutside = None
zero_row (WrongLength call column) = None
zero_row (NoSuchColumn call column) = None
zero_row (NoSuchRow call column row) = None
zero_row (NoCell column) = None
zero_row (LayoutTooLarge call column) = None
zero_row (DivisorHoldsZero column row) = Some row
zero_row (NoPermutation call column) = None
zero_row (BeyondLimit fault) = None

abbrev told_zero : Answer → Option ℕ
told_zero granted = None
told_zero (refused refusal) = zero_row refusal

in_rows : (k : ℕ) (m : Matrix) (rows : List ℕ) (after : Answer) → told_zero after ≡ None → told_zero (first_refusal (map (divides k m) rows) after) ≡ first_zero m rows
in_rows k m [] after e = e
in_rows k m (r ∷ rows) after e = go (zero_in (m.entry r r)) refl (in_rows k m rows after e)
  where
    go : (b : Bool) → zero_in (m.entry r r) ≡ b → told_zero (first_refusal (map (divides k m) rows) after) ≡ first_zero m rows → told_zero (first_refusal (map (divides k m) (r ∷ rows)) after) ≡ first_zero m (r ∷ rows)
    go true z rest = rw z refl
    go false z rest = rw z rest

-- the limits tell of no such entry
limits_none : (call : CallName) (k : ℕ) (new : ℕ → Value) (rows : List ℕ) → told_zero (first_refusal (limits call k new rows) granted) ≡ None
limits_none call k new [] = refl
limits_none call k new (r ∷ rows) = go (lower_fits (new r)) (upper_fits (new r)) refl refl (limits_none call k new rows)
  where
    go : (p q : Bool) → lower_fits (new r) ≡ p → upper_fits (new r) ≡ q → told_zero (first_refusal (limits call k new rows) granted) ≡ None → told_zero (first_refusal (limits call k new (r ∷ rows)) granted) ≡ None
    go false q x y rest = rw x refl
    go true false x y rest = rw (x, y) refl
    go true true x y rest = rw (x, y) rest

module _ (s : Shape) (k : ℕ) (side : Side) (t : Meaning) (alpha : Record) (cells draft : List Record) (row : ℕ) where
  abbrev rows : List ℕ
  rows = rows_in_order side t.matrix.rows

  abbrev last : Answer
  last = first_refusal (limits Solve k (new_column s (solve k side t alpha) (cells_in s cells)) rows) granted

  abbrev answered : (long named room : Bool) → Answer
  answered long named room =
      cond long (cond named (cond room (first_refusal (map (divides k t.matrix) rows) last) (refused (LayoutTooLarge Solve k))) (refused (NoSuchColumn Solve k))) (refused (WrongLength Solve k))

  by : (long named room : Bool) → told_zero (answered long named room) ≡ Some row → first_zero t.matrix rows ≡ Some row
  by true true true p = sym (in_rows k t.matrix rows last (limits_none Solve k (new_column s (solve k side t alpha) (cells_in s cells)) rows)) ∙ p
  by true true false p = cc
  by true false room p = cc
  by false named room p = cc

  pub zero_first : call_answer s (solve k side t alpha) cells draft ≡ refused (DivisorHoldsZero k row) → first_zero t.matrix rows ≡ Some row
  unfolding call_answer
  zero_first e = by (has_both s cells draft) (nat_lt k s.columns) (nat_le t.matrix.rows s.rows && nat_le t.matrix.columns s.rows) (ap told_zero e)
