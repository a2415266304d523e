-- What a call owes whose rows are worked out: where a check turns it away, and where all pass. Then, for each call, that its formula
-- works out the column that the model drafts.
use Rattle.std.specs.Prelude.{◌≡◌, ℕ, ◌*◌, ◌<◌, ◌≤◌, Bool, true, false, cond, ◌==◌, List, [], ◌∷◌, map, drop, length, nat_lt, Ok, Err, Result, MatchResult, Some, None, Option}
use Rattle.std.specs.List.{range_with_len}
use Rattle.std.proofs.Common.{ap, sym, refl, ◌∙◌, arith}
use Rattle.std.proofs.lemmas.List.{length-take-le, length-drop}
use Rattle.std.proofs.lemmas.Nat.{row_fits_turned}
use Rattle.arithmetic.specs.Values.{Value}
use Rattle.cells.specs.declared.cell.Record.{Record}
use Rattle.cells.specs.Cells.{read_as, cell_at}
use Rattle.cells.specs.Quotients.{zero_in}
use Rattle.cells.specs.Formulas.{dot_cell, sum_cell, blend_cell}
use Rattle.layouts.specs.declared.side.Side.{Side}
use Rattle.layouts.specs.declared.side.Side.TheVariants.{Lower}
use Rattle.layouts.specs.Orders.{row_at, rows_in_order, first_zero}
use Rattle.layouts.specs.Matrix.{Matrix}
use Rattle.layouts.specs.Rows.{product_cell}
use Rattle.sheet.specs.declared.refusal.Refusal.{Refusal}
use Rattle.sheet.specs.declared.refusal.Refusal.TheVariants.{WrongLength, DivisorHoldsZero}
use Rattle.sheet.specs.declared.order.WorkingOrder.TheVariants.{All}
use Rattle.sheet.specs.declared.shape.Shape.{Shape}
use Rattle.sheet.specs.Answers.{calling, check_answer, call_answer, draft_after, empties_draft}
use Rattle.sheet.specs.CallLaws.{Passed}
use Rattle.sheet.specs.Calls.{Meaning, Call, sum, dot, blend, product, solve, name, target}
use Rattle.sheet.specs.Checks.{Check, Answer, check, granted, refused, first_refusal, divides, checks, worked_rows, limits}
use Rattle.sheet.specs.Memory.{has_both, column, cells_in, blanks, written_rows}
use Rattle.sheet.specs.NewColumns.{solution, new_column}
use Rattle.sheet.specs.Outcomes.{answer_of, Drafts}
use Rattle.sheet.specs.WorkingOrders.{rows_of}
use Rattle.sheet.proofs.Answering.{both_sized, sized_both}
use Rattle.sheet.proofs.Checks.{all_passed}
use Rattle.sheet.proofs.Columns.{written_size}
use Rattle.sheet.proofs.Exits.{answer_stopped, answer_passed}
use Rattle.sheet.proofs.FirstPast.{passed_early, checks_early}
use Rattle.sheet.proofs.WorkedRows.{aims}

module _ (s : Shape) (call : Call) (cells draft : List Record) where
  abbrev looks : List Check
  looks = check (has_both s cells draft) (WrongLength (name call) (target call)) ∷ checks s call

  early : (r : Refusal) (b : Bool) → empties_draft r ≡ b → check_answer s call cells draft ≡ refused r → b ≡ false
  early r false z e = refl
  early r true z e = never (passed_early looks granted r (refl, checks_early s call) z e).1
    where
      never : granted ≡ refused r → true ≡ false
      never e = cc

  pub turned_away : (r : Refusal) → refused r ≡ check_answer s call cells draft → Drafts s call cells draft (Err r) draft
  turned_away r e =
      let is = answer_stopped s call cells draft r (sym e) in record {
        answers = sym is;
        leaves_draft = sym (ap (draft_after s (calling call) cells draft) is ∙ ap (λ (b : Bool). cond b (blanks s.rows) draft) (early r (empties_draft r) refl (sym e)));
        aims = tt;
        right_size = tt;
      }

  -- `new` and `rows` are the new cells and the rows that the call's formula works out
  pub worked_out : (new : ℕ → Value) (rows : List ℕ) (came : Result (Unit {0}) Refusal) (draft' : List Record)
      → granted ≡ check_answer s call cells draft → new ≡ new_column s call (cells_in s cells) → rows ≡ worked_rows s call
      → answer_of came ≡ first_refusal (limits (name call) (target call) new rows) granted
      → MatchResult came (λ u. draft' ≡ written_rows (length draft) new) (λ r. (draft' ≡ blanks (length draft)) × (empties_draft r ≡ true))
      → Drafts s call cells draft came draft'
  worked_out new rows came draft' passed en er answer left = go came answer left
    where
      pass : Passed looks
      pass = (all_passed looks granted (sym passed)).0

      size : length draft ≡ s.rows
      size = (both_sized s cells draft pass.0).1

      answers : (came : Result (Unit {0}) Refusal) → answer_of came ≡ first_refusal (limits (name call) (target call) new rows) granted → answer_of came ≡ call_answer s call cells draft
      answers came e = e ∙ ap (λ (n : ℕ → Value). first_refusal (limits (name call) (target call) n rows) granted) en
          ∙ ap (λ (r : List ℕ). first_refusal (limits (name call) (target call) (new_column s call (cells_in s cells)) r) granted) er ∙ sym (answer_passed s call cells draft (sym passed))

      go : (came : Result (Unit {0}) Refusal) → answer_of came ≡ first_refusal (limits (name call) (target call) new rows) granted
          → MatchResult came (λ u. draft' ≡ written_rows (length draft) new) (λ r. (draft' ≡ blanks (length draft)) × (empties_draft r ≡ true)) → Drafts s call cells draft came draft'
      go (Ok u) e l =
          let is : draft' ≡ written_rows s.rows (new_column s call (cells_in s cells)) = l ∙ ap (λ (n : ℕ). written_rows n new) size ∙ ap (written_rows s.rows) en in
          let fits = ap (λ (d : List Record). length d) is ∙ written_size s.rows (new_column s call (cells_in s cells)) in
          record {
            answers = answers (Ok u) e;
            leaves_draft = is ∙ ap (draft_after s (calling call) cells draft) (answers (Ok u) e);
            aims = aims s call pass.1;
            right_size = sized_both s cells draft' (both_sized s cells draft pass.0).0 fits;
          }
      go (Err r) e l = record {
        answers = answers (Err r) e;
        leaves_draft = l.0 ∙ ap blanks size ∙ sym (ap (λ (b : Bool). cond b (blanks s.rows) draft) l.1) ∙ ap (draft_after s (calling call) cells draft) (answers (Err r) e);
        aims = tt;
        right_size = tt;
      }

-- a column has as many cells as the draft
pub column_rows : (s : Shape) (call : Call) (cells draft : List Record) (k : ℕ) → granted ≡ check_answer s call cells draft → k < s.columns → length (column s cells k) ≡ s.rows
column_rows s call cells draft k passed h = length-take-le s.rows (drop (k * s.rows) cells) fits
  where
    sizes : (length cells ≡ s.rows * s.columns) × (length draft ≡ s.rows)
    sizes = both_sized s cells draft (all_passed (looks s call cells draft) granted (sym passed)).0.0

    fits : s.rows ≤ length (drop (k * s.rows) cells)
    fits = omega (arith, sizes.0, row_fits_turned k s.rows s.rows s.columns h (omega arith), length-drop (k * s.rows) cells)

pub column_size : (s : Shape) (call : Call) (cells draft : List Record) (k : ℕ) → granted ≡ check_answer s call cells draft → k < s.columns → length draft ≡ length (column s cells k)
column_size s call cells draft k passed h = (both_sized s cells draft (all_passed (looks s call cells draft) granted (sym passed)).0.0).1 ∙ sym (column_rows s call cells draft k passed h)

-- the first diagonal entry that holds 0 is told, or none is
abbrev pub told_of : (k : ℕ) → Option ℕ → Answer
told_of k None = granted
told_of k (Some row) = refused (DivisorHoldsZero k row)

pub divisors_told : (k : ℕ) (m : Matrix) (rows : List ℕ) → first_refusal (map (divides k m) rows) granted ≡ told_of k (first_zero m rows)
divisors_told k m [] = refl
divisors_told k m (row ∷ rows) = go (zero_in (m.entry row row)) refl (divisors_told k m rows)
  where
    Told : List ℕ → Type 0
    Told is = first_refusal (map (divides k m) is) granted ≡ told_of k (first_zero m is)

    go : (b : Bool) → zero_in (m.entry row row) ≡ b → Told rows → Told (row ∷ rows)
    go true z rest = rw z refl
    go false z rest = rw z rest

-- ---- the formulas
pub rising : (n : ℕ) → rows_of (All Lower n) ≡ range_with_len 0 n
unfolding rows_in_order
rising n = map_same (range_with_len 0 n)
  where
    map_same : (l : List ℕ) → map (row_at Lower n) l ≡ l
    map_same [] = refl
    map_same (x ∷ l) = ap (λ (r : List ℕ). x ∷ r) (map_same l)

pub sum_new : (s : Shape) (k i x : ℕ) (cells col xs : List Record) (n : ℕ) → col ≡ column s cells k → xs ≡ column s cells x → n ≡ s.rows
    → (λ row. cond (row == i) (sum_cell (cell_at xs) n) (cell_at col row)) ≡ new_column s (sum k i x) (cells_in s cells)
sum_new s k i x cells col xs n e f h = rw (e, f, h) refl

pub dot_new : (s : Shape) (k i x y : ℕ) (alpha beta : Record) (cells col xs ys : List Record) (n : ℕ) {u : _} {a b : Value} → u ≡ s.scale → a ≡ read_as alpha → b ≡ read_as beta
    → col ≡ column s cells k → xs ≡ column s cells x → ys ≡ column s cells y → n ≡ s.rows
    → (λ row. cond (row == i) (dot_cell u a b (cell_at col row) (cell_at xs) (cell_at ys) n) (cell_at col row)) ≡ new_column s (dot k i x y alpha beta) (cells_in s cells)
dot_new s k i x y alpha beta cells col xs ys n eu ea eb e f g h = rw (eu, ea, eb, e, f, g, h) refl

pub blend_new : (s : Shape) (k x : ℕ) (alpha beta : Record) (cells col xs : List Record) {u : _} {a b : Value} → u ≡ s.scale → a ≡ read_as alpha → b ≡ read_as beta
    → col ≡ column s cells k → xs ≡ column s cells x → (λ row. blend_cell u a b (cell_at xs row) (cell_at col row)) ≡ new_column s (blend k x alpha beta) (cells_in s cells)
blend_new s k x alpha beta cells col xs eu ea eb e f = rw (eu, ea, eb, e, f) refl

pub product_new : (s : Shape) (k x : ℕ) (l : Meaning) (alpha beta : Record) (cells col xs : List Record) {u : _} {a b : Value} → u ≡ s.scale → a ≡ read_as alpha → b ≡ read_as beta
    → col ≡ column s cells k → xs ≡ column s cells x
    → (λ row. cond (nat_lt row l.matrix.rows) (product_cell u l.matrix a b (cell_at col row) (cell_at xs) row) (cell_at col row)) ≡ new_column s (product k x l alpha beta) (cells_in s cells)
product_new s k x l alpha beta cells col xs eu ea eb e f = rw (eu, ea, eb, e, f) refl

pub solve_new : (s : Shape) (k : ℕ) (side : Side) (t : Meaning) (alpha : Record) (cells col : List Record) {a : Value} → a ≡ read_as alpha → col ≡ column s cells k
    → (λ row. cond (nat_lt row t.matrix.rows) (solution side t.matrix a (cell_at col) row) (cell_at col row)) ≡ new_column s (solve k side t alpha) (cells_in s cells)
solve_new s k side t alpha cells col ea e = rw (ea, e) refl
