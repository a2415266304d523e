-- The rows of a column worked one after the other: what the draft holds at a step, and what is left to be worked.
use Rattle.std.proofs.Common.{◌≡◌, ◌≢◌, ℕ, zero, suc, ◌+◌, ◌-◌, ◌<◌, ◌≤◌, Bool, cond, ltb, eqb, List, [], ◌∷◌, drop, slice_index_or, slice_set, Ok, Err, Result, sym, refl, ap, ◌∙◌, subst, ⊎_elim, arith}
use Rattle.std.proofs.lemmas.Bool.{cases_lt, cases_eq, lt-ltb, le-ltb, eq-eqb, ne_eqb}
use Rattle.std.proofs.Math.Seq.{drop-nil}
use Rattle.std.proofs.lemmas.List.FromFn.{fill_by_all, length-map-range_with_len, get_or-map-range_with_len}
use Rattle.arithmetic.specs.Values.{Value}
use Rattle.cells.specs.declared.cell.Record.{Record}
use Rattle.cells.specs.declared.fault.CellFault.{CellFault}
use Rattle.cells.specs.Cells.{blank, written}
use Rattle.cells.specs.Faults.{kept, in_row}
use Rattle.layouts.specs.declared.side.Side.TheVariants.{Lower, Upper}
use Rattle.layouts.specs.Laws.{Laws}
use Rattle.sheet.specs.declared.order.WorkingOrder.{WorkingOrder}
use Rattle.sheet.specs.declared.order.WorkingOrder.TheVariants.{One, All}
use Rattle.sheet.specs.Memory.{written_rows}
use Rattle.sheet.specs.WorkingOrders.{steps, row_of, rows_of, step_of}
use Rattle.sheet.specs.WorkingRows.{Standing, AreInside, Stays, before_rest, first_fault}
use Rattle.sheet.proofs.Exits.{kept_written, one_written}

-- ---- steps and rows
pub step_of_row : (order : WorkingOrder) (step : ℕ) → step < steps order → step_of order (row_of order step) ≡ step
step_of_row (One i) step h = rw (eq-eqb i i refl) (omega arith)
step_of_row (All Lower n) step h = refl
step_of_row (All Upper n) step h = let b : n - 1 - step < n = omega arith in rw (lt-ltb (n - 1 - step) n b) (omega arith)

pub row_of_step : (order : WorkingOrder) (j : ℕ) → step_of order j < steps order → row_of order (step_of order j) ≡ j
row_of_step (One i) j h = ⊎_elim (λ e. sym e) (λ n. absurd (omega (arith, subst (λ (b : Bool). cond b 0 1 < 1) (ne_eqb j i n) h))) (cases_eq j i)
row_of_step (All Lower n) j h = refl
row_of_step (All Upper n) j h = ⊎_elim (λ b. rw (lt-ltb j n b) (omega arith)) (λ a. absurd (omega (arith, subst (λ (b : Bool). cond b (n - 1 - j) n < n) (le-ltb j n a) h))) (cases_lt j n)

module _ (order : WorkingOrder) (old new : ℕ → Value) where
  -- the column after the steps before a step
  abbrev pub half : (step row : ℕ) → Value
  half step row = cond (ltb (step_of order row) step) (new row) (old row)

  pub half_none : (row : ℕ) → half 0 row ≡ old row
  half_none row = rw (le-ltb (step_of order row) 0 (omega arith)) refl

  pub half_all : (n : ℕ) → Stays n order old new → (row : ℕ) → row < n → half (steps order) row ≡ new row
  half_all n stays row h = ⊎_elim (λ b. rw (lt-ltb (step_of order row) (steps order) b) refl) (λ a. rw (le-ltb (step_of order row) (steps order) a) (sym (stays row h a))) (cases_lt (step_of order row) (steps order))

  pub half_next : (step row : ℕ) → step < steps order → cond (eqb row (row_of order step)) (new (row_of order step)) (half step row) ≡ half (step + 1) row
  half_next step row h = ⊎_elim here there (cases_eq row (row_of order step))
    where
      here : row ≡ row_of order step → cond (eqb row (row_of order step)) (new (row_of order step)) (half step row) ≡ half (step + 1) row
      here e = rw (e, eq-eqb (row_of order step) (row_of order step) refl, step_of_row order step h, lt-ltb step (step + 1) (omega arith)) refl

      there : row ≢ row_of order step → cond (eqb row (row_of order step)) (new (row_of order step)) (half step row) ≡ half (step + 1) row
      there n = rw (ne_eqb row (row_of order step) n) (⊎_elim
          (λ b. rw (lt-ltb (step_of order row) step b, lt-ltb (step_of order row) (step + 1) (omega arith)) refl)
          (λ a. rw (le-ltb (step_of order row) step a, le-ltb (step_of order row) (step + 1) (past a)) refl) (cases_lt (step_of order row) step))
        where
          past : step ≤ step_of order row → step + 1 ≤ step_of order row
          past a = ⊎_elim (λ (e : step_of order row ≡ step). absurd (n (sym (row_of_step order row (omega (arith, e, h))) ∙ ap (row_of order) e))) (λ m. omega (arith, a, m)) (cases_eq (step_of order row) step)

-- two columns that agree on the rows are written alike
pub same_rows : (n : ℕ) (f g : ℕ → Value) → ((row : ℕ) → row < n → f row ≡ g row) → written_rows n f ≡ written_rows n g
same_rows n f g e = fill_by_all (λ row. written (g row)) (written_rows n f) n blank (length-map-range_with_len (λ row. written (f row)) 0 n)
    (λ k h. get_or-map-range_with_len (λ row. written (f row)) 0 n k k blank h (omega arith) ∙ ap written (e k h))

-- ---- the loop
-- the draft before a step, the rows that were worked, and the rows that are left
pub record Worked (order : WorkingOrder) (old new : ℕ → Value) (n : ℕ) (draft : List Record) (step : ℕ) : Type 0 where
  pub reads : draft ≡ written_rows n (half order old new step)
  pub fit : (j : ℕ) → step_of order j < step → kept (new j) ≡ Ok (written (new j))
  pub rest : first_fault new (drop step (rows_of order)) ≡ first_fault new (rows_of order)

pub nothing_worked : (order : WorkingOrder) (old new : ℕ → Value) (n : ℕ) (draft : List Record) → draft ≡ written_rows n old → Worked order old new n draft 0
nothing_worked order old new n draft e = record {
  reads = e ∙ same_rows n old (half order old new 0) (λ row h. sym (half_none order old new row));
  fit = λ j h. absurd (omega arith);
  rest = refl;
}

rows_left : (laws : Laws) (order : WorkingOrder) (step : ℕ) → step < steps order → drop step (rows_of order) ≡ row_of order step ∷ drop (step + 1) (rows_of order)
rows_left laws (One i) zero h = refl
rows_left laws (One i) (suc step) h = absurd (omega arith)
rows_left laws (All side n) step h = laws.rows_more side n step h

no_rows_left : (laws : Laws) (order : WorkingOrder) (step : ℕ) → steps order ≤ step → drop step (rows_of order) ≡ []
no_rows_left laws (One i) zero h = absurd (omega arith)
no_rows_left laws (One i) (suc step) h = drop-nil step
no_rows_left laws (All side n) step h = laws.rows_done side n step h

-- the records that a row reads
pub standing : (order : WorkingOrder) (old new : ℕ → Value) (n : ℕ) (draft : List Record) (step : ℕ) → step < steps order → Worked order old new n draft step
    → AreInside n order → Standing order old new (row_of order step) draft
standing order old new n draft step h w inside = record {
  worked = rw is h;
  here = at (row_of order step) (inside step h) ∙ ap written (old_yet (row_of order step) (omega (arith, is)));
  before = λ j b. let e : step_of order j < step = omega (arith, is, b) in
      (at j (subst (λ j. j < n) (row_of_step order j (omega (arith, e, h))) (inside (step_of order j) (omega (arith, e, h)))) ∙ ap written (new_now j e), w.fit j e);
}
  where
    is : step_of order (row_of order step) ≡ step
    is = step_of_row order step h

    old_yet : (j : ℕ) → step ≤ step_of order j → half order old new step j ≡ old j
    old_yet j a = rw (le-ltb (step_of order j) step a) refl

    new_now : (j : ℕ) → step_of order j < step → half order old new step j ≡ new j
    new_now j b = rw (lt-ltb (step_of order j) step b) refl

    at : (j : ℕ) → j < n → slice_index_or draft j blank ≡ written (half order old new step j)
    at j b = ap (λ (d : List Record). slice_index_or d j blank) w.reads ∙ get_or-map-range_with_len (λ row. written (half order old new step row)) 0 n j j blank b (omega arith)

kept_of : (row : ℕ) (v : Value) (r : Record) → Ok r ≡ in_row row (kept v) → kept v ≡ Ok r
kept_of row v r e = go (kept v) e
  where
    go : (q : Result Record _) → Ok r ≡ in_row row q → q ≡ Ok r
    go (Ok s) e = cc
    go (Err f) e = cc

-- one row more
pub row_worked : (laws : Laws) (order : WorkingOrder) (old new : ℕ → Value) (n : ℕ) (draft : List Record) (step : ℕ) (r : Record) → step < steps order → Worked order old new n draft step
    → Ok r ≡ in_row (row_of order step) (kept (new (row_of order step))) → Worked order old new n (slice_set draft (row_of order step) r) (step + 1)
row_worked laws order old new n draft step r h w e = record {
  reads = ap (λ (d : List Record). slice_set d row r) w.reads ∙ ap (slice_set (written_rows n (half order old new step)) row) is
      ∙ one_written n row (half order old new step) (new row) ∙ same_rows n _ (half order old new (step + 1)) (λ j b. half_next order old new step j h);
  fit = λ j b. ⊎_elim (λ (q : step_of order j < step). w.fit j q) (λ q. let s : step_of order j ≡ step = omega arith in
      subst (λ i. kept (new i) ≡ Ok (written (new i))) (sym (ap (row_of order) s) ∙ row_of_step order j (omega (arith, s, h))) (keeps ∙ ap (λ (r : Record). Ok r) is)) (cases_lt (step_of order j) step);
  rest = sym (ap (first_fault new) (rows_left laws order step h) ∙ ap (λ (q : Result Record CellFault). before_rest q (first_fault new (drop (step + 1) (rows_of order)))) (sym e)) ∙ w.rest;
}
  where
    row : ℕ
    row = row_of order step

    keeps : kept (new row) ≡ Ok r
    keeps = kept_of row (new row) r e

    is : r ≡ written (new row)
    is = kept_written (new row) r keeps

pub row_past : (laws : Laws) (order : WorkingOrder) (old new : ℕ → Value) (n : ℕ) (draft : List Record) (step : ℕ) (f : CellFault) → step < steps order → Worked order old new n draft step
    → Err f ≡ in_row (row_of order step) (kept (new (row_of order step))) → Err f ≡ first_fault new (rows_of order)
row_past laws order old new n draft step f h w e =
    sym (ap (first_fault new) (rows_left laws order step h) ∙ ap (λ (q : Result Record CellFault). before_rest q (first_fault new (drop (step + 1) (rows_of order)))) (sym e)) ∙ w.rest

pub rows_worked : (laws : Laws) (order : WorkingOrder) (old new : ℕ → Value) (n : ℕ) (draft : List Record) (step : ℕ) → steps order ≤ step → Worked order old new n draft step → Ok tt ≡ first_fault new (rows_of order)
rows_worked laws order old new n draft step h w = sym (ap (first_fault new) (no_rows_left laws order step h)) ∙ w.rest
