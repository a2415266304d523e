-- The draft of a solve in progress: at the rows solved before a row it reads as the solution, so that the row comes out as the
-- solution's own.
use Rattle.std.proofs.Common.{◌≡◌, ℕ, ◌+◌, ◌-◌, ◌<◌, Bool, true, false, cond, ltb, List, pos, slice_index_or, Some, None, Ok, sym, refl, ap, ◌∙◌, subst, ⊎_elim, suc, arith}
use borrow.Author.Differences.{ints}
use Rattle.std.proofs.lemmas.Bool.{cases_lt, cases_eq, lt-ltb, le-ltb}
use Rattle.arithmetic.specs.Values.{Value, empty, bounds, Ordered}
use Rattle.arithmetic.proofs.Values.{tightly_ordered}
use Rattle.cells.specs.declared.cell.Record.{Record}
use Rattle.cells.specs.Cells.{Cell, cell_value, blank, written, read_as, cell_at}
use Rattle.cells.specs.Faults.{kept, in_row}
use Rattle.cells.specs.Holding.{cell_ordered}
use Rattle.cells.specs.Laws.{Laws as CellLaws}
use Rattle.cells.specs.Quotients.{zero_in, divided}
use Rattle.layouts.specs.Filled.{is_filled}
use Rattle.layouts.specs.Laws.{Laws, SolvedBefore}
use Rattle.layouts.specs.Matrix.{Matrix, Sound}
use Rattle.layouts.specs.Rows.{solved_last, EmptyCarriesOn, solve_cell, solve_at}
use Rattle.layouts.specs.declared.side.Side.{Side}
use Rattle.layouts.specs.declared.side.Side.TheVariants.{Lower, Upper}
use Rattle.sheet.specs.declared.order.WorkingOrder.TheVariants.{All}
use Rattle.sheet.specs.NewColumns.{solution}
use Rattle.sheet.specs.WorkingOrders.{step_of}
use Rattle.sheet.specs.WorkingRows.{Standing}
use Rattle.sheet.proofs.Orders.{stepwise, step_of as step_told}
use Rattle.sheet.proofs.RowByRow.{step_of_row, row_of_step}
use Rattle.sheet.proofs.Solving.{solve_ext, solution_row}

-- ---- the bounds of a solution are in order
zero_ordered : (v d : Value) → zero_in d ≡ true → Ordered (divided v d)
zero_ordered empty d e = tt
zero_ordered (bounds a b) empty e = tt
zero_ordered (bounds a b) (bounds c d) e = rw e tt

module _ (laws : Laws) (side : Side) (m : Matrix) (alpha : Value) (x : ℕ → Value) (sound : Sound m) (factor : Ordered alpha) (old : (i : ℕ) → Ordered (x i)) where
  abbrev solved : ℕ → Value
  solved = solution side m alpha x

  row_ordered : (i : ℕ) → i < m.rows → ((j : ℕ) → SolvedBefore side m.rows i j → Ordered (solved j)) → Ordered (solved i)
  row_ordered i h before = subst Ordered (sym (solution_row laws side m alpha x i h)) (go (zero_in (m.entry i i)) refl)
    where
      go : (t : Bool) → zero_in (m.entry i i) ≡ t → Ordered (solve_cell side m alpha (x i) solved i)
      go true e = zero_ordered _ (m.entry i i) e
      go false e = tightly_ordered (laws.solve_tight (pos 1) side m alpha (x i) solved i (omega (arith, ints)) sound factor (old i) before e)

  pub solution_ordered : (i : ℕ) → i < m.rows → Ordered (solved i)
  solution_ordered i h =
      let at = step_told side m.rows i h in
      subst (λ i. Ordered (solved i)) at.is (stepwise laws (λ i. Ordered (solved i)) side m.rows row_ordered (suc at.step) at.step (omega arith) at.below)

-- a cell of the code has its bounds in order
pub value_ordered : (c : Cell) → Ordered (cell_value c)
value_ordered None = tt
value_ordered (Some i) = i.order

-- ---- the rows solved before a row
row_in : (side : Side) (n row : ℕ) → step_of (All side n) row < n → row < n
row_in Lower n row h = h
row_in Upper n row h = ⊎_elim (λ b. b) (λ a. absurd (omega (arith, subst (λ (t : Bool). cond t (n - 1 - row) n < n) (le-ltb row n a) h))) (cases_lt row n)

-- where any row is solved before row i, the last of them is; the others are solved before that one
last_solved : (side : Side) (n i j : ℕ) → SolvedBefore side n i j → SolvedBefore side n i (solved_last side i)
last_solved Lower n i j b = record { least = omega arith; most = omega (arith, b.most) }
last_solved Upper n i j b = record { least = omega arith; most = omega (arith, b.least, b.most) }

others_solved : (side : Side) (n i j : ℕ) → SolvedBefore side n i j → (j ≡ solved_last side i → ⊥) → SolvedBefore side n (solved_last side i) j
others_solved Lower n i j b d = record { least = omega arith; most = ⊎_elim (λ e. absurd (d e)) (λ e. omega (arith, b.most, e)) (cases_eq j (i - 1)) }
others_solved Upper n i j b d = record { least = ⊎_elim (λ e. absurd (d e)) (λ e. omega (arith, b.least, e)) (cases_eq j (i + 1)); most = omega (arith, b.least, b.most) }

-- ---- the draft
module _ (cells : CellLaws) (laws : Laws) (side : Side) (m : Matrix) (alpha : Value) (column draft : List Record) (row : ℕ) (sound : Sound m) (factor : Ordered alpha) where
  abbrev x : ℕ → Value
  x = cell_at column

  abbrev z : ℕ → Value
  z = solution side m alpha x

  abbrev new : ℕ → Value
  new j = cond (ltb j m.rows) (z j) (x j)

  module _ (s : Standing (All side m.rows) x new row draft) where
    row_is_in : row < m.rows
    row_is_in = row_in side m.rows row s.worked

    earlier : (j : ℕ) → SolvedBefore side m.rows row j → (j < m.rows) × (step_of (All side m.rows) j < step_of (All side m.rows) row)
    earlier j b =
        let step = step_of (All side m.rows) row in
        let w = laws.solved_earlier side m.rows step j s.worked (subst (λ i. SolvedBefore side m.rows i j) (sym (row_of_step (All side m.rows) row s.worked)) b) in
        let q : w.0 < m.rows = omega (arith, w.1, s.worked) in (
          subst (λ j. j < m.rows) w.2 (laws.row_below side m.rows w.0 q),
          subst (λ j. step_of (All side m.rows) j < step) w.2 (subst (λ k. k < step) (sym (step_of_row (All side m.rows) w.0 q)) w.1),
        )

    reads_solved : (j : ℕ) → SolvedBefore side m.rows row j → cell_at draft j ≡ z j
    reads_solved j b =
        let e = earlier j b in let w = s.before j e.1 in let is : new j ≡ z j = rw (lt-ltb j m.rows e.0) refl in
        let ordered = solution_ordered laws side m alpha x sound factor (λ i. cell_ordered (x i) (cells.read_cell (slice_index_or column i blank))) j e.0 in
        let cell = cells.kept_is (z j) (written (z j)) ordered (subst (λ v. kept v ≡ Ok (written v)) is w.1) in
        ap read_as (w.0 ∙ ap written is) ∙ cells.read_written (z j) cell.0

    reads_old : cell_at draft row ≡ x row
    reads_old = ap read_as s.here ∙ cells.read_written (x row) (cells.read_cell (slice_index_or column row blank))

    pub row_solved : solve_at side m alpha draft row ≡ in_row row (kept (new row))
    row_solved =
        ap (λ v. in_row row (kept v))
        (ap (λ r. solve_cell side m alpha r (cell_at draft) row) reads_old
        ∙ solve_ext side m alpha (x row) row (cell_at draft) z reads_solved
        ∙ sym (solution_row laws side m alpha x row row_is_in)
        ∙ sym new_is)
      where
        new_is : new row ≡ z row
        new_is = rw (lt-ltb row m.rows row_is_in) refl

    pub empty_carries_on : EmptyCarriesOn side m.rows draft row
    empty_carries_on h last j a b = subst (λ v. is_filled v ≡ true) (sym (reads_solved j before)) (⊎_elim same other (cases_eq j (solved_last side row)))
      where
        before : SolvedBefore side m.rows row j
        before = record { least = a; most = b }

        is_last : SolvedBefore side m.rows row (solved_last side row)
        is_last = last_solved side m.rows row j before

        filled_last : is_filled (z (solved_last side row)) ≡ true
        filled_last = subst (λ v. is_filled v ≡ true) (reads_solved (solved_last side row) is_last) last

        same : j ≡ solved_last side row → is_filled (z j) ≡ true
        same e = subst (λ i. is_filled (z i) ≡ true) (sym e) filled_last

        other : (j ≡ solved_last side row → ⊥) → is_filled (z j) ≡ true
        other d =
            let i = solved_last side row in
            laws.solve_filled side m alpha (x i) z i (subst (λ v. is_filled v ≡ true) (solution_row laws side m alpha x i (earlier i is_last).0) filled_last) j (others_solved side m.rows row j before d)
