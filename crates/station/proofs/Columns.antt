-- The columns that the calls of a box draft. Assumes the laws of the sheet's calls, where they are named.
use Rattle.std.proofs.Common.{◌≡◌, ℕ, ◌<◌, true, List, length, ℤ, pos, refl, ap, ◌∙◌, arith}
use Rattle.std.specs.Prelude.{nat_lt}
use Rattle.std.proofs.lemmas.Bool.{cond-true}
use Rattle.std.proofs.lemmas.Bool.Decides.{nat_tests}
use Rattle.arithmetic.specs.Values.{Value, times, total}
use Rattle.cells.specs.declared.cell.Record.{Record}
use Rattle.cells.specs.Cells.{cell_at}
use Rattle.cells.specs.Formulas.{sum_of_products, dot_cell, sum_cell}
use Rattle.layouts.specs.declared.side.Side.TheVariants.{Lower}
use Rattle.layouts.specs.Matrix.{Sound}
use Rattle.layouts.specs.Orders.{rows_in_order, first_zero}
use Rattle.layouts.specs.Rows.{product_cell, solve_cell}
use Rattle.account.specs.Outcomes.{unity}
use Rattle.sheet.specs.CallLaws.{CallLaws, Solves}
use Rattle.sheet.specs.declared.refusal.CallName.TheVariants.{Product, Solve}
use Rattle.sheet.specs.declared.shape.Shape.{Shape}
use Rattle.sheet.specs.Answers.{call_answer}
use Rattle.sheet.specs.Calls.{Meaning, product, solve}
use Rattle.sheet.specs.Checks.{granted}
use Rattle.sheet.specs.Memory.{cells_in}
use Rattle.sheet.specs.NewColumns.{solution, new_column}
use Rattle.station.specs.declared.line.Junction.{Junction}
use Rattle.station.specs.Boxes.{dam_shape}
use Rattle.station.specs.Pressures.{calibration, calibrated, factors, pressure}
use Rattle.station.specs.Stops.{first_past}
use Rattle.station.proofs.Calls.{at_bound, at_zero, product_answer, solve_answer}
use Rattle.station.proofs.Stops.{first_past_same}

abbrev pub one : Record
one = record { lower = pos 100; upper = pos 100 }

-- what a layout means comes with a proof that it is sound, whichever
abbrev pub calibration_meaning : (j : Junction) → Sound (calibration j) → Meaning
calibration_meaning j s = record { matrix = calibration j; sound = s }

abbrev pub factors_meaning : (j : Junction) → Sound (factors j) → Meaning
factors_meaning j s = record { matrix = factors j; sound = s }

total_same : (v w : ℕ → Value) → ((row : ℕ) → row < 3 → v row ≡ w row) → total v 0 3 ≡ total w 0 3
total_same v w same = rw (same 0 (omega arith), same 1 (omega arith), same 2 (omega arith)) refl

pub sum_same : (v w : ℕ → Value) → ((row : ℕ) → row < 3 → v row ≡ w row) → sum_cell v 3 ≡ sum_cell w 3
sum_same v w same = total_same v w same

dot_same : (u : ℤ) (alpha beta r : Value) (xs ys zs : ℕ → Value) (n : ℕ) → n ≡ 3 → ((row : ℕ) → row < 3 → ys row ≡ zs row) → dot_cell u alpha beta r xs ys n ≡ dot_cell u alpha beta r xs zs n
dot_same u alpha beta r xs ys zs n three same =
    let t : sum_of_products xs ys 0 3 ≡ sum_of_products xs zs 0 3 = total_same (λ j. times (xs j) (ys j)) (λ j. times (xs j) (zs j)) (λ row h. ap (times (xs row)) (same row h)) in
    rw (three, t) refl

below_three : (row n : ℕ) → row < 3 → n ≡ 3 → nat_lt row n ≡ true
below_three row n h three = grind (arith, nat_tests)

pub calibration_three : (j : Junction) → length j.calibration ≡ 9 → ((calibration j).rows ≡ 3) × ((calibration j).columns ≡ 3)
calibration_three j l = (rw l refl, rw l refl)

pub factors_three : (j : Junction) → length j.factors ≡ 6 → ((factors j).rows ≡ 3) × ((factors j).columns ≡ 3)
factors_three j l = (rw l refl, rw l refl)

-- the product drafts what each tip shows
module _ (j : Junction) (m : Sound (calibration j)) (cells : List Record) (k x : ℕ) (l : length j.calibration ≡ 9)
    (offsets : (row : ℕ) → row < 3 → cells_in dam_shape cells k row ≡ cell_at j.offsets row) (readings : (row : ℕ) → row < 3 → cells_in dam_shape cells x row ≡ cell_at j.readings row) where
  pub shown_column : (row : ℕ) → row < 3 → new_column dam_shape (product k x (calibration_meaning j m) one one) (cells_in dam_shape cells) row ≡ calibrated j row
  shown_column row h =
      let c = calibration j in
      let three = calibration_three j l in
      cond-true (nat_lt row c.rows) (product_cell (pos 100) c unity unity (cells_in dam_shape cells k row) (cells_in dam_shape cells x) row) (cells_in dam_shape cells k row) (below_three row c.rows h three.0)
      ∙ (ap (λ r. product_cell (pos 100) c unity unity r (cells_in dam_shape cells x) row) (offsets row h)
      ∙ dot_same (pos 100) unity unity (cell_at j.offsets row) (c.entry row) (cells_in dam_shape cells x) (cell_at j.readings) c.columns three.1 readings)

  pub shown_answer : (s : Shape) (draft : List Record) → s ≡ dam_shape → k < 32 → x < 32 → length cells ≡ 96 → length draft ≡ 3
      → call_answer s (product k x (calibration_meaning j m) one one) cells draft ≡ at_bound Product k (first_past (calibrated j)) granted
  shown_answer s draft e h g lc ld =
      product_answer s k x (calibration_meaning j m) one one cells draft e h g lc ld (calibration_three j l).0 (calibration_three j l).1
      ∙ ap (λ o. at_bound Product k o granted) (first_past_same (new_column dam_shape (product k x (calibration_meaning j m) one one) (cells_in dam_shape cells)) (calibrated j) shown_column)

-- the solve drafts the pressures
module _ (laws : CallLaws) (j : Junction) (m : Sound (factors j)) (cells : List Record) (k : ℕ) (l : length j.factors ≡ 6) (shown : (row : ℕ) → row < 3 → cells_in dam_shape cells k row ≡ calibrated j row) where
  pub solved_column : (row : ℕ) → row < 3 → new_column dam_shape (solve k Lower (factors_meaning j m) one) (cells_in dam_shape cells) row ≡ pressure j row
  solved_column row h =
      let t = factors j in
      let three = factors_three j l in
      let z = solution Lower t unity (cells_in dam_shape cells k) in
      let solves : Solves Lower t unity (calibrated j) z =
      λ i b. laws.solution_solves Lower t unity (cells_in dam_shape cells k) i b ∙ ap (λ x. solve_cell Lower t unity x z i) (shown i (omega (arith, b, three.0))) in
      cond-true (nat_lt row t.rows) (z row) (cells_in dam_shape cells k row) (below_three row t.rows h three.0)
      ∙ laws.solution_only Lower t unity (calibrated j) z solves row (omega (arith, h, three.0))

  pub solved_answer : (s : Shape) (draft : List Record) → s ≡ dam_shape → k < 32 → length cells ≡ 96 → length draft ≡ 3
      → call_answer s (solve k Lower (factors_meaning j m) one) cells draft ≡ at_zero k (first_zero (factors j) (rows_in_order Lower 3)) (at_bound Solve k (first_past (pressure j)) granted)
  solved_answer s draft e h lc ld =
      solve_answer s k (factors_meaning j m) one cells draft e h lc ld (factors_three j l).0 (factors_three j l).1
      ∙ ap (λ o. at_zero k (first_zero (factors j) (rows_in_order Lower 3)) (at_bound Solve k o granted))
      (first_past_same (new_column dam_shape (solve k Lower (factors_meaning j m) one) (cells_in dam_shape cells)) (pressure j) solved_column)
