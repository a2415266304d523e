-- The cells of what a tip shows and of its pressure are tight for what they can be. Assumes the laws of cells, of layouts and of the
-- sheet's calls, which `laws_stand` of either and `calls_stand` promise.
use Rattle.std.proofs.Common.{◌≡◌, ℕ, zero, suc, ◌<◌, ◌≤◌, false, length, get_or, pos, sym, refl, subst, arith, below_more}
use borrow.Author.Differences.{ints}
use Rattle.arithmetic.specs.Values.{Value, Ordered, Tightly}
use Rattle.arithmetic.proofs.Values.{tightly_ordered}
use Rattle.cells.specs.Cells.{blank, cell_at}
use Rattle.cells.specs.Laws as cells
use Rattle.cells.specs.Quotients.{zero_in}
use Rattle.layouts.specs.declared.side.Side.TheVariants.{Lower}
use Rattle.layouts.specs.Laws as layouts
use Rattle.layouts.specs.Stored.{band_sound, packed_sound}
use Rattle.account.specs.FoundLaws.{read_ordered}
use Rattle.account.specs.Outcomes.{unity}
use Rattle.sheet.specs.CallLaws.{CallLaws}
use Rattle.station.specs.declared.line.Junction.{Junction}
use Rattle.station.specs.Pressures.{calibration, calibrated, factors, pressure, ShownOver, Shown, PressuresOver, Pressures}

pub record Laws : Type 0 where
  pub of_cells : cells.Laws
  pub of_layouts : layouts.Laws
  pub of_calls : CallLaws

one_ordered : Ordered unity
one_ordered = omega (arith, ints)

pub shown_tight : (of_cells : cells.Laws) (of_layouts : layouts.Laws) (j : Junction) (place : ℕ) → length j.calibration ≡ 9 → Tightly (pos 100) (Shown j place) (calibrated j place)
shown_tight of_cells of_layouts j place l =
    let read : (run : _) (k : ℕ) → Ordered (cell_at run k) = λ run k. read_ordered of_cells (get_or run k blank) in
    let tight = of_layouts.product_tight (pos 100) (calibration j) unity unity (cell_at j.offsets place) (cell_at j.readings) place (omega (arith, ints))
    (band_sound j.calibration 3 3 1 1 3) one_ordered one_ordered (read j.offsets place) (λ k h. read j.readings k) in
    let three : (calibration j).columns ≡ 3 = rw l refl in
    let P : ℕ → Type 0 = λ n. Tightly (pos 100) (ShownOver n j place) (calibrated j place) in
    subst P three tight

pub shown_ordered : (of_cells : cells.Laws) (of_layouts : layouts.Laws) (j : Junction) (place : ℕ) → length j.calibration ≡ 9 → Ordered (calibrated j place)
shown_ordered of_cells of_layouts j place l = tightly_ordered (shown_tight of_cells of_layouts j place l)

module _ (laws : Laws) (j : Junction) (l : length j.calibration ≡ 9) (t : length j.factors ≡ 6) (apart : (row : ℕ) → row < 3 → zero_in ((factors j).entry row row) ≡ false) where
  three : (factors j).rows ≡ 3
  three = rw t refl

  tight_at : (place : ℕ) → place < 3 → ((q : ℕ) → q < place → Ordered (pressure j q)) → Tightly (pos 100) (Pressures j place) (pressure j place)
  tight_at place h before =
      let tight = laws.of_layouts.solve_tight (pos 100) Lower (factors j) unity (calibrated j place) (pressure j) place (omega (arith, ints)) (packed_sound j.factors Lower 3) one_ordered
      (shown_ordered laws.of_cells laws.of_layouts j place l) (λ q s. before q (omega (arith, s.most))) (apart place h) in
      let solves = laws.of_calls.solution_solves Lower (factors j) unity (calibrated j) place (omega (arith, h, three)) in
      let P : ℕ → Type 0 = λ n. Tightly (pos 100) (PressuresOver n j place) (pressure j place) in
      let Q : Value → Type 0 = λ v. Tightly (pos 100) (PressuresOver (factors j).rows j place) v in
      subst P three (subst Q (sym solves) tight)

  ordered_before : (n : ℕ) → n ≤ 3 → (q : ℕ) → q < n → Ordered (pressure j q)
  ordered_before zero h q b = absurd (omega (arith, b))
  ordered_before (suc n) h q b =
      let P : ℕ → Type 0 = λ q. Ordered (pressure j q) in
      let below = ordered_before n (omega (arith, h)) in
      below_more P n below (tightly_ordered (tight_at n (omega (arith, h)) below)) q (omega (arith, b))

  pub pressure_tight : (place : ℕ) → place < 3 → Tightly (pos 100) (Pressures j place) (pressure j place)
  pressure_tight place h = tight_at place h (ordered_before place (omega (arith, h)))

  pub pressure_ordered : (place : ℕ) → place < 3 → Ordered (pressure j place)
  pressure_ordered place h = tightly_ordered (pressure_tight place h)
