use Rattle.std.proofs.Common.{◌≡◌, ℕ, ◌+◌, ◌*◌, ◌<◌, ◌≤◌, vec_items, vec_len, pos}
use Rattle.std.specs.Prelude.{slice_index_or}
use Rattle.arithmetic.specs.Values.{Tightly}
use Rattle.station.specs.declared.line.Junction.{Junction}
use Rattle.station.specs.Boxes.{dam_shape, Filled}
use Rattle.account.specs.Tallies.{no_calls}
use Rattle.station.specs.Counts.{of_boxes, box_calls, first_calls}
use Rattle.station.specs.Findings.{AllFound, AllTotals}
use Rattle.station.specs.Pressures.{Shown, calibrated}
use Rattle.station.proofs.working.findings.Given as goal

abbrev pub invariant-loop-nth : goal.invariant-loop-nth
invariant-loop-nth l = record {
  tips_len : vec_len l.tips ≡ 3 * l.nth;
  tips : AllFound l.dam (3 * l.nth) (vec_items l.tips);
  totals_len : vec_len l.totals ≡ l.nth;
  totals : AllTotals l.dam l.nth (vec_items l.totals);
  calls : l.memory.calls ≡ of_boxes box_calls l.dam l.nth (first_calls l.dam no_calls);
  sheet : l.sheet.shape ≡ dam_shape;
  shown : (k : ℕ) (j : Junction) (place : ℕ) → k < l.nth → Tightly (pos 100) (Shown (slice_index_or l.dam k j) place) (calibrated (slice_index_or l.dam k j) place);
  filled : (k : ℕ) (past : Junction) → l.nth ≤ k → k < 8 → Filled l.memory.cells (k * 4) (slice_index_or l.dam k past);
}

abbrev pub invariant-loop-place : goal.invariant-loop-place
invariant-loop-place l = record {
  tips_len : vec_len l.tips ≡ 3 * l.nth + l.place;
  tips : AllFound l.dam (3 * l.nth + l.place) (vec_items l.tips);
  shown : 1 ≤ l.place → (j : Junction) (place : ℕ) → Tightly (pos 100) (Shown (slice_index_or l.dam l.nth j) place) (calibrated (slice_index_or l.dam l.nth j) place);
}
