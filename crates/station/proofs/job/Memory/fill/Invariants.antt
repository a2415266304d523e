use Rattle.std.proofs.Common.{◌≡◌, ℕ, ◌*◌, ◌<◌, ◌≤◌}
use Rattle.std.specs.Prelude.{slice_index_or}
use Rattle.arithmetic.specs.Values.{empty}
use Rattle.sheet.specs.Memory.{cells_in}
use Rattle.station.specs.declared.line.Junction.{Junction}
use Rattle.station.specs.Boxes.{dam_shape, Filled}
use Rattle.station.specs.Counts.{of_boxes, box_sets}
use Rattle.station.proofs.job.Memory.fill.Given as goal

abbrev pub invariant-loop-nth : goal.invariant-loop-nth
invariant-loop-nth l = record {
  filled : (k : ℕ) (past : Junction) → k < l.nth → Filled l.self.cells (k * 4) (slice_index_or l.dam k past);
  unset : (j row : ℕ) → l.nth * 4 ≤ j → j < 32 → row < 3 → cells_in dam_shape l.self.cells j row ≡ empty;
  calls : l.self.calls ≡ of_boxes box_sets l.dam l.nth l.initial.self.calls;
}
