use Rattle.std.proofs.Common.{◌≡◌, ◌⊎◌, ℕ, ◌+◌, ◌<◌, ◌≤◌, cond}
use Rattle.std.specs.Prelude.{nat_lt}
use Rattle.arithmetic.specs.Values.{empty}
use Rattle.cells.specs.Cells.{cell_at}
use Rattle.sheet.specs.Memory.{cells_in}
use Rattle.station.specs.Boxes.{dam_shape, dip_at}
use Rattle.station.specs.Counts.{tips_sets}
use Rattle.station.proofs.job.Memory.fill_box.Given as goal

abbrev pub invariant-loop-row : goal.invariant-loop-row
invariant-loop-row l = record {
  readings : (i : ℕ) → i < 3 → cells_in dam_shape l.self.cells (l.first + 0) i ≡ cond (nat_lt i l.row) (cell_at l.junction.readings i) empty;
  offsets : (i : ℕ) → i < 3 → cells_in dam_shape l.self.cells (l.first + 1) i ≡ cond (nat_lt i l.row) (cell_at l.junction.offsets i) empty;
  dips : (i : ℕ) → i < 3 → cells_in dam_shape l.self.cells (l.first + 2) i ≡ cond (nat_lt i l.row) (dip_at l.junction.dips i) empty;
  elsewhere : (j i : ℕ) → (j < l.first) ⊎ (l.first + 4 ≤ j) → i < 3 → cells_in dam_shape l.self.cells j i ≡ cells_in dam_shape l.initial.self.cells j i;
  calls : l.self.calls ≡ tips_sets l.junction l.row l.initial.self.calls;
}
