use Rattle.std.proofs.Common.{◌≡◌, ◌*◌}
use Rattle.arithmetic.specs.Values.{bounds, total, Small}
use Rattle.cells.specs.Cells.{cell_at}
use Rattle.cells.proofs.formulas.sum_of_cells.Given as goal

abbrev pub invariant-loop-record : goal.invariant-loop-record
invariant-loop-record l = (bounds l.sofar.0 l.sofar.1.0 ≡ total (cell_at l.xs) 0 l.record-index) × Small (131071 * l.record-index) (bounds l.sofar.0 l.sofar.1.0)
