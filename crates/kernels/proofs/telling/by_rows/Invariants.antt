use Rattle.std.proofs.Common.{◌≡◌, map, take}
use Rattle.cells.specs.Cells.{cell_at}
use Rattle.layouts.specs.Rows.{row_sums}
use Rattle.kernels.specs.Sums.{sum_record}
use Rattle.kernels.proofs.telling.by_rows.Given as goal

abbrev pub invariant-loop-row : goal.invariant-loop-row
invariant-loop-row g l = take l.row l.sums ≡ map sum_record (row_sums (g.L.Layout.meaning l.layout) (cell_at l.xs) l.row)
