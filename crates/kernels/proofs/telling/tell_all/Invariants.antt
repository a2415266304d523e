use Rattle.std.proofs.Common.{◌≡◌, map, take}
use Rattle.cells.specs.Cells.{total_value}
use Rattle.kernels.specs.Sums.{sum_record}
use Rattle.kernels.proofs.telling.tell_all.Given as goal

abbrev pub invariant-loop-row : goal.invariant-loop-row
invariant-loop-row l = take l.row l.sums ≡ map sum_record (map total_value (take l.row l.totals))
