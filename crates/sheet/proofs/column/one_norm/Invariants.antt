use Rattle.std.proofs.Common.{◌≡◌, ◌*◌, ◌≤◌, drop}
use Rattle.sheet.specs.ColumnQuestions.{greater_size, one_norm_of}
use Rattle.sheet.proofs.Sized.{sum_from}
use Rattle.sheet.proofs.column.one_norm.Given as goal

abbrev pub invariant-loop-record : goal.invariant-loop-record
invariant-loop-record l = (sum_from greater_size l.sum (drop l.record-index l.column) ≡ one_norm_of l.column) × (l.sum ≤ 131071 * l.record-index)
