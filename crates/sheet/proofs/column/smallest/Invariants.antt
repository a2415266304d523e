use Rattle.std.proofs.Common.{◌≡◌, nat_lt, drop}
use Rattle.sheet.specs.ColumnQuestions.{lesser_size, smallest_of}
use Rattle.sheet.proofs.Sized.{best_from}
use Rattle.sheet.proofs.column.smallest.Given as goal

abbrev pub invariant-loop-row : goal.invariant-loop-row
invariant-loop-row l = best_from nat_lt lesser_size l.first l.row (drop l.row l.column) ≡ smallest_of l.column
