use Rattle.std.proofs.Common.{◌≡◌, drop}
use Rattle.sheet.specs.ColumnQuestions.{exceeds, greater_size, largest_of}
use Rattle.sheet.proofs.Sized.{best_from}
use Rattle.sheet.proofs.column.largest.Given as goal

abbrev pub invariant-loop-row : goal.invariant-loop-row
invariant-loop-row l = best_from exceeds greater_size l.first l.row (drop l.row l.column) ≡ largest_of l.column
