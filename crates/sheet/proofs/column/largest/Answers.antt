use Rattle.std.proofs.Common.{nat_lt}
use Rattle.std.proofs.lemmas.List.MinMax.{IsStrictWeakOrder-flip, IsStrictWeakOrder-by_number}
use Rattle.sheet.specs.ColumnQuestions.{greater_size}
use Rattle.sheet.proofs.Sized.{best_none}
use Rattle.sheet.proofs.column.largest.Goals as goal

pub loop-row-init : goal.loop-row-init
loop-row-init c = best_none (IsStrictWeakOrder-flip nat_lt (IsStrictWeakOrder-by_number (λ size. size))) greater_size c.args.column.now
