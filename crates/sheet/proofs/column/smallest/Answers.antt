use Rattle.std.proofs.lemmas.List.MinMax.{IsStrictWeakOrder-by_number}
use Rattle.sheet.specs.ColumnQuestions.{lesser_size}
use Rattle.sheet.proofs.Sized.{best_none}
use Rattle.sheet.proofs.column.smallest.Goals as goal

pub loop-row-init : goal.loop-row-init
loop-row-init c = best_none (IsStrictWeakOrder-by_number (λ size. size)) lesser_size c.args.column.now
