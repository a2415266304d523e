use Rattle.std.proofs.Common.{rules}
use Rattle.script.proofs.Cells.{celled}
use Rattle.script.proofs.numbers.cell.Goals as goal

pub returns-else-word-eq1-clause-written : goal.returns-else-word-eq1-clause-written
returns-else-word-eq1-clause-written c = celled _ _ (search rules)
