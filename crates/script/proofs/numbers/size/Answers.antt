use Rattle.script.proofs.Texts.{sized}
use Rattle.script.proofs.numbers.size.Goals as goal

pub returns-clause-written : goal.returns-clause-written
returns-clause-written c = sized _ _ c.signed.ensures
