use Rattle.sheet.proofs.Carrying.{histories}
use Rattle.sheet.proofs.laws.runs_go_on.Goals as goal

pub returns : goal.returns
returns c = histories
