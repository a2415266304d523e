use Rattle.cells.proofs.Lawful.{laws}
use Rattle.cells.proofs.laws.laws_stand.Goals as goal

pub returns : goal.returns
returns c = laws
