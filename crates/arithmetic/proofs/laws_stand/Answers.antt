use Rattle.arithmetic.proofs.Lawful.{laws}
use Rattle.arithmetic.proofs.laws_stand.Goals as goal

pub returns : goal.returns
returns c = laws
