use Rattle.layouts.proofs.Lawful.{laws}
use Rattle.layouts.proofs.laws.laws_stand.Goals as goal

pub returns : goal.returns
returns c = laws c.laws_stand.ensures
