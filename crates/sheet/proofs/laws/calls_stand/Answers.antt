use Rattle.sheet.proofs.CallLawful.{call_laws}
use Rattle.sheet.proofs.laws.calls_stand.Goals as goal

pub returns : goal.returns
returns c = call_laws c.laws_stand.ensures
