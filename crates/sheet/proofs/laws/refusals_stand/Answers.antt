use Rattle.sheet.proofs.RefusalLawful.{refusal_laws}
use Rattle.sheet.proofs.laws.refusals_stand.Goals as goal

pub returns : goal.returns
returns c = refusal_laws c.laws_stand.ensures
