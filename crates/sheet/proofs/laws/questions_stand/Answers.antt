use Rattle.sheet.proofs.ColumnLawful.{laws}
use Rattle.sheet.proofs.laws.questions_stand.Goals as goal

pub returns : goal.returns
returns c = laws
