use Rattle.sheet.proofs.Owed.{owes}
use Rattle.sheet.proofs.Whole.{promises}
use Rattle.sheet.proofs.laws.promises_hold.Goals as goal

pub returns : goal.returns
returns c = promises c.laws_stand.ensures (owes c.laws_stand.ensures c.laws_stand-2.ensures)
