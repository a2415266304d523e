use Rattle.std.proofs.Common.{rules}
use Rattle.sheet.proofs.states.Working.product.Goals as goal

pub returns : goal.returns
returns g c = let d = c.product_rows-came.ensures in let e = d.drafts in record { sound = d.sound; calls = search rules }
