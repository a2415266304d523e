use Rattle.std.proofs.Common.{sym, ◌∙◌}
use Rattle.layouts.proofs.Skips.{skipped}
use Rattle.layouts.proofs.operands.RowTimes.sum.Goals as goal

pub returns : goal.returns
returns g c =
    let r = c.args.self.now in let m = g.L.Layout.meaning r.layout.now in let xs = r.xs in let e = c.overlap.ensures in
    c.sum_of_products.ensures ∙ sym (skipped m xs.run.now r.row xs.places c.across.result c.overlap.result c.requires xs.filled c.across.ensures e.0 e.1)
