use Rattle.std.proofs.Common.{ap, ◌∙◌, w64, SFits, arith, rules}
use Rattle.std.proofs.lemmas.Int.{to_z-of_z}
use Rattle.arithmetic.specs.Four.{least, greatest}
use Rattle.cells.proofs.Products.{product_small}
use Rattle.cells.proofs.Sizing.{small_interval}
use Rattle.cells.proofs.cell.Interval.times.Goals as goal

pub invariant_of-result : goal.invariant_of-result
invariant_of-result g c =
    let x = c.args.self in let y = c.args.b in
    let fl : SFits w64 c.least.result = search rules in
    let fg : SFits w64 c.greatest.result = search rules in
    let l = c.least.ensures ∙ ap least c.multiply-four.ensures in
    let m = c.greatest.ensures ∙ ap greatest c.multiply-four.ensures in
    let s = product_small x.lower x.upper y.least y.greatest c.least.result c.greatest.result l m 131071 g.row.MOST (small_interval x) (y.least_size, y.greatest_size) in
    record { least_size = simp to_z-of_z (omega (arith, s.0, c.requires.all)); greatest_size = simp to_z-of_z (omega (arith, s.1, c.requires.all)) }
