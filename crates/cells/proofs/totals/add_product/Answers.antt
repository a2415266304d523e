use Rattle.std.proofs.Common.{◌+◌, sym, subst}
use Rattle.arithmetic.specs.Values.{Value, Small}
use Rattle.arithmetic.proofs.Sizes.{small_plus}
use Rattle.cells.specs.Cells.{Total, extremes, total_value}
use Rattle.cells.proofs.totals.add_product.Goals as goal

pub returns-clause-size : goal.returns-clause-size
returns-clause-size c = λ n h.
    let t = c.in_ok-sofar.field-0 in let p = c.of.result in
    let P : Total → Type 0 = λ v. Small n (total_value v) in
    let Q : Value → Type 0 = Small (n + 17179607041) in
    subst Q (sym c.with.ensures) (small_plus n 17179607041 (extremes t) (extremes p) (subst P c.in_ok-sofar.was h) (p.least_size, p.greatest_size))
