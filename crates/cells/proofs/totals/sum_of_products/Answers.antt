use Rattle.std.proofs.Common.{◌≡◌, ℕ, ◌+◌, ◌-◌, ◌*◌, sym, ap, ◌∙◌, arith}
use Rattle.arithmetic.specs.Values.{Value, bounds, times}
use Rattle.arithmetic.proofs.Sizes.{small_plus, total_more}
use Rattle.arithmetic.proofs.Totals.{times_empty, total_empty}
use Rattle.cells.specs.Cells.{total_value, extremes}
use Rattle.cells.proofs.totals.sum_of_products.Goals as goal

pub returns-in_err-left : goal.returns-in_err-left
returns-in_err-left g c =
    let s = c.args.operands.now in let xs = g.O.Operands.lefts s in let ys = g.O.Operands.rights s in let from = c.args.places.from in let j = c.loop-j.j in
    ap total_value c.from_residual.ensures
    ∙ sym (total_empty (λ (j : ℕ). times (xs j) (ys j)) from (c.args.places.to - from) j (omega arith) (omega arith) (ap (λ (v : Value). times v (ys j)) (sym c.in_err-left.ensures)))

pub returns-in_err-right : goal.returns-in_err-right
returns-in_err-right g c =
    let s = c.args.operands.now in let xs = g.O.Operands.lefts s in let ys = g.O.Operands.rights s in let from = c.args.places.from in let j = c.loop-j.j in
    ap total_value c.from_residual-in_err-right.ensures
    ∙ sym (total_empty (λ (j : ℕ). times (xs j) (ys j)) from (c.args.places.to - from) j (omega arith) (omega arith) (ap (times (xs j)) (sym c.in_err-right.ensures) ∙ times_empty (xs j)))

pub with-sofar-requires : goal.with-sofar-requires
with-sofar-requires g c =
    let s = c.args.operands.now in let from = c.args.places.from in let j = c.loop-j.j in let term = extremes c.of-term.result in let sofar = bounds c.loop-j.sofar.0 c.loop-j.sofar.1.0 in
    let small = small_plus (17179607041 * (j - from)) 17179607041 sofar term c.loop-j.invariant.1 (c.of-term.result.least_size, c.of-term.result.greatest_size) in
    (omega arith, (omega (arith, small.0, c.args.places.few), omega (arith, small.1, c.args.places.few)))

pub loop-j-preserved : goal.loop-j-preserved
loop-j-preserved g c =
    let s = c.args.operands.now in let xs = g.O.Operands.lefts s in let ys = g.O.Operands.rights s in let from = c.args.places.from in let j = c.loop-j.j in let term = extremes c.of-term.result in
    let is : term ≡ times (xs j) (ys j) = c.of-term.ensures ∙ ap (λ (v : Value). times v (bounds c.in_ok-right.field-0.lower c.in_ok-right.field-0.upper)) c.in_ok-left.ensures ∙ ap (times (xs j)) c.in_ok-right.ensures in
    total_more (λ j. times (xs j) (ys j)) 17179607041 from (j - from) j (j + 1 - from) _ term (extremes c.with-sofar.result)
    (omega arith) (omega arith) c.loop-j.invariant.0 is c.with-sofar.ensures c.loop-j.invariant.1 (c.of-term.result.least_size, c.of-term.result.greatest_size)
