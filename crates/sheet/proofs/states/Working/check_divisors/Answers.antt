use Rattle.std.proofs.Common.{ap, sym, ◌∙◌}
use Rattle.layouts.specs.Orders.{rows_in_order}
use Rattle.sheet.proofs.Drafting.{told_of, divisors_told}
use Rattle.sheet.proofs.states.Working.check_divisors.Goals as goal

pub returns-in-None : goal.returns-in-None
returns-in-None g c =
    let t = c.args.layout.now in let m = g.T.Layout.meaning t in
    ap (told_of c.args.column) (sym c.in-None.is ∙ c.first_zero.ensures) ∙ sym (divisors_told c.args.column m (rows_in_order (g.T.Triangular.half t) m.rows))

pub returns-in-Some : goal.returns-in-Some
returns-in-Some g c =
    let t = c.args.layout.now in let m = g.T.Layout.meaning t in
    ap (told_of c.args.column) (sym c.in-Some.is ∙ c.first_zero.ensures) ∙ sym (divisors_told c.args.column m (rows_in_order (g.T.Triangular.half t) m.rows))
