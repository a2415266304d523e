use Rattle.std.proofs.Common.{rules, sym, ap, ◌∙◌}
use Rattle.sheet.specs.WorkingOrders.{rows_of}
use Rattle.sheet.proofs.Exits.{fault_answer, limits_fault}
use Rattle.sheet.proofs.working_out.work.Goals as goal

pub returns-in_err-came-clause-answer : goal.returns-in_err-came-clause-answer
returns-in_err-came-clause-answer g c =
    let f = c.args.formula.now in
    let e = ap fault_answer (sym c.in_err-came.was ∙ c.work_in_call-came.ensures.fault) ∙ sym (limits_fault c.args.call c.args.k (g.F.RowFormula.new f) (rows_of (g.F.RowFormula.rows f))) in
    search rules

pub returns-clause-answer : goal.returns-clause-answer
returns-clause-answer g c =
    let f = c.args.formula.now in
    ap fault_answer (sym c.in_ok-came.was ∙ c.work_in_call-came.ensures.fault) ∙ sym (limits_fault c.args.call c.args.k (g.F.RowFormula.new f) (rows_of (g.F.RowFormula.rows f)))
