use Rattle.std.proofs.Common.{rules, sym, refl, ap, ◌∙◌, length}
use Rattle.sheet.specs.Calls.{sum}
use Rattle.sheet.proofs.Drafting.{turned_away, worked_out, column_size, sum_new}
use Rattle.sheet.proofs.states.Working.sum_rows.Goals as goal

pub returns-in_err-check_sum : goal.returns-in_err-check_sum
returns-in_err-check_sum c =
    let a = c.args in
    let e = turned_away a.self.now.shape (sum a.k a.i a.x) a.cells.now a.draft.now c.in_err-check_sum.field-0.0 c.in_err-check_sum.ensures.answer in
    search rules

pub work-requires : goal.work-requires
work-requires c =
    let a = c.args in
    column_size a.self.now.shape (sum a.k a.i a.x) a.cells.now a.draft.now a.k c.in_ok-check_sum.ensures.answer c.in_ok-check_sum.ensures.passed.1 ∙ ap length (sym c.column.ensures)

pub returns : goal.returns
returns c =
    let a = c.args in let s = a.self.now.shape in
    worked_out s (sum a.k a.i a.x) a.cells.now a.draft.now _ _ c.work.result c.work.new.draft c.in_ok-check_sum.ensures.answer
    (sum_new s a.k a.i a.x a.cells.now c.column.result.now c.column-2.result.now c.all_rows.result.count c.column.ensures c.column-2.ensures c.all_rows.ensures) refl c.work.ensures.answer c.work.ensures.left
