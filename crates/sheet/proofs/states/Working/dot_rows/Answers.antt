use Rattle.std.proofs.Common.{rules, sym, refl, ap, ◌∙◌, length}
use Rattle.sheet.specs.Calls.{dot}
use Rattle.sheet.proofs.Drafting.{turned_away, worked_out, column_size, dot_new}
use Rattle.sheet.proofs.states.Working.dot_rows.Goals as goal

pub returns-in_err-check_dot : goal.returns-in_err-check_dot
returns-in_err-check_dot c =
    let a = c.args in
    let e = turned_away a.self.now.shape (dot a.k a.i a.x a.y a.alpha a.beta) a.cells.now a.draft.now c.in_err-check_dot.field-0.0 (c.in_err-check_dot.ensures.answer a.alpha a.beta) in
    search rules

pub work-requires : goal.work-requires
work-requires c =
    let a = c.args in
    column_size a.self.now.shape (dot a.k a.i a.x a.y a.alpha a.beta) a.cells.now a.draft.now a.k (c.in_ok-check_dot.ensures.answer a.alpha a.beta) c.in_ok-check_dot.ensures.passed.1 ∙ ap length (sym c.column.ensures)

pub returns : goal.returns
returns c =
    let a = c.args in let s = a.self.now.shape in
    worked_out s (dot a.k a.i a.x a.y a.alpha a.beta) a.cells.now a.draft.now _ _ c.work.result c.work.new.draft (c.in_ok-check_dot.ensures.answer a.alpha a.beta)
    (dot_new s a.k a.i a.x a.y a.alpha a.beta a.cells.now c.column.result.now c.column-2.result.now c.column-3.result.now c.all_rows.result.count c.factors.ensures.scale c.factors.ensures.alpha c.factors.ensures.beta c.column.ensures c.column-2.ensures c.column-3.ensures c.all_rows.ensures) refl c.work.ensures.answer c.work.ensures.left
