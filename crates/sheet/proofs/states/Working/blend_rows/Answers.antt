use Rattle.std.proofs.Common.{rules, sym, ap, ◌∙◌, length}
use Rattle.std.specs.List.{range_with_len}
use Rattle.sheet.specs.Calls.{blend}
use Rattle.sheet.proofs.Drafting.{turned_away, worked_out, column_rows, column_size, rising, blend_new}
use Rattle.sheet.proofs.states.Working.blend_rows.Goals as goal

pub returns-in_err-check_columns : goal.returns-in_err-check_columns
returns-in_err-check_columns c =
    let a = c.args in
    let e = turned_away a.self.now.shape (blend a.k a.x a.alpha a.beta) a.cells.now a.draft.now c.in_err-check_columns.field-0.0 (c.in_err-check_columns.ensures.answer) in
    search rules

pub work-requires : goal.work-requires
work-requires c =
    let a = c.args in
    column_size a.self.now.shape (blend a.k a.x a.alpha a.beta) a.cells.now a.draft.now a.k (c.in_ok-check_columns.ensures.answer) c.in_ok-check_columns.ensures.passed.1 ∙ ap length (sym c.column.ensures)

pub returns : goal.returns
returns c =
    let a = c.args in let s = a.self.now.shape in
    worked_out s (blend a.k a.x a.alpha a.beta) a.cells.now a.draft.now _ _ c.work.result c.work.new.draft (c.in_ok-check_columns.ensures.answer)
    (blend_new s a.k a.x a.alpha a.beta a.cells.now c.column.result.now c.column-2.result.now c.factors.ensures.scale c.factors.ensures.alpha c.factors.ensures.beta c.column.ensures c.column-2.ensures) (rising (length c.column.result.now) ∙ ap (range_with_len 0) (ap length c.column.ensures ∙ column_rows s (blend a.k a.x a.alpha a.beta) a.cells.now a.draft.now a.k c.in_ok-check_columns.ensures.answer c.in_ok-check_columns.ensures.passed.1)) c.work.ensures.answer c.work.ensures.left
