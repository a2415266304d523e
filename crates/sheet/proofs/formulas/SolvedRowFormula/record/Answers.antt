use Rattle.std.proofs.Common.{◌∙◌}
use Rattle.cells.specs.Cells.{cell_value}
use Rattle.sheet.proofs.SolvedRows.{value_ordered, row_solved, empty_carries_on}
use Rattle.sheet.proofs.formulas.SolvedRowFormula.record.Goals as goal

pub returns : goal.returns
returns g c =
    let f = c.args.self.now in let t = f.layout.now in
    c.solve_cell.ensures ∙ row_solved c.laws_stand.ensures c.laws_stand-2.ensures (g.T.Triangular.half t) (g.T.Layout.meaning t) (cell_value f.alpha) f.column.now c.args.draft.now c.args.row (g.met.T.Layout.sound t) (value_ordered f.alpha) c.requires

pub solve_cell-requires : goal.solve_cell-requires
solve_cell-requires g c =
    let f = c.args.self.now in let t = f.layout.now in
    empty_carries_on c.laws_stand.ensures c.laws_stand-2.ensures (g.T.Triangular.half t) (g.T.Layout.meaning t) (cell_value f.alpha) f.column.now c.args.draft.now c.args.row (g.met.T.Layout.sound t) (value_ordered f.alpha) c.requires
