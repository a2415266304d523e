use Rattle.std.proofs.Common.{length}
use Rattle.cells.specs.Cells.{cell_at}
use Rattle.sheet.proofs.RowByRow.{Worked}
use Rattle.sheet.proofs.working_out.work_rows.Given as goal

abbrev pub invariant-loop-step : goal.invariant-loop-step
invariant-loop-step g l = let f = l.fn.formula in Worked (g.F.RowFormula.rows f) (cell_at (g.F.RowFormula.old f)) (g.F.RowFormula.new f) (length (g.F.RowFormula.old f)) l.draft l.step
