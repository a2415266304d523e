use Rattle.std.proofs.Common.{length, arith}
use Rattle.std.proofs.lemmas.List.FromFn.{fill_by_all}
use Rattle.cells.specs.Cells.{blank, written, cell_at}
use Rattle.sheet.proofs.rows.write_column.Goals as goal

pub returns : goal.returns
returns c =
    fill_by_all (λ row. written (cell_at c.args.column.now row)) c.loop-row.draft (length c.args.draft.now) blank c.loop-row.auto.draft
    (λ k h. c.loop-row.invariant k (omega (arith, h, c.loop-row-test.false)))
