use Rattle.std.proofs.Common.{length, arith}
use Rattle.std.proofs.lemmas.List.FromFn.{fill_by_all}
use Rattle.cells.specs.Cells.{blank, written}
use Rattle.sheet.proofs.rows.write_rows.Goals as goal

pub returns : goal.returns
returns g c =
    fill_by_all (λ row. written (g.R.Rows.new c.args.rows.now row)) c.loop-row.draft (length c.args.draft.now) blank c.loop-row.auto.draft
    (λ k h. c.loop-row.invariant k (omega (arith, h, c.loop-row-test.false)))
