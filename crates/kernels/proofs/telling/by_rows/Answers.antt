use Rattle.std.proofs.Common.{arith}
use Rattle.std.proofs.lemmas.Grind.{common_steps}
use Rattle.std.proofs.lemmas.List.FromFn.{map-range_with_len_more}
use Rattle.cells.specs.Cells.{cell_at}
use Rattle.layouts.specs.Rows.{row_sum}
use Rattle.kernels.proofs.telling.by_rows.Goals as goal

pub loop-row-preserved : goal.loop-row-preserved
loop-row-preserved g c =
    let row = c.loop-row.row in let one_more = map-range_with_len_more (row_sum (g.L.Layout.meaning c.args.layout.now) (cell_at c.args.xs.now)) 0 row row (omega arith) in
    grind (arith, common_steps, one_more)
