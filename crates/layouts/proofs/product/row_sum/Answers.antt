use Rattle.std.proofs.Common.{◌≡◌, ℕ, ◌+◌, sym, subst, ap, ◌∙◌, arith}
use Rattle.cells.specs.Cells.{total_value}
use Rattle.layouts.specs.Filled.{Lacking}
use Rattle.layouts.proofs.Skips.{lacked}
use Rattle.layouts.proofs.product.row_sum.Goals as goal

pub returns-in_err-xs : goal.returns-in_err-xs
returns-in_err-xs g c =
    let m = g.L.Layout.meaning c.args.layout.now in let run = c.args.xs.run.now in let P : ℕ → Type 0 = Lacking run 0 in
    let all : c.columns-columns.result ≡ 0 + m.columns = omega (arith, c.columns-columns.ensures) in
    ap total_value c.from_residual.ensures ∙ sym (lacked m run c.args.row 0 m.columns (subst P all c.in_err-xs.ensures))
