use Rattle.std.proofs.Common.{ℕ, ◌+◌, ◌≤◌, sym, subst, ap, ◌∙◌}
use Rattle.cells.specs.declared.cell.Places.{Places}
use Rattle.cells.specs.Cells.{total_value}
use Rattle.layouts.specs.Filled.{Lacking}
use Rattle.layouts.specs.Rows.{solved_from, solved_count}
use Rattle.layouts.proofs.Skips.{lacked}
use Rattle.layouts.proofs.solve.solved_sum.Goals as goal

pub returns-in_err-xs : goal.returns-in_err-xs
returns-in_err-xs g c =
    let m = g.T.Layout.meaning c.args.layout.now in let side = g.T.Triangular.half c.args.layout.now in let run = c.args.column.now in let i = c.args.row in
    let s = c.solved_before.ensures in let P : ℕ → ℕ → Type 0 = Lacking run in
    let lacks = subst (P (solved_from side i)) (s.count ∙ ap (λ (k : ℕ). k + solved_count side m.rows i) s.from) (subst (λ (k : ℕ). P k c.solved_before.result.to) s.from c.in_err-xs.ensures) in
    ap total_value c.from_residual.ensures ∙ sym (lacked m run i (solved_from side i) (solved_count side m.rows i) lacks)

pub sum-requires : goal.sum-requires
sum-requires g c =
    let inside : Places → Type 0 = λ p. p.to ≤ (g.T.Layout.meaning c.args.layout.now).columns in
    subst inside (sym c.in_ok-xs.ensures.1) c.solved_before.ensures.inside
