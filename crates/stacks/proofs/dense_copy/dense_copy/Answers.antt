use Rattle.std.proofs.Common.{◌≡◌, ℕ, ◌*◌, max, map, ap, ◌∙◌, arith}
use Rattle.std.specs.List.{range_with_len}
use Rattle.layouts.specs.Stored.{dense}
use Rattle.stacks.proofs.Matrices.{cell_of, dense_same}
use Rattle.stacks.proofs.dense_copy.dense_copy.Goals as goal

pub returns : goal.returns
returns g c =
    let m = g.L.Layout.meaning c.args.layout.now in let run = c.in_ok-all_columns.field-0.items in let stride = c.max-stride.result in
    let wide : stride ≡ max m.rows 1 = omega (arith, c.max-stride.ensures, c.rows-rows.ensures) in
    let is : run ≡ map (cell_of m stride) (range_with_len 0 (stride * m.columns)) =
    c.in_ok-all_columns.ensures ∙ ap (λ (n : ℕ). map (cell_of m stride) (range_with_len 0 (stride * n))) c.columns-columns.ensures in
    ap (λ (n : ℕ). dense run n c.columns-columns.result stride) c.rows-rows.ensures ∙ ap (λ (n : ℕ). dense run m.rows n stride) c.columns-columns.ensures
    ∙ dense_same m run stride c.laws_stand.ensures.read_written (g.met.L.Layout.sound c.args.layout.now) wide is
