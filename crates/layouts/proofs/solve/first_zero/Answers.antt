use Rattle.std.proofs.Common.{◌≡◌, ℕ, refl, sym, ap, ◌∙◌, map, rules}
use Rattle.std.specs.List.{range_with_len}
use Rattle.std.proofs.lemmas.Iterator.Adapters.{option_map_id}
use Rattle.std.proofs.lemmas.Iterator.Search.{find_from_yields_List}
use Rattle.std.proofs.lemmas.Iterator.{YieldsList-from_range, YieldsList-from_map}
use Rattle.cells.specs.Quotients.{zero_in}
use borrow.Author.Tests.{tests}
use Rattle.layouts.specs.declared.side.Side.{Side}
use Rattle.layouts.specs.Matrix.{Matrix}
use Rattle.layouts.specs.Orders.{row_at, rows_in_order, first_zero}
use Rattle.layouts.proofs.solve.first_zero.Goals as goal

-- what is found with the side and the number of rows as they were answered is what is found with the layout's own
as_meant : (m : Matrix) (side half : Side) (n : ℕ) → side ≡ half → n ≡ m.rows → first_zero m (map (row_at side n) (range_with_len 0 n)) ≡ first_zero m (rows_in_order half m.rows)
unfolding rows_in_order
as_meant m side half n e f = ap (λ (s : Side). first_zero m (rows_in_order s n)) e ∙ ap (λ (k : ℕ). first_zero m (rows_in_order half k)) f

pub returns : goal.returns
returns g c =
    let m = g.T.Layout.meaning c.args.layout.now in let side = c.side-side.result in let n = c.rows-n.result in
    let found : c.find.result ≡ first_zero m (map (row_at side n) (range_with_len 0 n)) =
    sym (option_map_id _) ∙ find_from_yields_List (λ i. zero_in (m.entry i i)) _ _ c.find.result c.find.ensures.ran
    (YieldsList-from_map _ (row_at side n) (YieldsList-from_range 0 n n (search rules) (search rules)) refl (λ x r q k. search rules)) (λ x b q k. search (rules, tests)) in
    found ∙ as_meant m side _ n c.side-side.ensures.is c.rows-n.ensures
