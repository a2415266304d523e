use Rattle.std.proofs.Common.{◌≡◌, ℕ, ◌*◌, ◌<◌, length, None, get_or}
use Rattle.arithmetic.specs.Values.{zeros, Small}
use Rattle.cells.specs.Cells.{total_value, cell_at}
use Rattle.cells.specs.Formulas.{sum_of_products}
use Rattle.layouts.proofs.sweep.product_sums.Given as goal

-- after some columns, each row's sum over them; before the first, no term anywhere
abbrev pub invariant-loop-column : goal.invariant-loop-column
invariant-loop-column g l =
    ((k : ℕ) → k < length l.sums → k < (g.L.Layout.meaning l.layout).rows
    → total_value (get_or l.sums k None) ≡ sum_of_products ((g.L.Layout.meaning l.layout).entry k) (cell_at l.xs.run.now) 0 l.column)
    × ((k : ℕ) → k < length l.sums → Small (17179607041 * l.column) (total_value (get_or l.sums k None)))
    × (l.column ≡ 0 → (k : ℕ) → k < length l.sums → total_value (get_or l.sums k None) ≡ zeros)
