use Rattle.std.proofs.Common.{◌≡◌, ℕ, ◌+◌, ◌<◌, ◌≤◌, None, get_or}
use Rattle.arithmetic.specs.Values.{bounds, plus, times, Small}
use Rattle.cells.specs.Cells.{total_value}
use Rattle.layouts.proofs.sweep.add_column.Given as goal

-- the rows before the turn's have the product added, those from it on are as they were
abbrev pub invariant-loop-row : goal.invariant-loop-row
invariant-loop-row g l =
    ((k : ℕ) → k < l.row → total_value (get_or l.sums k None) ≡ plus (total_value (get_or l.initial.sums k None)) (times ((g.L.Layout.meaning l.layout).entry k l.column) (bounds l.factor.lower l.factor.upper)))
    × ((k : ℕ) → k < l.row → (n : ℕ) → Small n (total_value (get_or l.initial.sums k None)) → Small (n + 17179607041) (total_value (get_or l.sums k None)))
    × ((k : ℕ) → l.row ≤ k → get_or l.sums k None ≡ get_or l.initial.sums k None)
