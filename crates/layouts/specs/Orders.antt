-- The order in which the rows of a triangular system are worked: rising for a lower triangle, falling for an upper one.
use Rattle.std.specs.Prelude.{ℕ, ◌-◌, List, map, find, Option}
use Rattle.std.specs.List.{range_with_len}
use Rattle.cells.specs.Quotients.{zero_in}
use Rattle.layouts.specs.declared.side.Side.{Side}
use Rattle.layouts.specs.declared.side.Side.TheVariants.{Lower, Upper}
use Rattle.layouts.specs.Matrix.{Matrix}

-- the row of n that is worked at a step, steps and rows counted from 0
abbrev pub row_at : Side → (n step : ℕ) → ℕ
row_at Lower n step = step
row_at Upper n step = n - 1 - step

-- all n rows, in working order
unfoldable pub rows_in_order : Side → (n : ℕ) → List ℕ
rows_in_order side n = map (row_at side n) (range_with_len 0 n)

-- the first of the rows whose diagonal entry is not empty and holds 0
abbrev pub first_zero : Matrix → List ℕ → Option ℕ
first_zero m = find (λ i. zero_in (m.entry i i))
