-- The order in which a call works its rows: which row is worked at a step, and at which step a row is.
use Rattle.std.specs.Prelude.{ℕ, ◌-◌, cond, List, [], ◌∷◌, nat_lt, ◌==◌}
use Rattle.layouts.specs.declared.side.Side.TheVariants.{Lower, Upper}
use Rattle.layouts.specs.Orders.{row_at, rows_in_order}
use Rattle.sheet.specs.declared.order.WorkingOrder.{WorkingOrder}
use Rattle.sheet.specs.declared.order.WorkingOrder.TheVariants.{One, All}

abbrev pub steps : WorkingOrder → ℕ
steps (One i) = 1
steps (All side n) = n

abbrev pub row_of : WorkingOrder → (step : ℕ) → ℕ
row_of (One i) step = i
row_of (All side n) step = row_at side n step

abbrev pub rows_of : WorkingOrder → List ℕ
rows_of (One i) = i ∷ []
rows_of (All side n) = rows_in_order side n

-- no step below `steps` is told for a row that is not worked
abbrev pub step_of : WorkingOrder → (row : ℕ) → ℕ
step_of (One i) row = cond (row == i) 0 1
step_of (All Lower n) row = row
step_of (All Upper n) row = cond (nat_lt row n) (n - 1 - row) n
