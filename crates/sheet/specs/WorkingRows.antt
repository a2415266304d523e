-- A column whose rows are worked out in place, one after the other: what stands in it meanwhile, and where the working ends.
use Rattle.std.specs.Prelude.{◌≡◌, ℕ, ◌<◌, ◌≤◌, List, [], ◌∷◌, Ok, Err, Result, slice_index_or}
use Rattle.arithmetic.specs.Values.{Value}
use Rattle.cells.specs.declared.cell.Record.{Record}
use Rattle.cells.specs.declared.fault.CellFault.{CellFault}
use Rattle.cells.specs.Cells.{blank, written}
use Rattle.cells.specs.Faults.{kept, in_row}
use Rattle.sheet.specs.declared.order.WorkingOrder.{WorkingOrder}
use Rattle.sheet.specs.WorkingOrders.{steps, row_of, step_of}

-- what a draft holds when a row is about to be worked: the old cell at the row, and at each row that was worked before its new cell,
-- which a record can hold
pub record Standing (order : WorkingOrder) (old new : ℕ → Value) (row : ℕ) (draft : List Record) : Type 0 where
  pub worked : step_of order row < steps order
  pub here : slice_index_or draft row blank ≡ written (old row)
  pub before : (j : ℕ) → step_of order j < step_of order row → (slice_index_or draft j blank ≡ written (new j)) × (kept (new j) ≡ Ok (written (new j)))

-- the rows that are worked are rows of a column of n
abbrev pub AreInside : (n : ℕ) → WorkingOrder → Type 0
AreInside n order = (step : ℕ) → step < steps order → row_of order step < n

-- of the rows of a column of n, one that is not worked keeps its cell
abbrev pub Stays : (n : ℕ) → WorkingOrder → (old new : ℕ → Value) → Type 0
Stays n order old new = (row : ℕ) → row < n → steps order ≤ step_of order row → new row ≡ old row

-- the fault, if there is one, comes before what follows
abbrev pub before_rest : Result Record CellFault → Result (Unit {0}) CellFault → Result (Unit {0}) CellFault
before_rest (Ok r) rest = rest
before_rest (Err f) rest = Err f

-- the fault of the first of the rows whose new cell no record can hold
abbrev pub first_fault : (new : ℕ → Value) → List ℕ → Result (Unit {0}) CellFault
first_fault new [] = Ok tt
first_fault new (row ∷ rows) = before_rest (in_row row (kept (new row))) (first_fault new rows)
