-- The sum of a column, and what is told of it. Assumes nothing but the laws of cells, where they are named.
use Rattle.std.proofs.Common.{◌≡◌, ℕ, List, Some, None, Ok, Err, Option, Result, refl, ap, ◌∙◌, arith}
use Rattle.std.specs.Option.{ok_or}
use borrow.Author.Differences.{ints}
use Rattle.arithmetic.specs.Values.{Value, empty, bounds, Ordered, plus, zeros}
use Rattle.rounding.specs.declared.fault.RoundingFault.{RoundingFault}
use Rattle.cells.specs.declared.cell.Interval.{Interval}
use Rattle.cells.specs.declared.cell.Record.{Record}
use Rattle.cells.specs.declared.fault.CellFault.{CellFault}
use Rattle.cells.specs.Cells.{IsCell, cell_value}
use Rattle.cells.specs.Faults.{kept, in_row}
use Rattle.cells.specs.Formulas.{sum_cell}
use Rattle.cells.specs.Laws as cells
use Rattle.account.specs.declared.outcome.NoPair.TheVariants.{Lacking, PastLimit}
use Rattle.account.specs.Outcomes.{told, to_tell, within_limit}
use Rattle.sheet.specs.Memory.{cells_in}
use Rattle.station.specs.declared.total.NoTotal.{NoTotal}
use Rattle.station.specs.Boxes.{dam_shape}
use Rattle.station.specs.Stops.{fault_of}
use Rattle.station.proofs.Sheets.{column_cell, reads}

-- the bounds of a sum are in order, since those of each cell are
plus_ordered : (v w : Value) → Ordered v → Ordered w → Ordered (plus v w)
plus_ordered empty w o p = tt
plus_ordered (bounds a b) empty o p = tt
plus_ordered (bounds a b) (bounds c d) o p = omega (arith, ints, o, p)

cell_ordered : (v : Value) → IsCell v → Ordered v
cell_ordered empty c = tt
cell_ordered (bounds a b) c = c.1

pub sum_ordered : (cells : List Record) (k : ℕ) → Ordered (sum_cell (cells_in dam_shape cells k) 3)
sum_ordered cells k =
    let v : ℕ → Value = cells_in dam_shape cells k in
    let x : (row : ℕ) → Ordered (v row) = λ row. cell_ordered (v row) (column_cell cells k row) in
    let one = plus_ordered zeros (v 0) (omega (arith, ints)) (x 0) in
    let two = plus_ordered (plus zeros (v 0)) (v 1) one (x 1) in
    plus_ordered (plus (plus zeros (v 0)) (v 1)) (v 2) two (x 2)

-- what is told of a cell that was posted, and of a bound past the limit
pub sum_told : (laws : cells.Laws) (cell : Option Interval) (m : NoTotal) (v : Value) → IsCell v → cell_value cell ≡ v → told (ok_or cell (Lacking m)) ≡ to_tell m (within_limit (kept v))
sum_told laws cell m v c e = by cell e ∙ rw (laws.kept_cell v c, reads v c) refl
  where
    by : (cell : Option Interval) → cell_value cell ≡ v → told (ok_or cell (Lacking m)) ≡ to_tell m (Ok v)
    by None e = ap (λ w. to_tell m (Ok w)) e
    by (Some i) e = ap (λ w. to_tell m (Ok w)) e

pub past_told : (m : NoTotal) (q : Result Record RoundingFault) (f : CellFault) → fault_of (in_row 0 q) ≡ Some f → Err (PastLimit f.rounding.bound) ≡ to_tell m (within_limit q)
past_told m (Ok r) f e = cc
past_told m (Err g) f e = cc
