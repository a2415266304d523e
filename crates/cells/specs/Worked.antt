-- What the formulas leave at a row of a column: the record of the worked-out cell, or the cell's fault.
-- Operands are runs of records, each read as a cell; a place past a run's end is empty.
use Rattle.std.specs.Prelude.{ℕ, List, ℤ, Result}
use Rattle.arithmetic.specs.Values.{Value}
use Rattle.cells.specs.declared.cell.Record.{Record}
use Rattle.cells.specs.declared.fault.CellFault.{CellFault}
use Rattle.cells.specs.Cells.{cell_at}
use Rattle.cells.specs.Faults.{kept, in_row}
use Rattle.cells.specs.Formulas.{dot_cell, sum_cell, blend_cell}

-- beta·r + alpha·Σ x_j·y_j, r being the cell at the row
abbrev pub dot_at : (u : ℤ) (alpha beta : Value) (column : List Record) (row : ℕ) (xs ys : List Record) (n : ℕ) → Result Record CellFault
dot_at u alpha beta column row xs ys n = in_row row (kept (dot_cell u alpha beta (cell_at column row) (cell_at xs) (cell_at ys) n))

-- Σ x_j
abbrev pub sum_at : (row : ℕ) (xs : List Record) (n : ℕ) → Result Record CellFault
sum_at row xs n = in_row row (kept (sum_cell (cell_at xs) n))

-- alpha·x + beta·r, x and r being the cells at the row
abbrev pub blend_at : (u : ℤ) (alpha beta : Value) (column : List Record) (row : ℕ) (xs : List Record) → Result Record CellFault
blend_at u alpha beta column row xs = in_row row (kept (blend_cell u alpha beta (cell_at xs row) (cell_at column row)))
