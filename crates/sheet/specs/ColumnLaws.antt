-- What the answers about a column say, row by row, of every column.
use Rattle.std.specs.Prelude.{◌≡◌, ℕ, ◌<◌, ◌≤◌, true, ◌↔◌, List, length, Some, None, Option}
use Rattle.arithmetic.specs.Values.{empty}
use Rattle.cells.specs.declared.cell.Record.{Record}
use Rattle.cells.specs.Cells.{cell_at}
use Rattle.cells.specs.Questions.{nested}
use Rattle.sheet.specs.ColumnQuestions.{greater_size, lesser_size, one_norm_of, infinity_norm_of, largest_of, smallest_of, enclosed_in}

pub record HasEmpty (column : List Record) : Type 0 where
  pub row : ℕ
  pub inside : row < length column
  pub lacks : cell_at column row ≡ empty

-- of a column that has a cell, nothing is answered exactly if one of its cells is empty
abbrev pub NoneIfEmpty : {Y : Type 0} → (List Record → Option Y) → Type 0
NoneIfEmpty answer = (column : List Record) → 0 < length column → (answer column ≡ None) ↔ HasEmpty column

-- the cell at the row has this size, no other cell has a greater one, and each cell before it has a lesser one
pub record IsLargest (column : List Record) (size row : ℕ) : Type 0 where
  pub inside : row < length column
  pub has : greater_size (cell_at column row) ≡ Some size
  pub most : (k other : ℕ) → k < length column → greater_size (cell_at column k) ≡ Some other → other ≤ size
  pub first : (k other : ℕ) → k < row → greater_size (cell_at column k) ≡ Some other → other < size

-- the cell at the row has this size, no other cell has a lesser one, and each cell before it has a greater one
pub record IsSmallest (column : List Record) (size row : ℕ) : Type 0 where
  pub inside : row < length column
  pub has : lesser_size (cell_at column row) ≡ Some size
  pub least : (k other : ℕ) → k < length column → lesser_size (cell_at column k) ≡ Some other → size ≤ other
  pub first : (k other : ℕ) → k < row → lesser_size (cell_at column k) ≡ Some other → size < other

pub record ColumnLaws : Type 0 where
  pub one_norm_none : NoneIfEmpty one_norm_of
  pub infinity_norm_none : NoneIfEmpty infinity_norm_of
  pub largest_none : NoneIfEmpty largest_of
  pub smallest_none : NoneIfEmpty smallest_of
  pub largest_is : (column : List Record) (size row : ℕ) → largest_of column ≡ Some (size, row) → IsLargest column size row
  pub smallest_is : (column : List Record) (size row : ℕ) → smallest_of column ≡ Some (size, row) → IsSmallest column size row
  pub enclosed_is : (inner outer : List Record) → length inner ≡ length outer → (enclosed_in inner outer ≡ true) ↔ ((row : ℕ) → row < length inner → nested (cell_at inner row) (cell_at outer row) ≡ true)
