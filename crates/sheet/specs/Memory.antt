-- Where the columns and the draft lie in the memory that a call is supplied, and what is written there.
use Rattle.std.specs.Prelude.{ℕ, ◌+◌, ◌*◌, Bool, ◌&&◌, List, ◌++◌, map, length, take, drop, replicate, ◌==◌}
use Rattle.std.specs.List.{range_with_len}
use Rattle.arithmetic.specs.Values.{Value}
use Rattle.cells.specs.declared.cell.Record.{Record}
use Rattle.cells.specs.Cells.{blank, written, cell_at}
use Rattle.sheet.specs.declared.shape.Shape.{Shape}

-- n cells for each of c columns
abbrev pub has_cells : Shape → List Record → Bool
has_cells s cells = length cells == s.rows * s.columns

-- and n for the draft
abbrev pub has_both : Shape → (cells draft : List Record) → Bool
has_both s cells draft = has_cells s cells && length draft == s.rows

-- column k: n cells from the place k·n on
abbrev pub column : Shape → (cells : List Record) → (k : ℕ) → List Record
column s cells k = take s.rows (drop (k * s.rows) cells)

-- the cell at a row of a column
abbrev pub cells_in : Shape → (cells : List Record) → (k row : ℕ) → Value
cells_in s cells k row = cell_at (column s cells k) row

-- n empty cells
abbrev pub blanks : ℕ → List Record
blanks n = replicate n blank

-- n cells, one for each row
abbrev pub written_rows : (n : ℕ) → (ℕ → Value) → List Record
written_rows n new = map (λ row. written (new row)) (range_with_len 0 n)

-- the cells with the draft in the place of column k
abbrev pub with_column : Shape → (k : ℕ) → (cells draft : List Record) → List Record
with_column s k cells draft = take (k * s.rows) cells ++ (draft ++ drop (k * s.rows + s.rows) cells)
