use Rattle.std.proofs.Common.{◌≡◌, ℕ, ◌<◌, slice_index_or}
use Rattle.cells.specs.Cells.{blank, written, cell_at}
use Rattle.sheet.proofs.rows.write_column.Given as goal

abbrev pub invariant-loop-row : goal.invariant-loop-row
invariant-loop-row l = (k : ℕ) → k < l.row → slice_index_or l.draft k blank ≡ written (cell_at l.fn.column k)
