use Rattle.std.proofs.Common.{◌≡◌, ℕ, ◌<◌, slice_index_or}
use Rattle.cells.specs.Cells.{blank, written}
use Rattle.sheet.proofs.rows.write_rows.Given as goal

abbrev pub invariant-loop-row : goal.invariant-loop-row
invariant-loop-row g l = (k : ℕ) → k < l.row → slice_index_or l.draft k blank ≡ written (g.R.Rows.new l.fn.rows k)
