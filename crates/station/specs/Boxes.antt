-- The sheet of the dam: its shape, and what the columns of a box are set to.
use Rattle.std.specs.Prelude.{◌≡◌, ℕ, ◌+◌, ◌<◌, List, ℤ, pos, None, Option, slice_index_or}
use Rattle.arithmetic.specs.Values.{Value}
use Rattle.cells.specs.declared.cell.Record.{Record}
use Rattle.cells.specs.Cells.{cell_at}
use Rattle.account.specs.Standings.{dip_value}
use Rattle.sheet.specs.declared.shape.Shape.{Shape}
use Rattle.sheet.specs.Memory.{cells_in}
use Rattle.station.specs.declared.line.Junction.{Junction}

-- 100 steps to one unit, a row for each tip of a box, and four columns for each of eight boxes
abbrev pub dam_shape : Shape
dam_shape = record { scale = pos 100; rows = 3; columns = 32 }

-- the dip that was taken at a place, as a cell
abbrev pub dip_at : List (Option ℤ) → (place : ℕ) → Value
dip_at dips place = dip_value (slice_index_or dips place None)

-- the columns of the box at a place of the dam, which begin with this one, hold what the station holds of the box
pub record Filled (cells : List Record) (first : ℕ) (j : Junction) : Type 0 where
  pub readings : (row : ℕ) → row < 3 → cells_in dam_shape cells first row ≡ cell_at j.readings row
  pub offsets : (row : ℕ) → row < 3 → cells_in dam_shape cells (first + 1) row ≡ cell_at j.offsets row
  pub dips : (row : ℕ) → row < 3 → cells_in dam_shape cells (first + 2) row ≡ dip_at j.dips row
