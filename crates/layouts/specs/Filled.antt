-- Which cells of a run are filled, which is to say not empty.
use Rattle.std.specs.Prelude.{◌≡◌, ℕ, ◌<◌, ◌≤◌, Bool, true, false, List}
use Rattle.arithmetic.specs.Values.{Value, empty, bounds}
use Rattle.cells.specs.declared.cell.Record.{Record}
use Rattle.cells.specs.Cells.{cell_at}

abbrev pub is_filled : Value → Bool
is_filled empty = false
is_filled (bounds a b) = true

-- every cell of the run from `from` to before `to` is filled
abbrev pub Filled : List Record → (from to : ℕ) → Type 0
Filled run from to = (k : ℕ) → from ≤ k → k < to → is_filled (cell_at run k) ≡ true

-- one of them is not
pub record Lacking (run : List Record) (from to : ℕ) : Type 0 where
  pub place : ℕ
  pub least : from ≤ place
  pub most : place < to
  pub lacks : is_filled (cell_at run place) ≡ false
