-- Records and cells: what a record reads as, what is written for a cell, and the rule that every cell keeps.
use Rattle.std.specs.Prelude.{ℕ, Bool, cond, ◌||◌, List, ℤ, pos, ◌≤ℤ◌, Some, None, Option, int_lt, slice_index_or}
use Rattle.arithmetic.specs.Values.{Value, empty, bounds}
use Rattle.rounding.specs.Limit.{lowest, highest}
use Rattle.rounding.specs.declared.numbers.Sums.{Sums}
use Rattle.cells.specs.declared.cell.Extremes.{Extremes}
use Rattle.cells.specs.declared.cell.Interval.{Interval}
use Rattle.cells.specs.declared.cell.Record.{Record}

-- cells and sums of products as the code has them
abbrev pub Cell : Type 0
Cell = Option Interval

abbrev pub Total : Type 0
Total = Option (Extremes 17591917609984)

-- what a cell of the code stands for
abbrev pub cell_value : Cell → Value
cell_value None = empty
cell_value (Some i) = bounds i.lower i.upper

-- what the unrounded sums of the code stand for
abbrev pub extremes : {most : ℕ} → Extremes most → Value
extremes e = bounds e.least e.greatest

abbrev pub total_value : Total → Value
total_value None = empty
total_value (Some t) = extremes t

abbrev pub sum_value : Option Sums → Value
sum_value None = empty
sum_value (Some s) = bounds s.least.value s.greatest.value

-- the rule of a cell: empty, or bounds in order, neither beyond the limit in size
abbrev pub IsCell : Value → Type 0
IsCell empty = Unit {0}
IsCell (bounds a b) = (lowest ≤ℤ a) × (a ≤ℤ b) × (b ≤ℤ highest)

-- the two numbers break the rule
abbrev pub broken : ℤ → ℤ → Bool
broken l u = int_lt l lowest || (int_lt highest u || int_lt u l)

-- a record that breaks the rule reads as the empty cell
abbrev pub read_as : Record → Value
read_as r = cond (broken r.lower r.upper) empty (bounds r.lower r.upper)

-- the record that is written for the empty cell, and for any
abbrev pub blank : Record
blank = record { lower = pos 1; upper = pos 0 }

abbrev pub written : Value → Record
written empty = blank
written (bounds a b) = record { lower = a; upper = b }

-- the cell at a place of a run, empty past its end
abbrev pub cell_at : List Record → ℕ → Value
cell_at run place = read_as (slice_index_or run place blank)
