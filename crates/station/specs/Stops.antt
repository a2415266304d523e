-- What stops the working out of a box: a bound past the limit, or a factor that holds 0.
use Rattle.std.specs.Prelude.{◌≡◌, ℕ, ◌+◌, ◌*◌, ◌==◌, cond, Some, None, Ok, Err, Option, Result}
use Rattle.arithmetic.specs.Values.{Value}
use Rattle.cells.specs.declared.cell.Record.{Record}
use Rattle.cells.specs.declared.fault.CellFault.{CellFault}
use Rattle.cells.specs.Cells.{cell_at}
use Rattle.cells.specs.Faults.{kept, in_row}
use Rattle.layouts.specs.declared.side.Side.TheVariants.{Lower}
use Rattle.layouts.specs.Orders.{rows_in_order, first_zero}
use Rattle.account.specs.declared.outcome.NoPair.{NoPair}
use Rattle.account.specs.declared.outcome.NoPair.TheVariants.{Lacking, PastLimit}
use Rattle.sheet.specs.declared.states.Working.{Working}
use Rattle.station.specs.declared.lack.Lack.{Lack}
use Rattle.station.specs.declared.lack.Lack.TheVariants.{NeighbourPastLimit, FactorOverZero, NeighbourOverZero}
use Rattle.station.specs.declared.line.Junction.{Junction}
use Rattle.station.specs.declared.stop.Stop.{Stop}
use Rattle.station.specs.declared.stop.Stop.TheVariants as stop
use Rattle.station.specs.declared.stop.Stopped.{Stopped}
use Rattle.station.specs.Boxes.{dam_shape}
use Rattle.station.specs.Pressures.{calibrated, factors, pressure}

-- the fault of a cell whose bound is past the limit
abbrev pub fault_of : Result Record CellFault → Option CellFault
fault_of (Ok r) = None
fault_of (Err f) = Some f

-- the first, or else the other
abbrev pub or_else : {T : Type 0} → Option T → Option T → Option T
or_else (Some x) other = Some x
or_else None other = other

-- the first of the three cells of a column that has a bound past the limit
abbrev pub first_past : (ℕ → Value) → Option CellFault
first_past v = or_else (fault_of (in_row 0 (kept (v 0)))) (or_else (fault_of (in_row 1 (kept (v 1)))) (fault_of (in_row 2 (kept (v 2)))))

abbrev pub stops_at_bound : Option CellFault → Option Stop
stops_at_bound (Some f) = Some (stop.BeyondLimit f)
stops_at_bound None = None

abbrev pub stops_at_zero : Option ℕ → Option Stop
stops_at_zero (Some row) = Some (stop.OverZero row)
stops_at_zero None = None

-- the neighbours cannot be taken out where a factor on the diagonal holds 0: the first such row tells it
abbrev pub solve_stop : Junction → Option Stop
solve_stop j = or_else (stops_at_zero (first_zero (factors j) (rows_in_order Lower 3))) (stops_at_bound (first_past (pressure j)))

-- what stops a box, if anything does
abbrev pub box_stop : Junction → Option Stop
box_stop j = or_else (stops_at_bound (first_past (calibrated j))) (solve_stop j)

-- what stands in the column of pressures of a stopped box: the offsets where the calibration is refused, and else what the tips show
abbrev pub left_by : Option CellFault → (offset shown : Value) → Value
left_by (Some f) offset shown = offset
left_by None offset shown = shown

abbrev pub left_standing : Junction → (row : ℕ) → Value
left_standing j row = left_by (first_past (calibrated j)) (cell_at j.offsets row) (calibrated j row)

-- the row where a box is stopped
abbrev pub row_of : Stop → ℕ
row_of (stop.OverZero row) = row
row_of (stop.BeyondLimit f) = f.row

-- where there is nothing that stops the box, the first row
abbrev pub stop_row : Option Stop → ℕ
stop_row (Some s) = row_of s
stop_row None = 0

-- what a step of the job answers
abbrev pub stop_in : Result Working Stopped → Option Stop
stop_in (Ok w) = None
stop_in (Err e) = Some e.stop

-- the sheet goes on, whatever a step answers
abbrev pub SheetGoesOn : Result Working Stopped → Type 0
SheetGoesOn (Ok w) = w.shape ≡ dam_shape
SheetGoesOn (Err e) = e.sheet.shape ≡ dam_shape

-- the number of the tip at a place of the box that is the nth of the dam, as the warden knows it
abbrev pub number_of : (nth place : ℕ) → ℕ
number_of nth place = 3 * nth + place + 1

-- why the tip at a place of a stopped box has no pair: one tip of the box is where it stopped, the others are its neighbours
abbrev pub stopped : (nth place : ℕ) → Stop → NoPair Lack
stopped nth place (stop.OverZero row) = Lacking (cond (place == row) FactorOverZero (NeighbourOverZero (number_of nth row)))
stopped nth place (stop.BeyondLimit f) = cond (place == f.row) (PastLimit f.rounding.bound) (Lacking (NeighbourPastLimit (number_of nth f.row)))
