-- What the job of the dam asks of its sheet, call by call: how often, and how often it is refused.
use Rattle.std.specs.Prelude.{ℕ, zero, suc, List, [], Some, None, Option, slice_index_or}
use Rattle.arithmetic.specs.Values.{Value, empty, bounds}
use Rattle.cells.specs.Cells.{cell_at}
use Rattle.cells.specs.Faults.{kept, in_row}
use Rattle.cells.specs.Formulas.{sum_cell}
use Rattle.account.specs.declared.tally.Tally.{Tally}
use Rattle.account.specs.Tallies.{granted_call, refused_call, one_posted, no_calls}
use Rattle.station.specs.declared.line.Junction.{Junction}
use Rattle.station.specs.declared.stop.Stop.{Stop}
use Rattle.station.specs.Boxes.{dip_at}
use Rattle.station.specs.Pressures.{calibrated, pressure}
use Rattle.station.specs.Stops.{fault_of, first_past, stops_at_bound, solve_stop}

-- a cell is set where it is not empty
abbrev pub set_call : Value → Tally → Tally
set_call empty t = t
set_call (bounds a b) t = granted_call t

-- the reading, the offset and the dip of a tip; and of the first n tips of a box
abbrev pub tip_sets : Junction → (row : ℕ) → Tally → Tally
tip_sets j row t = set_call (dip_at j.dips row) (set_call (cell_at j.offsets row) (set_call (cell_at j.readings row) t))

unfoldable pub tips_sets : Junction → (n : ℕ) → Tally → Tally
tips_sets j zero t = t
tips_sets j (suc n) t = tip_sets j n (tips_sets j n t)

abbrev pub box_sets : Junction → Tally → Tally
box_sets j = tips_sets j 3

-- a call and the post of what it drafts
abbrev pub posted_call : Tally → Tally
posted_call t = one_posted (granted_call (granted_call t))

-- a call that is refused is the last of its box; after one that is posted come others
abbrev pub call_then : Option Stop → (others : Tally → Tally) → Tally → Tally
call_then (Some s) others t = refused_call t
call_then None others t = others (posted_call t)

abbrev pub no_others : Tally → Tally
no_others t = t

-- what stops the sum of a column
abbrev pub sum_stop : (ℕ → Value) → Option Stop
sum_stop v = stops_at_bound (fault_of (in_row 0 (kept (sum_cell v 3))))

-- the calls of a box: the product, the solve, the join, which is never refused, and the sum
abbrev pub box_calls : Junction → Tally → Tally
box_calls j = call_then (stops_at_bound (first_past (calibrated j))) (call_then (solve_stop j) (λ t. call_then (sum_stop (pressure j)) no_others (posted_call t)))

-- no box stands past the end of the dam
abbrev pub no_box : Junction
no_box = record { readings = []; offsets = []; calibration = []; factors = []; dips = [] }

-- of the first n boxes, in their order
unfoldable pub of_boxes : (Junction → Tally → Tally) → List Junction → (n : ℕ) → Tally → Tally
of_boxes of_box dam zero t = t
of_boxes of_box dam (suc n) t = of_box (slice_index_or dam n no_box) (of_boxes of_box dam n t)

-- to begin with, the open, the sets and the begin
abbrev pub first_calls : List Junction → Tally → Tally
first_calls dam t = granted_call (of_boxes box_sets dam 8 (granted_call t))

-- all calls of the sheet
abbrev pub all_calls : List Junction → Tally
all_calls dam = of_boxes box_calls dam 8 (first_calls dam no_calls)
