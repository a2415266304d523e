-- What is found of the tip at a row: everything comes from the records of that tip's own box, and the pair is as narrow as
-- its bounds in whole steps can be.
use Rattle.std.specs.Prelude.{◌≡◌, ℕ, ◌/◌, ◌%◌, ◌<◌, false, List, pos, Some, None, Ok, Err, Option, Result, slice_index_or}
use Rattle.arithmetic.specs.Values.{Value, Tightly}
use Rattle.cells.specs.declared.cell.Interval.{Interval}
use Rattle.cells.specs.Cells.{IsCell, blank}
use Rattle.cells.specs.Faults.{kept}
use Rattle.cells.specs.Formulas.{sum_cell}
use Rattle.cells.specs.Quotients.{zero_in}
use Rattle.account.specs.declared.finding.Finding.{Finding}
use Rattle.account.specs.Findings.{Said, AllFound as AllSaid}
use Rattle.account.specs.declared.outcome.NoPair.{NoPair}
use Rattle.account.specs.declared.outcome.NoPair.TheVariants.{Lacking}
use Rattle.account.specs.Outcomes.{told, to_tell, within_limit}
use Rattle.station.specs.declared.lack.Lack.{Lack}
use Rattle.station.specs.declared.line.Junction.{Junction}
use Rattle.station.specs.declared.stop.Stop.{Stop}
use Rattle.station.specs.declared.total.NoTotal.{NoTotal}
use Rattle.station.specs.declared.total.NoTotal.TheVariants.{TipWithoutPair}
use Rattle.station.specs.Lacks.{lack_of}
use Rattle.station.specs.Pressures.{calibrated, factors, pressure, Shown, Pressures}
use Rattle.station.specs.Stops.{box_stop, stopped}
use Rattle.station.specs.Totals.{no_total}

-- no bound of a cell of the box is past the limit, and no factor on the diagonal holds 0
abbrev pub CanBeWorked : Junction → Type 0
CanBeWorked j = (row : ℕ) → row < 3 → IsCell (calibrated j row) × (zero_in ((factors j).entry row row) ≡ false) × IsCell (pressure j row)

-- the cell of a pressure, or why there is none where the box is stopped
abbrev pub unless_stopped : {T L : Type 0} → Option Stop → (Stop → NoPair L) → Result T (NoPair L) → Result T (NoPair L)
unless_stopped None why then = then
unless_stopped (Some s) why then = Err (why s)

-- what the records of its box, the nth of the dam, say of the tip at a place
abbrev pub said : (nth : ℕ) → Junction → (place : ℕ) → Said Lack
said nth j place = record {
  reading = slice_index_or j.readings place blank;
  pressure = unless_stopped (box_stop j) (stopped nth place) (Ok (pressure j place));
  pressures = Pressures j place;
  can_be_worked = CanBeWorked j;
  can_be_held = IsCell (calibrated j place) × IsCell (pressure j place);
  dip = slice_index_or j.dips place None;
  lack = lack_of j.readings place;
}

-- the first n findings are those of the first n tips, in their order: a box has three, and a row is a place of a box
abbrev pub AllFound : List Junction → ℕ → List (Finding Lack) → Type 0
AllFound dam n fs = AllSaid (λ k j. said (k / 3) (slice_index_or dam (k / 3) j) (k % 3)) n fs

-- the sum of the pressures of a box, the nth of the dam; where it is stopped it has none
abbrev pub box_total : (nth : ℕ) → Junction → Result Value (NoPair NoTotal)
box_total nth j = unless_stopped (box_stop j) (λ s. Lacking (no_total nth s)) (within_limit (kept (sum_cell (pressure j) 3)))

-- the first n totals are those of the first n boxes, in their order
abbrev pub AllTotals : List Junction → ℕ → List (Result Interval (NoPair NoTotal)) → Type 0
AllTotals dam n ts = (k : ℕ) (j : Junction) (t : Result Interval (NoPair NoTotal)) → k < n → told (slice_index_or ts k t) ≡ to_tell TipWithoutPair (box_total k (slice_index_or dam k j))

-- what each tip shows is tight as well: its cell holds all that the records of its box allow, with less than one step to spare
abbrev pub ShownTightly : List Junction → Type 0
ShownTightly dam = (nth : ℕ) (j : Junction) (place : ℕ) → nth < 8 → Tightly (pos 100) (Shown (slice_index_or dam nth j) place) (calibrated (slice_index_or dam nth j) place)
