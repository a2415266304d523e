-- What a tip of a junction box lacks, by the readings of the box.
use Rattle.std.specs.Prelude.{ℕ, Bool, true, false, ◌&&◌, List, ◌++◌, codes, decimal, slice_index_or}
use Rattle.cells.specs.declared.cell.Record.{Record}
use Rattle.cells.specs.Cells.{blank, cell_at}
use Rattle.layouts.specs.Filled.{is_filled}
use Rattle.account.specs.declared.records.Given.{Given}
use Rattle.account.specs.declared.records.Given.TheVariants as given
use Rattle.account.specs.Lacks.{given_by}
use Rattle.station.specs.declared.lack.Lack.{Lack}
use Rattle.station.specs.declared.lack.Lack.TheVariants.{NothingGiven, Broken, NeighbourMissing, Uncalibrated, NeighbourPastLimit, FactorOverZero, NeighbourOverZero}

-- every reading of a box is good
abbrev pub all_read : List Record → Bool
all_read rs = is_filled (cell_at rs 0) && (is_filled (cell_at rs 1) && is_filled (cell_at rs 2))

-- by what the tip's own record gives, and by whether every reading of the box is good
abbrev pub lack_when : Given → (all : Bool) → Lack
lack_when given.Nothing all = NothingGiven
lack_when given.Broken all = Broken
lack_when given.Good false = NeighbourMissing
lack_when given.Good true = Uncalibrated

-- what the tip at a place of a box lacks
abbrev pub lack_of : List Record → ℕ → Lack
lack_of rs place = lack_when (given_by (slice_index_or rs place blank)) (all_read rs)

-- a tip at fault, and not for a neighbour's sake
abbrev pub own_lack : Lack → Bool
own_lack NothingGiven = true
own_lack Broken = true
own_lack NeighbourMissing = false
own_lack Uncalibrated = true
own_lack (NeighbourPastLimit tip) = false
own_lack FactorOverZero = true
own_lack (NeighbourOverZero tip) = false

abbrev pub lack_words : Lack → List ℕ
lack_words NothingGiven = codes "no reading: the instrument gave nothing"
lack_words Broken = codes "no reading: its record is broken"
lack_words NeighbourMissing = codes "no pair: another reading of its box is missing"
lack_words Uncalibrated = codes "no pair: calibration, offset or factor missing"
lack_words (NeighbourPastLimit tip) = codes "no pair: a bound at tip " ++ (decimal tip ++ codes " is past the limit")
lack_words FactorOverZero = codes "no pair: its factor has drifted over zero"
lack_words (NeighbourOverZero tip) = codes "no pair: the factor of tip " ++ (decimal tip ++ codes " is over zero")
