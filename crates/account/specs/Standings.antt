-- Where a dip stands beside the pair of its tip.
use Rattle.std.specs.Prelude.{ℕ, cond, List, ℤ, Some, None, Ok, Err, Option, Result, codes}
use Rattle.arithmetic.specs.Values.{Value, empty, bounds}
use Rattle.cells.specs.declared.cell.Interval.{Interval}
use Rattle.cells.specs.Cells.{read_as}
use Rattle.cells.specs.Questions.{nested}
use Rattle.account.specs.declared.outcome.NoPair.{NoPair}
use Rattle.account.specs.declared.standing.Standing.{Standing}
use Rattle.account.specs.declared.standing.Standing.TheVariants.{Inside, Outside, NoDip, NotCompared}

-- a dip stands only against a pair: its one-point cell is inside or not
abbrev pub standing_of : {L : Type 0} → Result Interval (NoPair L) → Option ℤ → Standing
standing_of o None = NoDip
standing_of (Ok i) (Some d) = cond (nested (bounds d d) (bounds i.lower i.upper)) Inside Outside
standing_of (Err n) (Some d) = NotCompared

-- the one-point cell of a dip: empty where none was taken, and for one beyond the limit
abbrev pub dip_value : Option ℤ → Value
dip_value None = empty
dip_value (Some d) = read_as (record { lower = d; upper = d })

-- the same by what the pair and the cell of the dip have in common: `standing_met` of FoundLaws has it that this is where the dip stands
abbrev pub standing_by : {L : Type 0} → Result Interval (NoPair L) → Option ℤ → (agreed : Value) → Standing
standing_by o None agreed = NoDip
standing_by (Err n) (Some d) agreed = NotCompared
standing_by (Ok i) (Some d) empty = Outside
standing_by (Ok i) (Some d) (bounds a b) = Inside

abbrev pub standing_words : Standing → List ℕ
standing_words Inside = codes "inside"
standing_words Outside = codes "OUTSIDE"
standing_words NoDip = codes "no dip"
standing_words NotCompared = codes "-"
