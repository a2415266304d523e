-- What became of a tip.
use Rattle.std.specs.Prelude.{ℕ, List, pos, Some, Ok, Err, Option, Result, codes}
use Rattle.arithmetic.specs.Values.{Value, empty, bounds}
use Rattle.rounding.specs.declared.fault.Bound.TheVariants.{Lower, Upper}
use Rattle.rounding.specs.declared.fault.RoundingFault.{RoundingFault}
use Rattle.cells.specs.declared.cell.Interval.{Interval}
use Rattle.cells.specs.declared.cell.Record.{Record}
use Rattle.cells.specs.Cells.{read_as}
use Rattle.account.specs.declared.outcome.NoPair.{NoPair}
use Rattle.account.specs.declared.outcome.NoPair.TheVariants.{Lacking, PastLimit}

-- what an outcome tells: the cell of a pair, or why there is none
abbrev pub told : {L : Type 0} → Result Interval (NoPair L) → Result Value (NoPair L)
told (Ok i) = Ok (bounds i.lower i.upper)
told (Err n) = Err n

-- a cell that is not empty is a pair; in an empty one something is lacking
abbrev pub pair_or : {L : Type 0} → L → Value → Result Value (NoPair L)
pair_or lack empty = Err (Lacking lack)
pair_or lack (bounds a b) = Ok (bounds a b)

-- what is to be told of a cell that was worked out, or of why it was not
abbrev pub to_tell : {L : Type 0} → L → Result Value (NoPair L) → Result Value (NoPair L)
to_tell lack (Ok v) = pair_or lack v
to_tell lack (Err n) = Err n

-- a cell that was worked out, or the bound of it that is past the limit
abbrev pub within_limit : {L : Type 0} → Result Record RoundingFault → Result Value (NoPair L)
within_limit (Ok r) = Ok (read_as r)
within_limit (Err f) = Err (PastLimit f.bound)

-- the pair that was worked out; empty where there is none
abbrev pub pair_value : {L : Type 0} → Result Interval (NoPair L) → Value
pair_value (Ok i) = bounds i.lower i.upper
pair_value (Err n) = empty

-- the cell of exactly one unit
abbrev pub unity : Value
unity = bounds (pos 100) (pos 100)

-- the words of a lack, or which bound is past the limit
abbrev pub no_pair_words : {L : Type 0} → (L → Option (List ℕ)) → NoPair L → Option (List ℕ)
no_pair_words words (Lacking l) = words l
no_pair_words words (PastLimit Lower) = Some (codes "lower bound past the limit: nothing worked out")
no_pair_words words (PastLimit Upper) = Some (codes "upper bound past the limit: nothing worked out")
