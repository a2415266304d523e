-- Why a box has no total.
use Rattle.std.specs.Prelude.{ℕ, List, ◌++◌, codes, decimal}
use Rattle.station.specs.declared.stop.Stop.{Stop}
use Rattle.station.specs.declared.stop.Stop.TheVariants as stop
use Rattle.station.specs.declared.total.NoTotal.{NoTotal}
use Rattle.station.specs.declared.total.NoTotal.TheVariants.{TipWithoutPair, NotSolved, NotWorkedOut}
use Rattle.station.specs.Stops.{number_of}

-- where a box is stopped, the nth of the dam, it is told by which tip
abbrev pub no_total : (nth : ℕ) → Stop → NoTotal
no_total nth (stop.OverZero row) = NotSolved (number_of nth row)
no_total nth (stop.BeyondLimit f) = NotWorkedOut (number_of nth f.row)

abbrev pub no_total_words : NoTotal → List ℕ
no_total_words TipWithoutPair = codes "no total: a tip of the box has no pair"
no_total_words (NotSolved tip) = codes "not solved: the factor of tip " ++ (decimal tip ++ codes " has drifted over zero")
no_total_words (NotWorkedOut tip) = codes "not worked out: a bound at tip " ++ (decimal tip ++ codes " is past the limit")
