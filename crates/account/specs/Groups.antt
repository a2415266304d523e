-- The groups that findings are counted and listed by.
use Rattle.std.specs.Prelude.{Bool, true, false, Ok, Err, Result}
use Rattle.cells.specs.declared.cell.Interval.{Interval}
use Rattle.account.specs.declared.finding.Finding.{Finding}
use Rattle.account.specs.declared.groups.Group.{Group}
use Rattle.account.specs.declared.groups.Group.TheVariants as group
use Rattle.account.specs.declared.outcome.NoPair.{NoPair}
use Rattle.account.specs.declared.outcome.NoPair.TheVariants.{Lacking, PastLimit}
use Rattle.account.specs.declared.standing.Standing.{Standing}
use Rattle.account.specs.declared.standing.Standing.TheVariants.{Inside, Outside, NoDip, NotCompared}

abbrev pub worked_out : {L : Type 0} → Result Interval (NoPair L) → Bool
worked_out (Ok i) = true
worked_out (Err n) = false

abbrev pub lacking : {L : Type 0} → Result Interval (NoPair L) → Bool
lacking (Ok i) = false
lacking (Err (Lacking l)) = true
lacking (Err (PastLimit b)) = false

abbrev pub past_limit : {L : Type 0} → Result Interval (NoPair L) → Bool
past_limit (Ok i) = false
past_limit (Err (Lacking l)) = false
past_limit (Err (PastLimit b)) = true

-- no pair, and that for no neighbour's sake: own tells whether a lack is the tip's own
abbrev pub at_fault : {L : Type 0} → (L → Bool) → Result Interval (NoPair L) → Bool
at_fault own (Ok i) = false
at_fault own (Err (Lacking l)) = own l
at_fault own (Err (PastLimit b)) = true

abbrev pub inside : Standing → Bool
inside Inside = true
inside Outside = false
inside NoDip = false
inside NotCompared = false

abbrev pub outside : Standing → Bool
outside Inside = false
outside Outside = true
outside NoDip = false
outside NotCompared = false

abbrev pub no_dip : Standing → Bool
no_dip Inside = false
no_dip Outside = false
no_dip NoDip = true
no_dip NotCompared = false

abbrev pub not_compared : Standing → Bool
not_compared Inside = false
not_compared Outside = false
not_compared NoDip = false
not_compared NotCompared = true

abbrev pub member : {L : Type 0} → (L → Bool) → Group → Finding L → Bool
member own group.WorkedOut f = worked_out f.outcome
member own group.Lacking f = lacking f.outcome
member own group.PastLimit f = past_limit f.outcome
member own group.AtFault f = at_fault own f.outcome
member own group.Inside f = inside f.standing
member own group.Outside f = outside f.standing
member own group.NoDip f = no_dip f.standing
member own group.NotCompared f = not_compared f.standing
