-- What is found of a tip: everything comes from what the records say of that tip, and the pair is as narrow as its bounds in
-- whole steps can be.
use Rattle.std.specs.Prelude.{◌≡◌, ℕ, ◌+◌, ◌<◌, List, ℤ, pos, Ok, Err, Option, Result, slice_index_or}
use Rattle.arithmetic.specs.Sets.{Set}
use Rattle.arithmetic.specs.Values.{Value, Tightly}
use Rattle.cells.specs.declared.cell.Record.{Record}
use Rattle.account.specs.declared.finding.Finding.{Finding}
use Rattle.account.specs.declared.outcome.NoPair.{NoPair}
use Rattle.account.specs.declared.outcome.NoPair.TheVariants.{Lacking, PastLimit}
use Rattle.account.specs.Outcomes.{told, to_tell}
use Rattle.account.specs.Standings.{standing_of}

-- what the records say of a tip: its reading, the cell of its pressure or why none was worked out, the pressures that it can have, when
-- one is worked out and when a cell can hold what is, its dip, and what it lacks if its cell is empty
pub record Said (L : Type 0) : Type 1 where
  pub reading : Record
  pub pressure : Result Value (NoPair L)
  pub pressures : Set
  pub can_be_worked : Type 0
  pub can_be_held : Type 0
  pub dip : Option ℤ
  pub lack : L

-- a cell holds every such pressure, and each bound is less than one step from one of them; an empty one tells that there is no such
-- pressure; none is worked out only where that cannot be, and told as past the limit only where no cell can hold it
abbrev pub Sound : {L : Type 0} → Said L → Result Value (NoPair L) → Type 0
Sound s (Ok v) = Tightly (pos 100) s.pressures v
Sound s (Err (Lacking l)) = s.can_be_worked → ⊥
Sound s (Err (PastLimit b)) = s.can_be_held → ⊥

pub record Found {L : Type 0} (s : Said L) (row : ℕ) (f : Finding L) : Type 0 where
  pub number : f.number ≡ row + 1
  pub reading : f.reading ≡ s.reading
  pub dip : f.dip ≡ s.dip
  pub outcome : told f.outcome ≡ to_tell s.lack s.pressure
  pub sound : Sound s s.pressure
  pub standing : f.standing ≡ standing_of f.outcome s.dip

-- the first n findings are those of the first n tips, in their order; said tells what the tip at a row says, a default beside it
abbrev pub AllFound : {T L : Type 0} → (said : ℕ → T → Said L) → ℕ → List (Finding L) → Type 0
AllFound {T} {L} said n fs = (k : ℕ) (t : T) (f : Finding L) → k < n → Found (said k t) k (slice_index_or fs k f)
