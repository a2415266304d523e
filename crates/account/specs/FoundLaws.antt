-- How findings come about: where a dip stands by what it has in common with its pair, and one more finding in the list.
-- Proofs, and here, because a crate above that cites them may not cite the proofs/ of a part below.
use Rattle.std.proofs.Common.{◌≡◌, ℕ, ◌+◌, ◌<◌, Bool, true, false, cond, not, ◌&&◌, List, get_or, ℤ, ◌≤ℤ◌, Some, None, Option, Ok, Err, Result, sym, refl, ap, ◌∙◌, arith, below_more}
use Rattle.std.specs.Prelude.{int_le, int_lt}
use Rattle.std.specs.Int.{int_min, int_max}
use Rattle.std.proofs.lemmas.Int.{int_max_is, int_min_is}
use borrow.Author.Differences.{ints}
use Rattle.arithmetic.specs.Values.{Value, empty, bounds, Ordered}
use Rattle.rounding.specs.Limit.{lowest, highest}
use Rattle.cells.specs.declared.cell.Interval.{Interval}
use Rattle.cells.specs.declared.cell.Record.{Record}
use Rattle.cells.specs.Cells.{IsCell, broken, read_as}
use Rattle.cells.specs.Joins.{met}
use Rattle.cells.specs.Laws.{Laws}
use Rattle.account.specs.declared.finding.Finding.{Finding}
use Rattle.account.specs.declared.outcome.NoPair.{NoPair}
use Rattle.account.specs.Findings.{Said, Found, AllFound}
use Rattle.account.specs.Outcomes.{pair_value}
use Rattle.account.specs.declared.standing.Standing.TheVariants.{Inside, Outside}
use Rattle.account.specs.Standings.{standing_of, dip_value, standing_by}

ordered : (c : Value) → IsCell c → Ordered c
ordered empty g = tt
ordered (bounds a b) g = g.1

pub read_ordered : (laws : Laws) (r : Record) → Ordered (read_as r)
read_ordered laws r = ordered (read_as r) (laws.read_cell r)

-- x is pushed behind the m findings of the first rows
pub found_more : {T L : Type 0} (said : ℕ → T → Said L) (row m : ℕ) (before after : List (Finding L)) (x : Finding L) → m ≡ row → AllFound said row before
    → ((k : ℕ) (f : Finding L) → k < m → get_or after k f ≡ get_or before k f) → ((f : Finding L) → true ≡ true → get_or after m f ≡ x) → ((t : T) → Found (said row t) row x)
    → AllFound said (row + 1) after
found_more {T} {L} said row m before after x n sofar same last new k t f h =
    let P : ℕ → Type 0 = λ k. (t : T) (f : Finding L) → Found (said k t) k (get_or after k f) in
    let below : (k : ℕ) → k < row → P k = λ k b t f. let u : k < m = omega arith in rw (same k f u) (sofar k t f b) in
    let here : P row = λ t f. let e : get_or after row f ≡ x = ap (λ (i : ℕ). get_or after i f) (sym n) ∙ last f refl in rw e (new t) in
    below_more P row below here k h t f

-- ---- a dip stands inside exactly where its cell and its pair have something in common

-- a dip beyond the limit lies in no pair, whose bounds are within it
far : (a b d : ℤ) → lowest ≤ℤ a → b ≤ℤ highest → broken d d ≡ true → int_le a d && int_le d b ≡ false
far a b d l h e = grind (arith, ints)

-- d lies from a to b exactly where the two meet
near : (a b d : ℤ) → a ≤ℤ b → int_le a d && int_le d b ≡ not (int_lt (int_min d b) (int_max d a))
near a b d o = grind (arith, ints, int_max_is, int_min_is)

pub standing_met : {L : Type 0} (o : Result Interval (NoPair L)) (dip : Option ℤ) → standing_by o dip (met (dip_value dip) (pair_value o)) ≡ standing_of o dip
standing_met (Ok i) None = refl
standing_met (Err n) None = refl
standing_met (Err n) (Some d) = refl
standing_met {L} (Ok i) (Some d) = go (broken d d) refl
  where
    by_order : (a b : ℤ) (t : Bool) → standing_by {L = L} (Ok i) (Some d) (cond t empty (bounds a b)) ≡ cond (not t) Inside Outside
    by_order a b true = refl
    by_order a b false = refl

    go : (t : Bool) → broken d d ≡ t → standing_by {L = L} (Ok i) (Some d) (met (cond t empty (bounds d d)) (bounds i.lower i.upper)) ≡ cond (int_le i.lower d && int_le d i.upper) Inside Outside
    go true e = rw (far i.lower i.upper d i.low i.high e) refl
    go false e =
        by_order (int_max d i.lower) (int_min d i.upper) (int_lt (int_min d i.upper) (int_max d i.lower))
        ∙ ap (λ (t : Bool). cond t Inside Outside) (sym (near i.lower i.upper d i.order))
