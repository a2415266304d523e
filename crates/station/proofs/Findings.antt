-- The finding of the tip at a place of a box, and the total of a box, are what the records of the box say. Assumes the laws of cells, of
-- layouts and of the sheet's calls.
use Rattle.std.proofs.Common.{◌≡◌, ℕ, ◌+◌, ◌*◌, ◌/◌, ◌%◌, ◌<◌, true, false, List, length, get_or, ℤ, Some, None, Ok, Err, Option, Result, sym, refl, ap, subst, ◌∙◌, arith, below_more}
use Rattle.std.proofs.lemmas.Bool.{cond_both}
use Rattle.std.proofs.lemmas.Bool.Decides.{nat_tests}
use Rattle.std.specs.Prelude.{IfOk, MatchResult, ◌==◌}
use Rattle.std.specs.Result.{result_err}
use Rattle.arithmetic.specs.Values.{Value, empty, bounds}
use Rattle.cells.specs.declared.cell.Interval.{Interval}
use Rattle.cells.specs.declared.cell.Record.{Record}
use Rattle.cells.specs.Cells.{blank}
use Rattle.cells.specs.Faults.{kept}
use Rattle.cells.specs.Formulas.{sum_cell}
use Rattle.cells.specs.Joins.{met}
use Rattle.cells.specs.Quotients.{zero_in}
use Rattle.layouts.specs.declared.side.Side.TheVariants.{Lower}
use Rattle.layouts.specs.Orders.{rows_in_order, first_zero}
use Rattle.account.specs.declared.finding.Finding.{Finding}
use Rattle.account.specs.declared.outcome.NoPair.{NoPair}
use Rattle.account.specs.declared.outcome.NoPair.TheVariants.{Lacking, PastLimit}
use Rattle.account.specs.Findings.{Sound, Found}
use Rattle.account.specs.FoundLaws.{standing_met}
use Rattle.account.specs.Outcomes.{told, to_tell, within_limit, pair_value}
use Rattle.account.specs.Standings.{standing_of, dip_value, standing_by}
use Rattle.station.specs.declared.total.NoTotal.{NoTotal}
use Rattle.station.specs.declared.total.NoTotal.TheVariants.{TipWithoutPair}
use Rattle.station.specs.declared.lack.Lack.{Lack}
use Rattle.station.specs.declared.lack.Lack.TheVariants.{NeighbourPastLimit}
use Rattle.station.specs.declared.line.Junction.{Junction}
use Rattle.station.specs.declared.stop.Stop.{Stop}
use Rattle.station.specs.declared.stop.Stop.TheVariants as stop
use Rattle.station.specs.Boxes.{dip_at}
use Rattle.station.specs.Findings.{CanBeWorked, unless_stopped, said, box_total, AllTotals}
use Rattle.station.specs.Lacks.{lack_of}
use Rattle.station.specs.Pressures.{calibrated, factors, pressure}
use Rattle.station.specs.Stops.{first_past, stops_at_bound, stops_at_zero, solve_stop, box_stop, number_of, stopped}
use Rattle.station.specs.Totals.{no_total}
use Rattle.station.proofs.Soundness.{Laws, pressure_tight}
use Rattle.station.proofs.Stops.{or_else_none, none_past, none_zero, no_zeros, zero_none, not_held}

-- the pair that is told of a tip is the one that was worked out
pub told_pair : {L : Type 0} (lack : L) (o : Result Interval (NoPair L)) (v : Value) → told o ≡ to_tell lack (Ok v) → pair_value o ≡ v
told_pair lack (Ok i) empty e = cc
told_pair lack (Ok i) (bounds a b) e = cc
told_pair lack (Err n) empty e = refl
told_pair lack (Err n) (bounds a b) e = cc

-- the dip of a tip that has none is not compared
without_pair : {L : Type 0} (o : Result Interval (NoPair L)) (n : NoPair L) (dip : Option ℤ) (agreed : Value) → told o ≡ Err n → standing_by o dip agreed ≡ standing_of o dip
without_pair (Ok i) n dip agreed e = cc
without_pair (Err m) n None agreed e = refl
without_pair (Err m) n (Some d) agreed e = refl

-- a box that can be worked is not stopped
worked_out : (laws : Laws) (j : Junction) → CanBeWorked j → box_stop j ≡ None
worked_out laws j can =
    let shown = none_past laws.of_cells (calibrated j) (λ row h. (can row h).0) in
    let zeros = no_zeros (factors j) (λ row h. (can row h).1) in
    let pressures = none_past laws.of_cells (pressure j) (λ row h. (can row h).2) in
    rw (shown, zeros, pressures) refl

some_none : (s : Stop) → ◌≡◌ {A = Option Stop} (Some s) None → ⊥
some_none s e = cc

-- in a box that is not stopped, no factor on the diagonal holds 0
apart : (j : Junction) → box_stop j ≡ None → (row : ℕ) → row < 3 → zero_in ((factors j).entry row row) ≡ false
apart j e =
    let solved : solve_stop j ≡ None = (or_else_none (stops_at_bound (first_past (calibrated j))) (solve_stop j) e).1 in
    let zero = (or_else_none (stops_at_zero (first_zero (factors j) (rows_in_order Lower 3))) (stops_at_bound (first_past (pressure j))) solved).0 in
    none_zero (factors j) (zero_none (first_zero (factors j) (rows_in_order Lower 3)) zero)

-- what is found in the box itself
module _ (laws : Laws) (nth place : ℕ) (here : Junction) (h : place < 3) (nine : length here.calibration ≡ 9) (six : length here.factors ≡ 6) (reading : Record) (o : Result Interval (NoPair Lack)) (pair agreed : Value)
    (own : reading ≡ get_or here.readings place blank) (out : told o ≡ to_tell (lack_of here.readings place) (unless_stopped (box_stop here) (stopped nth place) (Ok pair)))
    (posted : box_stop here ≡ None → (pair ≡ pressure here place) × (agreed ≡ met (dip_at here.dips place) (pressure here place))) where
  abbrev pub dip : Option ℤ
  dip = get_or here.dips place None

  outcome_by : (q : Option Stop) → box_stop here ≡ q → told o ≡ to_tell (lack_of here.readings place) (unless_stopped (box_stop here) (stopped nth place) (Ok (pressure here place)))
  outcome_by None e = out ∙ ap (λ v. to_tell (lack_of here.readings place) (unless_stopped (box_stop here) (stopped nth place) (Ok v))) (posted e).0
  outcome_by (Some s) e = out ∙ ap (λ q. to_tell (lack_of here.readings place) (unless_stopped q (stopped nth place) (Ok pair))) e ∙ sym (ap (λ q. to_tell (lack_of here.readings place) (unless_stopped q (stopped nth place) (Ok (pressure here place)))) e)

  sound_by : (q : Option Stop) → box_stop here ≡ q → Sound (said nth here place) (unless_stopped (box_stop here) (stopped nth place) (Ok (pressure here place)))
  sound_by q e =
      let P : Option Stop → Type 0 = λ r. Sound (said nth here place) (unless_stopped r (stopped nth place) (Ok (pressure here place))) in
      subst P (sym e) (go q e)
    where
      go : (r : Option Stop) → box_stop here ≡ r → Sound (said nth here place) (unless_stopped r (stopped nth place) (Ok (pressure here place)))
      go None e = pressure_tight laws here nine six (apart here e) place h
      go (Some (stop.OverZero row)) e = λ can. some_none (stop.OverZero row) (sym e ∙ worked_out laws here can)
      go (Some (stop.BeyondLimit f)) e =
          let P : NoPair Lack → Type 0 = λ n. Sound (said nth here place) (Err n) in
          cond_both (place == f.row) (PastLimit f.rounding.bound) (Lacking (NeighbourPastLimit (number_of nth f.row))) P
          (λ t held. let same : place ≡ f.row = grind (arith, nat_tests) in not_held laws.of_cells here f e (rw same at held))
          (λ t can. some_none (stop.BeyondLimit f) (sym e ∙ worked_out laws here can))

  standing_so : (q : Option Stop) → box_stop here ≡ q → standing_by o dip agreed ≡ standing_of o dip
  standing_so None e =
      let tells : told o ≡ to_tell (lack_of here.readings place) (Ok pair) = out ∙ ap (λ q. to_tell (lack_of here.readings place) (unless_stopped q (stopped nth place) (Ok pair))) e in
      let same : pressure here place ≡ pair_value o = sym (told_pair (lack_of here.readings place) o pair tells ∙ (posted e).0) in
      ap (standing_by o dip) ((posted e).1 ∙ ap (met (dip_value dip)) same) ∙ standing_met o dip
  standing_so (Some s) e =
      without_pair o (stopped nth place s) dip agreed (out ∙ ap (λ q. to_tell (lack_of here.readings place) (unless_stopped q (stopped nth place) (Ok pair))) e)

  pub found_in_box : (row : ℕ) → row ≡ 3 * nth + place → Found (said nth here place) row (record { number = 3 * nth + place + 1; reading = reading; dip = dip; outcome = o; standing = standing_by o dip agreed })
  found_in_box row e = record {
    number = ap (λ (n : ℕ). n + 1) (sym e);
    reading = own;
    dip = refl;
    outcome = outcome_by (box_stop here) refl;
    sound = sound_by (box_stop here) refl;
    standing = standing_so (box_stop here) refl;
  }

-- and at its row of the dam
pub found_here : (dam : List Junction) (nth place : ℕ) (here : Junction) (x : Finding Lack) → place < 3 → ((t : Junction) → get_or dam nth t ≡ here) → Found (said nth here place) (3 * nth + place) x
    → (t : Junction) → Found (said ((3 * nth + place) / 3) (get_or dam ((3 * nth + place) / 3) t) ((3 * nth + place) % 3)) (3 * nth + place) x
found_here dam nth place here x h same found t =
    let box : (3 * nth + place) / 3 ≡ nth = omega arith in
    let tip : (3 * nth + place) % 3 ≡ place = omega arith in
    rw (box, tip, same t) found

-- a job that was not stopped answers a total, so what it promises of a total stands
pub not_stopped : {T E : Type 0} (P : Type 0) (came : Result T E) → result_err came ≡ None → IfOk came (λ t. P) → P
not_stopped P (Ok t) e p = p
not_stopped P (Err s) e p = cc

-- one more total in the list: x is pushed behind the m totals of the first boxes
pub totals_more : (dam : List Junction) (n m : ℕ) (before after : List (Result Interval (NoPair NoTotal))) (x : Result Interval (NoPair NoTotal)) → m ≡ n → AllTotals dam n before
    → ((k : ℕ) (t : Result Interval (NoPair NoTotal)) → k < m → get_or after k t ≡ get_or before k t) → ((t : Result Interval (NoPair NoTotal)) → true ≡ true → get_or after m t ≡ x)
    → ((j : Junction) → told x ≡ to_tell TipWithoutPair (box_total n (get_or dam n j))) → AllTotals dam (n + 1) after
totals_more dam n m before after x e sofar same last new k j t h =
    let P : ℕ → Type 0 = λ k. (j : Junction) (t : Result Interval (NoPair NoTotal)) → told (get_or after k t) ≡ to_tell TipWithoutPair (box_total k (get_or dam k j)) in
    let below : (k : ℕ) → k < n → P k = λ k b j t. let u : k < m = omega arith in rw (same k t u) (sofar k j t b) in
    let here : P n = λ j t. let f : get_or after n t ≡ x = ap (λ (i : ℕ). get_or after i t) (sym e) ∙ last t refl in rw f (new j) in
    below_more P n below here k h j t

-- the total of a box, by what its job answers
pub total_in_box : (nth : ℕ) (here : Junction) (came : Result (Result Interval (NoPair NoTotal)) Stop) (x : Result Interval (NoPair NoTotal)) → result_err came ≡ box_stop here
    → IfOk came (λ t. told t ≡ to_tell TipWithoutPair (within_limit (kept (sum_cell (pressure here) 3)))) → MatchResult came (λ t. x ≡ t) (λ s. x ≡ Err (Lacking (no_total nth s)))
    → told x ≡ to_tell TipWithoutPair (box_total nth here)
total_in_box nth here (Ok t) x stop total same =
    ap told same ∙ total ∙ ap (λ q. to_tell TipWithoutPair (unless_stopped q (λ s. Lacking (no_total nth s)) (within_limit (kept (sum_cell (pressure here) 3))))) stop
total_in_box nth here (Err s) x stop total same =
    ap told same ∙ ap (λ q. to_tell TipWithoutPair (unless_stopped q (λ s. Lacking (no_total nth s)) (within_limit (kept (sum_cell (pressure here) 3))))) stop
