use Rattle.std.proofs.Common.{◌≡◌, ℕ, ◌+◌, ◌*◌, ◌/◌, ◌%◌, ◌<◌, List, [], length, get_or, pos, Ok, Option, None, Result, vec_items, vec_len, add_assoc, sym, refl, subst, ap, ◌∙◌, inr, arith, rules, below_more}
use Rattle.std.proofs.lemmas.List.{get_or_default}
use Rattle.arithmetic.specs.Values.{Value, Tightly}
use Rattle.cells.specs.declared.cell.Interval.{Interval}
use Rattle.cells.specs.Cells.{cell_value}
use Rattle.cells.specs.Joins.{met}
use Rattle.account.specs.declared.outcome.NoPair.{NoPair}
use Rattle.account.specs.FoundLaws.{found_more}
use Rattle.account.specs.Outcomes.{told, to_tell}
use Rattle.sheet.specs.Memory.{cells_in}
use Rattle.station.specs.declared.total.NoTotal.{NoTotal}
use Rattle.station.specs.declared.total.NoTotal.TheVariants.{TipWithoutPair}
use Rattle.station.specs.declared.line.Junction.{Junction}
use Rattle.station.specs.declared.stop.Stop.{Stop}
use Rattle.station.specs.Boxes.{dam_shape, dip_at}
use Rattle.account.specs.Tallies.{no_calls}
use Rattle.station.specs.Counts.{box_calls, first_calls, of_boxes}
use Rattle.station.specs.Findings.{AllFound, AllTotals, said, box_total, unless_stopped}
use Rattle.station.specs.Lacks.{lack_of}
use Rattle.station.specs.Pressures.{Shown, calibrated, pressure}
use Rattle.station.specs.Stops.{box_stop, stop_row, stopped}
use Rattle.station.proofs.Counts.{boxes_more}
use Rattle.station.proofs.Findings.{found_in_box, found_here, not_stopped, totals_more, total_in_box}
use Rattle.station.proofs.Sheets.{filled_stays}
use Rattle.station.proofs.Soundness.{Laws, shown_tight}
use Rattle.station.proofs.Stops.{row_of_box}
use Rattle.station.proofs.working.findings.Goals as goal

abbrev past : Junction
past = record { readings = []; offsets = []; calibration = []; factors = []; dips = [] }

pub run-came-requires-clause-filled : goal.run-came-requires-clause-filled
run-came-requires-clause-filled c = c.loop-nth.invariant.filled c.loop-nth.nth past (omega arith) (omega (arith, c.loop-nth-test.true))

pub total_of-requires : goal.total_of-requires
total_of-requires c =
    let here : Junction = get_or c.args.dam.now c.loop-nth.nth past in
    let P : Option Stop → Type 0 = λ q. stop_row q < 3 in
    record { number = (c.loop-nth-test.true, subst P (sym c.run-came.ensures.came) (row_of_box here)) }

pub became-outcome-requires : goal.became-outcome-requires
became-outcome-requires c =
    let here : Junction = get_or c.args.dam.now c.loop-nth.nth past in
    let stop : c.err-stop.result ≡ box_stop here = c.err-stop.ensures.value ∙ c.run-came.ensures.came in
    let P : Option Stop → Type 0 = λ q. stop_row q < 3 in
    record { number = (c.loop-nth-test.true, subst P (sym stop) (row_of_box here)) }

pub loop-place-preserved : goal.loop-place-preserved
loop-place-preserved c =
    let dam : List Junction = c.args.dam.now in
    let nth : ℕ = c.loop-nth.nth in
    let place : ℕ = c.loop-place.place in
    let here : Junction = get_or dam nth past in
    let boxes : length dam ≡ 8 = search rules in
    let nine : length here.calibration ≡ 9 = search rules in
    let six : length here.factors ≡ 6 = search rules in
    let laws : Laws = record { of_cells = c.laws_stand.ensures; of_layouts = c.laws_stand-2.ensures; of_calls = c.calls_stand.ensures } in
    let h : place < 3 = c.loop-place-test.true in
    let stop : c.err-stop.result ≡ box_stop here = c.err-stop.ensures.value ∙ c.run-came.ensures.came in
    let pair : Value = cell_value c.pair.result in
    let agreed : Value = cell_value c.agreed-agreed.result in
    let out : told c.became-outcome.result ≡ to_tell (lack_of here.readings place) (unless_stopped (box_stop here) (stopped nth place) (Ok pair)) =
    c.became-outcome.ensures ∙ ap (λ q. to_tell (lack_of here.readings place) (unless_stopped q (stopped nth place) (Ok pair))) stop in
    let posted : box_stop here ≡ None → (pair ≡ pressure here place) × (agreed ≡ met (dip_at here.dips place) (pressure here place)) = λ e.
    let none = c.run-came.ensures.came ∙ e in (
      c.pair.ensures ∙ not_stopped ((row : ℕ) → row < 3 → cells_in dam_shape c.run-came.new.self.cells (nth * 4 + 1) row ≡ pressure here row) c.run-came.result.1 none c.run-came.ensures.pressures place h,
      c.agreed-agreed.ensures ∙ not_stopped ((row : ℕ) → row < 3 → cells_in dam_shape c.run-came.new.self.cells (nth * 4 + 2) row ≡ met (dip_at here.dips row) (pressure here row)) c.run-came.result.1 none c.run-came.ensures.agreed place h,
    ) in
    let found = found_in_box laws nth place here h nine six c.record_at-reading.result c.became-outcome.result pair agreed c.record_at-reading.ensures out posted (3 * nth + place) refl in
    let same : (t : Junction) → get_or dam nth t ≡ here = λ t. get_or_default dam nth t past (omega (arith, boxes, c.loop-nth-test.true)) in
    let pushed = c.in_ok-push-2.ensures in
    let P : ℕ → Type 0 = λ n. AllFound dam n (vec_items c.push-in-loop-place.new.self) in
    record {
      tips_len = omega (arith, pushed.len, c.loop-place.invariant.tips_len);
      tips = subst P (add_assoc (3 * nth) place 1)
          (found_more (λ k j. said (k / 3) (get_or dam (k / 3) j) (k % 3)) (3 * nth + place) (vec_len c.loop-place.tips) (vec_items c.loop-place.tips) (vec_items c.push-in-loop-place.new.self) c.new.result c.loop-place.invariant.tips_len c.loop-place.invariant.tips
          pushed.by_index.0 pushed.by_index.1 (found_here dam nth place here c.new.result h same (rw (c.new.ensures, c.number_of-number.ensures) found)));
      shown = λ some t q. rw (same t) (shown_tight c.laws_stand.ensures c.laws_stand-2.ensures here q nine);
    }

pub loop-nth-preserved : goal.loop-nth-preserved
loop-nth-preserved c =
    let dam : List Junction = c.args.dam.now in
    let nth : ℕ = c.loop-nth.nth in
    let here : Junction = get_or dam nth past in
    let boxes : length dam ≡ 8 = search rules in
    let all : 3 * nth + c.loop-place.place ≡ 3 * (nth + 1) = omega (arith, c.loop-place-test.false, c.loop-place.auto.place-end) in
    let P : ℕ → Type 0 = λ n. AllFound dam n (vec_items c.loop-place.tips) in
    let pushed = c.in_ok-push.ensures in
    let came = c.run-came.result.1 in
    let x : Result Interval (NoPair NoTotal) = c.total_of.result in
    let total : told x ≡ to_tell TipWithoutPair (box_total nth here) = total_in_box nth here came x c.run-came.ensures.came c.run-came.ensures.total c.total_of.ensures in
    let same : (t : Junction) → get_or dam nth t ≡ here = λ t. get_or_default dam nth t past (omega (arith, boxes, c.loop-nth-test.true)) in
    let R : ℕ → Type 0 = λ k. (j : Junction) (place : ℕ) → Tightly (pos 100) (Shown (get_or dam k j) place) (calibrated (get_or dam k j) place) in
    let here_shown : R nth = λ t place. c.loop-place.invariant.shown (omega (arith, c.loop-place-test.false)) t place in
    let shown_before : (k : ℕ) → k < nth → R k = λ k b t place. c.loop-nth.invariant.shown k t place b in
    record {
      tips_len = c.loop-place.invariant.tips_len ∙ all;
      tips = subst P all c.loop-place.invariant.tips;
      totals_len = omega (arith, pushed.len, c.loop-nth.invariant.totals_len);
      totals = totals_more dam nth (vec_len c.loop-nth.totals) (vec_items c.loop-nth.totals) (vec_items c.push.new.self) x c.loop-nth.invariant.totals_len c.loop-nth.invariant.totals pushed.by_index.0 pushed.by_index.1
          (λ t. total ∙ ap (λ j. to_tell TipWithoutPair (box_total nth j)) (sym (same t)));
      calls = c.run-came.ensures.calls ∙ (ap (box_calls here) c.loop-nth.invariant.calls ∙ sym (boxes_more box_calls dam nth here (first_calls dam no_calls) same));
      sheet = c.run-came.ensures.sheet;
      filled = λ k j le lt. filled_stays c.loop-nth.memory.cells c.run-came.new.self.cells (k * 4) (get_or dam k j) (λ i row a b r. c.run-came.ensures.elsewhere i row (inr (omega (arith, le, a))) r)
          (c.loop-nth.invariant.filled k j (omega (arith, le)) lt);
      shown = λ k t place h. below_more R nth shown_before here_shown k h t place;
    }

pub returns : goal.returns
returns c =
    let dam : List Junction = c.args.dam.now in
    let boxes : length dam ≡ 8 = search rules in
    let eight : c.loop-nth.nth ≡ 8 = omega (arith, boxes, c.loop-nth-test.false, c.loop-nth.auto.nth-end) in
    let all : 3 * c.loop-nth.nth ≡ 24 = omega (arith, eight) in
    let P : ℕ → Type 0 = λ n. AllFound dam n (vec_items c.loop-nth.tips) in
    let Q : ℕ → Type 0 = λ n. AllTotals dam n (vec_items c.loop-nth.totals) in (
      c.loop-nth.invariant.tips_len ∙ all,
      c.loop-nth.invariant.totals_len ∙ eight,
      subst P all c.loop-nth.invariant.tips,
      subst Q eight c.loop-nth.invariant.totals,
      c.calls-calls.ensures ∙ (c.loop-nth.invariant.calls ∙ ap (λ n. of_boxes box_calls dam n (first_calls dam no_calls)) eight),
      λ nth j place h. c.loop-nth.invariant.shown nth j place (omega (arith, eight, h)),
    )
