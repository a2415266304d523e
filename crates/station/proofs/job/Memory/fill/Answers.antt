use Rattle.std.proofs.Common.{◌≡◌, ℕ, ◌*◌, ◌<◌, List, [], length, get_or, inl, inr, ap, sym, subst, ◌∙◌, rules, arith, below_more}
use Rattle.std.proofs.lemmas.List.{get_or_default}
use Rattle.station.specs.declared.line.Junction.{Junction}
use Rattle.station.specs.Boxes.{Filled}
use Rattle.station.specs.Counts.{box_sets, of_boxes}
use Rattle.station.proofs.Counts.{boxes_more}
use Rattle.station.proofs.Sheets.{filled_stays}
use Rattle.station.proofs.job.Memory.fill.Goals as goal

abbrev past : Junction
past = record { readings = []; offsets = []; calibration = []; factors = []; dips = [] }

pub loop-nth-preserved : goal.loop-nth-preserved
loop-nth-preserved c =
    let dam : List Junction = c.args.dam.now in
    let nth : ℕ = c.loop-nth.nth in
    let before = c.loop-nth.self.cells in
    let after = c.fill_box.new.self.cells in
    let boxes : length dam ≡ 8 = search rules in
    let P : ℕ → Type 0 = λ k. (j : Junction) → Filled after (k * 4) (get_or dam k j) in
    let below : (k : ℕ) → k < nth → P k =
    λ k b j. filled_stays before after (k * 4) (get_or dam k j) (λ i row h g r. c.fill_box.ensures.elsewhere i row (inl (omega (arith, b, g))) r) (c.loop-nth.invariant.filled k j b) in
    let here : P nth = λ j.
    let Q : Junction → Type 0 = λ b. Filled after (nth * 4) b in
    subst Q (sym (get_or_default dam nth j past (omega (arith, boxes, c.loop-nth-test.true)))) c.fill_box.ensures.filled in
    record {
      filled = λ k j h. below_more P nth below here k h j;
      unset = λ i row h g r. c.fill_box.ensures.elsewhere i row (inr (omega (arith, h))) r ∙ c.loop-nth.invariant.unset i row (omega (arith, h)) g r;
      calls = c.fill_box.ensures.calls ∙ (ap (box_sets (get_or dam nth past)) c.loop-nth.invariant.calls
          ∙ sym (boxes_more box_sets dam nth (get_or dam nth past) c.args.self.now.calls (λ j. get_or_default dam nth j past (omega (arith, boxes, c.loop-nth-test.true)))));
    }

pub returns-clause-calls : goal.returns-clause-calls
returns-clause-calls c =
    let boxes : length c.args.dam.now ≡ 8 = search rules in
    let eight : c.loop-nth.nth ≡ 8 = omega (arith, boxes, c.loop-nth-test.false, c.loop-nth.auto.nth-end) in
    c.loop-nth.invariant.calls ∙ ap (λ n. of_boxes box_sets c.args.dam.now n c.args.self.now.calls) eight
