use Rattle.std.proofs.Common.{◌≡◌, ℕ, ◌+◌, ◌<◌, length, pos, sym, ap, ◌∙◌, rules, arith}
use Rattle.std.proofs.lemmas.List.{get_or_default}
use Rattle.cells.specs.Cells.{blank, cell_value, read_as, cell_at}
use Rattle.sheet.specs.Memory.{cells_in}
use Rattle.station.specs.Boxes.{dam_shape, dip_at}
use Rattle.station.specs.Counts.{set_call, tips_sets}
use Rattle.station.proofs.Counts.{sets_same, tips_more}
use Rattle.station.proofs.Sheets.{apart, all_set, one_more}
use Rattle.station.proofs.job.Memory.fill_box.Goals as goal

pub loop-row-preserved : goal.loop-row-preserved
loop-row-preserved c =
    let row : ℕ = c.loop-row.row in
    let f : ℕ = c.args.first in
    let j = c.args.junction.now in
    let before = c.loop-row.self.cells in
    let after = c.set-in-loop-row-2.new.self.cells in
    let one = c.set.ensures in
    let two = c.set-in-loop-row.ensures in
    let three = c.set-in-loop-row-2.ensures in
    let here : row < 3 = omega (arith, c.loop-row-test.true) in
    let readings_size : length j.readings ≡ 3 = search rules in
    let offsets_size : length j.offsets ≡ 3 = search rules in
    let reading = ap read_as (get_or_default j.readings row (record { lower = pos 0; upper = pos 0 }) blank (omega (arith, here, readings_size))) in
    let offset = ap read_as (get_or_default j.offsets row (record { lower = pos 0; upper = pos 0 }) blank (omega (arith, here, offsets_size))) in
    record {
      readings = one_more row (cell_at j.readings) (cells_in dam_shape before (f + 0)) (cells_in dam_shape after (f + 0)) c.loop-row.invariant.readings
          (three.elsewhere (f + 0) row here (λ p. omega (arith, p.0)) ∙ (two.elsewhere (f + 0) row here (λ p. omega (arith, p.0)) ∙ (one.there ∙ (c.read-reading.ensures ∙ reading))))
          (λ i h other. three.elsewhere (f + 0) i h (λ p. other p.1) ∙ (two.elsewhere (f + 0) i h (λ p. other p.1) ∙ one.elsewhere (f + 0) i h (λ p. other p.1)));
      offsets = one_more row (cell_at j.offsets) (cells_in dam_shape before (f + 1)) (cells_in dam_shape after (f + 1)) c.loop-row.invariant.offsets
          (three.elsewhere (f + 1) row here (λ p. omega (arith, p.0)) ∙ (two.there ∙ (c.read-offset.ensures ∙ offset)))
          (λ i h other. three.elsewhere (f + 1) i h (λ p. other p.1) ∙ (two.elsewhere (f + 1) i h (λ p. other p.1) ∙ one.elsewhere (f + 1) i h (λ p. other p.1)));
      dips = one_more row (dip_at j.dips) (cells_in dam_shape before (f + 2)) (cells_in dam_shape after (f + 2)) c.loop-row.invariant.dips
          (three.there ∙ c.dip_cell-dip.ensures)
          (λ i h other. three.elsewhere (f + 2) i h (λ p. other p.1) ∙ (two.elsewhere (f + 2) i h (λ p. other p.1) ∙ one.elsewhere (f + 2) i h (λ p. other p.1)));
      elsewhere = λ k i out h. three.elsewhere k i h (λ p. apart f 2 k (omega arith) out p.0)
          ∙ (two.elsewhere k i h (λ p. apart f 1 k (omega arith) out p.0) ∙ (one.elsewhere k i h (λ p. apart f 0 k (omega arith) out p.0) ∙ c.loop-row.invariant.elsewhere k i out h));
      calls = three.calls ∙ (ap (set_call (cell_value c.dip_cell-dip.result)) (two.calls ∙ (ap (set_call (cell_value c.read-offset.result)) (one.calls ∙ ap (set_call (cell_value c.read-reading.result)) c.loop-row.invariant.calls)))
          ∙ sets_same (cell_value c.read-reading.result) (cell_value c.read-offset.result) (cell_value c.dip_cell-dip.result) j row (tips_sets j row c.args.self.now.calls) (c.read-reading.ensures ∙ reading) (c.read-offset.ensures ∙ offset) c.dip_cell-dip.ensures
          ∙ sym (tips_more j row c.args.self.now.calls));
    }

pub returns-clause-filled : goal.returns-clause-filled
returns-clause-filled c =
    let three : c.loop-row.row ≡ 3 = omega (arith, c.loop-row-test.false, c.loop-row.auto.row-end) in
    let j = c.args.junction.now in
    let first : c.args.first + 0 ≡ c.args.first = omega arith in
    record {
      readings = λ row h. ap (λ k. cells_in dam_shape c.loop-row.self.cells k row) (sym first) ∙ (rw three at (c.loop-row.invariant.readings row h) ∙ all_set row (cell_at j.readings row) h);
      offsets = λ row h. rw three at (c.loop-row.invariant.offsets row h) ∙ all_set row (cell_at j.offsets row) h;
      dips = λ row h. rw three at (c.loop-row.invariant.dips row h) ∙ all_set row (dip_at j.dips row) h;
    }

pub returns-clause-calls : goal.returns-clause-calls
returns-clause-calls c = let three : c.loop-row.row ≡ 3 = omega (arith, c.loop-row-test.false, c.loop-row.auto.row-end) in c.loop-row.invariant.calls ∙ ap (λ n. tips_sets c.args.junction.now n c.args.self.now.calls) three
