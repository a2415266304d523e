use Rattle.std.proofs.Common.{◌≡◌, ◌+◌, length, sym, ap, ◌∙◌, rules, arith}
use Rattle.layouts.specs.declared.side.Side.TheVariants.{Lower}
use Rattle.layouts.specs.Matrix.{Sound}
use Rattle.layouts.specs.Orders.{rows_in_order, first_zero}
use Rattle.sheet.specs.declared.refusal.CallName.TheVariants.{Solve}
use Rattle.sheet.specs.Calls.{Call, solve}
use Rattle.sheet.specs.Checks.{refused}
use Rattle.sheet.specs.Memory.{cells_in}
use Rattle.sheet.specs.NewColumns.{new_column}
use Rattle.station.specs.Boxes.{dam_shape}
use Rattle.station.specs.Pressures.{factors, pressure}
use Rattle.station.specs.Stops.{first_past, stops_at_bound, stops_at_zero, or_else}
use Rattle.station.proofs.Calls.{came_granted, came_refused, came_for, call_drafted, row_drafted, at_zero_granted, at_zero_divisor, at_zero_bound, only_these}
use Rattle.station.proofs.Columns.{one, factors_meaning, solved_column, solved_answer}
use Rattle.station.proofs.Soundness.{Laws, pressure_ordered}
use Rattle.station.proofs.Stops.{all_cells, none_zero}
use Rattle.station.proofs.job.Memory.take_out_neighbours.Goals as goal

pub unreachable-requires : goal.unreachable-requires
unreachable-requires c =
    let a = c.args in
    let m = a.self.now in
    let j = a.junction.now in
    let size : length m.cells ≡ 96 = search rules in
    let draft_size : length m.draft ≡ 3 = search rules in
    let six : length j.factors ≡ 6 = search rules in
    let came = sym c.answered.ensures.answer ∙ c.in-Err.is in
    let s : Sound (factors j) = c.solve-answer.ensures.sound in
    let calls = c.solve-answer.ensures.calls in
    let result = c.solve-answer.result in
    let zero = first_zero (factors j) (rows_in_order Lower 3) in
    let call : Call = solve (a.first + 1) Lower (factors_meaning j s) one in
    let answer = solved_answer c.calls_stand.ensures j s m.cells (a.first + 1) six c.requires.shown a.sheet.shape m.draft c.requires.sheet (omega (arith, c.requires.place)) size draft_size in
    let told = came_refused a.sheet.shape call m.cells m.draft c.solve-answer.new.draft result c.in-Err.field-0 calls came in
    only_these Solve (a.first + 1) zero (first_past (pressure j)) c.in-Err.field-0.refusal (sym answer ∙ told) c.in_default.not-DivisorHoldsZero c.in_default.not-BeyondLimit

pub returns-in-Ok-clause-came : goal.returns-in-Ok-clause-came
returns-in-Ok-clause-came c =
    let a = c.args in
    let m = a.self.now in
    let j = a.junction.now in
    let size : length m.cells ≡ 96 = search rules in
    let draft_size : length m.draft ≡ 3 = search rules in
    let six : length j.factors ≡ 6 = search rules in
    let came = sym c.answered.ensures.answer ∙ c.in-Ok.is in
    let s : Sound (factors j) = c.solve-answer.ensures.sound in
    let calls = c.solve-answer.ensures.calls in
    let result = c.solve-answer.result in
    let zero = first_zero (factors j) (rows_in_order Lower 3) in
    let call : Call = solve (a.first + 1) Lower (factors_meaning j s) one in
    let answer = solved_answer c.calls_stand.ensures j s m.cells (a.first + 1) six c.requires.shown a.sheet.shape m.draft c.requires.sheet (omega (arith, c.requires.place)) size draft_size in
    let told = came_granted a.sheet.shape call m.cells m.draft c.solve-answer.new.draft result c.in-Ok.sheet calls came in
    let none = at_zero_granted Solve (a.first + 1) zero (first_past (pressure j)) (sym answer ∙ told) in
    sym (ap (λ z. or_else (stops_at_zero z) (stops_at_bound (first_past (pressure j)))) none.0 ∙ ap stops_at_bound none.1)

pub returns-in-Ok-clause-there : goal.returns-in-Ok-clause-there
returns-in-Ok-clause-there c =
    let a = c.args in
    let m = a.self.now in
    let j = a.junction.now in
    let size : length m.cells ≡ 96 = search rules in
    let draft_size : length m.draft ≡ 3 = search rules in
    let six : length j.factors ≡ 6 = search rules in
    let came = sym c.answered.ensures.answer ∙ c.in-Ok.is in
    let s : Sound (factors j) = c.solve-answer.ensures.sound in
    let calls = c.solve-answer.ensures.calls in
    let result = c.solve-answer.result in
    let zero = first_zero (factors j) (rows_in_order Lower 3) in
    let call : Call = solve (a.first + 1) Lower (factors_meaning j s) one in
    let answer = solved_answer c.calls_stand.ensures j s m.cells (a.first + 1) six c.requires.shown a.sheet.shape m.draft c.requires.sheet (omega (arith, c.requires.place)) size draft_size in
    let told = came_granted a.sheet.shape call m.cells m.draft c.solve-answer.new.draft result c.in-Ok.sheet calls came in
    let none = at_zero_granted Solve (a.first + 1) zero (first_past (pressure j)) (sym answer ∙ told) in
    let laws : Laws = record { of_cells = c.laws_stand.ensures; of_layouts = c.laws_stand-2.ensures; of_calls = c.calls_stand.ensures } in
    let nine : length j.calibration ≡ 9 = search rules in
    let cells = all_cells c.laws_stand.ensures (pressure j) (pressure_ordered laws j nine six (none_zero (factors j) none.0)) none.1 in
    let drafted = call_drafted a.sheet.shape call m.cells m.draft c.solve-answer.new.draft c.requires.sheet told calls.leaves_draft in
    let k : c.in-Ok.sheet.column ≡ a.first + 1 = came_for a.sheet.shape call m.cells m.draft c.solve-answer.new.draft result c.in-Ok.sheet calls came in
    λ row h. rw k at (c.post.ensures.there row h)
    ∙ row_drafted (new_column dam_shape call (cells_in dam_shape m.cells)) (pressure j) c.solve-answer.new.draft row drafted h
    (solved_column c.calls_stand.ensures j s m.cells (a.first + 1) six c.requires.shown row h) (cells row h)

pub returns-in-DivisorHoldsZero-clause-came : goal.returns-in-DivisorHoldsZero-clause-came
returns-in-DivisorHoldsZero-clause-came c =
    let a = c.args in
    let m = a.self.now in
    let j = a.junction.now in
    let size : length m.cells ≡ 96 = search rules in
    let draft_size : length m.draft ≡ 3 = search rules in
    let six : length j.factors ≡ 6 = search rules in
    let came = sym c.answered.ensures.answer ∙ c.in-Err.is in
    let s : Sound (factors j) = c.solve-answer.ensures.sound in
    let calls = c.solve-answer.ensures.calls in
    let result = c.solve-answer.result in
    let zero = first_zero (factors j) (rows_in_order Lower 3) in
    let call : Call = solve (a.first + 1) Lower (factors_meaning j s) one in
    let answer = solved_answer c.calls_stand.ensures j s m.cells (a.first + 1) six c.requires.shown a.sheet.shape m.draft c.requires.sheet (omega (arith, c.requires.place)) size draft_size in
    let told = came_refused a.sheet.shape call m.cells m.draft c.solve-answer.new.draft result c.in-Err.field-0 calls came in
    let d = c.in-DivisorHoldsZero in
    let some = at_zero_divisor Solve (a.first + 1) d.column d.row zero (first_past (pressure j)) (sym answer ∙ (told ∙ ap refused d.is)) in
    sym (ap (λ z. or_else (stops_at_zero z) (stops_at_bound (first_past (pressure j)))) some)

pub returns-in-BeyondLimit-clause-came : goal.returns-in-BeyondLimit-clause-came
returns-in-BeyondLimit-clause-came c =
    let a = c.args in
    let m = a.self.now in
    let j = a.junction.now in
    let size : length m.cells ≡ 96 = search rules in
    let draft_size : length m.draft ≡ 3 = search rules in
    let six : length j.factors ≡ 6 = search rules in
    let came = sym c.answered.ensures.answer ∙ c.in-Err.is in
    let s : Sound (factors j) = c.solve-answer.ensures.sound in
    let calls = c.solve-answer.ensures.calls in
    let result = c.solve-answer.result in
    let zero = first_zero (factors j) (rows_in_order Lower 3) in
    let call : Call = solve (a.first + 1) Lower (factors_meaning j s) one in
    let answer = solved_answer c.calls_stand.ensures j s m.cells (a.first + 1) six c.requires.shown a.sheet.shape m.draft c.requires.sheet (omega (arith, c.requires.place)) size draft_size in
    let told = came_refused a.sheet.shape call m.cells m.draft c.solve-answer.new.draft result c.in-Err.field-0 calls came in
    let some = at_zero_bound Solve (a.first + 1) zero (first_past (pressure j)) c.in-BeyondLimit.fault (sym answer ∙ (told ∙ ap refused c.in-BeyondLimit.is)) in
    sym (ap (λ z. or_else (stops_at_zero z) (stops_at_bound (first_past (pressure j)))) some.0 ∙ ap stops_at_bound some.1)
