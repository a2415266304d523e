use Rattle.std.proofs.Common.{◌≡◌, ℕ, ◌+◌, ◌<◌, length, sym, ap, ◌∙◌, rules, arith}
use Rattle.cells.specs.Cells.{cell_at}
use Rattle.layouts.specs.Matrix.{Sound}
use Rattle.sheet.specs.declared.refusal.CallName.TheVariants.{Product}
use Rattle.sheet.specs.Calls.{Call, product}
use Rattle.sheet.specs.Checks.{refused}
use Rattle.sheet.specs.Memory.{cells_in}
use Rattle.sheet.specs.NewColumns.{new_column}
use Rattle.station.specs.Boxes.{dam_shape}
use Rattle.station.specs.Pressures.{calibration, calibrated}
use Rattle.station.specs.Stops.{first_past, stops_at_bound}
use Rattle.station.proofs.Calls.{came_granted, came_refused, came_for, call_drafted, row_drafted, within_bounds, past_bound, only_bounds}
use Rattle.station.proofs.Columns.{one, calibration_meaning, shown_column, shown_answer}
use Rattle.station.proofs.Soundness.{shown_ordered}
use Rattle.station.proofs.Stops.{all_cells}
use Rattle.station.proofs.job.Memory.calibrate.Goals as goal

pub unreachable-requires : goal.unreachable-requires
unreachable-requires c =
    let a = c.args in
    let m = a.self.now in
    let j = a.junction.now in
    let size : length m.cells ≡ 96 = search rules in
    let draft_size : length m.draft ≡ 3 = search rules in
    let nine : length j.calibration ≡ 9 = search rules in
    let came = sym c.answered.ensures.answer ∙ c.in-Err.is in
    let s : Sound (calibration j) = c.product-answer.ensures.sound in
    let x : a.first + 0 ≡ a.first = omega arith in
    let call : Call = product (a.first + 1) (a.first + 0) (calibration_meaning j s) one one in
    let answer = shown_answer j s m.cells (a.first + 1) (a.first + 0) nine c.requires.filled.offsets (λ row h. ap (λ k. cells_in dam_shape m.cells k row) x ∙ c.requires.filled.readings row h)
    a.sheet.shape m.draft c.requires.sheet (omega (arith, c.requires.place)) (omega (arith, c.requires.place)) size draft_size in
    let told = came_refused a.sheet.shape call m.cells m.draft c.product-answer.new.draft c.product-answer.result c.in-Err.field-0 c.product-answer.ensures.calls came in
    only_bounds Product (a.first + 1) (first_past (calibrated j)) c.in-Err.field-0.refusal (sym answer ∙ told) c.in_default.not-BeyondLimit

pub returns-in-Ok-clause-came : goal.returns-in-Ok-clause-came
returns-in-Ok-clause-came c =
    let a = c.args in
    let m = a.self.now in
    let j = a.junction.now in
    let size : length m.cells ≡ 96 = search rules in
    let draft_size : length m.draft ≡ 3 = search rules in
    let nine : length j.calibration ≡ 9 = search rules in
    let came = sym c.answered.ensures.answer ∙ c.in-Ok.is in
    let s : Sound (calibration j) = c.product-answer.ensures.sound in
    let x : a.first + 0 ≡ a.first = omega arith in
    let call : Call = product (a.first + 1) (a.first + 0) (calibration_meaning j s) one one in
    let answer = shown_answer j s m.cells (a.first + 1) (a.first + 0) nine c.requires.filled.offsets (λ row h. ap (λ k. cells_in dam_shape m.cells k row) x ∙ c.requires.filled.readings row h)
    a.sheet.shape m.draft c.requires.sheet (omega (arith, c.requires.place)) (omega (arith, c.requires.place)) size draft_size in
    let told = came_granted a.sheet.shape call m.cells m.draft c.product-answer.new.draft c.product-answer.result c.in-Ok.sheet c.product-answer.ensures.calls came in
    ap stops_at_bound (sym (within_bounds Product (a.first + 1) (first_past (calibrated j)) (sym answer ∙ told)))

pub returns-in-Ok-clause-there : goal.returns-in-Ok-clause-there
returns-in-Ok-clause-there c =
    let a = c.args in
    let m = a.self.now in
    let j = a.junction.now in
    let size : length m.cells ≡ 96 = search rules in
    let draft_size : length m.draft ≡ 3 = search rules in
    let nine : length j.calibration ≡ 9 = search rules in
    let came = sym c.answered.ensures.answer ∙ c.in-Ok.is in
    let s : Sound (calibration j) = c.product-answer.ensures.sound in
    let x : a.first + 0 ≡ a.first = omega arith in
    let readings : (row : ℕ) → row < 3 → cells_in dam_shape m.cells (a.first + 0) row ≡ cell_at j.readings row = λ row h. ap (λ k. cells_in dam_shape m.cells k row) x ∙ c.requires.filled.readings row h in
    let call : Call = product (a.first + 1) (a.first + 0) (calibration_meaning j s) one one in
    let answer = shown_answer j s m.cells (a.first + 1) (a.first + 0) nine c.requires.filled.offsets readings
    a.sheet.shape m.draft c.requires.sheet (omega (arith, c.requires.place)) (omega (arith, c.requires.place)) size draft_size in
    let result = c.product-answer.result in
    let calls = c.product-answer.ensures.calls in
    let told = came_granted a.sheet.shape call m.cells m.draft c.product-answer.new.draft result c.in-Ok.sheet calls came in
    let past = within_bounds Product (a.first + 1) (first_past (calibrated j)) (sym answer ∙ told) in
    let cells = all_cells c.laws_stand.ensures (calibrated j) (λ row h. shown_ordered c.laws_stand.ensures c.laws_stand-2.ensures j row nine) past in
    let drafted = call_drafted a.sheet.shape call m.cells m.draft c.product-answer.new.draft c.requires.sheet told calls.leaves_draft in
    let k : c.in-Ok.sheet.column ≡ a.first + 1 = came_for a.sheet.shape call m.cells m.draft c.product-answer.new.draft result c.in-Ok.sheet calls came in
    λ row h. rw k at (c.post.ensures.there row h)
    ∙ row_drafted (new_column dam_shape call (cells_in dam_shape m.cells)) (calibrated j) c.product-answer.new.draft row drafted h
    (shown_column j s m.cells (a.first + 1) (a.first + 0) nine c.requires.filled.offsets readings row h) (cells row h)

pub returns-in-Ok-clause-elsewhere : goal.returns-in-Ok-clause-elsewhere
returns-in-Ok-clause-elsewhere c =
    let a = c.args in
    let m = a.self.now in
    let j = a.junction.now in
    let came = sym c.answered.ensures.answer ∙ c.in-Ok.is in
    let s : Sound (calibration j) = c.product-answer.ensures.sound in
    let call : Call = product (a.first + 1) (a.first + 0) (calibration_meaning j s) one one in
    let k : c.in-Ok.sheet.column ≡ a.first + 1 = came_for a.sheet.shape call m.cells m.draft c.product-answer.new.draft c.product-answer.result c.in-Ok.sheet c.product-answer.ensures.calls came in
    λ i row other h. c.post.ensures.elsewhere i row (λ same. other (same ∙ k)) h

pub returns-in-BeyondLimit-clause-came : goal.returns-in-BeyondLimit-clause-came
returns-in-BeyondLimit-clause-came c =
    let a = c.args in
    let m = a.self.now in
    let j = a.junction.now in
    let size : length m.cells ≡ 96 = search rules in
    let draft_size : length m.draft ≡ 3 = search rules in
    let nine : length j.calibration ≡ 9 = search rules in
    let came = sym c.answered.ensures.answer ∙ c.in-Err.is in
    let s : Sound (calibration j) = c.product-answer.ensures.sound in
    let x : a.first + 0 ≡ a.first = omega arith in
    let call : Call = product (a.first + 1) (a.first + 0) (calibration_meaning j s) one one in
    let answer = shown_answer j s m.cells (a.first + 1) (a.first + 0) nine c.requires.filled.offsets (λ row h. ap (λ k. cells_in dam_shape m.cells k row) x ∙ c.requires.filled.readings row h)
    a.sheet.shape m.draft c.requires.sheet (omega (arith, c.requires.place)) (omega (arith, c.requires.place)) size draft_size in
    let told = came_refused a.sheet.shape call m.cells m.draft c.product-answer.new.draft c.product-answer.result c.in-Err.field-0 c.product-answer.ensures.calls came in
    sym (ap stops_at_bound (past_bound Product (a.first + 1) (first_past (calibrated j)) c.in-BeyondLimit.fault (sym answer ∙ (told ∙ ap refused c.in-BeyondLimit.is))))
