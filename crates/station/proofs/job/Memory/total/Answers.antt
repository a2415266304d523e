use Rattle.std.proofs.Common.{◌≡◌, ℕ, ◌+◌, length, sym, refl, ap, ◌∙◌, rules, arith}
use Rattle.arithmetic.specs.Values.{Value}
use Rattle.cells.specs.Cells.{cell_value}
use Rattle.cells.specs.Faults.{kept, in_row}
use Rattle.cells.specs.Formulas.{sum_cell}
use Rattle.sheet.specs.declared.refusal.CallName.TheVariants.{Sum}
use Rattle.sheet.specs.Answers.{call_answer}
use Rattle.sheet.specs.Calls.{Call, sum}
use Rattle.sheet.specs.Checks.{granted, refused}
use Rattle.sheet.specs.Memory.{cells_in}
use Rattle.sheet.specs.NewColumns.{new_column}
use Rattle.station.specs.Boxes.{dam_shape}
use Rattle.account.specs.Tallies.{refused_call}
use Rattle.station.specs.Counts.{posted_call, call_then, no_others}
use Rattle.station.specs.declared.total.NoTotal.TheVariants.{TipWithoutPair}
use Rattle.station.specs.Stops.{fault_of, stops_at_bound}
use Rattle.station.proofs.Calls.{at_bound, sum_answer, came_granted, came_refused, came_for, call_drafted, row_drafted, within_bounds, past_bound, only_bounds}
use Rattle.station.proofs.Stops.{unfaulted}
use Rattle.station.proofs.Totals.{sum_ordered, sum_told, past_told}
use Rattle.station.proofs.job.Memory.total.Goals as goal

pub unreachable-requires : goal.unreachable-requires
unreachable-requires c =
    let a = c.args in
    let m = a.self.now in
    let size : length m.cells ≡ 96 = search rules in
    let draft_size : length m.draft ≡ 3 = search rules in
    let came = sym c.answered.ensures.answer ∙ c.in-Err.is in
    let calls = c.sum-answer.ensures in
    let result = c.sum-answer.result in
    let v : Value = sum_cell (cells_in dam_shape m.cells (a.first + 1)) 3 in
    let call : Call = sum (a.first + 3) 0 (a.first + 1) in
    let answer : call_answer a.sheet.shape call m.cells m.draft ≡ at_bound Sum (a.first + 3) (fault_of (in_row 0 (kept v))) granted = sum_answer a.sheet.shape (a.first + 3) (a.first + 1) m.cells m.draft c.requires.sheet (omega (arith, c.requires.place)) (omega (arith, c.requires.place)) size draft_size in
    let told = came_refused a.sheet.shape call m.cells m.draft c.sum-answer.new.draft result c.in-Err.field-0 calls came in
    only_bounds Sum (a.first + 3) (fault_of (in_row 0 (kept v))) c.in-Err.field-0.refusal (sym answer ∙ told) c.in_default.not-BeyondLimit

pub returns-in-Ok-clause-total : goal.returns-in-Ok-clause-total
returns-in-Ok-clause-total c =
    let a = c.args in
    let m = a.self.now in
    let size : length m.cells ≡ 96 = search rules in
    let draft_size : length m.draft ≡ 3 = search rules in
    let came = sym c.answered.ensures.answer ∙ c.in-Ok.is in
    let calls = c.sum-answer.ensures in
    let result = c.sum-answer.result in
    let v : Value = sum_cell (cells_in dam_shape m.cells (a.first + 1)) 3 in
    let call : Call = sum (a.first + 3) 0 (a.first + 1) in
    let answer : call_answer a.sheet.shape call m.cells m.draft ≡ at_bound Sum (a.first + 3) (fault_of (in_row 0 (kept v))) granted = sum_answer a.sheet.shape (a.first + 3) (a.first + 1) m.cells m.draft c.requires.sheet (omega (arith, c.requires.place)) (omega (arith, c.requires.place)) size draft_size in
    let told = came_granted a.sheet.shape call m.cells m.draft c.sum-answer.new.draft result c.in-Ok.sheet calls came in
    let none = within_bounds Sum (a.first + 3) (fault_of (in_row 0 (kept v))) (sym answer ∙ told) in
    let fits = unfaulted c.laws_stand.ensures 0 v (sum_ordered m.cells (a.first + 1)) none in
    let drafted = call_drafted a.sheet.shape call m.cells m.draft c.sum-answer.new.draft c.requires.sheet told calls.leaves_draft in
    let k : c.in-Ok.sheet.column ≡ a.first + 3 = came_for a.sheet.shape call m.cells m.draft c.sum-answer.new.draft result c.in-Ok.sheet calls came in
    let t : cell_value c.cell-total.result ≡ v = c.cell-total.ensures ∙ (rw k at (c.post-sheet.ensures.there 0 (omega arith))
    ∙ row_drafted (new_column dam_shape call (cells_in dam_shape m.cells)) (λ (row : ℕ). v) c.sum-answer.new.draft 0 drafted (omega arith) refl fits) in
    rw c.ok_or.ensures.value (sum_told c.laws_stand.ensures c.cell-total.result TipWithoutPair v fits t)

pub returns-in-BeyondLimit-clause-total : goal.returns-in-BeyondLimit-clause-total
returns-in-BeyondLimit-clause-total c =
    let a = c.args in
    let m = a.self.now in
    let size : length m.cells ≡ 96 = search rules in
    let draft_size : length m.draft ≡ 3 = search rules in
    let came = sym c.answered.ensures.answer ∙ c.in-Err.is in
    let calls = c.sum-answer.ensures in
    let result = c.sum-answer.result in
    let v : Value = sum_cell (cells_in dam_shape m.cells (a.first + 1)) 3 in
    let call : Call = sum (a.first + 3) 0 (a.first + 1) in
    let answer : call_answer a.sheet.shape call m.cells m.draft ≡ at_bound Sum (a.first + 3) (fault_of (in_row 0 (kept v))) granted = sum_answer a.sheet.shape (a.first + 3) (a.first + 1) m.cells m.draft c.requires.sheet (omega (arith, c.requires.place)) (omega (arith, c.requires.place)) size draft_size in
    let told = came_refused a.sheet.shape call m.cells m.draft c.sum-answer.new.draft result c.in-Err.field-0 calls came in
    let some = past_bound Sum (a.first + 3) (fault_of (in_row 0 (kept v))) c.in-BeyondLimit.fault (sym answer ∙ (told ∙ ap refused c.in-BeyondLimit.is)) in
    rw c.from.ensures (past_told TipWithoutPair (kept v) c.in-BeyondLimit.fault.cell some)

pub returns-in-Ok-clause-calls : goal.returns-in-Ok-clause-calls
returns-in-Ok-clause-calls c =
    let a = c.args in
    let m = a.self.now in
    let size : length m.cells ≡ 96 = search rules in
    let draft_size : length m.draft ≡ 3 = search rules in
    let came = sym c.answered.ensures.answer ∙ c.in-Ok.is in
    let calls = c.sum-answer.ensures in
    let result = c.sum-answer.result in
    let v : Value = sum_cell (cells_in dam_shape m.cells (a.first + 1)) 3 in
    let call : Call = sum (a.first + 3) 0 (a.first + 1) in
    let answer : call_answer a.sheet.shape call m.cells m.draft ≡ at_bound Sum (a.first + 3) (fault_of (in_row 0 (kept v))) granted = sum_answer a.sheet.shape (a.first + 3) (a.first + 1) m.cells m.draft c.requires.sheet (omega (arith, c.requires.place)) (omega (arith, c.requires.place)) size draft_size in
    let told = came_granted a.sheet.shape call m.cells m.draft c.sum-answer.new.draft result c.in-Ok.sheet calls came in
    let none = within_bounds Sum (a.first + 3) (fault_of (in_row 0 (kept v))) (sym answer ∙ told) in
    let counted : c.post-sheet.new.self.calls ≡ posted_call m.calls = search rules in
    counted ∙ sym (ap (λ o. call_then (stops_at_bound o) no_others m.calls) none)

pub returns-in-BeyondLimit-clause-calls : goal.returns-in-BeyondLimit-clause-calls
returns-in-BeyondLimit-clause-calls c =
    let a = c.args in
    let m = a.self.now in
    let size : length m.cells ≡ 96 = search rules in
    let draft_size : length m.draft ≡ 3 = search rules in
    let came = sym c.answered.ensures.answer ∙ c.in-Err.is in
    let calls = c.sum-answer.ensures in
    let result = c.sum-answer.result in
    let v : Value = sum_cell (cells_in dam_shape m.cells (a.first + 1)) 3 in
    let call : Call = sum (a.first + 3) 0 (a.first + 1) in
    let answer : call_answer a.sheet.shape call m.cells m.draft ≡ at_bound Sum (a.first + 3) (fault_of (in_row 0 (kept v))) granted = sum_answer a.sheet.shape (a.first + 3) (a.first + 1) m.cells m.draft c.requires.sheet (omega (arith, c.requires.place)) (omega (arith, c.requires.place)) size draft_size in
    let told = came_refused a.sheet.shape call m.cells m.draft c.sum-answer.new.draft result c.in-Err.field-0 calls came in
    let some = past_bound Sum (a.first + 3) (fault_of (in_row 0 (kept v))) c.in-BeyondLimit.fault (sym answer ∙ (told ∙ ap refused c.in-BeyondLimit.is)) in
    let counted : c.answered.new.self ≡ refused_call m.calls = search rules in
    counted ∙ sym (ap (λ o. call_then (stops_at_bound o) no_others m.calls) some)
