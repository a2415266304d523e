use Rattle.std.proofs.Common.{◌≡◌, ℕ, ◌+◌, ◌*◌, None, ◌∙◌, ap, sym, arith}
use Rattle.arithmetic.specs.Values.{Value}
use Rattle.cells.specs.Faults.{kept, in_row}
use Rattle.cells.specs.Formulas.{sum_cell}
use Rattle.cells.specs.Joins.{met}
use Rattle.sheet.specs.Memory.{cells_in}
use Rattle.station.specs.Boxes.{dam_shape, dip_at}
use Rattle.account.specs.declared.tally.Tally.{Tally}
use Rattle.station.specs.Counts.{posted_call, call_then, no_others, sum_stop}
use Rattle.station.specs.Pressures.{calibrated, pressure}
use Rattle.station.specs.Stops.{fault_of, or_else, first_past, stops_at_bound, solve_stop}
use Rattle.station.proofs.Columns.{sum_same}
use Rattle.station.proofs.Counts.{calls_to_the_end, calls_to_the_stop}
use Rattle.station.proofs.job.Memory.run.Goals as goal

pub returns-in-Ok-clause-pressures : goal.returns-in-Ok-clause-pressures
returns-in-Ok-clause-pressures c =
    let f : ℕ = c.args.nth * 4 in
    λ row h. c.total-total.ensures.elsewhere (f + 1) row (λ e. omega (arith, e)) h ∙ (c.compare-sheet.ensures.elsewhere (f + 1) row (λ e. omega (arith, e)) h ∙ c.in-Ok.ensures.there row h)

pub returns-in-Ok-clause-agreed : goal.returns-in-Ok-clause-agreed
returns-in-Ok-clause-agreed c =
    let f : ℕ = c.args.nth * 4 in
    λ row h.
    let dip = c.work_out.ensures.elsewhere (f + 2) row (λ e. omega (arith, e)) h ∙ c.requires.filled.dips row h in
    c.total-total.ensures.elsewhere (f + 2) row (λ e. omega (arith, e)) h
    ∙ (c.compare-sheet.ensures.there row h
    ∙ (ap (λ v. met v (cells_in dam_shape c.work_out.new.self.cells (f + 1) row)) dip ∙ ap (met (dip_at c.args.junction.now.dips row)) (c.in-Ok.ensures.there row h)))

pub returns-in-Ok-clause-calls : goal.returns-in-Ok-clause-calls
returns-in-Ok-clause-calls c =
    let f : ℕ = c.args.nth * 4 in
    let j = c.args.junction.now in
    let old = c.args.self.now.calls in
    let shown = stops_at_bound (first_past (calibrated j)) in
    let last : Tally → Tally = λ t. call_then (sum_stop (pressure j)) no_others (posted_call t) in
    let went : or_else shown (solve_stop j) ≡ None = sym c.in-Ok.ensures.came in
    let column : ℕ → Value = cells_in dam_shape c.compare-sheet.new.self.cells (f + 1) in
    let same : sum_cell column 3 ≡ sum_cell (pressure j) 3 =
    sum_same column (pressure j) (λ row h. c.compare-sheet.ensures.elsewhere (f + 1) row (λ e. omega (arith, e)) h ∙ c.in-Ok.ensures.there row h) in
    let sums : sum_stop column ≡ sum_stop (pressure j) = ap (λ v. stops_at_bound (fault_of (in_row 0 (kept v)))) same in
    c.total-total.ensures.calls
    ∙ (ap (λ o. call_then o no_others c.compare-sheet.new.self.calls) sums
    ∙ (ap (call_then (sum_stop (pressure j)) no_others) (c.compare-sheet.ensures.calls ∙ ap posted_call (c.work_out.ensures.calls ∙ calls_to_the_end shown (solve_stop j) no_others old went))
    ∙ sym (calls_to_the_end shown (solve_stop j) last old went)))

pub returns-in-Err-clause-calls : goal.returns-in-Err-clause-calls
returns-in-Err-clause-calls c =
    let j = c.args.junction.now in
    let last : Tally → Tally = λ t. call_then (sum_stop (pressure j)) no_others (posted_call t) in
    c.work_out.ensures.calls ∙ calls_to_the_stop (stops_at_bound (first_past (calibrated j))) (solve_stop j) c.in-Err.field-0.stop last c.args.self.now.calls (sym c.in-Err.ensures.came)
