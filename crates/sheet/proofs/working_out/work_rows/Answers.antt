use Rattle.std.proofs.Common.{◌≡◌, ℕ, ◌<◌, ◌≤◌, List, length, sym, subst, ap, ◌∙◌, Ok, Err, rules, arith}
use Rattle.std.proofs.lemmas.List.FromFn.{length-map-range_with_len}
use Rattle.cells.specs.declared.cell.Record.{Record}
use Rattle.cells.specs.Cells.{cell_at, written}
use Rattle.cells.specs.Faults.{kept, in_row}
use Rattle.sheet.specs.declared.order.WorkingOrder.{WorkingOrder}
use Rattle.sheet.specs.Memory.{written_rows}
use Rattle.sheet.specs.WorkingOrders.{steps, row_of}
use Rattle.sheet.proofs.RowByRow.{nothing_worked, standing, row_worked, row_past, rows_worked, same_rows, half_all, half}
use Rattle.sheet.proofs.working_out.work_rows.Goals as goal

pub loop-step-init : goal.loop-step-init
loop-step-init g c =
    let f = c.args.formula.now in
    nothing_worked (g.F.RowFormula.rows f) (cell_at (g.F.RowFormula.old f)) (g.F.RowFormula.new f) (length (g.F.RowFormula.old f)) c.args.draft.now c.requires

pub record-requires : goal.record-requires
record-requires g c =
    let f = c.args.formula.now in let order = g.F.RowFormula.rows f in let old = cell_at (g.F.RowFormula.old f) in let step = c.loop-step.step in
    let is : c.row-row.result ≡ row_of order step = c.row-row.ensures ∙ ap (λ (o : WorkingOrder). row_of o step) c.order-order.ensures in
    let b : step < steps order = subst (λ (k : ℕ). step < k) (c.steps-step-end.ensures ∙ ap steps c.order-order.ensures) c.loop-step-test.true in
    rw (is) (standing order old (g.F.RowFormula.new f) (length (g.F.RowFormula.old f)) c.loop-step.draft step b c.loop-step.invariant (g.met.F.RowFormula.inside f))

pub returns-in_err-draft-clause-fault : goal.returns-in_err-draft-clause-fault
returns-in_err-draft-clause-fault g c =
    let f = c.args.formula.now in let order = g.F.RowFormula.rows f in let old = cell_at (g.F.RowFormula.old f) in let new = g.F.RowFormula.new f in let step = c.loop-step.step in
    let is : c.row-row.result ≡ row_of order step = c.row-row.ensures ∙ ap (λ (o : WorkingOrder). row_of o step) c.order-order.ensures in
    let b : step < steps order = subst (λ (k : ℕ). step < k) (c.steps-step-end.ensures ∙ ap steps c.order-order.ensures) c.loop-step-test.true in
    let gives : Err c.in_err-draft.field-0.0 ≡ in_row (row_of order step) (kept (new (row_of order step))) = sym c.in_err-draft.was ∙ c.record.ensures ∙ ap (λ (i : ℕ). in_row i (kept (new i))) is in
    let e = row_past c.laws_stand.ensures order old new (length (g.F.RowFormula.old f)) c.loop-step.draft step c.in_err-draft.field-0.0 b c.loop-step.invariant gives in
    search rules

pub bounds-draft-row : goal.bounds-draft-row
bounds-draft-row g c =
    let f = c.args.formula.now in let order = g.F.RowFormula.rows f in let step = c.loop-step.step in
    let is : c.row-row.result ≡ row_of order step = c.row-row.ensures ∙ ap (λ (o : WorkingOrder). row_of o step) c.order-order.ensures in
    let b : step < steps order = subst (λ (k : ℕ). step < k) (c.steps-step-end.ensures ∙ ap steps c.order-order.ensures) c.loop-step-test.true in
    let old = cell_at (g.F.RowFormula.old f) in
    let size = ap (λ (d : List Record). length d) c.requires ∙ length-map-range_with_len (λ (row : ℕ). written (old row)) 0 (length (g.F.RowFormula.old f)) in
    omega (arith, is, g.met.F.RowFormula.inside f step b, c.loop-step.auto.draft, size)

pub offset_bounds-draft-row : goal.offset_bounds-draft-row
offset_bounds-draft-row g c = let b = bounds-draft-row g c in search rules

pub loop-step-preserved : goal.loop-step-preserved
loop-step-preserved g c =
    let f = c.args.formula.now in let order = g.F.RowFormula.rows f in let old = cell_at (g.F.RowFormula.old f) in let new = g.F.RowFormula.new f in let step = c.loop-step.step in
    let is : c.row-row.result ≡ row_of order step = c.row-row.ensures ∙ ap (λ (o : WorkingOrder). row_of o step) c.order-order.ensures in
    let b : step < steps order = subst (λ (k : ℕ). step < k) (c.steps-step-end.ensures ∙ ap steps c.order-order.ensures) c.loop-step-test.true in
    let gives : Ok c.in_ok-draft.field-0 ≡ in_row (row_of order step) (kept (new (row_of order step))) = sym c.in_ok-draft.was ∙ c.record.ensures ∙ ap (λ (i : ℕ). in_row i (kept (new i))) is in
    rw (is) (row_worked c.laws_stand.ensures order old new (length (g.F.RowFormula.old f)) c.loop-step.draft step c.in_ok-draft.field-0 b c.loop-step.invariant gives)

pub returns-clause-fault : goal.returns-clause-fault
returns-clause-fault g c =
    let f = c.args.formula.now in let order = g.F.RowFormula.rows f in let old = cell_at (g.F.RowFormula.old f) in let new = g.F.RowFormula.new f in let step = c.loop-step.step in
    let all : steps order ≤ step = subst (λ (k : ℕ). k ≤ step) (c.steps-step-end.ensures ∙ ap steps c.order-order.ensures) (omega (arith, c.loop-step-test.false)) in
    rows_worked c.laws_stand.ensures order old new (length (g.F.RowFormula.old f)) c.loop-step.draft step all c.loop-step.invariant

pub returns-clause-left : goal.returns-clause-left
returns-clause-left g c =
    let f = c.args.formula.now in let order = g.F.RowFormula.rows f in let old = cell_at (g.F.RowFormula.old f) in let new = g.F.RowFormula.new f in let step = c.loop-step.step in let n = length (g.F.RowFormula.old f) in
    let upto : steps order ≡ c.steps-step-end.result = sym (c.steps-step-end.ensures ∙ ap steps c.order-order.ensures) in
    let all : step ≡ steps order = omega (arith, c.loop-step-test.false, c.loop-step.auto.step-end, upto) in
    let size = ap (λ (d : List Record). length d) c.requires ∙ length-map-range_with_len (λ (row : ℕ). written (old row)) 0 n in
    c.loop-step.invariant.reads ∙ same_rows n (half order old new step) new (λ row h. ap (λ (k : ℕ). half order old new k row) all ∙ half_all order old new n (g.met.F.RowFormula.stays f) row h)
    ∙ ap (λ (k : ℕ). written_rows k new) (sym size)
