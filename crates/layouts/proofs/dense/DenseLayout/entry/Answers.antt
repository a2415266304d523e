use Rattle.std.proofs.Common.{ℕ, ◌<◌, length, sym, ◌∙◌, subst}
use Rattle.cells.specs.Cells.{cell_value, cell_at}
use Rattle.layouts.specs.Stored.{dense_fit, dense_place}
use Rattle.layouts.proofs.Places.{dense_inside, stored_read, shaped_entry}
use Rattle.layouts.proofs.dense.DenseLayout.entry.Goals as goal

inside : (c : goal.After-place) → c.place.result < length c.args.self.now.run.now
inside c =
    let d = c.args.self.now in let P : ℕ → Type 0 = λ k. k < length d.run.now in
    subst P (sym c.place.ensures)
    (dense_inside d.run.now d.rows d.columns d.stride c.args.row c.args.column c.if-not-is_fit.ensures c.if-row-self.true c.if-column-self.true)

pub bounds-self-place : goal.bounds-self-place
bounds-self-place c = inside c

pub returns-then-column-self : goal.returns-then-column-self
returns-then-column-self c =
    let d = c.args.self.now in let run = d.run.now in let i = c.args.row in let j = c.args.column in
    let p = dense_inside run d.rows d.columns d.stride i j c.if-not-is_fit.ensures c.if-row-self.true c.if-column-self.true in
    stored_read run c.place.result (dense_place d.stride i j) _ (cell_value c.read.result) c.place.ensures p c.read.ensures
    ∙ shaped_entry (dense_fit run d.rows d.columns d.stride) d.rows d.columns i j (λ i j. cell_at run (dense_place d.stride i j)) c.if-not-is_fit.ensures c.if-row-self.true c.if-column-self.true
