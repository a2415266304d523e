use Rattle.std.proofs.Common.{ℕ, ◌<◌, length, sym, ◌∙◌, subst}
use Rattle.cells.specs.Cells.{cell_value}
use Rattle.layouts.specs.Stored.{band_fit, band_place, band_entry}
use Rattle.layouts.proofs.Places.{band_inside, stored_read, band_read, shaped_entry}
use Rattle.layouts.proofs.band.BandLayout.entry.Goals as goal

inside : (c : goal.After-place) → c.place.result < length c.args.self.now.run.now
inside c =
    let d = c.args.self.now in let P : ℕ → Type 0 = λ k. k < length d.run.now in
    subst P (sym c.place.ensures)
    (band_inside d.run.now d.rows d.columns d.below d.above d.stride c.args.row c.args.column c.if-not-is_fit.ensures c.if-column-self.true c.if-column-row.true c.if-row-column.true)

pub bounds-self-place : goal.bounds-self-place
bounds-self-place c = inside c

pub returns-then-row-column : goal.returns-then-row-column
returns-then-row-column c =
    let d = c.args.self.now in let run = d.run.now in let i = c.args.row in let j = c.args.column in
    let p = band_inside run d.rows d.columns d.below d.above d.stride i j c.if-not-is_fit.ensures c.if-column-self.true c.if-column-row.true c.if-row-column.true in
    band_read run d.below d.above d.stride i j (cell_value c.read.result) c.if-column-row.true c.if-row-column.true
    (stored_read run c.place.result (band_place d.above d.stride i j) _ (cell_value c.read.result) c.place.ensures p c.read.ensures)
    ∙ shaped_entry (band_fit run d.rows d.columns d.below d.above d.stride) d.rows d.columns i j (band_entry run d.below d.above d.stride) c.if-not-is_fit.ensures c.if-row-self.true c.if-column-self.true
