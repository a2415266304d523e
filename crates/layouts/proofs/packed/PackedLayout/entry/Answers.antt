use Rattle.std.proofs.Common.{◌≡◌, ◌+◌, ◌*◌, ◌/◌, ◌<◌, length, sym, ap, ◌∙◌, arith}
use Rattle.std.proofs.lemmas.Bool.{le-leb}
use Rattle.cells.specs.Cells.{cell_value}
use Rattle.layouts.specs.declared.side.Side.{Side}
use Rattle.layouts.specs.declared.side.Side.TheVariants.{Lower, Upper}
use Rattle.layouts.specs.Stored.{packed, packed_fit, packed_place, packed_entry}
use Rattle.layouts.proofs.Places.{packed_fits, packed_inside, stored_read, packed_read, shaped_entry}
use Rattle.layouts.proofs.packed.PackedLayout.entry.Goals as goal

pub bounds-self-lower_place : goal.bounds-self-lower_place
bounds-self-lower_place c =
    let d = c.args.self.now in let i = c.args.row in let j = c.args.column in
    omega (arith, c.lower_place.ensures, packed_fits d.run.now d.n c.if-not-is_fit.ensures, packed_inside Lower d.n i j c.if-row-self.true c.if-column-self.true (le-leb j i c.if-column-row.true))

pub bounds-self-upper_place : goal.bounds-self-upper_place
bounds-self-upper_place c =
    let d = c.args.self.now in let i = c.args.row in let j = c.args.column in
    omega (arith, c.upper_place.ensures, packed_fits d.run.now d.n c.if-not-is_fit.ensures, packed_inside Upper d.n i j c.if-row-self.true c.if-column-self.true (le-leb i j c.if-row-column.true))

pub returns-in-Lower : goal.returns-in-Lower
returns-in-Lower c =
    let d = c.args.self.now in let run = d.run.now in let i = c.args.row in let j = c.args.column in
    let here = le-leb j i c.if-column-row.true in
    let long : length run ≡ d.n * (d.n + 1) / 2 = packed_fits run d.n c.if-not-is_fit.ensures in
    let p : packed_place Lower d.n i j < length run = omega (arith, long, packed_inside Lower d.n i j c.if-row-self.true c.if-column-self.true here) in
    packed_read run Lower d.n i j (cell_value c.read.result) here
    (stored_read run c.lower_place.result (packed_place Lower d.n i j) _ (cell_value c.read.result) c.lower_place.ensures p c.read.ensures)
    ∙ shaped_entry (packed_fit run d.n) d.n d.n i j (packed_entry run Lower d.n) c.if-not-is_fit.ensures c.if-row-self.true c.if-column-self.true
    ∙ ap (λ (side : Side). (packed run side d.n).entry i j) (sym c.in-Lower.is)

pub returns-in-Upper : goal.returns-in-Upper
returns-in-Upper c =
    let d = c.args.self.now in let run = d.run.now in let i = c.args.row in let j = c.args.column in
    let here = le-leb i j c.if-row-column.true in
    let long : length run ≡ d.n * (d.n + 1) / 2 = packed_fits run d.n c.if-not-is_fit.ensures in
    let p : packed_place Upper d.n i j < length run = omega (arith, long, packed_inside Upper d.n i j c.if-row-self.true c.if-column-self.true here) in
    packed_read run Upper d.n i j (cell_value c.read-in-Upper.result) here
    (stored_read run c.upper_place.result (packed_place Upper d.n i j) _ (cell_value c.read-in-Upper.result) c.upper_place.ensures p c.read-in-Upper.ensures)
    ∙ shaped_entry (packed_fit run d.n) d.n d.n i j (packed_entry run Upper d.n) c.if-not-is_fit.ensures c.if-row-self.true c.if-column-self.true
    ∙ ap (λ (side : Side). (packed run side d.n).entry i j) (sym c.in-Upper.is)
