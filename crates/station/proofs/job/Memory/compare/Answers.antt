use Rattle.std.proofs.Common.{◌≡◌, ℕ, length, ◌+◌, ap, ◌∙◌, rules, arith}
use Rattle.cells.specs.Cells.{cell_at}
use Rattle.cells.specs.Joins.{met}
use Rattle.cells.specs.JoinLaws.{meet}
use Rattle.sheet.specs.Memory.{cells_in, written_rows}
use Rattle.station.specs.Boxes.{dam_shape}
use Rattle.station.proofs.Calls.{meet_answer}
use Rattle.station.proofs.Sheets.{column_cell, drafted}
use Rattle.station.proofs.job.Memory.compare.Goals as goal

pub returns-clause-there : goal.returns-clause-there
returns-clause-there c =
    let a = c.args in
    let m = a.self.now in
    let size : length m.cells ≡ 96 = search rules in
    let draft_size : length m.draft ≡ 3 = search rules in
    let e = meet_answer a.sheet.shape (a.first + 2) (a.first + 1) m.cells m.draft c.requires.sheet (omega (arith, c.requires.place)) (omega (arith, c.requires.place)) size draft_size in
    let new = λ (row : ℕ). met (cells_in dam_shape m.cells (a.first + 2) row) (cells_in dam_shape m.cells (a.first + 1) row) in
    let d : c.join-answer.new.draft ≡ written_rows 3 new = search rules in
    let k : c.in-Ok.sheet.column ≡ (a.first + 2) = search rules in
    λ row h. rw k at (c.post.ensures.there row h)
    ∙ (ap (λ r. cell_at r row) d ∙ drafted new row h (meet.keeps (cells_in dam_shape m.cells (a.first + 2) row) (cells_in dam_shape m.cells (a.first + 1) row) (column_cell m.cells (a.first + 2) row) (column_cell m.cells (a.first + 1) row)))
