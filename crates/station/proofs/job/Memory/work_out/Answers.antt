use Rattle.std.proofs.Common.{◌≡◌, ℕ, ◌+◌, ◌<◌, sym, ap, ◌∙◌}
use Rattle.cells.specs.Cells.{cell_at}
use Rattle.sheet.specs.Memory.{cells_in}
use Rattle.station.specs.Boxes.{dam_shape}
use Rattle.station.specs.Pressures.{calibrated}
use Rattle.station.specs.Stops.{first_past, left_standing}
use Rattle.station.proofs.Stops.{left_offset, left_shown, where_err, on_err}
use Rattle.station.proofs.job.Memory.work_out.Goals as goal

pub returns-in_err-sheet-clause-left : goal.returns-in_err-sheet-clause-left
returns-in_err-sheet-clause-left c =
    let f : ℕ = c.args.first in
    let j = c.args.junction.now in
    on_err ((row : ℕ) → row < 3 → cells_in dam_shape c.calibrate.new.self.cells (f + 1) row ≡ left_standing j row) c.from_residual.result
    (λ row h. ap (λ cells. cells_in dam_shape cells (f + 1) row) c.in_err-sheet.ensures.unposted
    ∙ (c.requires.filled.offsets row h ∙ sym (left_offset (first_past (calibrated j)) c.in_err-sheet.field-0.0.stop (cell_at j.offsets row) (calibrated j row) c.in_err-sheet.ensures.came)))

pub returns-clause-left : goal.returns-clause-left
returns-clause-left c =
    let f : ℕ = c.args.first in
    let j = c.args.junction.now in
    let before = c.calibrate.new.self.cells in
    let after = c.take_out_neighbours.new.self.cells in
    where_err (after ≡ before) ((row : ℕ) → row < 3 → cells_in dam_shape after (f + 1) row ≡ left_standing j row) c.take_out_neighbours.result
    (λ same row h. ap (λ cells. cells_in dam_shape cells (f + 1) row) same
    ∙ (c.in_ok-sheet.ensures.there row h ∙ sym (left_shown (first_past (calibrated j)) (cell_at j.offsets row) (calibrated j row) c.in_ok-sheet.ensures.came)))
    c.take_out_neighbours.ensures.unposted
