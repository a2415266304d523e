use Rattle.std.proofs.Common.{◌≡◌, length, rules}
use Rattle.sheet.specs.Memory.{with_column}
use Rattle.station.specs.Boxes.{dam_shape}
use Rattle.station.proofs.Sheets.{posted_there, posted_elsewhere}
use Rattle.station.proofs.job.Memory.post.Goals as goal

pub returns-clause-there : goal.returns-clause-there
returns-clause-there c =
    let m = c.args.self.now in
    let size : length m.cells ≡ 96 = search rules in
    let draft_size : length m.draft ≡ 3 = search rules in
    let b : c.post-answer.new.cells ≡ with_column dam_shape c.args.sheet.column m.cells m.draft = search rules in
    λ row h. rw b (posted_there c.args.sheet.column m.cells m.draft (search rules) size draft_size row h)

pub returns-clause-elsewhere : goal.returns-clause-elsewhere
returns-clause-elsewhere c =
    let m = c.args.self.now in
    let size : length m.cells ≡ 96 = search rules in
    let draft_size : length m.draft ≡ 3 = search rules in
    let b : c.post-answer.new.cells ≡ with_column dam_shape c.args.sheet.column m.cells m.draft = search rules in
    λ j row other h. rw b (posted_elsewhere c.args.sheet.column m.cells m.draft (search rules) size draft_size j row other h)
