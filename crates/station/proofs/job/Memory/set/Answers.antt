use Rattle.std.proofs.Common.{◌≡◌, ◌+◌, ◌*◌, length, ap, sym, ◌∙◌, rules}
use Rattle.std.specs.Prelude.{slice_set}
use Rattle.arithmetic.specs.Values.{bounds}
use Rattle.cells.specs.Cells.{written}
use Rattle.sheet.specs.Answers.{set_answer}
use Rattle.sheet.specs.Checks.{granted}
use Rattle.sheet.specs.Outcomes.{answer_of}
use Rattle.station.proofs.Calls.{set_granted, not_refused}
use Rattle.station.proofs.Sheets.{set_there, set_elsewhere, reads}
use Rattle.station.proofs.job.Memory.set.Goals as goal

pub returns-clause-there : goal.returns-clause-there
returns-clause-there c =
    let a = c.args in
    let m = a.self.now in
    let i = c.in-Some.pair in
    let size : length m.cells ≡ 96 = search rules in
    let b : c.set-answer.new.cells ≡ slice_set m.cells (a.column * 3 + a.row) (written (bounds i.lower i.upper)) = search rules in
    rw (b, c.in-Some.is) (set_there a.column a.row m.cells (written (bounds i.lower i.upper)) c.requires.place.0 c.requires.place.1 size ∙ reads (bounds i.lower i.upper) (i.low, i.order, i.high))

pub returns-clause-elsewhere : goal.returns-clause-elsewhere
returns-clause-elsewhere c =
    let a = c.args in
    let m = a.self.now in
    let i = c.in-Some.pair in
    let b : c.set-answer.new.cells ≡ slice_set m.cells (a.column * 3 + a.row) (written (bounds i.lower i.upper)) = search rules in
    λ j row h apart. rw b (set_elsewhere a.column a.row j row m.cells (written (bounds i.lower i.upper)) c.requires.place.1 h apart)

pub unreachable-requires : goal.unreachable-requires
unreachable-requires c =
    let a = c.args in
    let i = c.in-Some.pair in
    let size : length a.self.now.cells ≡ 96 = search rules in
    let granted_set : set_answer a.sheet.now.shape a.column a.row i.lower i.upper a.self.now.cells ≡ granted =
    set_granted a.sheet.now.shape a.column a.row i.lower i.upper a.self.now.cells c.requires.sheet c.requires.place.0 c.requires.place.1 size (i.low, i.order, i.high) in
    let told : answer_of c.set-answer.result ≡ set_answer a.sheet.now.shape a.column a.row i.lower i.upper a.self.now.cells = search rules in
    not_refused c.in-Err.field-0 (ap answer_of (sym c.in-Err.is ∙ c.answered.ensures.answer) ∙ (told ∙ granted_set))
