use Rattle.std.proofs.Common.{◌≡◌, rules}
use Rattle.sheet.specs.Memory.{blanks}
use Rattle.station.proofs.Sheets.{opened_empty}
use Rattle.station.proofs.job.Memory.open.Goals as goal

pub returns-clause-cells : goal.returns-clause-cells
returns-clause-cells c = let b : c.open-answer.new.cells ≡ blanks 96 = search rules in λ column row h g. rw b (opened_empty column row h g)
