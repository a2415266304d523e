use Rattle.std.proofs.Common.{sym, ◌∙◌}
use Rattle.station.proofs.Sheets.{at_place}
use Rattle.station.proofs.job.Memory.cell.Goals as goal

pub returns : goal.returns
returns c = c.cell_at.ensures ∙ sym (at_place c.args.self.now.cells c.args.column c.args.row c.requires.1)
