use Rattle.std.proofs.Common.{ap, ◌∙◌}
use Rattle.std.proofs.lemmas.List.{get_or_default}
use Rattle.cells.specs.Cells.{blank, read_as}
use Rattle.cells.specs.declared.cell.Record.{Record}
use Rattle.layouts.specs.Filled.{is_filled}
use Rattle.layouts.proofs.Sweeps.{filled_here}
use Rattle.layouts.proofs.filled_part.FilledPart.cell.Goals as goal

pub filled_bounds-requires : goal.filled_bounds-requires
filled_bounds-requires c =
    let s = c.args.self in let run = s.run.now in let k = c.args.place in
    let filled = s.filled k c.requires.0 c.requires.1 in
    ap (λ (r : Record). is_filled (read_as r)) (get_or_default run k _ blank (filled_here run k filled)) ∙ filled
