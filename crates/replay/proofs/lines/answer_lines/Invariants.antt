use Rattle.replay.specs.Stages.{Fits}
use Rattle.replay.proofs.lines.answer_lines.Given as goal

-- the memory fits the sheet, so that a draft that stands at the end can be withdrawn
abbrev pub invariant-loop : goal.invariant-loop
invariant-loop g l = Fits l.stage l.memory.own.cells.items l.memory.own.draft.items
