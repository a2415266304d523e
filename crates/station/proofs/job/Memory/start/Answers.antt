use Rattle.station.proofs.job.Memory.start.Goals as goal

pub returns-clause-filled : goal.returns-clause-filled
returns-clause-filled c = λ nth past h. rw c.begin.ensures.cells (c.fill.ensures.filled nth past h)
