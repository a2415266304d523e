use Rattle.std.proofs.Common.{◌≡◌}
use Rattle.sheet.specs.Memory.{blanks}
use Rattle.kernels.proofs.whole.rounds.Given as goal

abbrev pub invariant-loop : goal.invariant-loop
invariant-loop g l = (l.sheet.shape ≡ l.fn.sheet.shape) × (l.draft ≡ blanks l.fn.sheet.shape.rows)
