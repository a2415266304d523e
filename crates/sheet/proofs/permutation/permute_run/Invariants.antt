use Rattle.std.proofs.Common.{◌≡◌, take}
use Rattle.sheet.specs.Permutations.{gathered}
use Rattle.sheet.proofs.permutation.permute_run.Given as goal

abbrev pub invariant-loop-row : goal.invariant-loop-row
invariant-loop-row g l = (take l.row l.to ≡ gathered l.from (take l.row l.order))
