use Rattle.std.proofs.Common.{rules}
use Rattle.script.proofs.Texts.{counted, uncounted}
use Rattle.script.proofs.numbers.count.Goals as goal

pub returns-then-is_digits-clause-written : goal.returns-then-is_digits-clause-written
returns-then-is_digits-clause-written c = counted _ _ (search rules) c.value.ensures

pub returns-else-is_digits-clause-written : goal.returns-else-is_digits-clause-written
returns-else-is_digits-clause-written c = uncounted _ (search rules)
