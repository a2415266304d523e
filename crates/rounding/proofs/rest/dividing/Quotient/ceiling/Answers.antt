use Rattle.std.proofs.Common.{rules}
use Rattle.rounding.proofs.Sizes.{ceiling_exact, ceiling_over}
use Rattle.rounding.proofs.rest.dividing.Quotient.ceiling.Goals as goal

pub returns-then-self : goal.returns-then-self
returns-then-self c =
    let q = c.args.self in let e = ceiling_exact q.value.value q.by.value q.by.nonzero in
    search rules

pub returns-else-self : goal.returns-else-self
returns-else-self c =
    let q = c.args.self in let e = ceiling_over q.value.value q.by.value q.by.nonzero in
    search rules
