use Rattle.std.proofs.Common.{refl}
use Rattle.arithmetic.specs.Values.{least_quotient, greatest_quotient}
use Rattle.cells.proofs.laws.cases_stand.Goals as goal

pub returns : goal.returns
unfolding least_quotient greatest_quotient
returns c = (refl, (refl, (refl, (refl, (refl, (refl, (refl, (refl, (refl, (refl, (refl, (refl, (refl, (refl, (refl, (refl, (refl, (refl, (refl, tt)))))))))))))))))))
