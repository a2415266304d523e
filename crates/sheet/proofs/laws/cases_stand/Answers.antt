use Rattle.std.proofs.Common.{refl}
use Rattle.arithmetic.specs.Values.{least_quotient, greatest_quotient}
use Rattle.layouts.specs.Orders.{rows_in_order}
use Rattle.sheet.specs.Answers.{call_answer}
use Rattle.sheet.specs.Permutations.{is_permutation}
use Rattle.sheet.proofs.laws.cases_stand.Goals as goal

pub returns : goal.returns
unfolding least_quotient greatest_quotient rows_in_order call_answer is_permutation
returns c = (refl, (refl, (refl, (refl, (refl, (refl, (refl, (refl, (refl, (refl, (refl, (refl, (refl, (refl, (refl, (refl, (refl, (refl, (refl, (refl, (refl, (refl, (refl, (refl, (refl, (refl, (refl, (refl, (refl, (refl, (refl, (refl, (refl, (refl, (refl, (refl, (refl, (refl, (refl, (refl, (refl, (refl, (refl, (refl, (refl, (refl, (refl, (refl, (refl, (refl, (refl, (refl, (refl, (refl, (refl, (refl, (refl, (refl, c.cases_stand.ensures))))))))))))))))))))))))))))))))))))))))))))))))))))))))))
