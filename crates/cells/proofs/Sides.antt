-- The two sides of a quotient: the least of the four rounded down and the greatest rounded up, as they are fitted. Assumes nothing.
use Rattle.std.proofs.Common.{◌≡◌, List, ℤ, Result, ap, ◌∙◌}
use Rattle.arithmetic.specs.Four.{least, greatest}
use Rattle.arithmetic.specs.Values.{least_quotient, greatest_quotient}
use Rattle.rounding.specs.declared.direction.Direction.{Direction}
use Rattle.rounding.specs.declared.direction.Direction.TheVariants.{Down, Up}
use Rattle.rounding.specs.declared.fault.Bound.TheVariants.{Lower, Upper}
use Rattle.rounding.specs.declared.fault.RoundingFault.{RoundingFault}
use Rattle.rounding.specs.Outward.{fitted}
use Rattle.cells.specs.Quotients.{quotients_in}

module _ (a b c d : ℤ) (way : Direction) (four : List ℤ) (one : ℤ) (side : Result ℤ RoundingFault) (q : four ≡ quotients_in way a b c d) where
  pub lower_side : way ≡ Down → one ≡ least four → side ≡ fitted Lower one → side ≡ fitted Lower (least_quotient a b c d)
  unfolding least_quotient
  lower_side down l s = s ∙ ap (fitted Lower) (l ∙ ap least (q ∙ ap (λ (way : Direction). quotients_in way a b c d) down))

  pub upper_side : way ≡ Up → one ≡ greatest four → side ≡ fitted Upper one → side ≡ fitted Upper (greatest_quotient a b c d)
  unfolding greatest_quotient
  upper_side up g s = s ∙ ap (fitted Upper) (g ∙ ap greatest (q ∙ ap (λ (way : Direction). quotients_in way a b c d) up))
