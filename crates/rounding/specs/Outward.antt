-- A quotient rounded in a direction, the limit of a bound, and a pair of sums rounded outward.
use Rattle.std.specs.Prelude.{Bool, cond, ◌||◌, ℤ, Ok, Err, Result, int_lt}
use Rattle.arithmetic.specs.Rounding.{floor, ceiling}
use Rattle.arithmetic.specs.Values.{lesser, greater}
use Rattle.rounding.specs.Limit.{lowest, highest}
use Rattle.rounding.specs.declared.direction.Direction.{Direction}
use Rattle.rounding.specs.declared.direction.Direction.TheVariants.{Down, Up}
use Rattle.rounding.specs.declared.fault.Bound.{Bound}
use Rattle.rounding.specs.declared.fault.Bound.TheVariants.{Lower, Upper}
use Rattle.rounding.specs.declared.fault.RoundingFault.{RoundingFault}

-- n/d, rounded in the direction
abbrev pub rounded_in : Direction → ℤ → ℤ → ℤ
rounded_in Down n d = floor n d
rounded_in Up n d = ceiling n d

-- beyond the limit in size
abbrev pub beyond : ℤ → Bool
beyond z = int_lt z lowest || int_lt highest z

-- a bound within the limit, or the fault that names it
abbrev pub fitted : Bound → ℤ → Result ℤ RoundingFault
fitted bound z = cond (beyond z) (Err (record { bound = bound })) (Ok z)

-- both bounds, or the first fault, that of the lower before that of the upper
abbrev pub both : Result ℤ RoundingFault → Result ℤ RoundingFault → Result (ℤ × ℤ) RoundingFault
both (Err f) r = Err f
both (Ok l) (Err f) = Err f
both (Ok l) (Ok u) = Ok (l, u)

-- the pair a, b divided by d: the lesser quotient rounded down and the greater up
abbrev pub rounded_out : (d a b : ℤ) → Result (ℤ × ℤ) RoundingFault
rounded_out d a b = both (fitted Lower (floor (lesser d a b) d)) (fitted Upper (ceiling (greater d a b) d))
