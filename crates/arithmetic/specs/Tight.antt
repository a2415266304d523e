-- Whole bounds that hold a set of fractions and come within less than one step of it.
use Rattle.std.specs.Prelude.{ℤ, pos, ◌+ℤ◌, ◌-ℤ◌, ◌*ℤ◌, ◌<ℤ◌}
use Rattle.arithmetic.specs.Fractions.{Fraction, Between}
use Rattle.arithmetic.specs.Sets.{Set}

-- some member, times the scale s, is less than a + 1
pub record Above (s a : ℤ) (S : Set) : Type 0 where
  pub value : Fraction
  pub member : S value
  pub near : (value.num *ℤ s) <ℤ ((a +ℤ pos 1) *ℤ value.den)

-- some member, times the scale s, is more than b - 1
pub record Below (s b : ℤ) (S : Set) : Type 0 where
  pub value : Fraction
  pub member : S value
  pub near : ((b -ℤ pos 1) *ℤ value.den) <ℤ (value.num *ℤ s)

-- every member lies between a and b, and each of them is less than one step from a member
pub record Tight (s a b : ℤ) (S : Set) : Type 0 where
  pub holds : (v : Fraction) → S v → Between s a b v
  pub low : Above s a S
  pub high : Below s b S

-- some member is less than one step from e, on whichever side
pub record Near (s e : ℤ) (S : Set) : Type 0 where
  pub value : Fraction
  pub member : S value
  pub above : ((e -ℤ pos 1) *ℤ value.den) <ℤ (value.num *ℤ s)
  pub below : (value.num *ℤ s) <ℤ ((e +ℤ pos 1) *ℤ value.den)
