-- Sets of fractions, what is made of them by the four operations, and the bounds that hold a set and are attained.
use Rattle.std.specs.Prelude.{◌≡◌, ℕ, zero, suc, ◌+◌, ℤ, pos}
use Rattle.arithmetic.specs.Fractions.{Fraction, Same, Between, At, add, negative, mul}

abbrev pub Set : Type 1
Set = Fraction → Type 0

-- every member of S is one of T
abbrev pub Included : Set → Set → Type 0
Included S T = (v : Fraction) → S v → T v

-- some member times the scale s is a
pub record Attains (s a : ℤ) (S : Set) : Type 0 where
  pub value : Fraction
  pub member : S value
  pub at : At s a value

-- every member times the scale s lies between a and b, and both are attained
pub record Exact (s a b : ℤ) (S : Set) : Type 0 where
  pub holds : (v : Fraction) → S v → Between s a b v
  pub low : Attains s a S
  pub high : Attains s b S

-- the products of one member of each
pub record ProductSet (S T : Set) (v : Fraction) : Type 0 where
  pub left : Fraction
  pub right : Fraction
  pub in_left : S left
  pub in_right : T right
  pub is : Same (mul left right) v

-- the sums of one member of each
pub record SumSet (S T : Set) (v : Fraction) : Type 0 where
  pub left : Fraction
  pub right : Fraction
  pub in_left : S left
  pub in_right : T right
  pub is : Same (add left right) v

-- the negatives of the members
pub record NegativeSet (S : Set) (v : Fraction) : Type 0 where
  pub of : Fraction
  pub in_of : S of
  pub is : Same (negative of) v

-- the quotients: each z for which z times a divisor is a dividend
pub record QuotientSet (S T : Set) (z : Fraction) : Type 0 where
  pub dividend : Fraction
  pub divisor : Fraction
  pub in_dividend : S dividend
  pub in_divisor : T divisor
  pub is : Same (mul z divisor) dividend

-- zero alone
abbrev pub ZeroSet : Set
ZeroSet v = v.num ≡ pos 0

-- the sums of one member of each set, over n places from the place `from` on
abbrev pub TotalSet : (ℕ → Set) → (from n : ℕ) → Set
TotalSet F from zero = ZeroSet
TotalSet F from (suc n) = SumSet (TotalSet F from n) (F (from + n))
