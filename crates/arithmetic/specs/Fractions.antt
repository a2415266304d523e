-- Fractions: a whole number over a positive one. Cross products decide which are equal and which is less.
-- They stand in statements only: no program computes with them.
use Rattle.std.specs.Prelude.{◌≡◌, zero, suc, ℤ, pos, negsuc, ◌+ℤ◌, ◌*ℤ◌, neg_ℤ, ◌≤ℤ◌, ◌<ℤ◌, ◌≢◌, unsigned_abs}
use Rattle.std.proofs.Common.{arith}
use Rattle.std.proofs.lemmas.Int.{ints}

pub record Fraction : Type 0 where
  pub num : ℤ
  pub den : ℤ
  pub positive : pos 0 <ℤ den

-- v equals w
pub record Same (v w : Fraction) : Type 0 where
  pub cross : v.num *ℤ w.den ≡ w.num *ℤ v.den

-- v is less than w
pub record Less (v w : Fraction) : Type 0 where
  pub cross : (v.num *ℤ w.den) <ℤ (w.num *ℤ v.den)

-- v is at most w
pub record AtMost (v w : Fraction) : Type 0 where
  pub cross : (v.num *ℤ w.den) ≤ℤ (w.num *ℤ v.den)

-- v times the scale s lies from low to high
pub record Between (s low high : ℤ) (v : Fraction) : Type 0 where
  pub least : (low *ℤ v.den) ≤ℤ (v.num *ℤ s)
  pub most : (v.num *ℤ s) ≤ℤ (high *ℤ v.den)

-- v times the scale s is a
pub record At (s a : ℤ) (v : Fraction) : Type 0 where
  pub is : v.num *ℤ s ≡ a *ℤ v.den

-- the product of positive numbers is positive
pub positive_product : (a b : ℤ) → pos 0 <ℤ a → pos 0 <ℤ b → pos 0 <ℤ (a *ℤ b)
positive_product (pos (suc a)) (pos (suc b)) h k = omega (arith, ints)
positive_product (pos zero) b h k = omega (arith, ints)
positive_product (negsuc a) b h k = omega (arith, ints)
positive_product (pos (suc a)) (pos zero) h k = omega (arith, ints)
positive_product (pos (suc a)) (negsuc b) h k = omega (arith, ints)

abbrev pub add : Fraction → Fraction → Fraction
add v w = record { num = v.num *ℤ w.den +ℤ w.num *ℤ v.den; den = v.den *ℤ w.den; positive = positive_product v.den w.den v.positive w.positive }

abbrev pub negative : Fraction → Fraction
negative v = record { num = neg_ℤ v.num; den = v.den; positive = v.positive }

abbrev pub mul : Fraction → Fraction → Fraction
mul v w = record { num = v.num *ℤ w.num; den = v.den *ℤ w.den; positive = positive_product v.den w.den v.positive w.positive }

-- a over s
abbrev pub ratio : (a s : ℤ) → pos 0 <ℤ s → Fraction
ratio a s h = record { num = a; den = s; positive = h }

-- a whole number
pub one_positive : pos 0 <ℤ pos 1
one_positive = omega (arith, ints)

abbrev pub whole : ℤ → Fraction
whole a = ratio a (pos 1) one_positive

pub size_positive : (n : ℤ) → (n ≢ pos 0) → pos 0 <ℤ pos (unsigned_abs n)
size_positive n h = omega (arith, ints)

abbrev pub sign : ℤ → ℤ
sign (pos n) = pos 1
sign (negsuc n) = negsuc 0

-- one over w, for w that is not 0
abbrev pub inverse : (w : Fraction) → (w.num ≢ pos 0) → Fraction
inverse w h = record { num = sign w.num *ℤ w.den; den = pos (unsigned_abs w.num); positive = size_positive w.num h }

-- v over w
abbrev pub quotient : (v w : Fraction) → (w.num ≢ pos 0) → Fraction
quotient v w h = mul v (inverse w h)
