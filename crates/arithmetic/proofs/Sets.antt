-- Exact bounds of products, sums, negatives and other scales of sets, and that sets grow with what they are made of.
-- Assumes nothing.
use Rattle.std.proofs.Common.{ℕ, zero, suc, ◌+◌, ◌<◌, ◌≤◌, Bool, true, false, cond, ℤ, pos, ◌+ℤ◌, ◌*ℤ◌, neg_ℤ, ◌≤ℤ◌, ◌<ℤ◌, refl, ap, arith}
use lib.IntN.{zero-*ℤ}
use lib.Signed.{lt_z}
use borrow.Author.Differences.{ints}
use Rattle.std.specs.Int.{int_min, int_max}
use Rattle.arithmetic.specs.Four.{least4, greatest4}
use Rattle.arithmetic.specs.Fractions.{Fraction, Between, At, add, mul, negative, ratio}
use Rattle.arithmetic.specs.Sets.{Set, Attains, Exact, ProductSet, SumSet, QuotientSet, NegativeSet, ZeroSet, TotalSet, Included}
use Rattle.arithmetic.proofs.Integers.{*ℤ_mono, *ℤ_cancel, neg-*ℤ}
use Rattle.arithmetic.proofs.Fractions.{between_mul, between_add, between_same, between_rescale, at_ratio, at_mul, at_add, at_rescale, same_refl, weak}

pick : (t : Bool) (P : ℤ → Type 0) (a b : ℤ) → P a → P b → P (cond t a b)
pick true P a b p q = p
pick false P a b p q = q

-- what holds of four numbers holds of the least and the greatest
pub least4_ind : (P : ℤ → Type 0) (a b c d : ℤ) → P a → P b → P c → P d → P (least4 a b c d)
least4_ind P a b c d p q r s = pick (lt_z (int_min c d) (int_min a b)) P _ _ (pick (lt_z d c) P _ _ s r) (pick (lt_z b a) P _ _ q p)

pub greatest4_ind : (P : ℤ → Type 0) (a b c d : ℤ) → P a → P b → P c → P d → P (greatest4 a b c d)
greatest4_ind P a b c d p q r s = pick (lt_z (int_max c d) (int_max a b)) P _ _ (pick (lt_z b a) P _ _ p q) (pick (lt_z d c) P _ _ r s)

attains_mul : {S T : Set} (s t a b : ℤ) → Attains s a S → Attains t b T → Attains (s *ℤ t) (a *ℤ b) (ProductSet S T)
attains_mul s t a b p q = record {
  value = mul p.value q.value;
  member = record { left = p.value; right = q.value; in_left = p.member; in_right = q.member; is = same_refl _ };
  at = at_mul s t a b p.value q.value p.at q.at;
}

attains_add : {S T : Set} (s a b : ℤ) → Attains s a S → Attains s b T → Attains s (a +ℤ b) (SumSet S T)
attains_add s a b p q = record {
  value = add p.value q.value;
  member = record { left = p.value; right = q.value; in_left = p.member; in_right = q.member; is = same_refl _ };
  at = at_add s a b p.value q.value p.at q.at;
}

pub exact_mul : {S T : Set} (s t a b c d : ℤ) → Exact s a b S → Exact t c d T
    → Exact (s *ℤ t) (least4 (a *ℤ c) (a *ℤ d) (b *ℤ c) (b *ℤ d)) (greatest4 (a *ℤ c) (a *ℤ d) (b *ℤ c) (b *ℤ d)) (ProductSet S T)
exact_mul {S} {T} s t a b c d p q =
    let P : ℤ → Type 0 = λ m. Attains (s *ℤ t) m (ProductSet S T) in
    let ac = attains_mul s t a c p.low q.low in let ad = attains_mul s t a d p.low q.high in
    let bc = attains_mul s t b c p.high q.low in let bd = attains_mul s t b d p.high q.high in
    record {
      holds = λ v h. between_same _ _ _ _ v h.is (between_mul s t a b c d h.left h.right (p.holds _ h.in_left) (q.holds _ h.in_right));
      low = least4_ind P _ _ _ _ ac ad bc bd;
      high = greatest4_ind P _ _ _ _ ac ad bc bd;
    }

pub exact_add : {S T : Set} (s a b c d : ℤ) → Exact s a b S → Exact s c d T → Exact s (a +ℤ c) (b +ℤ d) (SumSet S T)
exact_add s a b c d p q = record {
  holds = λ v h. between_same _ _ _ _ v h.is (between_add s a b c d h.left h.right (p.holds _ h.in_left) (q.holds _ h.in_right));
  low = attains_add s a c p.low q.low;
  high = attains_add s b d p.high q.high;
}

pub exact_rescale : {S : Set} (s t a b : ℤ) → pos 0 ≤ℤ t → Exact s a b S → Exact (s *ℤ t) (a *ℤ t) (b *ℤ t) S
exact_rescale s t a b z p = record {
  holds = λ v h. between_rescale s t a b v z (p.holds v h);
  low = record { value = p.low.value; member = p.low.member; at = at_rescale s t a _ p.low.at };
  high = record { value = p.high.value; member = p.high.member; at = at_rescale s t b _ p.high.at };
}

-- whole bounds are attained by their own fractions
pub exact_between : (U a b : ℤ) → pos 0 <ℤ U → a ≤ℤ b → Exact U a b (Between U a b)
exact_between U a b u h =
    let m = *ℤ_mono a b U (weak u) h in
    record {
      holds = λ v k. k;
      low = record { value = ratio a U u; member = record { least = omega (arith, ints); most = m }; at = at_ratio a U u };
      high = record { value = ratio b U u; member = record { least = m; most = omega (arith, ints) }; at = at_ratio b U u };
    }

pub exact_zero : (s : ℤ) → Exact s (pos 0) (pos 0) ZeroSet
exact_zero s = record {
  holds = λ v h. record { least = rw (h, zero-*ℤ) (omega (arith, ints)); most = rw (h, zero-*ℤ) (omega (arith, ints)) };
  low = record { value = ratio (pos 0) (pos 1) (omega (arith, ints)); member = refl; at = record { is = zero-*ℤ s } };
  high = record { value = ratio (pos 0) (pos 1) (omega (arith, ints)); member = refl; at = record { is = zero-*ℤ s } };
}

pub exact_negative : {S : Set} (s a b : ℤ) → Exact s a b S → Exact s (neg_ℤ b) (neg_ℤ a) (NegativeSet S)
exact_negative s a b p = record {
  holds = λ v h. between_same _ _ _ _ v h.is (turned h.of (p.holds _ h.in_of));
  low = record { value = negative p.high.value; member = record { of = p.high.value; in_of = p.high.member; is = same_refl _ }; at = at_negative b p.high.value p.high.at };
  high = record { value = negative p.low.value; member = record { of = p.low.value; in_of = p.low.member; is = same_refl _ }; at = at_negative a p.low.value p.low.at };
}
  where
    turned : (v : Fraction) → Between s a b v → Between s (neg_ℤ b) (neg_ℤ a) (negative v)
    turned v h = let k = h.least in let l = h.most in record { least = simp neg-*ℤ (omega (arith, ints)); most = simp neg-*ℤ (omega (arith, ints)) }

    at_negative : (c : ℤ) (v : Fraction) → At s c v → At s (neg_ℤ c) (negative v)
    at_negative c v h = record { is = simp neg-*ℤ (ap neg_ℤ h.is) }

-- bounds that hold a set are outside its exact ones
pub exact_within : {S : Set} (s a b c d : ℤ) → Exact s a b S → ((v : Fraction) → S v → Between s c d v) → (c ≤ℤ a) × (b ≤ℤ d)
exact_within s a b c d e f =
    let v = e.low.value in let w = e.high.value in
    let l = (f v e.low.member).least in let m = (f w e.high.member).most in
    let i = e.low.at.is in let j = e.high.at.is in
    (*ℤ_cancel c a v.den v.positive (omega (arith, ints)), *ℤ_cancel b d w.den w.positive (omega (arith, ints)))

-- ---- sets grow with what they are made of
pub products_grow : {S S' T T' : Set} → Included S S' → Included T T' → Included (ProductSet S T) (ProductSet S' T')
products_grow f g v h = record { left = h.left; right = h.right; in_left = f _ h.in_left; in_right = g _ h.in_right; is = h.is }

pub sums_grow : {S S' T T' : Set} → Included S S' → Included T T' → Included (SumSet S T) (SumSet S' T')
sums_grow f g v h = record { left = h.left; right = h.right; in_left = f _ h.in_left; in_right = g _ h.in_right; is = h.is }

pub negatives_grow : {S S' : Set} → Included S S' → Included (NegativeSet S) (NegativeSet S')
negatives_grow f v h = record { of = h.of; in_of = f _ h.in_of; is = h.is }

pub quotients_grow : {S S' T T' : Set} → Included S S' → Included T T' → Included (QuotientSet S T) (QuotientSet S' T')
quotients_grow f g v h = record { dividend = h.dividend; divisor = h.divisor; in_dividend = f _ h.in_dividend; in_divisor = g _ h.in_divisor; is = h.is }

pub totals_grow : (F G : ℕ → Set) (from n : ℕ) → ((j : ℕ) → from ≤ j → j < from + n → Included (F j) (G j)) → Included (TotalSet F from n) (TotalSet G from n)
totals_grow F G from zero f v h = h
totals_grow F G from (suc n) f v h = sums_grow {S = TotalSet F from n} {S' = TotalSet G from n} {T = F (from + n)} {T' = G (from + n)} (totals_grow F G from n (λ j b c. f j b (omega (arith, c)))) (f (from + n) (omega arith) (omega arith)) v h
