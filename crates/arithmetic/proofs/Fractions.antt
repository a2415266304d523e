-- The laws of fractions: products, sums and other scales of what lies between bounds, and equal fractions treated alike.
-- Assumes nothing.
use Rattle.std.proofs.Common.{◌≡◌, ℤ, pos, negsuc, ◌+ℤ◌, ◌*ℤ◌, nat_abs, ◌≤ℤ◌, ◌<ℤ◌, sym, refl, ap, arith}
use borrow.Author.Differences.{ints}
use Rattle.std.proofs.lemmas.Int.{clamps}
use Rattle.arithmetic.specs.Four.{least4, greatest4}
use Rattle.arithmetic.specs.Fractions.{Fraction, Same, Between, At, add, mul, ratio, quotient, sign}
use Rattle.arithmetic.proofs.Integers.{ring, *ℤ_pos, *ℤ_mono, *ℤ_cancel, *ℤ_cancel_≡, ≤ℤ_trans, mul_above_4, mul_below_4}

pub weak : {s : ℤ} → pos 0 <ℤ s → pos 0 ≤ℤ s
weak h = omega (arith, ints)

least4_low : (a b c d : ℤ) → (least4 a b c d ≤ℤ a) × (least4 a b c d ≤ℤ b) × (least4 a b c d ≤ℤ c) × (least4 a b c d ≤ℤ d)
least4_low a b c d = (omega (arith, ints, clamps), omega (arith, ints, clamps), omega (arith, ints, clamps), omega (arith, ints, clamps))

greatest4_high : (a b c d : ℤ) → (a ≤ℤ greatest4 a b c d) × (b ≤ℤ greatest4 a b c d) × (c ≤ℤ greatest4 a b c d) × (d ≤ℤ greatest4 a b c d)
greatest4_high a b c d = (omega (arith, ints, clamps), omega (arith, ints, clamps), omega (arith, ints, clamps), omega (arith, ints, clamps))

scaled : (m a c p q : ℤ) → pos 0 <ℤ p → pos 0 <ℤ q → m ≤ℤ (a *ℤ c) → (m *ℤ (p *ℤ q)) ≤ℤ ((a *ℤ p) *ℤ (c *ℤ q))
scaled m a c p q h k l = simp ring (simp ring at (*ℤ_mono m (a *ℤ c) (p *ℤ q) (weak (*ℤ_pos p q h k)) l))

scaled' : (m a c p q : ℤ) → pos 0 <ℤ p → pos 0 <ℤ q → (a *ℤ c) ≤ℤ m → ((a *ℤ p) *ℤ (c *ℤ q)) ≤ℤ (m *ℤ (p *ℤ q))
scaled' m a c p q h k l = simp ring (simp ring at (*ℤ_mono (a *ℤ c) m (p *ℤ q) (weak (*ℤ_pos p q h k)) l))

-- the product law
pub between_mul : (s t a b c d : ℤ) (v w : Fraction) → Between s a b v → Between t c d w
    → Between (s *ℤ t) (least4 (a *ℤ c) (a *ℤ d) (b *ℤ c) (b *ℤ d)) (greatest4 (a *ℤ c) (a *ℤ d) (b *ℤ c) (b *ℤ d)) (mul v w)
between_mul s t a b c d v w h k =
    let lo = least4_low (a *ℤ c) (a *ℤ d) (b *ℤ c) (b *ℤ d) in
    let hi = greatest4_high (a *ℤ c) (a *ℤ d) (b *ℤ c) (b *ℤ d) in
    let p = v.den in let q = w.den in let pp = v.positive in let qq = w.positive in
    let m = least4 (a *ℤ c) (a *ℤ d) (b *ℤ c) (b *ℤ d) in
    let n = greatest4 (a *ℤ c) (a *ℤ d) (b *ℤ c) (b *ℤ d) in
    record {
      least = rw (swap v.num w.num s t) (mul_above_4 (m *ℤ (p *ℤ q)) (a *ℤ p) (v.num *ℤ s) (b *ℤ p) (c *ℤ q) (w.num *ℤ t) (d *ℤ q) h.least h.most k.least k.most
          (scaled m a c p q pp qq lo.0) (scaled m a d p q pp qq lo.1) (scaled m b c p q pp qq lo.2) (scaled m b d p q pp qq lo.3));
      most = rw (swap v.num w.num s t) (mul_below_4 (n *ℤ (p *ℤ q)) (a *ℤ p) (v.num *ℤ s) (b *ℤ p) (c *ℤ q) (w.num *ℤ t) (d *ℤ q) h.least h.most k.least k.most
          (scaled' n a c p q pp qq hi.0) (scaled' n a d p q pp qq hi.1) (scaled' n b c p q pp qq hi.2) (scaled' n b d p q pp qq hi.3));
    }
  where
    swap : (v w s t : ℤ) → (v *ℤ w) *ℤ (s *ℤ t) ≡ (v *ℤ s) *ℤ (w *ℤ t)
    swap v w s t = simp ring

-- the sum law
pub between_add : (s a b c d : ℤ) (v w : Fraction) → Between s a b v → Between s c d w → Between s (a +ℤ c) (b +ℤ d) (add v w)
between_add s a b c d v w h k =
    let p = v.den in let q = w.den in let pp = weak v.positive in let qq = weak w.positive in
    let l1 = *ℤ_mono _ _ q qq h.least in let l2 = *ℤ_mono _ _ p pp k.least in
    let m1 = *ℤ_mono _ _ q qq h.most in let m2 = *ℤ_mono _ _ p pp k.most in
    record { least = simp ring (omega (arith, ints, simp ring at l1, simp ring at l2)); most = simp ring (omega (arith, ints, simp ring at m1, simp ring at m2)) }

-- weaker bounds
pub between_weaken : (s a b c d : ℤ) (v : Fraction) → Between s a b v → c ≤ℤ a → b ≤ℤ d → Between s c d v
between_weaken s a b c d v h k l = record { least = ≤ℤ_trans (*ℤ_mono c a v.den (weak v.positive) k) h.least; most = ≤ℤ_trans h.most (*ℤ_mono b d v.den (weak v.positive) l) }

-- another scale
pub between_rescale : (s t a b : ℤ) (v : Fraction) → pos 0 ≤ℤ t → Between s a b v → Between (s *ℤ t) (a *ℤ t) (b *ℤ t) v
between_rescale s t a b v z h =
    let l = *ℤ_mono _ _ t z h.least in let m = *ℤ_mono _ _ t z h.most in
    record { least = simp ring (omega (arith, ints, simp ring at l)); most = simp ring (omega (arith, ints, simp ring at m)) }

-- ---- equal fractions are treated alike
pub between_same : (s a b : ℤ) (v w : Fraction) → Same v w → Between s a b v → Between s a b w
between_same s a b v w e h =
    let q = weak w.positive in
    let l = *ℤ_mono _ _ w.den q h.least in let m = *ℤ_mono _ _ w.den q h.most in
    let e' = ap (λ (z : ℤ). z *ℤ s) e.cross in
    record {
      least = *ℤ_cancel _ _ v.den v.positive (simp ring (omega (arith, ints, simp ring at l, simp ring at e')));
      most = *ℤ_cancel _ _ v.den v.positive (simp ring (omega (arith, ints, simp ring at m, simp ring at e')));
    }

-- ---- attained
pub at_ratio : (a s : ℤ) (h : pos 0 <ℤ s) → At s a (ratio a s h)
at_ratio a s h = record { is = refl }

pub at_mul : (s t a b : ℤ) (v w : Fraction) → At s a v → At t b w → At (s *ℤ t) (a *ℤ b) (mul v w)
at_mul s t a b v w h k = record { is = let e : (v.num *ℤ s) *ℤ (w.num *ℤ t) ≡ (a *ℤ v.den) *ℤ (b *ℤ w.den) = cc (h.is, k.is) in simp ring (simp ring at e) }

pub at_add : (s a b : ℤ) (v w : Fraction) → At s a v → At s b w → At s (a +ℤ b) (add v w)
at_add s a b v w h k = record { is = let e = ap (λ (z : ℤ). z *ℤ w.den) h.is in let f = ap (λ (z : ℤ). z *ℤ v.den) k.is in simp ring (omega (arith, ints, simp ring at e, simp ring at f)) }

pub at_same : (s a : ℤ) (v w : Fraction) → Same v w → At s a v → At s a w
at_same s a v w e h = record {
  is = *ℤ_cancel_≡ _ _ v.den v.positive
      (let f = ap (λ (z : ℤ). z *ℤ w.den) h.is in let g = ap (λ (z : ℤ). z *ℤ s) e.cross in simp ring (omega (arith, ints, simp ring at f, simp ring at g)));
}

pub at_rescale : (s t a : ℤ) (v : Fraction) → At s a v → At (s *ℤ t) (a *ℤ t) v
at_rescale s t a v h = record { is = let f = ap (λ (z : ℤ). z *ℤ t) h.is in simp ring (omega (arith, ints, simp ring at f)) }

pub same_refl : (v : Fraction) → Same v v
same_refl v = record { cross = refl }

pub same_sym : (v w : Fraction) → Same v w → Same w v
same_sym v w h = record { cross = sym h.cross }

pub same_trans : (u v w : Fraction) → Same u v → Same v w → Same u w
same_trans u v w h k = record {
  cross = *ℤ_cancel_≡ _ _ v.den v.positive
      (let f = ap (λ (z : ℤ). z *ℤ w.den) h.cross in let g = ap (λ (z : ℤ). z *ℤ u.den) k.cross in simp ring (omega (arith, ints, simp ring at f, simp ring at g)));
}

sign_size : (n : ℤ) → sign n *ℤ n ≡ pos (nat_abs n)
sign_size (pos n) = omega (arith, ints)
sign_size (negsuc n) = omega (arith, ints)

-- the quotient times the divisor is the dividend
pub quotient_is : (v w : Fraction) (h : w.num ≡ pos 0 → ⊥) → Same (mul (quotient v w h) w) v
quotient_is v w h = record { cross = rw (← sign_size w.num) (simp ring) }

-- products and sums of equals are equal
pub mul_same : (v v' w w' : Fraction) → Same v v' → Same w w' → Same (mul v w) (mul v' w')
mul_same v v' w w' h k = record { cross = let e : (v.num *ℤ v'.den) *ℤ (w.num *ℤ w'.den) ≡ (v'.num *ℤ v.den) *ℤ (w'.num *ℤ w.den) = cc (h.cross, k.cross) in simp ring (simp ring at e) }

pub add_same : (v v' w w' : Fraction) → Same v v' → Same w w' → Same (add v w) (add v' w')
add_same v v' w w' h k = record {
  cross =
      let e = ap (λ (z : ℤ). z *ℤ (w.den *ℤ w'.den)) h.cross in let f = ap (λ (z : ℤ). z *ℤ (v.den *ℤ v'.den)) k.cross in
      simp ring (omega (arith, ints, simp ring at e, simp ring at f));
}
