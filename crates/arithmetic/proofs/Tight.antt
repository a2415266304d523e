-- Rounding an exact set gives tight bounds, the four quotients too; tight bounds grow with their set and are the only ones.
-- Assumes nothing.
use Rattle.std.proofs.Common.{◌≡◌, ◌⊎◌, ℤ, pos, negsuc, ◌+ℤ◌, ◌-ℤ◌, ◌*ℤ◌, neg_ℤ, ◌≤ℤ◌, ◌<ℤ◌, sym, ap, ◌∙◌, ⊎_elim, arith}
use lib.IntN.{zero-*ℤ}
use lib.Signed.{clash_ℤ}
use borrow.Author.Differences.{ints}
use Rattle.std.proofs.lemmas.Int.{by_lt_z, clamps}
use Rattle.arithmetic.specs.Four.{least4, greatest4}
use Rattle.arithmetic.specs.Fractions.{Fraction, Same, Between, At, negative, mul, quotient}
use Rattle.arithmetic.specs.Sets.{Set, Exact, Attains, QuotientSet}
use Rattle.arithmetic.proofs.Integers.{ring, *ℤ_mono, *ℤ_cancel, *ℤ_cancel_≡, *ℤ_pos, ≤ℤ_trans, mul_above, mul_below, +ℤ-*ℤ, one-*, neg-*ℤ, *ℤ-neg}
use Rattle.arithmetic.proofs.Fractions.{quotient_is, weak, between_weaken}
use Rattle.arithmetic.proofs.Sets.{least4_ind, greatest4_ind}
use Rattle.arithmetic.specs.Rounding.{floor, ceiling}
use Rattle.arithmetic.proofs.Floors.{floor_low, floor_next, floor_negated, ceiling_high, ceiling_next, ceiling_negated}
use Rattle.arithmetic.specs.Tight.{Above, Below, Near, Tight}
use Rattle.arithmetic.specs.Values.{least_quotient, greatest_quotient, lesser, greater}

-- strict products
pub *ℤ_mono_< : (a b y : ℤ) → pos 0 <ℤ y → a <ℤ b → (a *ℤ y) <ℤ (b *ℤ y)
*ℤ_mono_< a b y h k = by_lt_z (a *ℤ y) (b *ℤ y) (λ l. l) (λ l. clash_ℤ k (*ℤ_cancel b a y h l))

pub *ℤ_cancel_< : (a b y : ℤ) → pos 0 <ℤ y → (a *ℤ y) <ℤ (b *ℤ y) → a <ℤ b
*ℤ_cancel_< a b y h k = by_lt_z a b (λ l. l) (λ l. clash_ℤ k (*ℤ_mono b a y (weak h) l))

-- ---- rounding
round_along : (S : Set) (s t a b : ℤ) → pos 0 <ℤ t → Exact (s *ℤ t) a b S → Tight s (floor a t) (ceiling b t) S
round_along S s t a b h e = record {
  holds = λ v m. let k = e.holds v m in
      let p = *ℤ_mono _ _ v.den (weak v.positive) (floor_low a t h) in
      let q = *ℤ_mono _ _ v.den (weak v.positive) (ceiling_high b t h) in
      record {
        least = *ℤ_cancel _ _ t h (let l = k.least in simp ring (omega (arith, ints, simp ring at p, simp ring at l)));
        most = *ℤ_cancel _ _ t h (let l = k.most in simp ring (omega (arith, ints, simp ring at q, simp ring at l)));
      };
  low = let v = e.low.value in let i = e.low.at.is in
      let p = *ℤ_mono_< _ _ v.den v.positive (floor_next a t h) in
      record {
        value = v;
        member = e.low.member;
        near = *ℤ_cancel_< _ _ t h (simp ring (omega (arith, ints, simp ring at p, simp ring at i)));
      };
  high = let v = e.high.value in let i = e.high.at.is in
      let p = *ℤ_mono_< _ _ v.den v.positive (ceiling_next b t h) in
      record {
        value = v;
        member = e.high.member;
        near = *ℤ_cancel_< _ _ t h (simp ring (omega (arith, ints, simp ring at p, simp ring at i)));
      };
}

-- the opposite scale turns the bounds round
turned : {S : Set} (s t a b : ℤ) → Exact (s *ℤ t) a b S → Exact (s *ℤ neg_ℤ t) (neg_ℤ b) (neg_ℤ a) S
turned s t a b e = record {
  holds = λ v m. let k = e.holds v m in record { least = below s t b v.num v.den k.most; most = above s t a v.num v.den k.least };
  low = record { value = e.high.value; member = e.high.member; at = record { is = same s t b e.high.value.num e.high.value.den e.high.at.is } };
  high = record { value = e.low.value; member = e.low.member; at = record { is = same s t a e.low.value.num e.low.value.den e.low.at.is } };
}
  where
    below : (s t b n d : ℤ) → (n *ℤ (s *ℤ t)) ≤ℤ (b *ℤ d) → (neg_ℤ b *ℤ d) ≤ℤ (n *ℤ (s *ℤ neg_ℤ t))
    below s t b n d h = simp ring (omega (arith, ints, simp ring at h))

    above : (s t a n d : ℤ) → (a *ℤ d) ≤ℤ (n *ℤ (s *ℤ t)) → (n *ℤ (s *ℤ neg_ℤ t)) ≤ℤ (neg_ℤ a *ℤ d)
    above s t a n d h = simp ring (omega (arith, ints, simp ring at h))

    same : (s t a n d : ℤ) → n *ℤ (s *ℤ t) ≡ a *ℤ d → n *ℤ (s *ℤ neg_ℤ t) ≡ neg_ℤ a *ℤ d
    same s t a n d h = let g = ap neg_ℤ h in simp ring (simp ring at g)

-- the rounding law: a set that is exact at scale s·t is tight at scale s, rounded by t
pub round_law : (S : Set) (s t a b : ℤ) → (t ≡ pos 0 → ⊥) → Exact (s *ℤ t) a b S → Tight s (floor (lesser t a b) t) (ceiling (greater t a b) t) S
round_law S s (pos t) a b nonzero e = round_along S s (pos t) a b (omega (arith, ints)) e
round_law S s (negsuc t) a b nonzero e =
    let below : negsuc t <ℤ pos 0 = omega (arith, ints) in
    rw (floor_negated b (negsuc t) below, ceiling_negated a (negsuc t) below) (round_along S s (neg_ℤ (negsuc t)) (neg_ℤ b) (neg_ℤ a) (omega (arith, ints)) (turned s (negsuc t) a b e))

-- ---- the growth law: a larger set has wider bounds
pub mono_law : (S T : Set) (s a b c d : ℤ) → ((v : Fraction) → S v → T v) → Tight s a b S → Tight s c d T → (c ≤ℤ a) × (b ≤ℤ d)
mono_law S T s a b c d i p q = (
  let v = p.low.value in let k = (q.holds v (i v p.low.member)).least in let n = p.low.near in
      let l : c <ℤ (a +ℤ pos 1) = *ℤ_cancel_< _ _ v.den v.positive (omega (arith, ints)) in omega (arith, ints),
  let v = p.high.value in let k = (q.holds v (i v p.high.member)).most in let n = p.high.near in
      let l : (b -ℤ pos 1) <ℤ d = *ℤ_cancel_< _ _ v.den v.positive (omega (arith, ints)) in omega (arith, ints),
)

-- ---- quotients
-- z times w is v; v at scale s·t is at least a, w at scale s from c to d, all above 0
pub quotient_least : (s t a c d L : ℤ) (v w z : Fraction) → pos 0 <ℤ s → pos 0 <ℤ c → (a *ℤ v.den) ≤ℤ (v.num *ℤ (s *ℤ t)) → Between s c d w → Same (mul z w) v
    → (L *ℤ c) ≤ℤ a → (L *ℤ d) ≤ℤ a → (L *ℤ z.den) ≤ℤ (z.num *ℤ t)
quotient_least s t a c d L v w z ps pc hv hw e lc ld =
    let pw = weak w.positive in let pv = weak v.positive in let pz = weak z.positive in
    let m1 = *ℤ_mono _ _ w.den pw lc in let m2 = *ℤ_mono _ _ w.den pw ld in
    let step1 : ((w.num *ℤ s) *ℤ L) ≤ℤ (a *ℤ w.den) = mul_below (a *ℤ w.den) (c *ℤ w.den) (w.num *ℤ s) (d *ℤ w.den) L hw.least hw.most (simp ring (simp ring at m1)) (simp ring (simp ring at m2)) in
    let dd = weak (*ℤ_pos v.den z.den v.positive z.positive) in
    let wd = weak (*ℤ_pos w.den z.den w.positive z.positive) in
    let step2 = *ℤ_mono _ _ (v.den *ℤ z.den) dd step1 in
    let step3 = *ℤ_mono _ _ (w.den *ℤ z.den) wd hv in
    let step4 = ap (λ (x : ℤ). x *ℤ (s *ℤ t)) e.cross in
    let pw0 : pos 0 <ℤ (w.num *ℤ s) = (let q = *ℤ_pos c w.den pc w.positive in let k = hw.least in omega (arith, ints)) in
    *ℤ_cancel _ _ ((w.num *ℤ s) *ℤ v.den) (*ℤ_pos _ v.den pw0 v.positive)
    (simp ring (omega (arith, ints, simp ring at step2, simp ring at step3, simp ring at step4)))

pub quotient_most : (s t b c d H : ℤ) (v w z : Fraction) → pos 0 <ℤ s → pos 0 <ℤ c → (v.num *ℤ (s *ℤ t)) ≤ℤ (b *ℤ v.den) → Between s c d w → Same (mul z w) v
    → b ≤ℤ (H *ℤ c) → b ≤ℤ (H *ℤ d) → (z.num *ℤ t) ≤ℤ (H *ℤ z.den)
quotient_most s t b c d H v w z ps pc hv hw e lc ld =
    let pw = weak w.positive in let pv = weak v.positive in let pz = weak z.positive in
    let m1 = *ℤ_mono _ _ w.den pw lc in let m2 = *ℤ_mono _ _ w.den pw ld in
    let step1 : (b *ℤ w.den) ≤ℤ ((w.num *ℤ s) *ℤ H) = mul_above (b *ℤ w.den) (c *ℤ w.den) (w.num *ℤ s) (d *ℤ w.den) H hw.least hw.most (simp ring (simp ring at m1)) (simp ring (simp ring at m2)) in
    let dd = weak (*ℤ_pos v.den z.den v.positive z.positive) in
    let wd = weak (*ℤ_pos w.den z.den w.positive z.positive) in
    let step2 = *ℤ_mono _ _ (v.den *ℤ z.den) dd step1 in
    let step3 = *ℤ_mono _ _ (w.den *ℤ z.den) wd hv in
    let step4 = ap (λ (x : ℤ). x *ℤ (s *ℤ t)) e.cross in
    let pw0 : pos 0 <ℤ (w.num *ℤ s) = (let q = *ℤ_pos c w.den pc w.positive in let k = hw.least in omega (arith, ints)) in
    *ℤ_cancel _ _ ((w.num *ℤ s) *ℤ v.den) (*ℤ_pos _ v.den pw0 v.positive)
    (simp ring (omega (arith, ints, simp ring at step2, simp ring at step3, simp ring at step4)))

ends : (s c d : ℤ) (w : Fraction) → Between s c d w → c ≤ℤ d
ends s c d w h = *ℤ_cancel c d w.den w.positive (≤ℤ_trans h.least h.most)

under : (L q n d : ℤ) → pos 0 <ℤ d → L ≤ℤ q → (q *ℤ d) ≤ℤ n → (L *ℤ d) ≤ℤ n
under L q n d h k l = ≤ℤ_trans (*ℤ_mono L q d (weak h) k) l

beyond : (H q n d : ℤ) → pos 0 <ℤ d → q ≤ℤ H → n ≤ℤ (q *ℤ d) → n ≤ℤ (H *ℤ d)
beyond H q n d h k l = ≤ℤ_trans l (*ℤ_mono q H d (weak h) k)

positive_case : (s t a b c d : ℤ) (v w z : Fraction) → pos 0 <ℤ s → pos 0 <ℤ c → Between (s *ℤ t) a b v → Between s c d w → Same (mul z w) v
    → Between t (least_quotient a b c d) (greatest_quotient a b c d) z
unfolding least_quotient greatest_quotient
positive_case s t a b c d v w z ps pc hv hw e =
    let cd = ends s c d w hw in let pd : pos 0 <ℤ d = omega (arith, ints) in
    record {
      least = quotient_least s t a c d (least_quotient a b c d) v w z ps pc hv.least hw e
          (under _ (floor a c) a c pc (omega (arith, ints, clamps)) (floor_low a c pc)) (under _ (floor a d) a d pd (omega (arith, ints, clamps)) (floor_low a d pd));
      most = quotient_most s t b c d (greatest_quotient a b c d) v w z ps pc hv.most hw e
          (beyond _ (ceiling b c) b c pc (omega (arith, ints, clamps)) (ceiling_high b c pc)) (beyond _ (ceiling b d) b d pd (omega (arith, ints, clamps)) (ceiling_high b d pd));
    }

between_negative : (s a b : ℤ) (v : Fraction) → Between s a b v → Between s (neg_ℤ b) (neg_ℤ a) (negative v)
between_negative s a b v h = let k = h.least in let l = h.most in record { least = simp ring (omega (arith, ints)); most = simp ring (omega (arith, ints)) }

same_negative : (z w v : Fraction) → Same (mul z w) v → Same (mul z (negative w)) (negative v)
same_negative z w v e = record { cross = turned z.num w.num v.den v.num z.den w.den e.cross }
  where
    turned : (a b c d e f : ℤ) → (a *ℤ b) *ℤ c ≡ d *ℤ (e *ℤ f) → (a *ℤ neg_ℤ b) *ℤ c ≡ neg_ℤ d *ℤ (e *ℤ f)
    turned a b c d e f h = let g = ap neg_ℤ h in simp ring (simp ring at g)

negative_case : (s t a b c d : ℤ) (v w z : Fraction) → pos 0 <ℤ s → d <ℤ pos 0 → Between (s *ℤ t) a b v → Between s c d w → Same (mul z w) v
    → Between t (least_quotient a b c d) (greatest_quotient a b c d) z
unfolding least_quotient greatest_quotient
negative_case s t a b c d v w z ps nd hv hw e =
    let cd = ends s c d w hw in let nc : c <ℤ pos 0 = omega (arith, ints) in
    let k = positive_case s t (neg_ℤ b) (neg_ℤ a) (neg_ℤ d) (neg_ℤ c) (negative v) (negative w) z ps (omega (arith, ints)) (between_negative (s *ℤ t) a b v hv) (between_negative s c d w hw) (same_negative z w v e) in
    between_weaken t _ _ _ _ z k (low4 (floor_negated a c nc) (floor_negated a d nd) (floor_negated b c nc) (floor_negated b d nd)) (high4 (ceiling_negated a c nc) (ceiling_negated a d nd) (ceiling_negated b c nc) (ceiling_negated b d nd))
  where
    low4 : {p q r s p' q' r' s' : ℤ} → p ≡ p' → q ≡ q' → r ≡ r' → s ≡ s' → least4 p q r s ≤ℤ least4 s' r' q' p'
    low4 e f g h = omega (arith, ints, clamps)

    high4 : {p q r s p' q' r' s' : ℤ} → p ≡ p' → q ≡ q' → r ≡ r' → s ≡ s' → greatest4 s' r' q' p' ≤ℤ greatest4 p q r s
    high4 e f g h = omega (arith, ints, clamps)

-- ---- a quotient of bounds is near its rounding
corner : (s t x y : ℤ) (v w z : Fraction) → At (s *ℤ t) x v → At s y w → Same (mul z w) v → (z.num *ℤ t) *ℤ y ≡ x *ℤ z.den
corner s t x y v w z hv hw e = *ℤ_cancel_≡ _ _ (w.den *ℤ v.den) (*ℤ_pos w.den v.den w.positive v.positive)
    (let f = ap (λ (n : ℤ). n *ℤ (z.num *ℤ (t *ℤ v.den))) hw.is in let g = ap (λ (n : ℤ). n *ℤ (z.den *ℤ w.den)) hv.is in let k = ap (λ (n : ℤ). n *ℤ (s *ℤ t)) e.cross in
    simp ring (omega (arith, ints, simp ring at f, simp ring at g, simp ring at k)))

near_floor⁺ : (n x y d : ℤ) → pos 0 <ℤ y → pos 0 <ℤ d → n *ℤ y ≡ x *ℤ d → n <ℤ ((floor x y +ℤ pos 1) *ℤ d)
near_floor⁺ n x y d py pd e = let f = *ℤ_mono_< _ _ d pd (floor_next x y py) in *ℤ_cancel_< _ _ y py (simp ring (omega (arith, ints, simp ring at f)))

near_floor : (n x y d : ℤ) → (y ≡ pos 0 → ⊥) → pos 0 <ℤ d → n *ℤ y ≡ x *ℤ d → n <ℤ ((floor x y +ℤ pos 1) *ℤ d)
near_floor n x y d ny pd e = by_lt_z y (pos 0)
    (λ l. rw (floor_negated x y l) (near_floor⁺ n (neg_ℤ x) (neg_ℤ y) d (omega (arith, ints)) pd (simp (*ℤ-neg, neg-*ℤ) (ap neg_ℤ e))))
    (λ l. near_floor⁺ n x y d (omega (arith, ints)) pd e)

near_ceiling : (n x y d : ℤ) → (y ≡ pos 0 → ⊥) → pos 0 <ℤ d → n *ℤ y ≡ x *ℤ d → ((ceiling x y -ℤ pos 1) *ℤ d) <ℤ n
near_ceiling n x y d ny pd e = let k = near_floor (neg_ℤ n) (neg_ℤ x) y d ny pd (simp neg-*ℤ (ap neg_ℤ e)) in turn (floor (neg_ℤ x) y) n d k
  where
    turn : (f n d : ℤ) → neg_ℤ n <ℤ ((f +ℤ pos 1) *ℤ d) → ((neg_ℤ f -ℤ pos 1) *ℤ d) <ℤ n
    turn f n d k = simp ring (omega (arith, ints, simp ring at k))

nonzero_at : (s y : ℤ) (w : Fraction) → (y ≡ pos 0 → ⊥) → At s y w → w.num ≡ pos 0 → ⊥
nonzero_at s y w ny h e = ny (*ℤ_cancel_≡ y (pos 0) w.den w.positive (sym h.is ∙ ap (λ (n : ℤ). n *ℤ s) e ∙ zero-*ℤ s ∙ sym (zero-*ℤ w.den)))

above_corner : {S T : Set} (s t x y : ℤ) → (y ≡ pos 0 → ⊥) → Attains (s *ℤ t) x S → Attains s y T → Above t (floor x y) (QuotientSet S T)
above_corner s t x y ny p q =
    let v = p.value in let w = q.value in let nz = nonzero_at s y w ny q.at in let z = quotient v w nz in
    record {
      value = z;
      member = record { dividend = v; divisor = w; in_dividend = p.member; in_divisor = q.member; is = quotient_is v w nz };
      near = near_floor _ x y z.den ny z.positive (corner s t x y v w z p.at q.at (quotient_is v w nz));
    }

below_corner : {S T : Set} (s t x y : ℤ) → (y ≡ pos 0 → ⊥) → Attains (s *ℤ t) x S → Attains s y T → Below t (ceiling x y) (QuotientSet S T)
below_corner s t x y ny p q =
    let v = p.value in let w = q.value in let nz = nonzero_at s y w ny q.at in let z = quotient v w nz in
    record {
      value = z;
      member = record { dividend = v; divisor = w; in_dividend = p.member; in_divisor = q.member; is = quotient_is v w nz };
      near = near_ceiling _ x y z.den ny z.positive (corner s t x y v w z p.at q.at (quotient_is v w nz));
    }

-- the quotient law: four quotients of bounds, by a divisor on one side of 0
pub quotient_law : (S T : Set) (s t a b c d : ℤ) → pos 0 <ℤ s → (pos 0 <ℤ c) ⊎ (d <ℤ pos 0)
    → Exact (s *ℤ t) a b S → Exact s c d T → Tight t (least_quotient a b c d) (greatest_quotient a b c d) (QuotientSet S T)
unfolding least_quotient greatest_quotient
quotient_law S T s t a b c d ps sgn p q =
    let cd = ends s c d _ (q.holds _ q.low.member) in
    let nc : c ≡ pos 0 → ⊥ = ⊎_elim (λ h e. omega (arith, ints)) (λ h e. omega (arith, ints)) sgn in
    let nd : d ≡ pos 0 → ⊥ = ⊎_elim (λ h e. omega (arith, ints)) (λ h e. omega (arith, ints)) sgn in
    let P : ℤ → Type 0 = λ m. Above t m (QuotientSet S T) in
    let Q : ℤ → Type 0 = λ m. Below t m (QuotientSet S T) in
    record {
      holds = λ z h. ⊎_elim
          (λ k. positive_case s t a b c d h.dividend h.divisor z ps k (p.holds _ h.in_dividend) (q.holds _ h.in_divisor) h.is)
          (λ k. negative_case s t a b c d h.dividend h.divisor z ps k (p.holds _ h.in_dividend) (q.holds _ h.in_divisor) h.is) sgn;
      low = least4_ind P _ _ _ _ (above_corner s t a c nc p.low q.low) (above_corner s t a d nd p.low q.high) (above_corner s t b c nc p.high q.low) (above_corner s t b d nd p.high q.high);
      high = greatest4_ind Q _ _ _ _ (below_corner s t a c nc p.low q.low) (below_corner s t a d nd p.low q.high) (below_corner s t b c nc p.high q.low) (below_corner s t b d nd p.high q.high);
    }

-- attained bounds are near
pub exact_tight : {S : Set} (s a b : ℤ) → Exact s a b S → Tight s a b S
exact_tight s a b e = record {
  holds = e.holds;
  low = let v = e.low.value in let i = e.low.at.is in record { value = v; member = e.low.member; near = let p = v.positive in simp (+ℤ-*ℤ, one-*) (omega (arith, ints)) };
  high = let v = e.high.value in let i = e.high.at.is in record { value = v; member = e.high.member; near = let p = v.positive in simp (+ℤ-*ℤ, neg-*ℤ, one-*) (omega (arith, ints)) };
}

-- bounds near a set that they hold are in order
pub tight_order : {S : Set} (s a b : ℤ) → Tight s a b S → a ≤ℤ b
tight_order s a b t = ends s a b _ (t.holds _ t.low.member)

-- whole bounds that are tight are the only ones
pub tight_unique : (S : Set) (s a b c d : ℤ) → Tight s a b S → Tight s c d S → (a ≡ c) × (b ≡ d)
tight_unique S s a b c d p q = let k = mono_law S S s a b c d (λ v h. h) p q in let l = mono_law S S s c d a b (λ v h. h) q p in (omega (arith, ints), omega (arith, ints))

-- less than one step on one side, and held on the other
pub tight_low : {S : Set} (s a b : ℤ) → Tight s a b S → Near s a S
tight_low s a b t = let v = t.low.value in let l = (t.holds v t.low.member).least in let p = v.positive in
    record { value = v; member = t.low.member; above = simp (+ℤ-*ℤ, neg-*ℤ, one-*) (omega (arith, ints)); below = t.low.near }

pub tight_high : {S : Set} (s a b : ℤ) → Tight s a b S → Near s b S
tight_high s a b t = let v = t.high.value in let l = (t.holds v t.high.member).most in let p = v.positive in
    record { value = v; member = t.high.member; above = t.high.near; below = simp (+ℤ-*ℤ, one-*) (omega (arith, ints)) }
