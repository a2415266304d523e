-- The two sides of the floor and of the ceiling, by any divisor but 0. Assumes nothing.
use Rattle.std.proofs.Common.{◌≡◌, suc, ◌<◌, ℤ, pos, negsuc, ◌+ℤ◌, ◌-ℤ◌, ◌*ℤ◌, neg_ℤ, nat_abs, ◌≤ℤ◌, ◌<ℤ◌, refl, ap, mod-lt, div-add-mod', arith}
use lib.Signed.{clash_ℤ, shr_z}
use borrow.Author.Differences.{ints}
use Rattle.std.proofs.lemmas.Int.{by_lt_z}
use Rattle.arithmetic.specs.Fractions.{sign, size_positive}
use Rattle.arithmetic.specs.Rounding.{floor, ceiling, IsFloor, IsCeiling}
use Rattle.arithmetic.proofs.Integers.{ring, *ℤ_mono, *-one, +ℤ-*ℤ, one-*, neg-*ℤ, ≤ℤ_trans}

-- ---- the two sides of the floor, at a positive divisor
pub floor_low : (n d : ℤ) → pos 0 <ℤ d → (floor n d *ℤ d) ≤ℤ n
floor_low (pos a) (pos b) h = omega (arith, ints, div-add-mod' a b)
floor_low (negsuc a) (pos b) h = let p : 0 < b = omega (arith, ints) in omega (arith, ints, div-add-mod' a b, mod-lt a p)
floor_low n (negsuc b) h = omega (arith, ints)

pub floor_next : (n d : ℤ) → pos 0 <ℤ d → n <ℤ (floor n d *ℤ d +ℤ d)
floor_next (pos a) (pos b) h = let p : 0 < b = omega (arith, ints) in omega (arith, ints, div-add-mod' a b, mod-lt a p)
floor_next (negsuc a) (pos b) h = omega (arith, ints, div-add-mod' a b)
floor_next n (negsuc b) h = omega (arith, ints)

pub floor_high : (n d : ℤ) → pos 0 <ℤ d → n <ℤ ((floor n d +ℤ pos 1) *ℤ d)
floor_high n d h = rw (+ℤ-*ℤ, one-*) (floor_next n d h)

-- a number is at most the floor exactly where its product is at most the dividend
pub le_floor : (m n d : ℤ) → pos 0 <ℤ d → (m *ℤ d) ≤ℤ n → m ≤ℤ floor n d
le_floor m n d h k = by_lt_z (floor n d) m
    (λ l. let s : (floor n d +ℤ pos 1) ≤ℤ m = omega (arith, ints) in let z : pos 0 ≤ℤ d = omega (arith, ints) in
    clash_ℤ (floor_high n d h) (≤ℤ_trans (*ℤ_mono (floor n d +ℤ pos 1) m d z s) k))
    (λ l. l)

pub floor_negated : (n d : ℤ) → d <ℤ pos 0 → floor n d ≡ floor (neg_ℤ n) (neg_ℤ d)
floor_negated n (pos b) h = omega (arith, ints)
floor_negated n (negsuc b) h = refl

-- ---- the two sides of the ceiling, at a positive divisor
pub ceiling_high : (n d : ℤ) → pos 0 <ℤ d → n ≤ℤ (ceiling n d *ℤ d)
ceiling_high n d h = let f = floor_low (neg_ℤ n) d h in rw neg-*ℤ (omega (arith, ints))

pub ceiling_next : (n d : ℤ) → pos 0 <ℤ d → (ceiling n d *ℤ d) <ℤ (n +ℤ d)
ceiling_next n d h = let f = floor_next (neg_ℤ n) d h in rw neg-*ℤ (omega (arith, ints))

pub ceiling_negated : (n d : ℤ) → d <ℤ pos 0 → ceiling n d ≡ ceiling (neg_ℤ n) (neg_ℤ d)
ceiling_negated n d h = ap neg_ℤ (floor_negated (neg_ℤ n) d h)

-- ---- as fractions: n/d is n·sign d over the size of d
turned : (n d : ℤ) → floor n d ≡ floor (n *ℤ sign d) (pos (nat_abs d))
turned n (pos d) = rw *-one refl
turned n (negsuc d) = ap (λ (m : ℤ). shr_z m (suc d)) (opposite n)
  where
    opposite : (n : ℤ) → neg_ℤ n ≡ n *ℤ negsuc 0
    opposite n = omega (arith, ints)

-- cross products with the ones of a whole number left out
at_most : (q n s e : ℤ) → (q *ℤ e) ≤ℤ (n *ℤ s) → (q *ℤ (pos 1 *ℤ e)) ≤ℤ ((n *ℤ (s *ℤ pos 1)) *ℤ pos 1)
at_most q n s e h = simp ring h

at_most_out : (q n s e : ℤ) → (q *ℤ (pos 1 *ℤ e)) ≤ℤ ((n *ℤ (s *ℤ pos 1)) *ℤ pos 1) → (q *ℤ e) ≤ℤ (n *ℤ s)
at_most_out q n s e h = simp ring at h

at_least : (q n s e : ℤ) → (n *ℤ s) ≤ℤ (q *ℤ e) → ((n *ℤ (s *ℤ pos 1)) *ℤ pos 1) ≤ℤ (q *ℤ (pos 1 *ℤ e))
at_least q n s e h = simp ring h

at_least_out : (q n s e : ℤ) → ((n *ℤ (s *ℤ pos 1)) *ℤ pos 1) ≤ℤ (q *ℤ (pos 1 *ℤ e)) → (n *ℤ s) ≤ℤ (q *ℤ e)
at_least_out q n s e h = simp ring at h

less : (q n s e : ℤ) → (n *ℤ s) <ℤ (q *ℤ e) → ((n *ℤ (s *ℤ pos 1)) *ℤ pos 1) <ℤ (q *ℤ (pos 1 *ℤ e))
less q n s e h = simp ring h

more : (q n s e : ℤ) → (q *ℤ e) <ℤ (n *ℤ s) → (q *ℤ (pos 1 *ℤ e)) <ℤ ((n *ℤ (s *ℤ pos 1)) *ℤ pos 1)
more q n s e h = simp ring h

pub floor_law : (n d : ℤ) (nonzero : d ≡ pos 0 → ⊥) → IsFloor n d (floor n d) nonzero
floor_law n d nonzero =
    let s = sign d in let e = pos (nat_abs d) in let pe = size_positive d nonzero in
    record {
      under = record { cross = at_most (floor n d) n s e (rw (turned n d) (floor_low (n *ℤ s) e pe)) };
      next = record { cross = less (floor n d +ℤ pos 1) n s e (rw (turned n d) (floor_high (n *ℤ s) e pe)) };
      greatest = λ m h. rw (turned n d) (le_floor m (n *ℤ s) e pe (at_most_out m n s e h.cross));
    }

-- the floor of the opposite, turned round
pub ceiling_law : (n d : ℤ) (nonzero : d ≡ pos 0 → ⊥) → IsCeiling n d (ceiling n d) nonzero
ceiling_law n d nonzero =
    let s = sign d in let e = pos (nat_abs d) in let pe = size_positive d nonzero in
    let f = floor (neg_ℤ n) d in
    let low : (f *ℤ e) ≤ℤ (neg_ℤ n *ℤ s) = rw (turned (neg_ℤ n) d) (floor_low (neg_ℤ n *ℤ s) e pe) in
    let high : (neg_ℤ n *ℤ s) <ℤ ((f +ℤ pos 1) *ℤ e) = rw (turned (neg_ℤ n) d) (floor_high (neg_ℤ n *ℤ s) e pe) in
    record {
      over = record { cross = at_least (neg_ℤ f) n s e (up f n s e low) };
      before = record { cross = more (neg_ℤ f -ℤ pos 1) n s e (down f n s e high) };
      least = λ m h. let k : neg_ℤ m ≤ℤ f = rw (turned (neg_ℤ n) d) (le_floor (neg_ℤ m) (neg_ℤ n *ℤ s) e pe (flip m n s e (at_least_out m n s e h.cross))) in omega (arith, ints);
    }
  where
    up : (f n s e : ℤ) → (f *ℤ e) ≤ℤ (neg_ℤ n *ℤ s) → (n *ℤ s) ≤ℤ (neg_ℤ f *ℤ e)
    up f n s e h = simp neg-*ℤ (omega (arith, ints, simp neg-*ℤ at h))

    down : (f n s e : ℤ) → (neg_ℤ n *ℤ s) <ℤ ((f +ℤ pos 1) *ℤ e) → ((neg_ℤ f -ℤ pos 1) *ℤ e) <ℤ (n *ℤ s)
    down f n s e h = simp ring (omega (arith, ints, simp ring at h))

    flip : (m n s e : ℤ) → (n *ℤ s) ≤ℤ (m *ℤ e) → (neg_ℤ m *ℤ e) ≤ℤ (neg_ℤ n *ℤ s)
    flip m n s e h = simp neg-*ℤ (omega (arith, ints))
