-- Sizes of sums and products: how large a bound can grow, and that it fits a 64-bit word. Assumes nothing.
use Rattle.std.proofs.Common.{◌≡◌, ℕ, zero, suc, ◌+◌, ◌*◌, ◌^◌, ◌<◌, ◌≤◌, ltb, ℤ, pos, negsuc, ◌+ℤ◌, ◌*ℤ◌, neg_ℤ, nat_abs, sym, refl, ◌∙◌, subst, mul-one, mul-add, add-one, arith, w64, SFits}
use lib.IntN.{sub_ℕ}
use lib.Signed.{lt_z}
use Rattle.std.specs.Int.{int_min, int_max}
use Rattle.std.proofs.lemmas.Nat.{mul-le}
use Rattle.std.proofs.lemmas.Int.{ints}
use Rattle.std.proofs.lemmas.Bool.{cond_both, ltb-true}
use Rattle.arithmetic.specs.Four.{least4, greatest4}
use Rattle.arithmetic.specs.Values.{Value, empty, bounds, plus, opposite, times, total, Small}

-- ---- one number
sub_size : (a b : ℕ) → nat_abs (sub_ℕ a b) ≤ a + b
sub_size a b = cond_both (ltb a b) _ _ (λ z. nat_abs z ≤ a + b) (λ e. omega (arith, ltb-true a b e)) (λ e. omega arith)

pub size_add : (a b : ℤ) → nat_abs (a +ℤ b) ≤ nat_abs a + nat_abs b
size_add (pos a) (pos b) = omega arith
size_add (pos a) (negsuc b) = sub_size a (suc b)
size_add (negsuc a) (pos b) = omega (arith, sub_size b (suc a))
size_add (negsuc a) (negsuc b) = omega arith

pub size_negative : (a : ℤ) → nat_abs (neg_ℤ a) ≡ nat_abs a
size_negative (pos zero) = refl
size_negative (pos (suc n)) = refl
size_negative (negsuc n) = refl

size_product : (a b : ℤ) → nat_abs (a *ℤ b) ≡ nat_abs a * nat_abs b
size_product (pos a) (pos b) = refl
size_product (pos a) (negsuc b) = size_negative (pos (a * suc b))
size_product (negsuc a) (pos b) = size_negative (pos (suc a * b))
size_product (negsuc a) (negsuc b) = refl

pub size_mul : (a b : ℤ) (m n : ℕ) → nat_abs a ≤ m → nat_abs b ≤ n → nat_abs (a *ℤ b) ≤ m * n
size_mul a b m n h k = rw size_product (mul-le (nat_abs a) (nat_abs b) m n h k)

pub size_fits : (z : ℤ) → nat_abs z < 2 ^ 63 → SFits w64 z
size_fits z h = omega (arith, ints)

-- ---- the least and the greatest of four
min_size : (n : ℕ) (x y : ℤ) → nat_abs x ≤ n → nat_abs y ≤ n → nat_abs (int_min x y) ≤ n
min_size n x y h k = cond_both (lt_z y x) y x (λ z. nat_abs z ≤ n) (λ e. k) (λ e. h)

max_size : (n : ℕ) (x y : ℤ) → nat_abs x ≤ n → nat_abs y ≤ n → nat_abs (int_max x y) ≤ n
max_size n x y h k = cond_both (lt_z y x) x y (λ z. nat_abs z ≤ n) (λ e. h) (λ e. k)

least4_size : (n : ℕ) (p q r s : ℤ) → nat_abs p ≤ n → nat_abs q ≤ n → nat_abs r ≤ n → nat_abs s ≤ n → nat_abs (least4 p q r s) ≤ n
least4_size n p q r s a b c d = min_size n (int_min p q) (int_min r s) (min_size n p q a b) (min_size n r s c d)

greatest4_size : (n : ℕ) (p q r s : ℤ) → nat_abs p ≤ n → nat_abs q ≤ n → nat_abs r ≤ n → nat_abs s ≤ n → nat_abs (greatest4 p q r s) ≤ n
greatest4_size n p q r s a b c d = max_size n (int_max p q) (int_max r s) (max_size n p q a b) (max_size n r s c d)

-- ---- values
pub small_times : (m n : ℕ) (x y : Value) → Small m x → Small n y → Small (m * n) (times x y)
small_times m n empty y h k = tt
small_times m n (bounds a b) empty h k = tt
small_times m n (bounds a b) (bounds c d) h k =
    let ac = size_mul a c m n h.0 k.0 in let ad = size_mul a d m n h.0 k.1 in
    let bc = size_mul b c m n h.1 k.0 in let bd = size_mul b d m n h.1 k.1 in
    (least4_size (m * n) (a *ℤ c) (a *ℤ d) (b *ℤ c) (b *ℤ d) ac ad bc bd, greatest4_size (m * n) (a *ℤ c) (a *ℤ d) (b *ℤ c) (b *ℤ d) ac ad bc bd)

pub small_plus : (m n : ℕ) (x y : Value) → Small m x → Small n y → Small (m + n) (plus x y)
small_plus m n empty y h k = tt
small_plus m n (bounds a b) empty h k = tt
small_plus m n (bounds a b) (bounds c d) h k = (omega (arith, size_add a c), omega (arith, size_add b d))

pub small_opposite : (n : ℕ) (x : Value) → Small n x → Small n (opposite x)
small_opposite n empty h = tt
small_opposite n (bounds a b) h = (omega (arith, size_negative b), omega (arith, size_negative a))

pub small_more : (m n : ℕ) (x : Value) → m ≤ n → Small m x → Small n x
small_more m n empty le h = tt
small_more m n (bounds a b) le h = (omega arith, omega arith)

-- ---- a loop that sums: after k terms one more, the place j, each at most m in size
pub total_more : (f : ℕ → Value) (m from k j n : ℕ) (sofar term all : Value) → from + k ≡ j → n ≡ k + 1 → sofar ≡ total f from k → term ≡ f j → all ≡ plus sofar term → Small (m * k) sofar → Small m term
    → (all ≡ total f from n) × Small (m * n) all
total_more f m from k j n sofar term all p q s t a h i =
    let P : Value → Type 0 = Small (m * n) in
    (a ∙ rw (q, add-one, p, s, t) refl, subst P (sym a) (small_more (m * k + m) (m * n) (plus sofar term) (rw q (room m k)) (small_plus (m * k) m sofar term h i)))
  where
    room : (m k : ℕ) → m * k + m ≤ m * (k + 1)
    room m k = omega (arith, mul-add m k 1, mul-one m)
