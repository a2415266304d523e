-- The ring of whole numbers: the rules that antt's library lacks, as a set that `simp` sorts products by, and how products and
-- orders go together. Assumes nothing.
use Rattle.std.proofs.Common.{◌≡◌, ℕ, ◌+◌, ◌*◌, ℤ, pos, negsuc, ◌+ℤ◌, ◌*ℤ◌, neg_ℤ, ◌≤ℤ◌, ◌<ℤ◌, ap, ◌∙◌, mul-le-mul_right, arith}
use lib.IntN.{*ℤ_comm, neg_ℤ-+ℤ, neg_ℤ-neg_ℤ, zero-*ℤ, *ℤ-zero}
use lib.Signed.{clash_ℤ}
use Rattle.std.proofs.lemmas.Int.{by_lt_z}
use borrow.Author.Differences.{ints, up, down, sum_is_lem, product_is, neg_is, same_in, le_out}

pub up-* : (a b : ℤ) → up (a *ℤ b) ≡ up a * up b + down a * down b
up-* a b = (product_is a b).0

pub down-* : (a b : ℤ) → down (a *ℤ b) ≡ up a * down b + down a * up b
down-* a b = (product_is a b).1

pub *ℤ_assoc : (x y z : ℤ) → (x *ℤ y) *ℤ z ≡ x *ℤ (y *ℤ z)
*ℤ_assoc x y z = same_in _ _ (simp (up-*, down-*) (omega arith))

pub *ℤ_left_comm : (x y z : ℤ) → x *ℤ (y *ℤ z) ≡ y *ℤ (x *ℤ z)
*ℤ_left_comm x y z = same_in _ _ (simp (up-*, down-*) (omega arith))

pub neg-*ℤ : (x y : ℤ) → neg_ℤ x *ℤ y ≡ neg_ℤ (x *ℤ y)
neg-*ℤ x y = omega (arith, ints, ap (λ (n : ℕ). n * up y) (neg_is x).0, ap (λ (n : ℕ). n * down y) (neg_is x).0, ap (λ (n : ℕ). n * up y) (neg_is x).1, ap (λ (n : ℕ). n * down y) (neg_is x).1)

pub *ℤ-neg : (x y : ℤ) → x *ℤ neg_ℤ y ≡ neg_ℤ (x *ℤ y)
*ℤ-neg x y = *ℤ_comm x (neg_ℤ y) ∙ neg-*ℤ y x ∙ ap neg_ℤ (*ℤ_comm y x)

pub *ℤ-+ℤ : (x y z : ℤ) → x *ℤ (y +ℤ z) ≡ x *ℤ y +ℤ x *ℤ z
*ℤ-+ℤ x y z = omega (arith, ints, ap (λ (n : ℕ). up x * n) (sum_is_lem y z), ap (λ (n : ℕ). down x * n) (sum_is_lem y z))

pub +ℤ-*ℤ : (x y z : ℤ) → (x +ℤ y) *ℤ z ≡ x *ℤ z +ℤ y *ℤ z
+ℤ-*ℤ x y z = *ℤ_comm (x +ℤ y) z ∙ *ℤ-+ℤ z x y ∙ ap (λ (w : ℤ). w +ℤ z *ℤ y) (*ℤ_comm z x) ∙ ap (λ (w : ℤ). x *ℤ z +ℤ w) (*ℤ_comm z y)

pub one-* : (y : ℤ) → pos 1 *ℤ y ≡ y
one-* y = omega (arith, ints)

pub *-one : (y : ℤ) → y *ℤ pos 1 ≡ y
*-one y = omega (arith, ints)

pub ruleset ring = (one-*, *-one, zero-*ℤ, *ℤ-zero, *ℤ-+ℤ, +ℤ-*ℤ, neg-*ℤ, *ℤ-neg, neg_ℤ-+ℤ, neg_ℤ-neg_ℤ, *ℤ_assoc, *ℤ_left_comm, *ℤ_comm)

-- `simp ring` brings both sides of an equation to sums of sorted products, and omega does the rest.

-- ---- order
pub ≤ℤ_trans : {a b c : ℤ} → a ≤ℤ b → b ≤ℤ c → a ≤ℤ c
≤ℤ_trans h k = omega (arith, ints)

pub *ℤ_mono : (a b y : ℤ) → pos 0 ≤ℤ y → a ≤ℤ b → (a *ℤ y) ≤ℤ (b *ℤ y)
*ℤ_mono a b (pos n) h k = omega (arith, ints, mul-le-mul_right n (le_out a b k))
*ℤ_mono a b (negsuc n) h k = omega (arith, ints)

pub *ℤ_anti : (a b y : ℤ) → y ≤ℤ pos 0 → a ≤ℤ b → (b *ℤ y) ≤ℤ (a *ℤ y)
*ℤ_anti a b y h k = let n : pos 0 ≤ℤ neg_ℤ y = omega (arith, ints) in omega (arith, ints, simp (*ℤ-neg) at (*ℤ_mono a b (neg_ℤ y) n k))

pub *ℤ_cancel : (a b y : ℤ) → pos 0 <ℤ y → (a *ℤ y) ≤ℤ (b *ℤ y) → a ≤ℤ b
*ℤ_cancel a b y h k = by_lt_z b a (λ l. clash_ℤ (*ℤ_mono_< b a y h l) k) (λ l. l)
  where
    *ℤ_mono_< : (a b y : ℤ) → pos 0 <ℤ y → a <ℤ b → (a *ℤ y) <ℤ (b *ℤ y)
    *ℤ_mono_< a b y h k = let s : (a +ℤ pos 1) ≤ℤ b = omega (arith, ints) in let p : pos 0 ≤ℤ y = omega (arith, ints) in let m = *ℤ_mono (a +ℤ pos 1) b y p s in omega (arith, ints, simp +ℤ-*ℤ at m, one-* y)

pub *ℤ_cancel_≡ : (a b y : ℤ) → pos 0 <ℤ y → a *ℤ y ≡ b *ℤ y → a ≡ b
*ℤ_cancel_≡ a b y h e = let p = *ℤ_cancel a b y h (omega (arith, ints)) in let q = *ℤ_cancel b a y h (omega (arith, ints)) in omega (arith, ints)

pub *ℤ_pos : (a b : ℤ) → pos 0 <ℤ a → pos 0 <ℤ b → pos 0 <ℤ (a *ℤ b)
*ℤ_pos a b h k = let p : pos 1 ≤ℤ a = omega (arith, ints) in let q : pos 0 ≤ℤ b = omega (arith, ints) in omega (arith, ints, *ℤ_mono (pos 1) a b q p)

-- a product with one factor between two bounds is at least what is below both ends' products
pub mul_above : (m A X B Y : ℤ) → A ≤ℤ X → X ≤ℤ B → m ≤ℤ (A *ℤ Y) → m ≤ℤ (B *ℤ Y) → m ≤ℤ (X *ℤ Y)
mul_above m A X B Y h k p q = by_lt_z Y (pos 0)
    (λ l. let n : Y ≤ℤ pos 0 = omega (arith, ints) in ≤ℤ_trans q (*ℤ_anti X B Y n k))
    (λ l. ≤ℤ_trans p (*ℤ_mono A X Y l h))

pub mul_below : (m A X B Y : ℤ) → A ≤ℤ X → X ≤ℤ B → (A *ℤ Y) ≤ℤ m → (B *ℤ Y) ≤ℤ m → (X *ℤ Y) ≤ℤ m
mul_below m A X B Y h k p q = by_lt_z Y (pos 0)
    (λ l. let n : Y ≤ℤ pos 0 = omega (arith, ints) in ≤ℤ_trans (*ℤ_anti A X Y n h) p)
    (λ l. ≤ℤ_trans (*ℤ_mono X B Y l k) q)

-- both factors between bounds
pub mul_above_4 : (m A X B C Y D : ℤ) → A ≤ℤ X → X ≤ℤ B → C ≤ℤ Y → Y ≤ℤ D → m ≤ℤ (A *ℤ C) → m ≤ℤ (A *ℤ D) → m ≤ℤ (B *ℤ C) → m ≤ℤ (B *ℤ D) → m ≤ℤ (X *ℤ Y)
mul_above_4 m A X B C Y D h k i j ac ad bc bd = mul_above m A X B Y h k
    (rw *ℤ_comm (mul_above m C Y D A i j (rw *ℤ_comm ac) (rw *ℤ_comm ad)))
    (rw *ℤ_comm (mul_above m C Y D B i j (rw *ℤ_comm bc) (rw *ℤ_comm bd)))

pub mul_below_4 : (m A X B C Y D : ℤ) → A ≤ℤ X → X ≤ℤ B → C ≤ℤ Y → Y ≤ℤ D → (A *ℤ C) ≤ℤ m → (A *ℤ D) ≤ℤ m → (B *ℤ C) ≤ℤ m → (B *ℤ D) ≤ℤ m → (X *ℤ Y) ≤ℤ m
mul_below_4 m A X B C Y D h k i j ac ad bc bd = mul_below m A X B Y h k
    (rw *ℤ_comm (mul_below m C Y D A i j (rw *ℤ_comm ac) (rw *ℤ_comm ad)))
    (rw *ℤ_comm (mul_below m C Y D B i j (rw *ℤ_comm bc) (rw *ℤ_comm bd)))
