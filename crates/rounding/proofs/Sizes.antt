-- The floor and the ceiling by the sizes of both numbers: where the signs are alike the quotient of the sizes is the floor, where they
-- are not its opposite is the ceiling; the other one is that where the division is exact, and otherwise the next number.
use Rattle.std.proofs.Common.{◌≡◌, ℕ, zero, suc, ◌+◌, ◌*◌, ◌/◌, ◌%◌, ◌<◌, ℤ, pos, negsuc, ◌-ℤ◌, ◌+ℤ◌, neg_ℤ, ◌≢◌, unsigned_abs, Bool, true, false, refl, ap, ◌∙◌, mod-lt, div-add-mod', arith}
use Rattle.std.specs.Prelude.{int_lt, nat_lt, not}
use mathlib.Core.Bool.{beq}
use Rattle.std.proofs.Math.Nat.{div-eq_of_lt, mod-eq_of_lt}
use Rattle.std.proofs.lemmas.Nat.{div-mul-add, mod-mul-add}
use Rattle.std.proofs.lemmas.Bool.{ltb-true, ltb-false, le-ltb}
use borrow.Author.Differences.{ints}
use Rattle.arithmetic.specs.Rounding.{floor, ceiling}

-- ---- from a number to the next: its quotient is one more where that is divided exactly, and the same otherwise

next : (a b : ℕ) → suc a ≡ a / b * b + suc (a % b)
next a b = omega (arith, div-add-mod' a b)

within : (a b : ℕ) → suc (a % b) < b → (suc a / b ≡ a / b) × (suc a % b ≡ suc (a % b))
within a b h = (ap (λ n. n / b) (next a b) ∙ div-mul-add (a / b) b (suc (a % b)) h, ap (λ n. n % b) (next a b) ∙ mod-mul-add (a / b) b (suc (a % b)) h)

turned : (a b : ℕ) → 0 < b → suc (a % b) ≡ b → (suc a / b ≡ suc (a / b)) × (suc a % b ≡ 0)
turned a b p e =
    let s : suc a ≡ suc (a / b) * b + 0 = omega (arith, next a b, e) in
    (ap (λ n. n / b) s ∙ div-mul-add (suc (a / b)) b 0 p, ap (λ n. n % b) s ∙ mod-mul-add (suc (a / b)) b 0 p)

exactly : (a b : ℕ) → 0 < b → suc a % b ≡ 0 → suc a / b ≡ suc (a / b)
exactly a b p e = by (nat_lt (suc (a % b)) b) refl
  where
    by : (t : Bool) → nat_lt (suc (a % b)) b ≡ t → suc a / b ≡ suc (a / b)
    by true h = omega (arith, (within a b (ltb-true (suc (a % b)) b h)).1, e)
    by false h = (turned a b p (omega (arith, mod-lt a p, ltb-false (suc (a % b)) b h))).0

otherwise : (a b : ℕ) → 0 < b → suc a % b ≢ 0 → suc a / b ≡ a / b
otherwise a b p e = by (nat_lt (suc (a % b)) b) refl
  where
    by : (t : Bool) → nat_lt (suc (a % b)) b ≡ t → suc a / b ≡ a / b
    by true h = (within a b (ltb-true (suc (a % b)) b h)).0
    by false h = absurd (e (turned a b p (omega (arith, mod-lt a p, ltb-false (suc (a % b)) b h))).1)

-- ---- by the sizes

not_below : (a : ℕ) → int_lt (pos a) (pos 0) ≡ false
not_below a = le-ltb a 0 (omega arith)

none : (b : ℕ) → 0 / suc b ≡ 0
none b = div-eq_of_lt (omega arith)

pub floor_alike : (n d : ℤ) → not (beq (int_lt n (pos 0)) (int_lt d (pos 0))) ≡ false → floor n d ≡ pos (unsigned_abs n / unsigned_abs d)
floor_alike (pos a) (pos b) e = refl
floor_alike (pos a) (negsuc b) e = cc (not_below a)
floor_alike (negsuc a) (pos b) e = cc (not_below b)
floor_alike (negsuc a) (negsuc b) e = refl

pub floor_exact : (n d : ℤ) → d ≢ pos 0 → not (beq (int_lt n (pos 0)) (int_lt d (pos 0))) ≡ true → unsigned_abs n % unsigned_abs d ≡ 0 → floor n d ≡ neg_ℤ (pos (unsigned_abs n / unsigned_abs d))
floor_exact (pos a) (pos b) z e r = cc (not_below a, not_below b)
floor_exact (pos zero) (negsuc b) z e r = rw (none b) refl
floor_exact (pos (suc a)) (negsuc b) z e r = rw (exactly a (suc b) (omega arith) r) refl
floor_exact (negsuc a) (pos zero) z e r = absurd (z refl)
floor_exact (negsuc a) (pos (suc b)) z e r = rw (exactly a (suc b) (omega arith) r) refl
floor_exact (negsuc a) (negsuc b) z e r = cc

pub floor_under : (n d : ℤ) → d ≢ pos 0 → not (beq (int_lt n (pos 0)) (int_lt d (pos 0))) ≡ true → unsigned_abs n % unsigned_abs d ≢ 0 → floor n d ≡ neg_ℤ (pos (unsigned_abs n / unsigned_abs d)) -ℤ pos 1
floor_under (pos a) (pos b) z e r = cc (not_below a, not_below b)
floor_under (pos zero) (negsuc b) z e r = absurd (r (mod-eq_of_lt (omega arith)))
floor_under (pos (suc a)) (negsuc b) z e r = rw (otherwise a (suc b) (omega arith) r) (omega (arith, ints))
floor_under (negsuc a) (pos zero) z e r = absurd (z refl)
floor_under (negsuc a) (pos (suc b)) z e r = rw (otherwise a (suc b) (omega arith) r) (omega (arith, ints))
floor_under (negsuc a) (negsuc b) z e r = cc

pub ceiling_apart : (n d : ℤ) → d ≢ pos 0 → not (beq (int_lt n (pos 0)) (int_lt d (pos 0))) ≡ true → ceiling n d ≡ neg_ℤ (pos (unsigned_abs n / unsigned_abs d))
ceiling_apart (pos a) (pos b) z e = cc (not_below a, not_below b)
ceiling_apart (pos zero) (negsuc b) z e = refl
ceiling_apart (pos (suc a)) (negsuc b) z e = refl
ceiling_apart (negsuc a) (pos b) z e = refl
ceiling_apart (negsuc a) (negsuc b) z e = cc

pub ceiling_exact : (n d : ℤ) → d ≢ pos 0 → not (beq (int_lt n (pos 0)) (int_lt d (pos 0))) ≡ false → unsigned_abs n % unsigned_abs d ≡ 0 → ceiling n d ≡ pos (unsigned_abs n / unsigned_abs d)
ceiling_exact (pos a) (pos zero) z e r = absurd (z refl)
ceiling_exact (pos zero) (pos (suc b)) z e r = rw (none b) refl
ceiling_exact (pos (suc a)) (pos (suc b)) z e r = rw (exactly a (suc b) (omega arith) r) refl
ceiling_exact (pos a) (negsuc b) z e r = cc (not_below a)
ceiling_exact (negsuc a) (pos b) z e r = cc (not_below b)
ceiling_exact (negsuc a) (negsuc b) z e r = rw (exactly a (suc b) (omega arith) r) refl

pub ceiling_over : (n d : ℤ) → d ≢ pos 0 → not (beq (int_lt n (pos 0)) (int_lt d (pos 0))) ≡ false → unsigned_abs n % unsigned_abs d ≢ 0 → ceiling n d ≡ pos (unsigned_abs n / unsigned_abs d) +ℤ pos 1
ceiling_over (pos a) (pos zero) z e r = absurd (z refl)
ceiling_over (pos zero) (pos (suc b)) z e r = absurd (r (mod-eq_of_lt (omega arith)))
ceiling_over (pos (suc a)) (pos (suc b)) z e r = rw (otherwise a (suc b) (omega arith) r) (omega (arith, ints))
ceiling_over (pos a) (negsuc b) z e r = cc (not_below a)
ceiling_over (negsuc a) (pos b) z e r = cc (not_below b)
ceiling_over (negsuc a) (negsuc b) z e r = rw (otherwise a (suc b) (omega arith) r) (omega (arith, ints))
