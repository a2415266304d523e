-- How exact and tight values are made of one another, and what tightness gives. Assumes nothing.
use Rattle.std.proofs.Common.{◌≡◌, ℕ, zero, suc, ◌+◌, ◌<◌, ◌≤◌, ℤ, pos, ◌*ℤ◌, ◌≤ℤ◌, ◌<ℤ◌, refl, ap, ◌∙◌, inl, inr, arith}
use borrow.Author.Differences.{ints}
use Rattle.arithmetic.specs.Fractions.{Fraction, Same}
use Rattle.arithmetic.specs.Sets.{Set, ProductSet, SumSet, NegativeSet, QuotientSet, TotalSet, Included}
use Rattle.arithmetic.specs.Values.{Value, empty, bounds, Ordered, Inside, Within, Nested, Exactly, none, some, Tightly, void, near, times, plus, opposite, rescaled, total, rounded, quotients, Apart}
use Rattle.arithmetic.proofs.Fractions.{between_weaken, between_same}
use Rattle.arithmetic.proofs.Sets.{exact_between, exact_mul, exact_add, exact_negative, exact_rescale, exact_zero, exact_within}
use Rattle.arithmetic.proofs.Tight.{round_law, mono_law, quotient_law, exact_tight, tight_order, tight_unique}

-- ---- exact values
pub exactly_inside : (U : ℤ) (c : Value) → pos 0 <ℤ U → Ordered c → Exactly U (Inside U c) c
exactly_inside U empty u o = none (λ v h. h)
exactly_inside U (bounds a b) u o = some (exact_between U a b u o)

pub exactly_times : {s t : ℤ} {S T : Set} {c d : Value} → Exactly s S c → Exactly t T d → Exactly (s *ℤ t) (ProductSet S T) (times c d)
exactly_times (none f) q = none (λ v h. f _ h.in_left)
exactly_times (some p) (none g) = none (λ v h. g _ h.in_right)
exactly_times {s} {t} (some {a} {b} p) (some {a = c} {b = d} q) = some (exact_mul s t a b c d p q)

pub exactly_plus : {s : ℤ} {S T : Set} {c d : Value} → Exactly s S c → Exactly s T d → Exactly s (SumSet S T) (plus c d)
exactly_plus (none f) q = none (λ v h. f _ h.in_left)
exactly_plus (some p) (none g) = none (λ v h. g _ h.in_right)
exactly_plus {s} (some {a} {b} p) (some {a = c} {b = d} q) = some (exact_add s a b c d p q)

pub exactly_opposite : {s : ℤ} {S : Set} {c : Value} → Exactly s S c → Exactly s (NegativeSet S) (opposite c)
exactly_opposite (none f) = none (λ v h. f _ h.in_of)
exactly_opposite {s} (some {a} {b} p) = some (exact_negative s a b p)

pub exactly_rescaled : {s : ℤ} {S : Set} {c : Value} (t : ℤ) → pos 0 ≤ℤ t → Exactly s S c → Exactly (s *ℤ t) S (rescaled t c)
exactly_rescaled t z (none f) = none f
exactly_rescaled {s} t z (some {a} {b} p) = some (exact_rescale s t a b z p)

pub exactly_total : (s : ℤ) (F : ℕ → Set) (f : ℕ → Value) (from n : ℕ) → ((j : ℕ) → from ≤ j → j < from + n → Exactly s (F j) (f j)) → Exactly s (TotalSet F from n) (total f from n)
exactly_total s F f from zero h = some (exact_zero s)
exactly_total s F f from (suc n) h = exactly_plus (exactly_total s F f from n (λ j b c. h j b (omega (arith, c)))) (h (from + n) (omega arith) (omega arith))

-- ---- tight values
pub exactly_tightly : {s : ℤ} {S : Set} {c : Value} → Exactly s S c → Tightly s S c
exactly_tightly (none f) = void f
exactly_tightly {s} (some {a} {b} p) = near (exact_tight s a b p)

pub rounded_tightly : {S : Set} {c : Value} (s t : ℤ) → (t ≡ pos 0 → ⊥) → Exactly (s *ℤ t) S c → Tightly s S (rounded t c)
rounded_tightly s t z (none f) = void f
rounded_tightly s t z (some {a} {b} p) = near (round_law _ s t a b z p)

pub quotients_tightly : {S T : Set} {c d : Value} (s t : ℤ) → pos 0 <ℤ s → Apart d → Exactly (s *ℤ t) S c → Exactly s T d → Tightly t (QuotientSet S T) (quotients c d)
quotients_tightly s t z n (none f) q = void (λ v h. f _ h.in_dividend)
quotients_tightly s t z n (some p) (none g) = void (λ v h. g _ h.in_divisor)
quotients_tightly s t z n (some {a} {b} p) (some {a = c} {b = d} q) = near (quotient_law _ _ s t a b c d z n p q)

-- ---- what tightness gives
pub tightly_ordered : {s : ℤ} {S : Set} {c : Value} → Tightly s S c → Ordered c
tightly_ordered (void f) = tt
tightly_ordered {s} (near {a} {b} p) = tight_order s a b p

pub tightly_holds : {s : ℤ} {S : Set} {c : Value} → Tightly s S c → (v : Fraction) → S v → Inside s c v
tightly_holds (void f) v h = f v h
tightly_holds (near p) v h = p.holds v h

pub tightly_nested : {s : ℤ} {S T : Set} {c d : Value} → Included S T → Tightly s S c → Tightly s T d → Nested c d
tightly_nested i (void f) q = tt
tightly_nested i (near p) (void g) = g _ (i _ p.low.member)
tightly_nested {s} i (near {a} {b} p) (near {a = c} {b = d} q) = mono_law _ _ s a b c d i p q

pub nested_within : (s : ℤ) (c d : Value) → Nested c d → Within s c d
nested_within s empty d n v h = absurd h
nested_within s (bounds a b) empty n v h = absurd n
nested_within s (bounds a b) (bounds c d) n v h = between_weaken s a b c d v h n.0 n.1

pub within_nested : (s : ℤ) (c d : Value) → pos 0 <ℤ s → Ordered c → Within s c d → Nested c d
within_nested s empty d u o w = tt
within_nested s (bounds a b) empty u o w = w _ (exact_between s a b u o).low.member
within_nested s (bounds a b) (bounds c d) u o w = exact_within s a b c d (exact_between s a b u o) w

pub nested_apart : (c d : Value) → Ordered c → Nested c d → Apart d → Apart c
nested_apart empty d o n h = tt
nested_apart (bounds a b) empty o n h = absurd n
nested_apart (bounds a b) (bounds c d) o n (inl h) = inl (omega (arith, ints))
nested_apart (bounds a b) (bounds c d) o n (inr h) = inr (omega (arith, ints))

pub inside_same : (s : ℤ) (c : Value) (v w : Fraction) → Same v w → Inside s c v → Inside s c w
inside_same s empty v w e h = h
inside_same s (bounds a b) v w e h = between_same s a b v w e h

pub total_ext : (f g : ℕ → Value) (from n : ℕ) → ((j : ℕ) → from ≤ j → j < from + n → f j ≡ g j) → total f from n ≡ total g from n
total_ext f g from zero h = refl
total_ext f g from (suc n) h = ap (λ c. plus c (f (from + n))) (total_ext f g from n (λ j b c. h j b (omega (arith, c)))) ∙ ap (plus (total g from n)) (h (from + n) (omega arith) (omega arith))

-- the uniqueness law: a set has one tight value at most
pub tightly_unique : {s : ℤ} {S : Set} {c d : Value} → Tightly s S c → Tightly s S d → c ≡ d
tightly_unique (void f) (void g) = refl
tightly_unique (void f) (near q) = absurd (f _ q.low.member)
tightly_unique (near p) (void g) = absurd (g _ p.low.member)
tightly_unique {s} {S} (near {a} {b} p) (near {a = c} {b = d} q) = let u = tight_unique S s a b c d p q in cc (u.0, u.1)
