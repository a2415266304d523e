-- Sums with terms that are zero or empty: a zero term changes nothing, an empty one empties the sum. Assumes nothing.
use Rattle.std.proofs.Common.{◌≡◌, ℕ, zero, suc, ◌+◌, ◌-◌, ◌<◌, ◌≤◌, refl, ap, ◌∙◌, add-zero, add-suc, arith}
use lib.IntN.{zero-*ℤ, +ℤ_idr}
use Rattle.arithmetic.specs.Values.{Value, empty, bounds, zeros, times, plus, total}

pub times_zeros : (v : Value) → (v ≡ empty → ⊥) → times zeros v ≡ zeros
times_zeros empty f = absurd (f refl)
times_zeros (bounds a b) f = simp zero-*ℤ

pub times_empty : (v : Value) → times v empty ≡ empty
times_empty empty = refl
times_empty (bounds a b) = refl

pub plus_zeros : (v : Value) → plus v zeros ≡ v
plus_zeros empty = refl
plus_zeros (bounds a b) = simp +ℤ_idr

pub plus_empty : (v : Value) → plus v empty ≡ empty
plus_empty empty = refl
plus_empty (bounds a b) = refl

-- d more terms that are zero
after : (f : ℕ → Value) (from n d : ℕ) → ((j : ℕ) → from + n ≤ j → j < from + (n + d) → f j ≡ zeros) → total f from (n + d) ≡ total f from n
after f from n zero z = ap (total f from) (add-zero n)
after f from n (suc d) z =
    ap (total f from) (add-suc n d)
    ∙ ap (plus (total f from (n + d))) (z (from + (n + d)) (omega arith) (omega arith)) ∙ plus_zeros (total f from (n + d))
    ∙ after f from n d (λ j a b. z j a (omega (arith, b)))

all_zero : (f : ℕ → Value) (from d : ℕ) → ((j : ℕ) → from ≤ j → j < from + d → f j ≡ zeros) → total f from d ≡ zeros
all_zero f from zero z = refl
all_zero f from (suc d) z =
    ap (plus (total f from d)) (z (from + d) (omega arith) (omega arith)) ∙ plus_zeros (total f from d) ∙ all_zero f from d (λ j a b. z j a (omega (arith, b)))

-- the first d terms are zero
before : (f : ℕ → Value) (from d n : ℕ) → ((j : ℕ) → from ≤ j → j < from + d → f j ≡ zeros) → total f from (d + n) ≡ total f (from + d) n
before f from d zero z = ap (total f from) (add-zero d) ∙ all_zero f from d z
before f from d (suc n) z =
    let place : from + (d + n) ≡ (from + d) + n = omega arith in
    ap (total f from) (add-suc d n)
    ∙ ap (λ (v : Value). plus v (f (from + (d + n)))) (before f from d n z) ∙ ap (λ (k : ℕ). plus (total f (from + d) n) (f k)) place

-- a sum from `from` to before `to` in which the terms outside a to b are zero is the sum from a to before b
pub total_inside : (f : ℕ → Value) (from to a b : ℕ) → from ≤ a → a ≤ b → b ≤ to → ((j : ℕ) → from ≤ j → j < a → f j ≡ zeros) → ((j : ℕ) → b ≤ j → j < to → f j ≡ zeros)
    → total f from (to - from) ≡ total f a (b - a)
total_inside f from to a b h k l low high =
    let all : to - from ≡ (b - from) + (to - b) = omega arith in let part : b - from ≡ (a - from) + (b - a) = omega arith in let start : from + (a - from) ≡ a = omega arith in
    ap (total f from) all
    ∙ after f from (b - from) (to - b) (λ j p q. high j (omega (arith, p)) (omega (arith, q)))
    ∙ ap (total f from) part
    ∙ before f from (a - from) (b - a) (λ j p q. low j p (omega (arith, q)))
    ∙ ap (λ (s : ℕ). total f s (b - a)) start

-- a sum with a term that is empty
emptied : (f : ℕ → Value) (from k d : ℕ) → f (from + k) ≡ empty → total f from (suc k + d) ≡ empty
emptied f from k zero e = ap (total f from) (add-zero (suc k)) ∙ ap (plus (total f from k)) e ∙ plus_empty (total f from k)
emptied f from k (suc d) e = ap (total f from) (add-suc (suc k) d) ∙ ap (λ (v : Value). plus v (f (from + (suc k + d)))) (emptied f from k d e)

pub total_empty : (f : ℕ → Value) (from n j : ℕ) → from ≤ j → j < from + n → f j ≡ empty → total f from n ≡ empty
total_empty f from n j h k e =
    let all : n ≡ suc (j - from) + (n - suc (j - from)) = omega arith in let place : from + (j - from) ≡ j = omega arith in
    ap (total f from) all ∙ emptied f from (j - from) (n - suc (j - from)) (ap f place ∙ e)
