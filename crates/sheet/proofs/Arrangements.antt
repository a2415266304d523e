-- A list of n places in which each number below n stands once is those numbers in some order, and the other way round. Assumes nothing.
use Rattle.std.proofs.Common.{◌≡◌, ℕ, zero, suc, ◌+◌, ◌<◌, ◌≤◌, Bool, true, false, cond, eqb, ltb, List, [], ◌∷◌, length, get_or, sym, refl, ap, ◌∙◌, ⊎_elim, zero-add, arith}
use Rattle.std.specs.List.{count_by, list_all, range_with_len}
use Rattle.std.proofs.lemmas.Bool.{and_parts, and_from, eqb-true, eq-eqb, le-ltb, ne_eqb, ltb-true, cases_eq, cases_lt, cases_Bool}
use Rattle.std.proofs.lemmas.Bool.Decides.{nat_tests}
use Rattle.std.proofs.lemmas.List.FromFn.{length-range_with_len, get_or-range_with_len}
use Rattle.std.proofs.lemmas.List.Sums.{sum_by-cons, get_or-le-sum_by, count_by-le-length, AllPass-from_list_all, list_all-from_AllPass}
use Rattle.sheet.specs.Permutations.{is_permutation, EachOnce}

abbrev one : Bool → ℕ
one b = cond b 1 0

one_most : (b : Bool) → one b ≤ 1
one_most b = elim b as (λ b. one b ≤ 1) [ true ↦ omega arith | false ↦ omega arith ]

-- how often a number stands in a list, and how many numbers are below n
abbrev times : ℕ → List ℕ → ℕ
times number order = count_by (λ p. eqb p number) order

abbrev below : ℕ → List ℕ → ℕ
below n order = count_by (λ p. ltb p n) order

count-cons : (p : ℕ → Bool) (x : ℕ) (xs : List ℕ) → count_by p (x ∷ xs) ≡ one (p x) + count_by p xs
count-cons p x xs = sum_by-cons (λ x. one (p x)) x xs

-- ---- as many numbers are below n as there are numbers below n

one_more : (n x : ℕ) → one (ltb x (n + 1)) ≡ one (ltb x n) + one (eqb x n)
one_more n x = grind (arith, nat_tests)

below_more : (n : ℕ) (xs : List ℕ) → below (n + 1) xs ≡ below n xs + times n xs
below_more n [] = refl
below_more n (x ∷ xs) =
    omega (arith, count-cons (λ p. ltb p (n + 1)) x xs, count-cons (λ p. ltb p n) x xs, count-cons (λ p. eqb p n) x xs, one_more n x, below_more n xs)

none_below : (xs : List ℕ) → below 0 xs ≡ 0
none_below [] = refl
none_below (x ∷ xs) =
    let never : one (ltb x 0) ≡ 0 = ap one (le-ltb x 0 (omega arith)) in
    omega (arith, never, count-cons (λ p. ltb p 0) x xs, none_below xs)

all_below : (n : ℕ) (xs : List ℕ) → ((k : ℕ) → k < n → times k xs ≡ 1) → below n xs ≡ n
all_below zero xs h = none_below xs
all_below (suc n) xs h =
    let next : suc n ≡ n + 1 = omega arith in
    ap (λ k. below k xs) next ∙ omega (arith, below_more n xs, all_below n xs (λ k l. h k (omega arith)), h n (omega arith))

counted : (p : ℕ → Bool) (xs : List ℕ) → length xs ≤ count_by p xs → (i : ℕ) → i < length xs → p (get_or xs i 0) ≡ true
counted p [] h i l = absurd (omega arith)
counted p (x ∷ xs) h zero l =
    ⊎_elim (λ (t : p x ≡ true). t)
    (λ (f : p x ≡ false).
    let missed : one (p x) ≡ 0 = ap one f in
    absurd (omega (arith, missed, count-cons p x xs, count_by-le-length p xs)))
    (cases_Bool (p x))
counted p (x ∷ xs) h (suc i) l = counted p xs (omega (arith, count-cons p x xs, one_most (p x))) i (omega arith)

-- ---- a number that stands once: at some place, and at no other

stands : (number : ℕ) (xs : List ℕ) (i : ℕ) → i < length xs → get_or xs i 0 ≡ number → 1 ≤ times number xs
stands number xs i l e =
    let here : one (eqb (get_or xs i 0) number) ≡ 1 = ap one (eq-eqb (get_or xs i 0) number e) in
    omega (arith, here, get_or-le-sum_by (λ p. one (eqb p number)) xs i 0 l)

found : (number : ℕ) (xs : List ℕ) → 0 < times number xs → (i : ℕ) × (i < length xs) × (get_or xs i 0 ≡ number)
found number [] h = absurd (omega arith)
found number (x ∷ xs) h =
    ⊎_elim (λ (e : x ≡ number). (0, omega arith, e))
    (λ (ne : x ≡ number → ⊥).
    let missed : one (eqb x number) ≡ 0 = ap one (ne_eqb x number ne) in
    let r = found number xs (omega (arith, count-cons (λ p. eqb p number) x xs)) in (suc r.0, omega (arith, r.1), r.2))
    (cases_eq x number)

apart : (number : ℕ) (xs : List ℕ) → times number xs ≤ 1 → (i j : ℕ) → i < length xs → j < length xs → get_or xs i 0 ≡ number → get_or xs j 0 ≡ number → i ≡ j
apart number [] h i j l m e f = absurd (omega arith)
apart number (x ∷ xs) h zero zero l m e f = refl
apart number (x ∷ xs) h zero (suc j) l m e f =
    let here : one (eqb x number) ≡ 1 = ap one (eq-eqb x number e) in
    absurd (omega (arith, here, count-cons (λ p. eqb p number) x xs, stands number xs j (omega arith) f))
apart number (x ∷ xs) h (suc i) zero l m e f =
    let here : one (eqb x number) ≡ 1 = ap one (eq-eqb x number f) in
    absurd (omega (arith, here, count-cons (λ p. eqb p number) x xs, stands number xs i (omega arith) e))
apart number (x ∷ xs) h (suc i) (suc j) l m e f = ap suc (apart number xs (omega (arith, count-cons (λ p. eqb p number) x xs)) i j (omega arith) (omega arith) e f)

abbrev AtOnePlace : ℕ → List ℕ → Type 0
AtOnePlace number xs = (i j : ℕ) → i < length xs → j < length xs → get_or xs i 0 ≡ number → get_or xs j 0 ≡ number → i ≡ j

most_once : (number : ℕ) (xs : List ℕ) → AtOnePlace number xs → times number xs ≤ 1
most_once number [] h = omega arith
most_once number (x ∷ xs) h =
    ⊎_elim (λ (none : times number xs < 1). omega (arith, none, count-cons (λ p. eqb p number) x xs, one_most (eqb x number)))
    (λ (some : 1 ≤ times number xs).
    let r = found number xs (omega (arith, some)) in
    let missed : one (eqb x number) ≡ 0 = ap one (ne_eqb x number (λ e. absurd (omega (arith, h 0 (suc r.0) (omega arith) (omega (arith, r.1)) e r.2)))) in
    omega (arith, missed, count-cons (λ p. eqb p number) x xs, most_once number xs (λ i j l m e f. omega (arith, h (suc i) (suc j) (omega arith) (omega arith) e f))))
    (cases_lt (times number xs) 1)

-- ---- the definition, and what it means

number_at : (n k d : ℕ) → k < n → get_or (range_with_len 0 n) k d ≡ k
number_at n k d l = get_or-range_with_len 0 n k d l ∙ zero-add k

abbrev stands_once : List ℕ → ℕ → Bool
stands_once order number = eqb (times number order) 1

pub each_once : (n : ℕ) (order : List ℕ) → is_permutation n order ≡ true → EachOnce n order
unfolding is_permutation
each_once n order t =
    let parts = and_parts (eqb (length order) n) (list_all (stands_once order) (range_with_len 0 n)) t in
    let places : length order ≡ n = eqb-true (length order) n parts.0 in
    let all = AllPass-from_list_all (stands_once order) (range_with_len 0 n) parts.1 in
    let once : (k : ℕ) → k < n → times k order ≡ 1 = λ k l.
    eqb-true (times k order) 1 (sym (ap (stands_once order) (number_at n k 0 l)) ∙ all k 0 (omega (arith, length-range_with_len 0 n, l))) in
    let low : (i : ℕ) → i < n → get_or order i 0 < n = λ i l.
    ltb-true (get_or order i 0) n (counted (λ p. ltb p n) order (omega (arith, places, all_below n order once)) i (omega (arith, places, l))) in
    record {
      places = places;
      below = low;
      apart = λ i j l m e. apart (get_or order j 0) order (omega (arith, once (get_or order j 0) (low j m))) i j (omega (arith, places, l)) (omega (arith, places, m)) e refl;
      found = λ k l. let r = found k order (omega (arith, once k l)) in (r.0, omega (arith, places, r.1), r.2);
    }

pub permutation : (n : ℕ) (order : List ℕ) → EachOnce n order → is_permutation n order ≡ true
unfolding is_permutation
permutation n order o =
    let places = o.places in
    let once : (k : ℕ) → k < n → times k order ≡ 1 = λ k l.
    let at = o.found k l in
    let least = stands k order at.0 (omega (arith, places, at.1)) at.2 in
    let most = most_once k order (λ i j l m e f. o.apart i j (omega (arith, places, l)) (omega (arith, places, m)) (e ∙ sym f)) in
    omega (arith, least, most) in
    and_from (eqb (length order) n) (list_all (stands_once order) (range_with_len 0 n)) (eq-eqb (length order) n places)
    (list_all-from_AllPass (stands_once order) (range_with_len 0 n)
    (λ k d l. let low : k < n = omega (arith, length-range_with_len 0 n, l) in ap (stands_once order) (number_at n k d low) ∙ eq-eqb (times k order) 1 (once k low)))
