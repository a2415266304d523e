-- Each number has one text, and what is read of a text is its number.
use Rattle.std.proofs.Common.{◌≡◌, ◌≢◌, subst, ℕ, zero, suc, ◌+◌, ◌*◌, ◌/◌, ◌%◌, ◌^◌, ◌<◌, ◌≤◌, Bool, true, false, cond, ◌&&◌, ◌||◌, eqb, ltb, List, [], ◌∷◌, ◌++◌, length, get_or, take, map, ℤ, pos, negsuc, neg_ℤ, Option, Some, None, MatchOption, SomeIff, refl, sym, ap, ◌∙◌, ⊎_elim, arith}
use Rattle.std.specs.Char.{is_ascii_digit, digit_value}
use Rattle.std.specs.Fmt.{decimal}
use Rattle.std.specs.Int.Digits.{digits_of, number_from_digits, AllBelowBase}
use Rattle.std.specs.List.{list_all}
use Rattle.std.specs.Option.{option_map}
use Rattle.std.specs.Str.Parse.{digits_value, AllDigits}
use Rattle.std.proofs.lemmas.Bool.{cases_eq, and_parts, and_from, or_cases, or_right, both_ways, eqb-true, ltb-true, lt-ltb, le-leb, ne_eqb, cond-true, cond-false}
use Rattle.std.proofs.lemmas.Fmt.{decimal_digit, decimal-digits_of}
use Rattle.std.proofs.lemmas.Int.Digits.{digits_value_more, digits_of_step, digits_value_is, number_digits_of, all_below_base_digits_of, first_digits_of}
use Rattle.std.proofs.lemmas.List.{map-append, take_more, take_all}
use Rattle.std.proofs.lemmas.Str.{digit_value_digit}
use Rattle.std.proofs.lemmas.Str.Parse.{digit_at, digit_from_value}
use Rattle.script.proofs.Digits.{own}
use Rattle.script.specs.Numbers.{is_digits, plain, text, number, size_of, held}

digits_push : (v d : ℕ) → d < 10 → 0 < v * 10 + d → digits_of 10 (v * 10 + d) ≡ digits_of 10 v ++ (d ∷ [])
digits_push v d h p =
    let q : (v * 10 + d) / 10 ≡ v = omega arith in
    let r : (v * 10 + d) % 10 ≡ d = omega arith in
    digits_of_step 10 (v * 10 + d) (omega arith) p ∙ same _ _ q r
  where
    same : (a b : ℕ) → a ≡ v → b ≡ d → digits_of 10 a ++ (b ∷ []) ≡ digits_of 10 v ++ (d ∷ [])
    same a b e f = ap (λ n. digits_of 10 n ++ (b ∷ [])) e ∙ ap (λ n. digits_of 10 v ++ (n ∷ [])) f

above : (v d k : ℕ) → (0 < k → 0 < v) → (k ≡ 0 → 0 < d) → 0 < v * 10 + d
above v d zero p q = omega (arith, q refl)
above v d (suc k) p q = omega (arith, p (omega arith))

-- the front is the text of its number, which is above 0
abbrev Front : List ℕ → ℕ → Type 0
Front ds k = (map (λ d. 48 + d) (digits_of 10 (digits_value 10 (take k ds))) ≡ take k ds) × (0 < k → 0 < digits_value 10 (take k ds))

-- of some digits of which the first is not 0
front_more : (ds : List ℕ) → AllDigits 10 ds → 48 < get_or ds 0 0 → (k : ℕ) → suc k ≤ length ds → Front ds k → Front ds (suc k)
front_more ds all first k h below = (step (take (suc k) ds) refl, λ _. rw (value (take (suc k) ds) refl) more)
  where
    at : k < length ds
    at = omega arith

    digit : digit_value (get_or ds k 0) + 48 ≡ get_or ds k 0
    digit = digit_value_digit (get_or ds k 0) (digit_at ds k all at)

    small : digit_value (get_or ds k 0) < 10
    small = let r = digit_at ds k all at in omega (arith, digit, r.1)

    one : take (suc k) ds ≡ take k ds ++ (get_or ds k 0 ∷ [])
    one = let n : suc k ≡ k + 1 = omega arith in ap (λ m. take m ds) n ∙ take_more ds k 0 at

    more : 0 < digits_value 10 (take k ds) * 10 + digit_value (get_or ds k 0)
    more = above _ _ k below.1 (λ e. let f : get_or ds k 0 ≡ get_or ds 0 0 = ap (λ n. get_or ds n 0) e in omega (arith, digit, first, f))

    value : (t : List ℕ) → t ≡ take (suc k) ds → digits_value 10 t ≡ digits_value 10 (take k ds) * 10 + digit_value (get_or ds k 0)
    value t e = let n : suc k ≡ k + 1 = omega arith in ap (digits_value 10) e ∙ ap (λ m. digits_value 10 (take m ds)) n ∙ digits_value_more 10 ds k at

    step : (t : List ℕ) → t ≡ take (suc k) ds → map (λ d. 48 + d) (digits_of 10 (digits_value 10 t)) ≡ t
    step t e =
        let g : 48 + digit_value (get_or ds k 0) ≡ get_or ds k 0 = omega (arith, digit) in
        ap (λ n. map (λ d. 48 + d) (digits_of 10 n)) (value t e)
        ∙ ap (map (λ d. 48 + d)) (digits_push _ _ small more)
        ∙ map-append (λ d. 48 + d) (digits_of 10 (digits_value 10 (take k ds))) (digit_value (get_or ds k 0) ∷ [])
        ∙ ap (λ xs. xs ++ ((48 + digit_value (get_or ds k 0)) ∷ [])) below.0
        ∙ ap (λ c. take k ds ++ (c ∷ [])) g
        ∙ sym one ∙ sym e

front : (ds : List ℕ) → AllDigits 10 ds → 48 < get_or ds 0 0 → (k : ℕ) → k ≤ length ds → Front ds k
front ds all first zero h = (refl, λ p. absurd (omega arith))
front ds all first (suc k) h = front_more ds all first k h (front ds all first k (omega arith))

plain_above : (n : ℕ) → 0 < n → plain n ≡ map (λ d. 48 + d) (digits_of 10 n)
plain_above zero h = absurd (omega arith)
plain_above (suc n) h = refl

plain_front : (ds : List ℕ) → AllDigits 10 ds → 48 < get_or ds 0 0 → 0 < length ds → plain (digits_value 10 ds) ≡ ds
plain_front ds all first some =
    let f = front ds all first (length ds) (omega arith) in
    let e : take (length ds) ds ≡ ds = take_all (length ds) ds (omega arith) in
    let g = rw e at f in
    plain_above _ (g.1 some) ∙ g.0

-- the text of what is read
pub plain_value : (ds : List ℕ) → is_digits ds ≡ true → plain (digits_value 10 ds) ≡ ds
plain_value ds h =
    let p = and_parts (list_all is_ascii_digit ds) (eqb (length ds) 1 || ltb 48 (get_or ds 0 0)) h in
    ⊎_elim (λ e. one ds (own.to ds p.0) (eqb-true _ _ e)) (λ e. many ds (own.to ds p.0) (ltb-true _ _ e)) (or_cases _ _ p.1)
  where
    many : (ds : List ℕ) → AllDigits 10 ds → 48 < get_or ds 0 0 → plain (digits_value 10 ds) ≡ ds
    many [] all first = absurd (omega arith)
    many (c ∷ cs) all first = plain_front (c ∷ cs) all first (omega arith)

    one : (ds : List ℕ) → AllDigits 10 ds → length ds ≡ 1 → plain (digits_value 10 ds) ≡ ds
    one [] all e = absurd (omega arith)
    one (c ∷ d ∷ cs) all e = absurd (omega arith)
    one (c ∷ []) all e = let r = digit_from_value c all.0 in ⊎_elim (λ z. let P : ℕ → Type 0 = λ n. plain (digits_value 10 (n ∷ [])) ≡ n ∷ [] in subst P (sym z) refl) (λ m. plain_front (c ∷ []) all (omega (arith, m, r.0)) (omega arith)) (cases_eq c 48)

digits_back : (ds : List ℕ) → AllBelowBase 10 ds → map digit_value (map (λ d. 48 + d) ds) ≡ ds
digits_back [] h = refl
digits_back (d ∷ ds) h =
    let e : digit_value (48 + d) ≡ d = let r = digit_value_digit (48 + d) (omega arith, omega (arith, h.0)) in omega (arith, r) in
    ap (λ n. n ∷ map digit_value (map (λ d. 48 + d) ds)) e ∙ ap (λ t. d ∷ t) (digits_back ds h.1)

digits_all : (ds : List ℕ) → AllBelowBase 10 ds → list_all is_ascii_digit (map (λ d. 48 + d) ds) ≡ true
digits_all [] h = refl
digits_all (d ∷ ds) h = and_from _ _ (and_from _ _ (le-leb 48 (48 + d) (omega arith)) (le-leb (48 + d) 57 (omega (arith, h.0)))) (digits_all ds h.1)

digits_first : (ds : List ℕ) → 0 < get_or ds 0 0 → 48 < get_or (map (λ d. 48 + d) ds) 0 0
digits_first [] h = absurd (omega arith)
digits_first (d ∷ ds) h = omega arith

-- what is read of the text
pub value_plain : (n : ℕ) → (is_digits (plain n) ≡ true) × (digits_value 10 (plain n) ≡ n)
value_plain zero = (refl, refl)
value_plain (suc n) =
    let ds = digits_of 10 (suc n) in
    let low = all_below_base_digits_of 10 (suc n) (omega arith) in (
      and_from _ _ (digits_all ds low) (or_right _ _ (lt-ltb _ _ (digits_first ds (first_digits_of 10 (suc n) (omega arith) (omega arith))))),
      digits_value_is 10 (map (λ d. 48 + d) ds) ∙ ap (number_from_digits 10) (digits_back ds low) ∙ number_digits_of 10 (suc n) (omega arith),
    )

plain_decimal : (n : ℕ) → n < 2 ^ 64 → plain n ≡ decimal n
plain_decimal zero h = sym (decimal_digit 0 (omega arith))
plain_decimal (suc n) h = sym (decimal-digits_of (suc n) (omega arith) h)

some_digits : (ds : List ℕ) → is_digits ds ≡ true → 0 < length ds
some_digits [] h = absurd (both_ways _ refl h)
some_digits (c ∷ cs) h = omega arith

-- what a word of digits is the text of
pub counted : (ds : List ℕ) (r : Option ℕ) → is_digits ds ≡ true → SomeIff r ((0 < length ds) × (digits_value 10 ds < 2 ^ 64)) (digits_value 10 ds)
    → MatchOption r ((n : ℕ) → n < 2 ^ 64 → ds ≢ decimal n) (λ n. ds ≡ decimal n)
counted ds None h q = λ n below e.
    let f : ds ≡ plain n = e ∙ sym (plain_decimal n below) in
    let v : digits_value 10 ds ≡ n = ap (digits_value 10) f ∙ (value_plain n).1 in
    q (some_digits ds h, omega (arith, v, below))
counted ds (Some n) h q = sym (plain_value ds h) ∙ plain_decimal (digits_value 10 ds) q.0.1 ∙ ap decimal (sym q.1)

-- no other word is the text of a count
pub uncounted : (ds : List ℕ) → is_digits ds ≡ false → (n : ℕ) → n < 2 ^ 64 → ds ≢ decimal n
uncounted ds h n below e = both_ways _ h (ap is_digits (e ∙ sym (plain_decimal n below)) ∙ (value_plain n).0)

-- ---- with a hyphen or without one

if_some : {A : Type 0} (b : Bool) (x y : A) → cond b (Some x) None ≡ Some y → (b ≡ true) × (x ≡ y)
if_some true x y e = (refl, cc)
if_some false x y e = cc

signed : (v : ℕ) → 0 < v → text (neg_ℤ (pos v)) ≡ 45 ∷ plain v
signed zero h = absurd (omega arith)
signed (suc v) h = refl

-- a word that reads as a number is its text
pub text_number : (w : List ℕ) (z : ℤ) → number w ≡ Some z → w ≡ text z
text_number [] z h = cc
text_number (c ∷ cs) z h = go (eqb c 45) refl h
  where
    go : (b : Bool) → eqb c 45 ≡ b → cond b (cond (is_digits cs && ltb 0 (digits_value 10 cs)) (Some (neg_ℤ (pos (digits_value 10 cs)))) None) (cond (is_digits (c ∷ cs)) (Some (pos (digits_value 10 (c ∷ cs)))) None) ≡ Some z → c ∷ cs ≡ text z
    go true e k =
        let p = if_some _ _ _ k in
        let q = and_parts (is_digits cs) (ltb 0 (digits_value 10 cs)) p.0 in
        ap (λ n. n ∷ cs) (eqb-true _ _ e) ∙ ap (λ t. 45 ∷ t) (sym (plain_value cs q.0)) ∙ sym (signed _ (ltb-true _ _ q.1)) ∙ ap text p.1
    go false e k = let p = if_some _ _ _ k in sym (plain_value (c ∷ cs) p.0) ∙ ap text p.1

no_hyphen : (ds : List ℕ) → is_digits ds ≡ true → eqb (get_or ds 0 0) 45 ≡ false
no_hyphen [] h = refl
no_hyphen (c ∷ cs) h =
    let p = and_parts (list_all is_ascii_digit (c ∷ cs)) (eqb (length (c ∷ cs)) 1 || ltb 48 c) h in
    let r = digit_from_value c (own.to (c ∷ cs) p.0).0 in
    ne_eqb c 45 (λ e. omega (arith, r.0, e))

-- the text of a number reads as it
pub number_text : (z : ℤ) → number (text z) ≡ Some z
number_text (pos n) =
    let p = value_plain n in
    cond-false _ _ _ (no_hyphen (plain n) p.0) ∙ cond-true _ _ _ p.0 ∙ ap (λ v. Some (pos v)) p.1
number_text (negsuc n) =
    let p = value_plain (suc n) in
    let q : 0 < digits_value 10 (plain (suc n)) = omega (arith, p.1) in
    cond-true _ _ _ (and_from _ _ p.0 (lt-ltb _ _ q)) ∙ ap (λ v. Some (neg_ℤ (pos v))) p.1

-- a size is held where the word is the text of a number, and there is none of any other word
pub sized : (w : List ℕ) (r : Option ℤ) → r ≡ size_of w → MatchOption r ((z : ℤ) → w ≢ text z) (λ s. (z : ℤ) × (w ≡ text z) × (s ≡ held z))
sized w r e = go (number w) refl r e
  where
    go : (o : Option ℤ) → number w ≡ o → (r : Option ℤ) → r ≡ option_map held o → MatchOption r ((z : ℤ) → w ≢ text z) (λ s. (z : ℤ) × (w ≡ text z) × (s ≡ held z))
    go None h None e = λ z t. let f : number w ≡ Some z = ap number t ∙ number_text z in cc
    go None h (Some s) e = cc
    go (Some z) h None e = cc
    go (Some z) h (Some s) e = (z, text_number w z h, cc)
