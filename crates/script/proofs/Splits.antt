-- The first word of a line, and what is left of it.
use Rattle.std.proofs.Common.{◌≡◌, ◌≢◌, ℕ, suc, ◌+◌, ◌≤◌, Bool, true, false, cond, not, eqb, List, [], ◌∷◌, length, take, drop, Some, None, refl, ap, ◌∙◌, arith}
use Rattle.std.specs.List.{onto_first, position, position_or_len}
use Rattle.std.proofs.lemmas.Bool.{ltb-true, ltb-false}
use Rattle.std.proofs.lemmas.List.Splits.{slice_split_first, slice_split-cons_no, length-slice_split}
use Rattle.script.specs.Words.{words}

abbrev space : ℕ → Bool
space b = eqb b 32

some_place : (b : Bool) (n at : ℕ) → cond b (Some n) None ≡ Some at → (b ≡ true) × (n ≡ at)
some_place true n at e = (refl, cc)
some_place false n at e = cc

none_place : (b : Bool) (n : ℕ) → cond b (Some n) None ≡ None → b ≡ false
none_place true n e = cc
none_place false n e = refl

pub cut_at : (xs : List ℕ) (at : ℕ) → position space xs ≡ Some at → words xs ≡ take at xs ∷ words (drop (at + 1) xs)
cut_at xs at e =
    let p = some_place _ _ _ e in
    slice_split_first space xs 0 (ltb-true _ _ p.0) ∙ ap (λ k. take k xs ∷ words (drop (k + 1) xs)) p.1

whole_from : (x : ℕ) (xs : List ℕ) (b : Bool) → space x ≡ b → suc (length xs) ≤ cond (not b) (1 + position_or_len space xs) 0 → (length xs ≤ position_or_len space xs → words xs ≡ xs ∷ [])
    → words (x ∷ xs) ≡ (x ∷ xs) ∷ []
whole_from x xs true e h below = absurd (omega (arith, h))
whole_from x xs false e h below = slice_split-cons_no space x xs e ∙ ap (onto_first x) (below (omega (arith, h)))

whole : (xs : List ℕ) → length xs ≤ position_or_len space xs → words xs ≡ xs ∷ []
whole [] h = refl
whole (x ∷ xs) h = whole_from x xs (space x) refl h (whole xs)

pub cut_nowhere : (xs : List ℕ) → position space xs ≡ None → words xs ≡ xs ∷ []
cut_nowhere xs e = whole xs (ltb-false _ _ (none_place _ _ e))

-- a line has at least one word
pub some_words : (xs : List ℕ) → words xs ≢ []
some_words xs e = let n = length-slice_split space xs in let m : length (words xs) ≡ 0 = ap length e in omega (arith, n, m)
