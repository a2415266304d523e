-- A word that reads as a cell stands for it, and a word that stands for a cell reads as it.
use Rattle.std.proofs.Common.{◌≡◌, ℕ, zero, suc, ◌+◌, ◌<◌, ◌≤◌, Bool, true, false, cond, not, eqb, ltb, leb, List, [], ◌∷◌, ◌++◌, length, get_or, take, drop, ℤ, pos, negsuc, Option, Some, None, MatchOption, refl, sym, ap, ◌∙◌, inl, inr, ⊎_elim, arith}
use Rattle.std.specs.Char.{is_ascii_digit}
use Rattle.std.specs.List.{list_all, position_or_len}
use Rattle.std.specs.Option.{option_map, unwrap_or}
use Rattle.std.proofs.lemmas.Bool.{and_parts, and_from, and_left, both_ways, eqb-true, leb-true, lt-ltb, ltb-true, ne_eqb, cond-true, cond-false, not_from_false}
use Rattle.std.proofs.lemmas.List.{take-append-drop, get_or-append-add, length-append, drop_more}
use Rattle.std.proofs.lemmas.List.Sums.{passes_at_first}
use Rattle.std.proofs.Math.Seq.{take-append_seam, drop-append-add}
use Rattle.arithmetic.specs.Values.{Value, empty}
use Rattle.cells.specs.Cells.{read_as}
use Rattle.cells.specs.declared.cell.Record.{Record}
use Rattle.script.proofs.Texts.{text_number, number_text, value_plain}
use Rattle.script.specs.Numbers.{number, text, plain, made, made_of, is_hyphen, first_dot, pair_of, cell_of, StandsFor}

abbrev dot : ℕ → Bool
dot b = eqb b 46

-- ---- what reads as a cell stands for it

made_parts : (a b : Option ℤ) (v : Value) → made_of a b ≡ Some v → (l : ℤ) × (u : ℤ) × (a ≡ Some l) × (b ≡ Some u) × (v ≡ made l u)
made_parts None b v e = cc
made_parts (Some l) None v e = cc
made_parts (Some l) (Some u) v e = (l, u, refl, refl, cc)

then_some : {A : Type 0} (b : Bool) (o : Option A) (x : A) → cond b o None ≡ Some x → (b ≡ true) × (o ≡ Some x)
then_some true o x e = (refl, e)
then_some false o x e = cc

inside : (w : List ℕ) (i n : ℕ) → get_or w i 0 ≡ suc n → i < length w
inside [] i n e = absurd (omega (arith, e))
inside (c ∷ w) zero n e = omega arith
inside (c ∷ w) (suc i) n e = let h = inside w i n e in omega (arith, h)

at_two : (w : List ℕ) (k : ℕ) → k + 1 < length w → w ≡ take k w ++ (get_or w k 0 ∷ get_or w (k + 1) 0 ∷ drop (k + 2) w)
at_two w k h =
    let n : k + 1 + 1 ≡ k + 2 = omega arith in
    sym (take-append-drop k w)
    ∙ ap (λ t. take k w ++ t) (drop_more w k 0 (omega arith))
    ∙ ap (λ t. take k w ++ (get_or w k 0 ∷ t)) (drop_more w (k + 1) 0 h)
    ∙ ap (λ i. take k w ++ (get_or w k 0 ∷ get_or w (k + 1) 0 ∷ drop i w)) n

shape : (w a b : List ℕ) (c d : ℕ) (l u : ℤ) → w ≡ a ++ (c ∷ d ∷ b) → a ≡ text l → c ≡ 46 → d ≡ 46 → b ≡ text u → w ≡ text l ++ (46 ∷ 46 ∷ text u)
shape w a b c d l u e f g h i =
    e ∙ ap (λ t. t ++ (c ∷ d ∷ b)) f ∙ ap (λ n. text l ++ (n ∷ d ∷ b)) g ∙ ap (λ n. text l ++ (46 ∷ n ∷ b)) h ∙ ap (λ t. text l ++ (46 ∷ 46 ∷ t)) i

found : (b : Bool) (n m : ℕ) → unwrap_or (cond b (Some n) None) m < m → (b ≡ true) × (unwrap_or (cond b (Some n) None) m ≡ n)
found true n m h = (refl, refl)
found false n m h = absurd (omega (arith, h))

pair_stands : (w : List ℕ) (v : Value) → pair_of w ≡ Some v → StandsFor w v
pair_stands w v h =
    let p = then_some _ _ _ h in
    let second : get_or w (first_dot w + 1) 0 ≡ 46 = eqb-true _ _ p.0 in
    let within : first_dot w + 1 < length w = inside w (first_dot w + 1) 45 second in
    let f = found (ltb (position_or_len dot w) (length w)) (position_or_len dot w) (length w) (omega arith) in
    let passes = eqb-true _ _ (passes_at_first dot w 0 (ltb-true _ _ f.0)) in
    let first : get_or w (first_dot w) 0 ≡ 46 = ap (λ k. get_or w k 0) f.1 ∙ passes in
    let m = made_parts _ _ _ p.1 in
    inr (m.0, m.1, shape w _ _ _ _ m.0 m.1 (at_two w (first_dot w) within) (text_number _ _ m.2) first second (text_number _ _ m.3), m.4)

hyphen : (w : List ℕ) → is_hyphen w ≡ true → w ≡ 45 ∷ []
hyphen [] h = absurd (both_ways _ refl h)
hyphen (c ∷ []) h = ap (λ n. n ∷ []) (eqb-true c 45 (and_parts true (eqb c 45) h).1)
hyphen (c ∷ d ∷ ds) h = let e = eqb-true (length (c ∷ d ∷ ds)) 1 (and_parts (eqb (length (c ∷ d ∷ ds)) 1) (eqb c 45) h).0 in absurd (omega (arith, e))

stands : (w : List ℕ) (v : Value) → cell_of w ≡ Some v → StandsFor w v
stands w v h = go (is_hyphen w) refl h
  where
    go : (b : Bool) → is_hyphen w ≡ b → cond b (Some empty) (pair_of w) ≡ Some v → StandsFor w v
    go true e k = inl (hyphen w e, cc)
    go false e k = pair_stands w v k

-- ---- what stands for a cell reads as it

no_dots : (ds : List ℕ) → list_all is_ascii_digit ds ≡ true → list_all (λ b. not (dot b)) ds ≡ true
no_dots [] h = refl
no_dots (c ∷ cs) h =
    let p = and_parts (is_ascii_digit c) (list_all is_ascii_digit cs) h in
    let q = and_parts (leb 48 c) (leb c 57) p.0 in
    let n : 48 ≤ c = leb-true _ _ q.0 in
    let f : dot c ≡ false = ne_eqb c 46 (λ e. omega (arith, n, e)) in
    and_from _ _ (not_from_false _ f) (no_dots cs p.1)

plain_no_dots : (n : ℕ) → list_all (λ b. not (dot b)) (plain n) ≡ true
plain_no_dots n = no_dots (plain n) (and_parts (list_all is_ascii_digit (plain n)) _ (value_plain n).0).0

text_no_dots : (z : ℤ) → list_all (λ b. not (dot b)) (text z) ≡ true
text_no_dots (pos n) = plain_no_dots n
text_no_dots (negsuc n) = plain_no_dots (suc n)

place : (xs ys : List ℕ) → list_all (λ b. not (dot b)) xs ≡ true → position_or_len dot (xs ++ (46 ∷ ys)) ≡ length xs
place [] ys h = refl
place (x ∷ xs) ys h =
    let p = and_parts (not (dot x)) (list_all (λ b. not (dot b)) xs) h in
    let e = place xs ys p.1 in
    cond-true _ _ _ p.0 ∙ omega (arith, e)

first_from : (n m k : ℕ) → n ≡ k → n < m → unwrap_or (cond (ltb n m) (Some n) None) m ≡ k
first_from n m k e h = ap (λ b. unwrap_or (cond b (Some n) None) m) (lt-ltb n m h) ∙ e

pair_reads : (xs ys : List ℕ) (l u : ℤ) → list_all (λ b. not (dot b)) xs ≡ true → number xs ≡ Some l → number ys ≡ Some u → cell_of (xs ++ (46 ∷ 46 ∷ ys)) ≡ Some (made l u)
pair_reads xs ys l u h nl nu =
    let w : List ℕ = xs ++ (46 ∷ 46 ∷ ys) in
    let n = length-append xs (46 ∷ 46 ∷ ys) in
    let long : 1 < length w = omega (arith, n) in
    let no : is_hyphen w ≡ false = and_left _ _ (ne_eqb (length w) 1 (λ e. omega (arith, e, long))) in
    let at : first_dot w ≡ length xs = first_from (position_or_len dot w) (length w) (length xs) (place xs (46 ∷ ys) h) (let p = place xs (46 ∷ ys) h in omega (arith, p, n)) in
    let second : eqb (get_or w (first_dot w + 1) 0) 46 ≡ true = ap (λ k. eqb (get_or w (k + 1) 0) 46) at ∙ ap (λ c. eqb c 46) (get_or-append-add xs (46 ∷ 46 ∷ ys) 1 0) in
    let a : take (first_dot w) w ≡ xs = ap (λ k. take k w) at ∙ take-append_seam xs (46 ∷ 46 ∷ ys) in
    let b : drop (first_dot w + 2) w ≡ ys = ap (λ k. drop (k + 2) w) at ∙ drop-append-add xs (46 ∷ 46 ∷ ys) 2 in
    cond-false _ _ _ no ∙ cond-true _ _ _ second
    ∙ ap (λ s. made_of (number s) (number (drop (first_dot w + 2) w))) a
    ∙ ap (λ s. made_of (number xs) (number s)) b
    ∙ ap (λ o. made_of o (number ys)) nl
    ∙ ap (λ o. made_of (Some l) o) nu

reads : (w : List ℕ) (v : Value) → StandsFor w v → cell_of w ≡ Some v
reads w v s = ⊎_elim
    (λ h. ap cell_of h.0 ∙ ap Some (sym h.1))
    (λ h. ap cell_of h.2 ∙ pair_reads (text h.0) (text h.1) h.0 h.1 (text_no_dots h.0) (number_text h.0) (number_text h.1) ∙ ap Some (sym h.3))
    s

-- what is read of a word is what it stands for, and nothing where it stands for no cell
pub celled : (w : List ℕ) (o : Option Record) → option_map read_as o ≡ cell_of w → MatchOption o ((v : Value) → ¬ (StandsFor w v)) (λ r. StandsFor w (read_as r))
celled w None e = λ v s. let f : cell_of w ≡ Some v = reads w v s in cc
celled w (Some r) e = stands w (read_as r) (sym e)
