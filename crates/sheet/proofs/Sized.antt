-- The first best size of a list, as a loop finds it that goes down the list. Assumes an order of sizes.
use Rattle.std.proofs.Common.{◌≡◌, ℕ, zero, suc, ◌+◌, ◌<◌, Bool, true, false, cond, not, ltb, List, [], ◌∷◌, length, get_or, drop, Some, None, Option, option_map, option_and_then, sym, refl, ap, ◌∙◌, subst, ⊎_elim, arith}
use Rattle.std.specs.Cmp.{IsStrictWeakOrder}
use Rattle.std.specs.List.{fold, list_any, position_or_len, IsFirstBest}
use Rattle.std.proofs.lemmas.Bool.{cond-true, cond-false, lt-ltb, cases_Bool}
use Rattle.std.proofs.lemmas.List.{at_drop_more, at_drop_all, get_or_default}
use Rattle.std.proofs.lemmas.List.MinMax.{IsFirstBest-none, IsFirstBest-keeps, IsFirstBest-takes}
use Rattle.std.proofs.lemmas.List.Recursion.{or_at, or_from_places}
use Rattle.std.proofs.lemmas.List.Sums.{position_or_len_is}
use Rattle.arithmetic.specs.Values.{Value}
use Rattle.cells.specs.declared.cell.Record.{Record}
use Rattle.sheet.specs.ColumnQuestions.{sizes, first_best, first_of}

-- ---- what a loop is to answer, from where it stands: its column is what is left of the whole one

-- the sum of the sizes, added to that of the rows before
abbrev pub sum_from : (size : Value → Option ℕ) → ℕ → List Record → Option ℕ
sum_from size sofar column = option_map (fold (λ a x. a + x) sofar) (sizes size column)

-- the first best of a list of sizes, after the first best of the rows before
abbrev first_from : (beats : ℕ → ℕ → Bool) → Option (ℕ × ℕ) → (row : ℕ) → List ℕ → Option (ℕ × ℕ)
first_from beats first row [] = first
first_from beats first row (x ∷ xs) = first_from beats (first_of beats first x row) (row + 1) xs

abbrev pub best_from : (beats : ℕ → ℕ → Bool) (size : Value → Option ℕ) → Option (ℕ × ℕ) → (row : ℕ) → List Record → Option (ℕ × ℕ)
best_from beats size first row column = option_and_then (first_from beats first row) (sizes size column)

module _ {beats : ℕ → ℕ → Bool} (ranks : IsStrictWeakOrder beats) where
  abbrev unbeaten : List ℕ → ℕ → Bool
  unbeaten xs x = not (list_any (λ other. beats other x) xs)

  best_is : (xs : List ℕ) (b : ℕ) → IsFirstBest beats xs (length xs) b → first_best beats xs ≡ Some (get_or xs b 0, b)
  best_is xs b h =
      let at : position_or_len (unbeaten xs) xs ≡ b =
      position_or_len_is (unbeaten xs) xs b 0 (omega (arith, h.0))
      (λ k l. let y = get_or xs k 0 in ap not (or_at (list_any (λ other. beats other y)) (λ other. beats other y) refl (λ _ _. refl) xs b 0 h.0 (h.2 k 0 l)))
      (λ l. let y = get_or xs b 0 in ap not (or_from_places (list_any (λ other. beats other y)) (λ other. beats other y) refl (λ _ _. refl) xs 0 (λ k m. h.1 k 0 m))) in
      ap (option_map (λ row. (get_or xs row 0, row))) (ap (λ (k : ℕ). cond (ltb k (length xs)) (Some k) None) at ∙ cond-true (ltb b (length xs)) (Some b) None (lt-ltb b (length xs) h.0))

  -- from the first best b of the first i sizes, the first best w of all
  abbrev Found : (all : List ℕ) (i b : ℕ) → Type 0
  Found all i b = (w : ℕ) × IsFirstBest beats all (length all) w × (first_from beats (Some (get_or all b 0, b)) i (drop i all) ≡ Some (get_or all w 0, w))

  -- one row on: the row takes its place, or it stays
  row_more : (all : List ℕ) (i b w : ℕ) → i < length all → first_of beats (Some (get_or all b 0, b)) (get_or all i 0) i ≡ Some (get_or all w 0, w)
      → first_from beats (Some (get_or all b 0, b)) i (drop i all) ≡ first_from beats (Some (get_or all w 0, w)) (i + 1) (drop (i + 1) all)
  row_more all i b w inside e =
      at_drop_more (first_from beats (Some (get_or all b 0, b)) i) all i 0 inside ∙ ap (λ (first : Option (ℕ × ℕ)). first_from beats first (i + 1) (drop (i + 1) all)) e

  taken : (all : List ℕ) (i b : ℕ) → i < length all → IsFirstBest beats all i b → beats (get_or all i 0) (get_or all b 0) ≡ true → IsFirstBest beats all (i + 1) i
  taken all i b inside h t =
      IsFirstBest-takes ranks all i b (get_or all i 0) (get_or all b 0) h inside (get_or_default all i 0 (get_or all i 0) inside) (get_or_default all b 0 (get_or all b 0) (omega (arith, h.0))) t

  kept : (all : List ℕ) (i b : ℕ) → i < length all → IsFirstBest beats all i b → beats (get_or all i 0) (get_or all b 0) ≡ false → IsFirstBest beats all (i + 1) b
  kept all i b inside h f =
      IsFirstBest-keeps ranks all i b (get_or all i 0) (get_or all b 0) h inside (get_or_default all i 0 (get_or all i 0) inside) (get_or_default all b 0 (get_or all b 0) (omega (arith, h.0))) f

  found_by : (all : List ℕ) (i b w : ℕ) → i < length all → first_of beats (Some (get_or all b 0, b)) (get_or all i 0) i ≡ Some (get_or all w 0, w) → Found all (i + 1) w → Found all i b
  found_by all i b w inside e r = (r.0, r.1, row_more all i b w inside e ∙ r.2)

  found : (n : ℕ) (all : List ℕ) (i b : ℕ) → i + n ≡ length all → IsFirstBest beats all i b → Found all i b
  found zero all i b e h =
      let end : i ≡ length all = omega (arith, e) in
      (b, subst (λ (i : ℕ). IsFirstBest beats all i b) end h, at_drop_all (first_from beats (Some (get_or all b 0, b)) i) all i (omega (arith, e)))
  found (suc n) all i b e h =
      let inside : i < length all = omega (arith, e) in
      ⊎_elim (λ (t : beats (get_or all i 0) (get_or all b 0) ≡ true). found_by all i b i inside (cond-true _ _ _ t) (found n all (i + 1) i (omega (arith, e)) (taken all i b inside h t)))
      (λ (f : beats (get_or all i 0) (get_or all b 0) ≡ false). found_by all i b b inside (cond-false _ _ _ f) (found n all (i + 1) b (omega (arith, e)) (kept all i b inside h f)))
      (cases_Bool (beats (get_or all i 0) (get_or all b 0)))

  -- of a list that is not empty
  pub first_is : (xs : List ℕ) → 0 < length xs → (w : ℕ) × IsFirstBest beats xs (length xs) w × (first_best beats xs ≡ Some (get_or xs w 0, w))
  first_is [] l = absurd (omega arith)
  first_is (x ∷ xs) l = let r = found (length xs) (x ∷ xs) 1 0 (omega arith) (IsFirstBest-none ranks (x ∷ xs)) in (r.0, r.1, best_is (x ∷ xs) r.0 r.1)

  first_whole : (xs : List ℕ) → first_from beats None 0 xs ≡ first_best beats xs
  first_whole [] = refl
  first_whole (x ∷ xs) = let r = found (length xs) (x ∷ xs) 1 0 (omega arith) (IsFirstBest-none ranks (x ∷ xs)) in r.2 ∙ sym (best_is (x ∷ xs) r.0 r.1)

  -- before the first row
  pub best_none : (size : Value → Option ℕ) (column : List Record) → best_from beats size None 0 column ≡ option_and_then (first_best beats) (sizes size column)
  best_none size column = elim (sizes size column) as (λ o. option_and_then (first_from beats None 0) o ≡ option_and_then (first_best beats) o) [ None ↦ refl | Some xs ↦ first_whole xs ]
