-- The laws of the questions about a column. Assumes nothing.
use Rattle.std.proofs.Common.{◌≡◌, ℕ, zero, suc, ◌<◌, Bool, true, nat_lt, ◌↔◌, List, [], ◌∷◌, length, get_or, map, Some, None, Option, option_map, option_and_then, sum, sym, refl, ap, ◌∙◌, subst, arith, ◌⊎◌, inl, inr, ⊎_elim}
use Rattle.std.specs.Cmp.{IsStrictWeakOrder}
use Rattle.std.specs.List.{zip, IsFirstBest}
use Rattle.std.proofs.lemmas.Bool.{ltb-true, ltb-false}
use Rattle.std.proofs.lemmas.List.{get_or-map, length-map, get_or_default}
use Rattle.std.proofs.lemmas.List.MinMax.{IsStrictWeakOrder-flip, IsStrictWeakOrder-by_number}
use Rattle.std.proofs.lemmas.List.Sums.{AllPass-from_list_all, list_all-from_AllPass}
use Rattle.std.proofs.lemmas.Option.{none-some, same_Some, some_pair_parts}
use Rattle.std.proofs.lemmas.Slice.Zip.{length-zip, get_or-zip}
use Rattle.arithmetic.specs.Values.{Value, empty, bounds}
use Rattle.cells.specs.declared.cell.Record.{Record}
use Rattle.cells.specs.Cells.{read_as, blank, cell_at}
use Rattle.cells.specs.Questions.{nested}
use Rattle.sheet.specs.ColumnLaws.{NoneIfEmpty, IsLargest, IsSmallest, ColumnLaws}
use Rattle.sheet.specs.ColumnQuestions.{greater_size, lesser_size, all_of, sizes, exceeds, first_best, largest_of, smallest_of, enclosed_in}
use Rattle.sheet.proofs.Sized.{first_is}

-- ---- a list of numbers of which one may be missing

cons_some : (o : Option (List ℕ)) (x : ℕ) (xs : List ℕ) → option_map (λ l. x ∷ l) o ≡ Some xs → (l : List ℕ) × (o ≡ Some l) × (x ∷ l ≡ xs)
cons_some None x xs e = absurd (none-some xs e)
cons_some (Some l) x xs e = (l, refl, same_Some (x ∷ l) xs e)

map_none : {X Y : Type 0} (f : X → Y) (o : Option X) → option_map f o ≡ None → o ≡ None
map_none f None e = refl
map_none f (Some x) e = absurd (none-some (f x) (sym e))

all_some : (os : List (Option ℕ)) (xs : List ℕ) → all_of os ≡ Some xs → os ≡ map Some xs
all_some [] xs e = ap (map Some) (same_Some [] xs e)
all_some (None ∷ os) xs e = absurd (none-some xs e)
all_some (Some x ∷ os) xs e = let p = cons_some (all_of os) x xs e in ap (λ l. Some x ∷ l) (all_some os p.0 p.1) ∙ ap (map Some) p.2

one_missing : (os : List (Option ℕ)) → all_of os ≡ None → (k : ℕ) × (k < length os) × (get_or os k (Some 0) ≡ None)
one_missing [] e = absurd (none-some [] (sym e))
one_missing (None ∷ os) e = (0, omega arith, refl)
one_missing (Some x ∷ os) e = let p = one_missing os (map_none (λ l. x ∷ l) (all_of os) e) in (suc p.0, omega (arith, p.1), p.2)

missing : (os : List (Option ℕ)) (k : ℕ) → k < length os → get_or os k (Some 0) ≡ None → all_of os ≡ None
missing [] k l e = absurd (omega arith)
missing (None ∷ os) k l e = refl
missing (Some x ∷ os) zero l e = absurd (none-some x (sym e))
missing (Some x ∷ os) (suc k) l e = ap (option_map (λ l. x ∷ l)) (missing os k (omega arith) e)

known : {X : Type 0} (o : Option X) → (o ≡ None) ⊎ ((x : X) × (o ≡ Some x))
known None = inl refl
known (Some x) = inr (x, refl)

-- ---- a column's sizes, row by row

-- each kind of size is missing of the empty cell alone
pub record IsSize (size : Value → Option ℕ) : Type 0 where
  pub of_empty : size empty ≡ None
  pub only : (v : Value) → size v ≡ None → v ≡ empty

greater_is : IsSize greater_size
greater_is = record { of_empty = refl; only = λ v. elim v as (λ v. greater_size v ≡ None → v ≡ empty) [ empty ↦ λ e. refl | bounds a b ↦ λ e. absurd (none-some _ (sym e)) ] }

lesser_is : IsSize lesser_size
lesser_is = record { of_empty = refl; only = λ v. elim v as (λ v. lesser_size v ≡ None → v ≡ empty) [ empty ↦ λ e. refl | bounds a b ↦ λ e. absurd (none-some _ (sym e)) ] }

module _ (size : Value → Option ℕ) where
  abbrev listed : List Record → List (Option ℕ)
  listed column = map (λ r. size (read_as r)) column

  row_size : (column : List Record) (k : ℕ) → k < length column → get_or (listed column) k (Some 0) ≡ size (cell_at column k)
  row_size column k l = get_or-map (λ r. size (read_as r)) column k blank (Some 0) l

  length-sizes : (column : List Record) (xs : List ℕ) → sizes size column ≡ Some xs → length xs ≡ length column
  length-sizes column xs e = sym (length-map xs Some) ∙ sym (ap length (all_some (listed column) xs e)) ∙ length-map column (λ r. size (read_as r))

  size_at : (column : List Record) (xs : List ℕ) (k : ℕ) → sizes size column ≡ Some xs → k < length column → size (cell_at column k) ≡ Some (get_or xs k 0)
  size_at column xs k e l =
      sym (row_size column k l) ∙ ap (λ (os : List (Option ℕ)). get_or os k (Some 0)) (all_some (listed column) xs e)
      ∙ get_or-map Some xs k 0 (Some 0) (omega (arith, length-sizes column xs e))

  -- ---- nothing is answered exactly if a cell is empty

  none_if : {Y : Type 0} (answer : Option (List ℕ) → Option Y) → IsSize size → answer None ≡ None → ((xs : List ℕ) → 0 < length xs → answer (Some xs) ≡ None → ⊥) → NoneIfEmpty (λ column. answer (sizes size column))
  none_if {Y} answer is at_none at_some column some = (
    λ e. ⊎_elim (λ (n : sizes size column ≡ None).
        let p = one_missing (listed column) n in
        let inside : p.0 < length column = omega (arith, p.1, length-map column (λ r. size (read_as r))) in
        record { row = p.0; inside = inside; lacks = is.only (cell_at column p.0) (sym (row_size column p.0 inside) ∙ p.2) })
        (λ (p : (xs : List ℕ) × (sizes size column ≡ Some xs)).
        absurd (at_some p.0 (omega (arith, some, length-sizes column p.0 p.1)) (sym (ap answer p.1) ∙ e)))
        (known (sizes size column)),
    λ h.
        let l : h.row < length (listed column) = omega (arith, h.inside, length-map column (λ r. size (read_as r))) in
        ap answer (missing (listed column) h.row l (row_size column h.row h.inside ∙ ap size h.lacks ∙ is.of_empty)) ∙ at_none,
  )

  -- ---- the first best size

  module _ {beats : ℕ → ℕ → Bool} (ranks : IsStrictWeakOrder beats) where
    some_first : (xs : List ℕ) → 0 < length xs → first_best beats xs ≡ None → ⊥
    some_first xs l e = let r = first_is ranks xs l in none-some (get_or xs r.0 0, r.0) (sym e ∙ r.2)

    best_none_if : IsSize size → NoneIfEmpty (λ column. option_and_then (first_best beats) (sizes size column))
    best_none_if is = none_if (option_and_then (first_best beats)) is refl some_first

    -- the sizes, of which the answer is the first best
    pub record Answered (column : List Record) (s row : ℕ) : Type 0 where
      pub xs : List ℕ
      pub read : sizes size column ≡ Some xs
      pub best : IsFirstBest beats xs (length xs) row
      pub at : get_or xs row 0 ≡ s

    answered_list : (xs : List ℕ) (s row : ℕ) → first_best beats xs ≡ Some (s, row) → IsFirstBest beats xs (length xs) row × (get_or xs row 0 ≡ s)
    answered_list [] s row e = absurd (none-some (s, row) e)
    answered_list (x ∷ xs) s row e =
        let r = first_is ranks (x ∷ xs) (omega arith) in let p = some_pair_parts _ s _ row (sym r.2 ∙ e) in
        (subst (λ (w : ℕ). IsFirstBest beats (x ∷ xs) (length (x ∷ xs)) w) p.1 r.1, ap (λ (w : ℕ). get_or (x ∷ xs) w 0) (sym p.1) ∙ p.0)

    answered : (column : List Record) (s row : ℕ) → option_and_then (first_best beats) (sizes size column) ≡ Some (s, row) → Answered column s row
    answered column s row e =
        ⊎_elim (λ (n : sizes size column ≡ None). absurd (none-some (s, row) (sym (ap (option_and_then (first_best beats)) n) ∙ e)))
        (λ (p : (xs : List ℕ) × (sizes size column ≡ Some xs)).
        let r = answered_list p.0 s row (sym (ap (option_and_then (first_best beats)) p.1) ∙ e) in
        record { xs = p.0; read = p.1; best = r.0; at = r.1 })
        (known (sizes size column))

greatest_first : IsStrictWeakOrder exceeds
greatest_first = IsStrictWeakOrder-flip nat_lt (IsStrictWeakOrder-by_number (λ size. size))

least_first : IsStrictWeakOrder nat_lt
least_first = IsStrictWeakOrder-by_number (λ size. size)

largest_is : (column : List Record) (size row : ℕ) → largest_of column ≡ Some (size, row) → IsLargest column size row
largest_is column size row e =
    let a = answered greater_size greatest_first column size row e in let n = length-sizes greater_size column a.xs a.read in
    let inside : row < length column = omega (arith, n, a.best.0) in
    let same : (k other : ℕ) → k < length column → greater_size (cell_at column k) ≡ Some other → get_or a.xs k 0 ≡ other =
    λ k other l o. same_Some (get_or a.xs k 0) other (sym (size_at greater_size column a.xs k a.read l) ∙ o) in
    record {
      inside = inside;
      has = size_at greater_size column a.xs row a.read inside ∙ ap Some a.at;
      most = λ k other l o. omega (arith, a.at, same k other l o, ltb-false (get_or a.xs row 0) (get_or a.xs k 0) (a.best.1 k 0 (omega (arith, n, l))));
      first = λ k other l o. omega (arith, a.at, same k other (omega (arith, inside, l)) o, ltb-true (get_or a.xs k 0) (get_or a.xs row 0) (a.best.2 k 0 l));
    }

smallest_is : (column : List Record) (size row : ℕ) → smallest_of column ≡ Some (size, row) → IsSmallest column size row
smallest_is column size row e =
    let a = answered lesser_size least_first column size row e in let n = length-sizes lesser_size column a.xs a.read in
    let inside : row < length column = omega (arith, n, a.best.0) in
    let same : (k other : ℕ) → k < length column → lesser_size (cell_at column k) ≡ Some other → get_or a.xs k 0 ≡ other =
    λ k other l o. same_Some (get_or a.xs k 0) other (sym (size_at lesser_size column a.xs k a.read l) ∙ o) in
    record {
      inside = inside;
      has = size_at lesser_size column a.xs row a.read inside ∙ ap Some a.at;
      least = λ k other l o. omega (arith, a.at, same k other l o, ltb-false (get_or a.xs k 0) (get_or a.xs row 0) (a.best.1 k 0 (omega (arith, n, l))));
      first = λ k other l o. omega (arith, a.at, same k other (omega (arith, inside, l)) o, ltb-true (get_or a.xs row 0) (get_or a.xs k 0) (a.best.2 k 0 l));
    }

-- ---- two columns

abbrev Two : Type 0
Two = Record × Record

enclosed_is : (inner outer : List Record) → length inner ≡ length outer → (enclosed_in inner outer ≡ true) ↔ ((row : ℕ) → row < length inner → nested (cell_at inner row) (cell_at outer row) ≡ true)
enclosed_is inner outer n =
    let test : Two → Bool = λ pair. nested (read_as pair.0) (read_as pair.1) in
    let many : length (zip inner outer) ≡ length inner = omega (arith, n, length-zip inner outer) in
    let at : (k : ℕ) (d : Two) → k < length inner → test (get_or (zip inner outer) k d) ≡ nested (read_as (get_or inner k d.0)) (read_as (get_or outer k d.1)) =
    λ k d l. ap test (get_or-zip inner outer k d l (omega (arith, n, l))) in
    let default : (k : ℕ) (d : Two) → k < length inner → nested (read_as (get_or inner k d.0)) (read_as (get_or outer k d.1)) ≡ nested (cell_at inner k) (cell_at outer k) =
    λ k d l. ap (λ (r : Record). nested (read_as r) (read_as (get_or outer k d.1))) (get_or_default inner k d.0 blank l)
    ∙ ap (λ (r : Record). nested (cell_at inner k) (read_as r)) (get_or_default outer k d.1 blank (omega (arith, n, l))) in (
      λ t row l. sym (at row (blank, blank) l) ∙ AllPass-from_list_all test (zip inner outer) t row (blank, blank) (omega (arith, many, l)),
      λ h. list_all-from_AllPass test (zip inner outer) (λ k d l. let m : k < length inner = omega (arith, many, l) in at k d m ∙ default k d m ∙ h k m),
    )

pub laws : ColumnLaws
laws = record {
  one_norm_none = none_if greater_size (option_map sum) greater_is refl (λ xs l e. none-some (sum xs) (sym e));
  infinity_norm_none = none_if greater_size (λ o. option_map (λ (first : ℕ × ℕ). first.0) (option_and_then (first_best exceeds) o)) greater_is refl
      (λ xs l e. some_first greater_size greatest_first xs l (map_none (λ (first : ℕ × ℕ). first.0) (first_best exceeds xs) e));
  largest_none = best_none_if greater_size greatest_first greater_is;
  smallest_none = best_none_if lesser_size least_first lesser_is;
  largest_is = largest_is;
  smallest_is = smallest_is;
  enclosed_is = enclosed_is;
}
