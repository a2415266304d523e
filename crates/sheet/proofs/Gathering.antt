-- A run gathered into a second one, place by place. Assumes nothing.
use Rattle.std.proofs.Common.{◌≡◌, ℕ, zero, suc, ◌+◌, ◌<◌, ◌≤◌, List, [], ◌∷◌, ◌++◌, Option, length, get_or, set, take, sym, ap, ◌∙◌, arith}
use Rattle.std.specs.List.{slice_get, cons_option}
use Rattle.std.proofs.lemmas.List.{take_all, take_more, take_more_set}
use Rattle.std.proofs.lemmas.List.Elements.{filter_map-append}
use Rattle.std.proofs.lemmas.Option.{slice_get-get_or}
use Rattle.sheet.specs.Permutations.{gathered, EachOnce, Gathers}

-- one more place is written
pub gathered_more : {X : Type 0} (from : List X) (order : List ℕ) (to : List X) (row : ℕ) (x : X) → row < length order → row < length to → get_or order row 0 < length from → x ≡ get_or from (get_or order row 0) x
    → take row to ≡ gathered from (take row order) → take (row + 1) (set to row x) ≡ gathered from (take (row + 1) order)
gathered_more {X} from order to row x inside room below is sofar =
    let place = get_or order row 0 in
    let read = slice_get-get_or from place x below in
    take_more_set to row x room
    ∙ ap (λ (l : List X). l ++ (x ∷ [])) sofar
    ∙ ap (λ (y : X). gathered from (take row order) ++ (y ∷ [])) is
    ∙ sym (ap (gathered from) (take_more order row 0 inside) ∙ filter_map-append (slice_get from) (take row order) (place ∷ []) ∙ ap (λ (o : Option X). gathered from (take row order) ++ cons_option o []) read)

-- a list of places of the run gathers an element for each
gathered_at : {X : Type 0} (from : List X) (order : List ℕ) → ((i : ℕ) → i < length order → get_or order i 0 < length from) → (i : ℕ) (d : X) → i < length order
    → get_or (gathered from order) i d ≡ get_or from (get_or order i 0) d
gathered_at from [] below i d l = absurd (omega arith)
gathered_at {X} from (place ∷ order) below zero d l =
    ap (λ (o : Option X). get_or (cons_option o (gathered from order)) 0 d) (slice_get-get_or from place d (below 0 l))
gathered_at {X} from (place ∷ order) below (suc i) d l =
    ap (λ (o : Option X). get_or (cons_option o (gathered from order)) (suc i) d) (slice_get-get_or from place d (below 0 (omega arith)))
    ∙ gathered_at from order (λ k h. below (suc k) (omega arith)) i d (omega arith)

-- all places are written, and the list is a permutation, so that each of its places is one of the run
pub gathers : {X : Type 0} (from : List X) (order : List ℕ) (to : List X) (row : ℕ) → EachOnce (length from) order → length to ≡ length from → length from ≤ row
    → take row to ≡ gathered from (take row order) → Gathers from order to
gathers {X} from order to row once n end done = λ i l d.
    ap (λ (run : List X). get_or run i d) (sym (take_all row to (omega arith)) ∙ done ∙ ap (gathered from) (take_all row order (omega (arith, once.places))))
    ∙ gathered_at from order (λ k h. once.below k (omega (arith, once.places))) i d (omega (arith, once.places))
