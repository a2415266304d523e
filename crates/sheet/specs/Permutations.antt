-- Which lists are permutations, what is known of one, and what a run that is permuted into a second one leaves there.
use Rattle.std.specs.Prelude.{◌≡◌, ℕ, ◌<◌, Bool, ◌&&◌, List, length, Ok, Err, Result, ◌==◌, if◌then◌else◌, slice_get, slice_index, slice_index_or, EachIndex, count_by, filter_map}
use Rattle.std.specs.List.{range_with_len, list_all}
use Rattle.sheet.specs.declared.refusal.CallName.TheVariants.{PermuteRun}
use Rattle.sheet.specs.declared.refusal.Refusal.{Refusal}
use Rattle.sheet.specs.declared.refusal.Refusal.TheVariants.{NoPermutation}

-- the list is the numbers from 0 to n − 1, each once: it has n places, and each of the numbers stands at exactly one of them
unfoldable pub is_permutation : (n : ℕ) → List ℕ → Bool
is_permutation n order = (length order == n) && list_all (λ number. count_by (λ p. p == number) order == 1) (range_with_len 0 n)

-- what that means at each place and for each number
pub record EachOnce (n : ℕ) (order : List ℕ) : Type 0 where
  pub places : length order ≡ n
  pub below : (i : ℕ) → i < n → slice_index order i < n
  pub apart : (i j : ℕ) → i < n → j < n → slice_index order i ≡ slice_index order j → i ≡ j
  pub found : (number : ℕ) → number < n → (i : ℕ) × (i < n) × (slice_index order i ≡ number)

-- the elements of a run at the places that the list names, in the list's order
abbrev pub gathered : {X : Type 0} → (from : List X) (order : List ℕ) → List X
gathered from order = filter_map (slice_get from) order

-- run, list and second run are equally long, and the list is a permutation
abbrev pub can_permute : {X : Type 0} → (from : List X) (order : List ℕ) (to : List X) → Bool
can_permute from order to = (length to == length from) && is_permutation (length from) order

abbrev pub run_answer : {X : Type 0} → (from : List X) (order : List ℕ) (to : List X) → Result (Unit {0}) Refusal
run_answer from order to = if can_permute from order to then Ok tt else Err (NoPermutation PermuteRun 0)

-- what the second run holds afterwards
abbrev pub permuted_run : {X : Type 0} → (from : List X) (order : List ℕ) (to : List X) → List X
permuted_run from order to = if can_permute from order to then gathered from order else to

-- element i of the second run is the first run's element at the list's place i
abbrev pub Gathers : {X : Type 0} → (from : List X) (order : List ℕ) (to : List X) → Type 0
Gathers {X} from order to = EachIndex to (λ i. (d : X) → slice_index_or to i d ≡ slice_index_or from (slice_index order i) d)
