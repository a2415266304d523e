-- The words of a script: numbers, cells and names.
use Rattle.std.specs.Prelude.{◌≡◌, ◌⊎◌, ◌++◌, cond, ℕ, suc, ◌+◌, ◌-◌, ◌^◌, Bool, ◌&&◌, ◌||◌, ◌==◌, nat_lt, if◌then◌else◌, List, [], ◌∷◌, length, map, take, drop, slice_index, min, ℤ, pos, negsuc, neg_ℤ, Option, Some, None, zero}
use Rattle.std.specs.Char.{is_ascii_digit, is_ascii_lowercase}
use Rattle.std.specs.Int.Digits.{digits_of}
use Rattle.std.specs.List.{list_all, position}
use Rattle.std.specs.Option.{option_map, unwrap_or}
use Rattle.std.specs.Str.Parse.{digits_value}
use Rattle.arithmetic.specs.Values.{Value, empty, bounds}
use Rattle.cells.specs.Cells.{broken}

-- digits: one, or several of which the first is not 0
abbrev pub is_digits : List ℕ → Bool
is_digits word = list_all is_ascii_digit word && (length word == 1 || nat_lt 48 (slice_index word 0))

-- the number that a word is the text of: such digits, or, behind a hyphen, such digits of a number above 0
abbrev pub number : List ℕ → Option ℤ
number word =
    if slice_index word 0 == 45
    then (if is_digits (drop 1 word) && nat_lt 0 (digits_value 10 (drop 1 word)) then Some (neg_ℤ (pos (digits_value 10 (drop 1 word)))) else None)
    else (if is_digits word then Some (pos (digits_value 10 word)) else None)

-- a count: a number from 0 that fits 64 bits
abbrev pub count_of : List ℕ → Option ℕ
count_of word = if is_digits word && nat_lt (digits_value 10 word) (2 ^ 64) then Some (digits_value 10 word) else None

-- a number held at 2^63 - 1 on either side of 0
abbrev pub held : ℤ → ℤ
held (pos n) = pos (min n (2 ^ 63 - 1))
held (negsuc n) = negsuc (min n (2 ^ 63 - 2))

-- a size, held
abbrev pub size_of : List ℕ → Option ℤ
size_of word = option_map held (number word)

-- the text of a number, of any size: std has `decimal`, for up to 64 digits
abbrev pub plain : ℕ → List ℕ
plain zero = 48 ∷ []
plain (suc n) = map (λ d. 48 + d) (digits_of 10 (suc n))

abbrev pub text : ℤ → List ℕ
text (pos n) = plain n
text (negsuc n) = 45 ∷ plain (suc n)

-- the cell of two numbers, empty where they make none
abbrev pub made : ℤ → ℤ → Value
made l u = cond (broken l u) empty (bounds l u)

abbrev pub made_of : Option ℤ → Option ℤ → Option Value
made_of None u = None
made_of (Some l) None = None
made_of (Some l) (Some u) = Some (made l u)

-- a hyphen alone
abbrev pub is_hyphen : List ℕ → Bool
is_hyphen word = length word == 1 && slice_index word 0 == 45

-- the place of the first dot, or the length where there is none
abbrev pub first_dot : List ℕ → ℕ
first_dot word = unwrap_or (position (λ b. b == 46) word) (length word)

-- two numbers with two dots between
abbrev pub pair_of : List ℕ → Option Value
pair_of word =
    if slice_index word (first_dot word + 1) == 46
    then made_of (number (take (first_dot word) word)) (number (drop (first_dot word + 2) word))
    else None

-- a cell: a hyphen is the empty one
abbrev pub cell_of : List ℕ → Option Value
cell_of word = if is_hyphen word then Some empty else pair_of word

-- a word that stands for a cell: a hyphen for the empty one, and two texts with two dots between for that of their numbers
abbrev pub StandsFor : List ℕ → Value → Type 0
StandsFor word cell =
    ((word ≡ 45 ∷ []) × (cell ≡ empty))
    ⊎ ((l : ℤ) × (u : ℤ) × (word ≡ text l ++ (46 ∷ 46 ∷ text u)) × (cell ≡ made l u))

-- a small letter, and then small letters and digits
abbrev pub is_small_or_digit : ℕ → Bool
is_small_or_digit c = is_ascii_lowercase c || is_ascii_digit c

abbrev pub is_name : List ℕ → Bool
is_name word = is_ascii_lowercase (slice_index word 0) && list_all is_small_or_digit (drop 1 word)

abbrev pub name_of : List ℕ → Option (List ℕ)
name_of word = if is_name word then Some word else None
