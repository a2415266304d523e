-- The least and the greatest of four whole numbers, and the four products of two pairs.
use Rattle.std.specs.Prelude.{List, [], ◌∷◌, ℤ, pos, ◌*ℤ◌, slice_index_or}
use Rattle.std.specs.Int.{int_min, int_max}

abbrev pub least4 : ℤ → ℤ → ℤ → ℤ → ℤ
least4 a b c d = int_min (int_min a b) (int_min c d)

abbrev pub greatest4 : ℤ → ℤ → ℤ → ℤ → ℤ
greatest4 a b c d = int_max (int_max a b) (int_max c d)

-- the same of a list of four, which is how an array of four is seen
abbrev pub least : List ℤ → ℤ
least four = least4 (slice_index_or four 0 (pos 0)) (slice_index_or four 1 (pos 0)) (slice_index_or four 2 (pos 0)) (slice_index_or four 3 (pos 0))

abbrev pub greatest : List ℤ → ℤ
greatest four = greatest4 (slice_index_or four 0 (pos 0)) (slice_index_or four 1 (pos 0)) (slice_index_or four 2 (pos 0)) (slice_index_or four 3 (pos 0))

-- each bound of the pair a, b times each of the pair c, d
abbrev pub products : (a b c d : ℤ) → List ℤ
products a b c d = (a *ℤ c) ∷ ((a *ℤ d) ∷ ((b *ℤ c) ∷ ((b *ℤ d) ∷ [])))
