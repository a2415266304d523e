-- The questions about a whole column: its norms, its largest and its smallest cell, and whether it is enclosed in another.
use Rattle.std.specs.Prelude.{ℕ, max, min, Bool, not, List, [], ◌∷◌, map, sum, unsigned_abs, Some, None, Option, option_map, option_and_then, if◌then◌else◌, nat_lt, slice_index, position, zip}
use Rattle.std.specs.List.{list_any, list_all}
use Rattle.arithmetic.specs.Values.{Value, empty, bounds}
use Rattle.cells.specs.declared.cell.Record.{Record}
use Rattle.cells.specs.Cells.{read_as}
use Rattle.cells.specs.Questions.{nested}

-- the greater and the lesser of the sizes of a cell's bounds; none for the empty cell
abbrev pub greater_size : Value → Option ℕ
greater_size empty = None
greater_size (bounds a b) = Some (max (unsigned_abs a) (unsigned_abs b))

abbrev pub lesser_size : Value → Option ℕ
lesser_size empty = None
lesser_size (bounds a b) = Some (min (unsigned_abs a) (unsigned_abs b))

-- all of them; none where one is missing
abbrev pub all_of : List (Option ℕ) → Option (List ℕ)
all_of [] = Some []
all_of (None ∷ xs) = None
all_of (Some x ∷ xs) = option_map (λ rest. x ∷ rest) (all_of xs)

-- the sizes of a column's cells, row by row; none where a cell is empty
abbrev pub sizes : (size : Value → Option ℕ) → List Record → Option (List ℕ)
sizes size column = all_of (map (λ r. size (read_as r)) column)

abbrev pub one_norm_of : List Record → Option ℕ
one_norm_of column = option_map sum (sizes greater_size column)

-- the first row whose size no other beats, behind that size; none where there is no row
abbrev pub first_best : (beats : ℕ → ℕ → Bool) → List ℕ → Option (ℕ × ℕ)
first_best beats sizes = option_map (λ row. (slice_index sizes row, row)) (position (λ size. not (list_any (λ other. beats other size) sizes)) sizes)

abbrev pub exceeds : ℕ → ℕ → Bool
exceeds a b = nat_lt b a

abbrev pub largest_of : List Record → Option (ℕ × ℕ)
largest_of column = option_and_then (first_best exceeds) (sizes greater_size column)

abbrev pub smallest_of : List Record → Option (ℕ × ℕ)
smallest_of column = option_and_then (first_best nat_lt) (sizes lesser_size column)

abbrev pub infinity_norm_of : List Record → Option ℕ
infinity_norm_of column = option_map (λ first. first.0) (largest_of column)

-- what is the first best once a row with this size follows
abbrev pub first_of : (beats : ℕ → ℕ → Bool) → Option (ℕ × ℕ) → (size row : ℕ) → Option (ℕ × ℕ)
first_of beats None size row = Some (size, row)
first_of beats (Some first) size row = if beats size first.0 then Some (size, row) else Some first

-- each cell of the first column is inside the one at the same row of the other
abbrev pub enclosed_in : (inner outer : List Record) → Bool
enclosed_in inner outer = list_all (λ pair. nested (read_as pair.0) (read_as pair.1)) (zip inner outer)
