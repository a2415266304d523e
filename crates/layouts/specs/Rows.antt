-- The row formulas of a product and of a solve over a matrix: the cell that each works out, rounded out once, and the set of
-- fractions that its operands reach.
use Rattle.std.specs.Prelude.{◌≡◌, ℕ, ◌+◌, ◌-◌, ◌<◌, true, List, map, ℤ, Result}
use Rattle.std.specs.List.{range_with_len}
use Rattle.arithmetic.specs.Sets.{Set, ProductSet, SumSet, NegativeSet, QuotientSet, TotalSet}
use Rattle.arithmetic.specs.Values.{Value}
use Rattle.cells.specs.declared.cell.Record.{Record}
use Rattle.cells.specs.declared.fault.CellFault.{CellFault}
use Rattle.cells.specs.Cells.{cell_at}
use Rattle.cells.specs.Faults.{kept, in_row}
use Rattle.cells.specs.Formulas.{sum_of_products, remainder_sum, dot_cell, DotValues}
use Rattle.cells.specs.Quotients.{divided}
use Rattle.layouts.specs.declared.side.Side.{Side}
use Rattle.layouts.specs.declared.side.Side.TheVariants.{Lower, Upper}
use Rattle.layouts.specs.Filled.{is_filled, Filled}
use Rattle.layouts.specs.Matrix.{Matrix}

-- ---- product: beta·r + alpha·Σ m_ij·x_j over all columns of m

-- Σ m_ij·x_j, unrounded
abbrev pub row_sum : Matrix → (x : ℕ → Value) (i : ℕ) → Value
row_sum m x i = sum_of_products (m.entry i) x 0 m.columns

-- those of the first n rows
abbrev pub row_sums : Matrix → (x : ℕ → Value) (n : ℕ) → List Value
row_sums m x n = map (row_sum m x) (range_with_len 0 n)

-- a dot of row i with x
abbrev pub product_cell : (u : ℤ) → Matrix → (alpha beta r : Value) (x : ℕ → Value) (i : ℕ) → Value
product_cell u m alpha beta r x i = dot_cell u alpha beta r (m.entry i) x m.columns

abbrev pub ProductValues : (A B R : Set) (T : ℕ → ℕ → Set) (X : ℕ → Set) (i columns : ℕ) → Set
ProductValues A B R T X i columns = DotValues A B R (T i) X columns

-- what it leaves at a row of a column; r is the cell that stands there
abbrev pub product_at : (u : ℤ) → Matrix → (alpha beta : Value) (column : List Record) (row : ℕ) (xs : List Record) → Result Record CellFault
product_at u m alpha beta column row xs = in_row row (kept (product_cell u m alpha beta (cell_at column row) (cell_at xs) row))

-- ---- solve: z_i = (alpha·x_i − Σ m_ij·z_j)/m_ii over the rows j that are solved before row i

-- where these rows begin, and how many there are: the rows above row i in a lower triangle, those below it in an upper one
abbrev pub solved_from : Side → (i : ℕ) → ℕ
solved_from Lower i = 0
solved_from Upper i = i + 1

abbrev pub solved_count : Side → (n i : ℕ) → ℕ
solved_count Lower n i = i
solved_count Upper n i = n - (i + 1)

-- the last of them to be solved; none of them for the first row in working order
abbrev pub solved_last : Side → (i : ℕ) → ℕ
solved_last Lower i = i - 1
solved_last Upper i = i + 1

abbrev pub solved_sum : Side → Matrix → (z : ℕ → Value) (i : ℕ) → Value
solved_sum side m z i = sum_of_products (m.entry i) z (solved_from side i) (solved_count side m.rows i)

abbrev pub solve_cell : Side → Matrix → (alpha x : Value) (z : ℕ → Value) (i : ℕ) → Value
solve_cell side m alpha x z i = divided (remainder_sum alpha x (solved_sum side m z i)) (m.entry i i)

abbrev pub SolveValues : Side → (A X : Set) (T : ℕ → ℕ → Set) (Z : ℕ → Set) (i rows : ℕ) → Set
SolveValues side A X T Z i rows = QuotientSet (SumSet (ProductSet A X) (NegativeSet (TotalSet (λ j. ProductSet (T i j) (Z j)) (solved_from side i) (solved_count side rows i)))) (T i i)

-- what it leaves at a row of a column that holds z_j at the rows solved before, and x elsewhere
abbrev pub solve_at : Side → Matrix → (alpha : Value) (column : List Record) (row : ℕ) → Result Record CellFault
solve_at side m alpha column row = in_row row (kept (solve_cell side m alpha (cell_at column row) (cell_at column) row))

-- an empty z_j empties every later row: if the one solved last before row i of n is filled, all that are solved before it are
abbrev pub EmptyCarriesOn : Side → (n : ℕ) → (column : List Record) → (i : ℕ) → Type 0
EmptyCarriesOn side n column i = i < n → is_filled (cell_at column (solved_last side i)) ≡ true → Filled column (solved_from side i) (solved_from side i + solved_count side n i)
