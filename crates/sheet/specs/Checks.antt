-- What each call looks at before it is granted: the table of checks, in rising number, and the refusal that each one gives.
use Rattle.std.specs.Prelude.{ℕ, Bool, true, cond, not, ◌&&◌, List, [], ◌∷◌, map, nat_lt, nat_le}
use Rattle.std.specs.List.{range_with_len}
use Rattle.arithmetic.specs.Values.{Value, empty, bounds}
use Rattle.rounding.specs.declared.fault.Bound.{Bound}
use Rattle.rounding.specs.declared.fault.Bound.TheVariants.{Lower, Upper}
use Rattle.rounding.specs.Outward.{beyond}
use Rattle.cells.specs.Quotients.{zero_in}
use Rattle.layouts.specs.Matrix.{Matrix}
use Rattle.layouts.specs.Orders.{rows_in_order}
use Rattle.sheet.specs.declared.refusal.CallName.{CallName}
use Rattle.sheet.specs.declared.refusal.CallName.TheVariants.{Dot, Sum, Blend, Product, Solve, Join, Copy, Permute}
use Rattle.sheet.specs.declared.refusal.Refusal.{Refusal}
use Rattle.sheet.specs.declared.refusal.Refusal.TheVariants.{NoSuchColumn, NoSuchRow, LayoutTooLarge, DivisorHoldsZero, NoPermutation, BeyondLimit}
use Rattle.sheet.specs.declared.shape.Shape.{Shape}
use Rattle.sheet.specs.Calls.{Call, dot, sum, blend, product, solve, join, copy, permute}
use Rattle.sheet.specs.Permutations.{is_permutation}

-- a test that has to pass, and the refusal where it does not
pub data Check : Type 0 where
  check : Bool → Refusal → Check

pub data Answer : Type 0 where
  granted : Answer
  refused : Refusal → Answer

-- the refusal of the first check that does not pass; where all pass, the answer that is given then
abbrev pub first_refusal : List Check → Answer → Answer
first_refusal [] then = then
first_refusal (check passes refusal ∷ rest) then = cond passes (first_refusal rest then) (refused refusal)

-- ---- what is looked at before any cell is worked out

abbrev pub column_named : Shape → CallName → (k : ℕ) → Check
column_named s call k = check (nat_lt k s.columns) (NoSuchColumn call k)

abbrev pub row_named : Shape → CallName → (k i : ℕ) → Check
row_named s call k i = check (nat_lt i s.rows) (NoSuchRow call k i)

-- the matrix has at most as many rows, and as many columns, as a column has cells
abbrev pub has_room : Shape → CallName → (k : ℕ) → Matrix → Check
has_room s call k m = check (nat_le m.rows s.rows && nat_le m.columns s.rows) (LayoutTooLarge call k)

-- the diagonal entry of a row does not hold 0; the empty cell holds nothing, so it does not either
abbrev pub divides : (k : ℕ) → Matrix → (row : ℕ) → Check
divides k m row = check (not (zero_in (m.entry row row))) (DivisorHoldsZero k row)

abbrev pub checks : Shape → Call → List Check
checks s (dot k i x y alpha beta) = column_named s Dot k ∷ (column_named s Dot x ∷ (column_named s Dot y ∷ (row_named s Dot k i ∷ [])))
checks s (sum k i x) = column_named s Sum k ∷ (column_named s Sum x ∷ (row_named s Sum k i ∷ []))
checks s (blend k x alpha beta) = column_named s Blend k ∷ (column_named s Blend x ∷ [])
checks s (product k x l alpha beta) = column_named s Product k ∷ (column_named s Product x ∷ (has_room s Product k l.matrix ∷ []))
checks s (solve k side t alpha) = column_named s Solve k ∷ (has_room s Solve k t.matrix ∷ map (divides k t.matrix) (rows_in_order side t.matrix.rows))
checks s (join k x rule) = column_named s Join k ∷ (column_named s Join x ∷ [])
checks s (copy k x) = column_named s Copy k ∷ (column_named s Copy x ∷ [])
checks s (permute k order) = column_named s Permute k ∷ (check (is_permutation s.rows order) (NoPermutation Permute k) ∷ [])

-- ---- what is looked at of the cells that are worked out

-- the rows that a call works out, in working order: rising, but for the solve of an upper triangle
abbrev pub worked_rows : Shape → Call → List ℕ
worked_rows s (dot k i x y alpha beta) = i ∷ []
worked_rows s (sum k i x) = i ∷ []
worked_rows s (blend k x alpha beta) = range_with_len 0 s.rows
worked_rows s (product k x l alpha beta) = range_with_len 0 l.matrix.rows
worked_rows s (solve k side t alpha) = rows_in_order side t.matrix.rows
worked_rows s (join k x rule) = []
worked_rows s (copy k x) = []
worked_rows s (permute k order) = []

-- a bound is not beyond the limit; an empty cell has no bound that could be
abbrev pub lower_fits : Value → Bool
lower_fits empty = true
lower_fits (bounds a b) = not (beyond a)

abbrev pub upper_fits : Value → Bool
upper_fits empty = true
upper_fits (bounds a b) = not (beyond b)

abbrev pub past_limit : CallName → (k row : ℕ) → Bound → Refusal
past_limit call k row bound = BeyondLimit (record { call = call; column = k; cell = record { row = row; rounding = record { bound = bound } } })

-- no bound of a new cell is beyond the limit: row after row, and of each row the lower first
abbrev pub limits : CallName → (k : ℕ) → (new : ℕ → Value) → (rows : List ℕ) → List Check
limits call k new [] = []
limits call k new (row ∷ rows) = check (lower_fits (new row)) (past_limit call k row Lower) ∷ (check (upper_fits (new row)) (past_limit call k row Upper) ∷ limits call k new rows)
