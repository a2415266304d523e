-- What the definitions of the calls come to: the order in which a solve works, the equations that its column solves, and which row a
-- refusal for a bound beyond the limit names.
use Rattle.std.specs.Prelude.{◌≡◌, ℕ, ◌<◌, true, false, ◌↔◌, List, [], ◌∷◌, length, get_or, Some}
use Rattle.arithmetic.specs.Values.{Value}
use Rattle.rounding.specs.declared.fault.Bound.{Bound}
use Rattle.rounding.specs.declared.fault.Bound.TheVariants.{Lower, Upper}
use Rattle.cells.specs.declared.cell.Record.{Record}
use Rattle.layouts.specs.declared.side.Side.{Side}
use Rattle.layouts.specs.Laws.{SolvedBefore}
use Rattle.layouts.specs.Matrix.{Matrix}
use Rattle.layouts.specs.Orders.{row_at, rows_in_order, first_zero}
use Rattle.layouts.specs.Rows.{solve_cell}
use Rattle.sheet.specs.declared.refusal.Refusal.TheVariants.{DivisorHoldsZero}
use Rattle.sheet.specs.declared.shape.Shape.{Shape}
use Rattle.sheet.specs.Answers.{call_answer}
use Rattle.sheet.specs.Calls.{Meaning, Call, dot, sum, blend, product, solve, join, copy, permute, name, target}
use Rattle.sheet.specs.Checks.{Check, check, refused, checks, worked_rows, lower_fits, upper_fits, past_limit}
use Rattle.sheet.specs.Memory.{has_both, cells_in}
use Rattle.sheet.specs.NewColumns.{solution, new_column}

-- every check of a list passes
abbrev pub Passed : List Check → Type 0
Passed [] = Unit {0}
Passed (check passes refusal ∷ rest) = (passes ≡ true) × Passed rest

-- neither bound of the cell is beyond the limit
abbrev pub BothFit : Value → Type 0
BothFit c = (lower_fits c ≡ true) × (upper_fits c ≡ true)

-- this bound of the cell is beyond the limit; where both are, it is the lower
abbrev pub PastAt : Value → Bound → Type 0
PastAt c Lower = lower_fits c ≡ false
PastAt c Upper = (lower_fits c ≡ true) × (upper_fits c ≡ false)

-- of the new cells at the rows, in their order, this bound at this row is the first that is beyond the limit
pub record FirstPast (new : ℕ → Value) (rows : List ℕ) (row : ℕ) (bound : Bound) : Type 0 where
  pub step : ℕ
  pub in_rows : step < length rows
  pub is : get_or rows step 0 ≡ row
  pub fit : (q : ℕ) → q < step → BothFit (new (get_or rows q 0))
  pub past : PastAt (new row) bound

-- the memory is as it should be, every check passes, and this bound is the first beyond the limit in working order
pub record StopsAt (s : Shape) (call : Call) (cells draft : List Record) (row : ℕ) (bound : Bound) : Type 0 where
  pub memory : has_both s cells draft ≡ true
  pub checked : Passed (checks s call)
  pub first : FirstPast (new_column s call (cells_in s cells)) (worked_rows s call) row bound

-- each row of the column z is z_i = (alpha·x_i − Σ m_ij·z_j)/m_ii over the rows j solved before
abbrev pub Solves : Side → Matrix → (alpha : Value) (x z : ℕ → Value) → Type 0
Solves side m alpha x z = (i : ℕ) → i < m.rows → z i ≡ solve_cell side m alpha (x i) z i

-- row j is worked before row i: in rising order, and in a solve as its rows depend on one another. One row alone has none before it
abbrev pub WorkedBefore : Call → (i j : ℕ) → Type 0
WorkedBefore (dot k r x y alpha beta) i j = ⊥
WorkedBefore (sum k r x) i j = ⊥
WorkedBefore (blend k x alpha beta) i j = j < i
WorkedBefore (product k x l alpha beta) i j = j < i
WorkedBefore (solve k side t alpha) i j = SolvedBefore side t.matrix.rows i j
WorkedBefore (join k x rule) i j = ⊥
WorkedBefore (copy k x) i j = ⊥
WorkedBefore (permute k order) i j = ⊥

pub record CallLaws : Type 0 where
  -- the rows solved before the row of a step are those of the steps before it
  pub rows_before : (side : Side) (n step j : ℕ) → step < n → SolvedBefore side n (row_at side n step) j ↔ ((q : ℕ) × (q < step) × (row_at side n q ≡ j))
  -- the solution solves its equations, and on the rows of the matrix nothing else does
  pub solution_solves : (side : Side) (m : Matrix) (alpha : Value) (x : ℕ → Value) → Solves side m alpha x (solution side m alpha x)
  pub solution_only : (side : Side) (m : Matrix) (alpha : Value) (x z : ℕ → Value) → Solves side m alpha x z → (i : ℕ) → i < m.rows → z i ≡ solution side m alpha x i
  -- refusal 8 names the first row, in working order, whose diagonal entry holds 0
  pub zero_first : (s : Shape) (k : ℕ) (side : Side) (t : Meaning) (alpha : Record) (cells draft : List Record) (row : ℕ) → call_answer s (solve k side t alpha) cells draft ≡ refused (DivisorHoldsZero k row)
      → first_zero t.matrix (rows_in_order side t.matrix.rows) ≡ Some row
  -- refusal 10 names the first bound, in working order, that is beyond the limit, and is given nowhere else. When a call is granted, and
  -- what the other refusals tell, is said in RefusalLaws
  pub stops_at : (s : Shape) (call : Call) (cells draft : List Record) (row : ℕ) (bound : Bound) → (call_answer s call cells draft ≡ refused (past_limit (name call) (target call) row bound)) ↔ StopsAt s call cells draft row bound
  -- so no row that is worked before it has a bound beyond the limit
  pub stops_first : (s : Shape) (call : Call) (cells draft : List Record) (row : ℕ) (bound : Bound) → call_answer s call cells draft ≡ refused (past_limit (name call) (target call) row bound)
      → (j : ℕ) → WorkedBefore call row j → BothFit (new_column s call (cells_in s cells) j)
