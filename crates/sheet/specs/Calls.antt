-- The eight calls that a working sheet takes, with their operands.
use Rattle.std.specs.Prelude.{ℕ, List}
use Rattle.arithmetic.specs.Values.{Value, empty}
use Rattle.cells.specs.declared.cell.Record.{Record}
use Rattle.cells.specs.Cells.{read_as}
use Rattle.cells.specs.Rules.{Rule}
use Rattle.layouts.specs.declared.side.Side.{Side}
use Rattle.layouts.specs.Matrix.{Matrix, Sound}
use Rattle.sheet.specs.declared.refusal.CallName.{CallName}
use Rattle.sheet.specs.declared.refusal.CallName.TheVariants.{Dot, Sum, Blend, Product, Solve, Join, Copy, Permute}

-- a layout, by what it means
pub record Meaning : Type 0 where
  pub matrix : Matrix
  pub sound : Sound matrix

-- k is the target, the column that the call drafts anew, and r its cell before; alpha and beta are supplied as records
pub data Call : Type 0 where
  -- cell i becomes beta·r + alpha·Σ x_j·y_j over all rows
  dot : (k i x y : ℕ) (alpha beta : Record) → Call
  -- cell i becomes Σ x_j over all rows
  sum : (k i x : ℕ) → Call
  -- each cell becomes alpha·x_i + beta·r
  blend : (k x : ℕ) (alpha beta : Record) → Call
  -- for each row i of the layout, cell i becomes beta·r + alpha·Σ L_ij·x_j over all columns of the layout
  product : (k x : ℕ) (l : Meaning) (alpha beta : Record) → Call
  -- for each row i of the layout, cell i becomes z_i = (alpha·r − Σ T_ij·z_j)/T_ii over the rows j solved before
  solve : (k : ℕ) (side : Side) (t : Meaning) (alpha : Record) → Call
  -- each cell becomes r joined with x_i
  join : (k x : ℕ) (rule : Rule) → Call
  -- each cell becomes x_i
  copy : (k x : ℕ) → Call
  -- cell i becomes the old cell P_i
  permute : (k : ℕ) (order : List ℕ) → Call

abbrev pub name : Call → CallName
name (dot k i x y alpha beta) = Dot
name (sum k i x) = Sum
name (blend k x alpha beta) = Blend
name (product k x l alpha beta) = Product
name (solve k side t alpha) = Solve
name (join k x rule) = Join
name (copy k x) = Copy
name (permute k order) = Permute

abbrev pub target : Call → ℕ
target (dot k i x y alpha beta) = k
target (sum k i x) = k
target (blend k x alpha beta) = k
target (product k x l alpha beta) = k
target (solve k side t alpha) = k
target (join k x rule) = k
target (copy k x) = k
target (permute k order) = k

-- ---- the operands that stand in the call itself, and in no column; empty where a call has none

abbrev pub alpha_of : Call → Value
alpha_of (dot k i x y alpha beta) = read_as alpha
alpha_of (sum k i x) = empty
alpha_of (blend k x alpha beta) = read_as alpha
alpha_of (product k x l alpha beta) = read_as alpha
alpha_of (solve k side t alpha) = read_as alpha
alpha_of (join k x rule) = empty
alpha_of (copy k x) = empty
alpha_of (permute k order) = empty

abbrev pub beta_of : Call → Value
beta_of (dot k i x y alpha beta) = read_as beta
beta_of (sum k i x) = empty
beta_of (blend k x alpha beta) = read_as beta
beta_of (product k x l alpha beta) = read_as beta
beta_of (solve k side t alpha) = empty
beta_of (join k x rule) = empty
beta_of (copy k x) = empty
beta_of (permute k order) = empty

abbrev pub entry_of : Call → (i j : ℕ) → Value
entry_of (dot k i x y alpha beta) _ _ = empty
entry_of (sum k i x) _ _ = empty
entry_of (blend k x alpha beta) _ _ = empty
entry_of (product k x l alpha beta) i j = l.matrix.entry i j
entry_of (solve k side t alpha) i j = t.matrix.entry i j
entry_of (join k x rule) _ _ = empty
entry_of (copy k x) _ _ = empty
entry_of (permute k order) _ _ = empty
