-- The column that each call drafts: a new cell for each row, from the cells of the old columns.
use Rattle.std.specs.Prelude.{ℕ, zero, suc, cond, ◌==◌, nat_lt, get_or}
use Rattle.arithmetic.specs.Values.{Value, empty}
use Rattle.cells.specs.Cells.{read_as}
use Rattle.cells.specs.Formulas.{dot_cell, sum_cell, blend_cell}
use Rattle.layouts.specs.declared.side.Side.{Side}
use Rattle.layouts.specs.Matrix.{Matrix}
use Rattle.layouts.specs.Rows.{product_cell, solve_cell}
use Rattle.sheet.specs.declared.shape.Shape.{Shape}
use Rattle.sheet.specs.Calls.{Call, dot, sum, blend, product, solve, join, copy, permute}

-- each row made from other rows, which are made in the same way, to a depth
abbrev pub unrolled : {V : Type 0} → V → (row : (ℕ → V) → ℕ → V) → (depth i : ℕ) → V
unrolled bottom row zero i = bottom
unrolled bottom row (suc depth) i = row (unrolled bottom row depth) i

-- The solution z of a triangular system, x being the old column. It is the one column that solves its equations: each row of it is
-- z_i = (alpha·x_i − Σ m_ij·z_j)/m_ii over the rows j solved before, and on the rows of the matrix no other column has such rows
-- (`solution_solves` and `solution_only` of CallLaws). No row depends on more rows than the matrix has, so that depth is enough.
abbrev pub solution : Side → Matrix → (alpha : Value) (x : ℕ → Value) → (i : ℕ) → Value
solution side m alpha x = unrolled empty (λ z i. solve_cell side m alpha (x i) z i) m.rows

-- the new column of a call over the columns `cols`; a cell that no formula names stays
abbrev pub new_column : Shape → Call → (cols : ℕ → ℕ → Value) → (row : ℕ) → Value
new_column s (dot k i x y alpha beta) cols row = cond (row == i) (dot_cell s.scale (read_as alpha) (read_as beta) (cols k row) (cols x) (cols y) s.rows) (cols k row)
new_column s (sum k i x) cols row = cond (row == i) (sum_cell (cols x) s.rows) (cols k row)
new_column s (blend k x alpha beta) cols row = blend_cell s.scale (read_as alpha) (read_as beta) (cols x row) (cols k row)
new_column s (product k x l alpha beta) cols row = cond (nat_lt row l.matrix.rows) (product_cell s.scale l.matrix (read_as alpha) (read_as beta) (cols k row) (cols x) row) (cols k row)
new_column s (solve k side t alpha) cols row = cond (nat_lt row t.matrix.rows) (solution side t.matrix (read_as alpha) (cols k) row) (cols k row)
new_column s (join k x rule) cols row = rule.joined (cols k row) (cols x row)
new_column s (copy k x) cols row = cols x row
new_column s (permute k order) cols row = cols k (get_or order row 0)
