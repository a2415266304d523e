-- What the parts above may rely on: for each row formula that its cell is tight for the values that its operands reach, and
-- that these values grow with the operands; and what the order of working is.
use Rattle.std.specs.Prelude.{◌≡◌, ℕ, ◌+◌, ◌<◌, ◌≤◌, true, false, [], ◌∷◌, drop, ℤ, pos, ◌<ℤ◌}
use Rattle.arithmetic.specs.Sets.{Included}
use Rattle.arithmetic.specs.Values.{Value, Ordered, Inside, Within, Tightly}
use Rattle.cells.specs.Quotients.{zero_in}
use Rattle.layouts.specs.declared.side.Side.{Side}
use Rattle.layouts.specs.Filled.{is_filled}
use Rattle.layouts.specs.Matrix.{Matrix, Sound}
use Rattle.layouts.specs.Orders.{row_at, rows_in_order}
use Rattle.layouts.specs.Rows.{product_cell, ProductValues, solved_from, solved_count, solve_cell, SolveValues}

-- j is a row that is solved before row i of n
pub record SolvedBefore (side : Side) (n i j : ℕ) : Type 0 where
  pub least : solved_from side i ≤ j
  pub most : j < solved_from side i + solved_count side n i

pub record Laws : Type 0 where
  -- product: at every positive scale, for every matrix that a layout can mean
  pub product_tight : (u : ℤ) (m : Matrix) (alpha beta r : Value) (x : ℕ → Value) (i : ℕ) → pos 0 <ℤ u → Sound m → Ordered alpha → Ordered beta → Ordered r
      → ((j : ℕ) → j < m.columns → Ordered (x j))
      → Tightly u (ProductValues (Inside u alpha) (Inside u beta) (Inside u r) (λ i j. Inside u (m.entry i j)) (λ j. Inside u (x j)) i m.columns) (product_cell u m alpha beta r x i)
  pub product_grows : (u : ℤ) (m m' : Matrix) (alpha beta r alpha' beta' r' : Value) (x x' : ℕ → Value) (i n : ℕ) → Within u alpha alpha' → Within u beta beta' → Within u r r'
      → ((j : ℕ) → j < n → Within u (m.entry i j) (m'.entry i j)) → ((j : ℕ) → j < n → Within u (x j) (x' j))
      → Included (ProductValues (Inside u alpha) (Inside u beta) (Inside u r) (λ i j. Inside u (m.entry i j)) (λ j. Inside u (x j)) i n)
      (ProductValues (Inside u alpha') (Inside u beta') (Inside u r') (λ i j. Inside u (m'.entry i j)) (λ j. Inside u (x' j)) i n)
  -- solve: where the diagonal entry does not hold 0
  pub solve_tight : (u : ℤ) (side : Side) (m : Matrix) (alpha x : Value) (z : ℕ → Value) (i : ℕ) → pos 0 <ℤ u → Sound m → Ordered alpha → Ordered x
      → ((j : ℕ) → SolvedBefore side m.rows i j → Ordered (z j)) → zero_in (m.entry i i) ≡ false
      → Tightly u (SolveValues side (Inside u alpha) (Inside u x) (λ i j. Inside u (m.entry i j)) (λ j. Inside u (z j)) i m.rows) (solve_cell side m alpha x z i)
  pub solve_grows : (u : ℤ) (side : Side) (m m' : Matrix) (alpha x alpha' x' : Value) (z z' : ℕ → Value) (i n : ℕ) → Within u alpha alpha' → Within u x x'
      → ((j : ℕ) → SolvedBefore side n i j → Within u (m.entry i j) (m'.entry i j)) → ((j : ℕ) → SolvedBefore side n i j → Within u (z j) (z' j)) → Within u (m.entry i i) (m'.entry i i)
      → Included (SolveValues side (Inside u alpha) (Inside u x) (λ i j. Inside u (m.entry i j)) (λ j. Inside u (z j)) i n)
      (SolveValues side (Inside u alpha') (Inside u x') (λ i j. Inside u (m'.entry i j)) (λ j. Inside u (z' j)) i n)
  -- a row that comes out filled has filled operands
  pub solve_filled : (side : Side) (m : Matrix) (alpha x : Value) (z : ℕ → Value) (i : ℕ) → is_filled (solve_cell side m alpha x z i) ≡ true
      → (j : ℕ) → SolvedBefore side m.rows i j → is_filled (z j) ≡ true
  -- a cell inside one that does not hold 0 does not hold it either
  pub zero_outside : (u : ℤ) (c d : Value) → pos 0 <ℤ u → Ordered c → Ordered d → Within u c d → zero_in d ≡ false → zero_in c ≡ false
  -- the rows in working order, step by step; each of the n rows is below n
  pub rows_more : (side : Side) (n s : ℕ) → s < n → drop s (rows_in_order side n) ≡ row_at side n s ∷ drop (s + 1) (rows_in_order side n)
  pub rows_done : (side : Side) (n s : ℕ) → n ≤ s → drop s (rows_in_order side n) ≡ []
  pub row_below : (side : Side) (n s : ℕ) → s < n → row_at side n s < n
  -- the rows solved before the row of a step are those of the steps before it
  pub solved_earlier : (side : Side) (n s j : ℕ) → s < n → SolvedBefore side n (row_at side n s) j → (q : ℕ) × (q < s) × (row_at side n q ≡ j)
  pub earlier_solved : (side : Side) (n s q : ℕ) → s < n → q < s → SolvedBefore side n (row_at side n s) (row_at side n q)
