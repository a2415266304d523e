-- The rows of a column that is made from its own rows, each from the rows solved before it, and the equation of a solve's rows.
use Rattle.std.proofs.Common.{◌≡◌, ℕ, zero, suc, ◌<◌, sym, refl, ap, ◌∙◌, subst, arith}
use Rattle.arithmetic.specs.Values.{Value, empty, times}
use Rattle.arithmetic.proofs.Values.{total_ext}
use Rattle.cells.specs.Formulas.{remainder_sum}
use Rattle.cells.specs.Quotients.{divided}
use Rattle.layouts.specs.declared.side.Side.{Side}
use Rattle.layouts.specs.Laws.{Laws, SolvedBefore}
use Rattle.layouts.specs.Matrix.{Matrix}
use Rattle.layouts.specs.Orders.{row_at}
use Rattle.layouts.specs.Rows.{solved_from, solved_count, solve_cell}
use Rattle.sheet.specs.NewColumns.{unrolled, solution}
use Rattle.sheet.proofs.Orders.{step_of}

-- rows that depend on the rows solved before them only: more depth than is needed changes nothing, so each row satisfies its own
-- equation over the finished rows, of whichever type of values
module _ {V : Type 0} (laws : Laws) (bottom : V) (side : Side) (n : ℕ) (row : (ℕ → V) → ℕ → V)
    (ext : (i : ℕ) → i < n → (z z' : ℕ → V) → ((j : ℕ) → SolvedBefore side n i j → z j ≡ z' j) → row z i ≡ row z' i) where
  stable : (f g q : ℕ) → q < n → q < f → q < g → unrolled bottom row f (row_at side n q) ≡ unrolled bottom row g (row_at side n q)
  stable zero g q h a b = absurd (omega arith)
  stable (suc f) zero q h a b = absurd (omega arith)
  stable (suc f) (suc g) q h a b = ext (row_at side n q) (laws.row_below side n q h) (unrolled bottom row f) (unrolled bottom row g)
      (λ j e. let w = laws.solved_earlier side n q j h e in
      subst (λ i. unrolled bottom row f i ≡ unrolled bottom row g i) w.2 (stable f g w.0 (omega (arith, w.1)) (omega (arith, w.1)) (omega (arith, w.1))))

  below : (i j : ℕ) → i < n → SolvedBefore side n i j → j < n
  below i j h b =
      let at = step_of side n i h in let w = laws.solved_earlier side n at.step j at.below (subst (λ i. SolvedBefore side n i j) (sym at.is) b) in
      subst (λ j. j < n) w.2 (laws.row_below side n w.0 (omega (arith, w.1, at.below)))

  -- `new` is the column, in any form that agrees with it on the rows
  pub unrolled_row : (new : ℕ → V) → ((j : ℕ) → j < n → new j ≡ unrolled bottom row n j) → (i : ℕ) → i < n → unrolled bottom row n i ≡ row new i
  unrolled_row new e i h =
      let at = step_of side n i h in
      subst (λ i. unrolled bottom row n i ≡ unrolled bottom row (suc n) i) at.is (stable n (suc n) at.step at.below at.below (omega (arith, at.below)))
      ∙ ext i h (unrolled bottom row n) new (λ j b. sym (e j (below i j h b)))

  -- and no other column has rows that satisfy their equations
  only : (z : ℕ → V) → ((i : ℕ) → i < n → z i ≡ row z i) → (f q : ℕ) → q < n → q < f → z (row_at side n q) ≡ unrolled bottom row f (row_at side n q)
  only z solves zero q h a = absurd (omega arith)
  only z solves (suc f) q h a =
      solves (row_at side n q) (laws.row_below side n q h)
      ∙ ext (row_at side n q) (laws.row_below side n q h) z (unrolled bottom row f)
      (λ j e. let w = laws.solved_earlier side n q j h e in subst (λ i. z i ≡ unrolled bottom row f i) w.2 (only z solves f w.0 (omega (arith, w.1, h)) (omega (arith, w.1, a))))

  pub unrolled_only : (z : ℕ → V) → ((i : ℕ) → i < n → z i ≡ row z i) → (i : ℕ) → i < n → z i ≡ unrolled bottom row n i
  unrolled_only z solves i h = let at = step_of side n i h in subst (λ i. z i ≡ unrolled bottom row n i) at.is (only z solves n at.step at.below at.below)

-- the same rows solved before give the same cell
pub solve_ext : (side : Side) (m : Matrix) (alpha x : Value) (i : ℕ) (z z' : ℕ → Value) → ((j : ℕ) → SolvedBefore side m.rows i j → z j ≡ z' j)
    → solve_cell side m alpha x z i ≡ solve_cell side m alpha x z' i
solve_ext side m alpha x i z z' e =
    ap (λ t. divided (remainder_sum alpha x t) (m.entry i i))
    (total_ext (λ j. times (m.entry i j) (z j)) (λ j. times (m.entry i j) (z' j)) (solved_from side i) (solved_count side m.rows i)
    (λ j b c. ap (times (m.entry i j)) (e j (record { least = b; most = c }))))

pub solution_row_of : (laws : Laws) (side : Side) (m : Matrix) (alpha : Value) (x new : ℕ → Value) → ((j : ℕ) → j < m.rows → new j ≡ solution side m alpha x j)
    → (i : ℕ) → i < m.rows → solution side m alpha x i ≡ solve_cell side m alpha (x i) new i
solution_row_of laws side m alpha x =
    unrolled_row laws empty side m.rows (λ z i. solve_cell side m alpha (x i) z i) (λ i h z z' e. solve_ext side m alpha (x i) i z z' e)

-- each row of the solution is z_i = (alpha·x_i − Σ m_ij·z_j)/m_ii
pub solution_row : (laws : Laws) (side : Side) (m : Matrix) (alpha : Value) (x : ℕ → Value) (i : ℕ) → i < m.rows
    → solution side m alpha x i ≡ solve_cell side m alpha (x i) (solution side m alpha x) i
solution_row laws side m alpha x = solution_row_of laws side m alpha x (solution side m alpha x) (λ j h. refl)

pub solution_only : (laws : Laws) (side : Side) (m : Matrix) (alpha : Value) (x z : ℕ → Value) → ((i : ℕ) → i < m.rows → z i ≡ solve_cell side m alpha (x i) z i)
    → (i : ℕ) → i < m.rows → z i ≡ solution side m alpha x i
solution_only laws side m alpha x =
    unrolled_only laws empty side m.rows (λ z i. solve_cell side m alpha (x i) z i) (λ i h z z' e. solve_ext side m alpha (x i) i z z' e)
