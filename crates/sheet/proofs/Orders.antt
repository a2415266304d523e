-- Rows in working order: what is true of the rows of a list, and what holds of a row from the rows solved before it, for all rows.
use Rattle.std.proofs.Common.{◌≡◌, ℕ, zero, suc, ◌-◌, ◌<◌, ◌≤◌, ◌↔◌, true, ◌&&◌, map, All, sym, refl, ◌∙◌, subst, ⊎_elim, zero-add, arith}
use Rattle.std.specs.List.{range_with_len}
use Rattle.std.proofs.lemmas.Bool.{and_parts, leb-true, cases_lt}
use Rattle.std.proofs.lemmas.List.Elements.{All-get_or, All-from_get_or}
use Rattle.std.proofs.lemmas.List.FromFn.{length-range_with_len, get_or-range_with_len, length-map-range_with_len, get_or-map-range_with_len}
use lib.Dec.{leb}
use Rattle.layouts.specs.declared.side.Side.{Side}
use Rattle.layouts.specs.declared.side.Side.TheVariants.{Lower, Upper}
use Rattle.layouts.specs.Laws.{Laws, SolvedBefore}
use Rattle.layouts.specs.Orders.{row_at, rows_in_order}
use Rattle.sheet.specs.CallLaws.{Passed}
use Rattle.sheet.specs.declared.shape.Shape.{Shape}
use Rattle.sheet.specs.Calls.{Call, dot, sum, blend, product, solve, join, copy, permute}
use Rattle.sheet.specs.Checks.{checks}

-- ---- lists of rows
pub all_rising : (P : ℕ → Type 0) (n : ℕ) → All P (range_with_len 0 n) → (i : ℕ) → i < n → P i
all_rising P n f i h = subst P (get_or-range_with_len 0 n i 0 h ∙ zero-add i) (All-get_or P (range_with_len 0 n) i 0 (omega (arith, length-range_with_len 0 n)) f)

pub rising_all : (P : ℕ → Type 0) (n : ℕ) → ((i : ℕ) → i < n → P i) → All P (range_with_len 0 n)
rising_all P n f = All-from_get_or P (range_with_len 0 n) 0
    (λ i h. let k : i < n = omega (arith, length-range_with_len 0 n) in subst P (sym (get_or-range_with_len 0 n i 0 k ∙ zero-add i)) (f i k))

-- the step at which a row is worked
pub record StepOf (side : Side) (n i : ℕ) : Type 0 where
  pub step : ℕ
  pub below : step < n
  pub is : row_at side n step ≡ i

pub step_of : (side : Side) (n i : ℕ) → i < n → StepOf side n i
step_of Lower n i h = record { step = i; below = h; is = refl }
step_of Upper n i h = record { step = n - 1 - i; below = omega arith; is = omega arith }

pub all_in_order : (P : ℕ → Type 0) (side : Side) (n : ℕ) → All P (rows_in_order side n) → (i : ℕ) → i < n → P i
unfolding rows_in_order
all_in_order P side n f i h =
    let at = step_of side n i h in let rows = map (row_at side n) (range_with_len 0 n) in
    subst P at.is
    (subst P (get_or-map-range_with_len (row_at side n) 0 n at.step at.step 0 at.below (omega arith))
    (All-get_or P rows at.step 0 (omega (arith, at.below, length-map-range_with_len (row_at side n) 0 n)) f))

pub in_order_all : (laws : Laws) (P : ℕ → Type 0) (side : Side) (n : ℕ) → ((i : ℕ) → i < n → P i) → All P (rows_in_order side n)
unfolding rows_in_order
in_order_all laws P side n f = All-from_get_or P (map (row_at side n) (range_with_len 0 n)) 0
    (λ q h. let k : q < n = omega (arith, length-map-range_with_len (row_at side n) 0 n) in
    subst P (sym (get_or-map-range_with_len (row_at side n) 0 n q q 0 k (omega arith))) (f (row_at side n q) (laws.row_below side n q k)))

-- ---- the working order of a solve
-- the rows solved before the row of a step are exactly those of the steps before it
pub rows_before : (laws : Laws) (side : Side) (n s j : ℕ) → s < n → SolvedBefore side n (row_at side n s) j ↔ ((q : ℕ) × (q < s) × (row_at side n q ≡ j))
rows_before laws side n s j h = (laws.solved_earlier side n s j h, λ w. subst (SolvedBefore side n (row_at side n s)) w.2 (laws.earlier_solved side n s w.0 h w.1))

-- row j is an operand of row i: of all calls only a solve reads the new column
abbrev pub Earlier : Call → (i j : ℕ) → Type 0
Earlier (dot k r x y alpha beta) i j = ⊥
Earlier (sum k r x) i j = ⊥
Earlier (blend k x alpha beta) i j = ⊥
Earlier (product k x l alpha beta) i j = ⊥
Earlier (solve k side t alpha) i j = (i < t.matrix.rows) × SolvedBefore side t.matrix.rows i j
Earlier (join k x rule) i j = ⊥
Earlier (copy k x) i j = ⊥
Earlier (permute k order) i j = ⊥

-- a layout that has room has at most as many rows as the shape
pub few_rows : (s : Shape) (rows columns : ℕ) → (leb rows s.rows && leb columns s.rows) ≡ true → rows ≤ s.rows
few_rows s rows columns e = leb-true rows s.rows (and_parts (leb rows s.rows) (leb columns s.rows) e).0

pub few_columns : (s : Shape) (rows columns : ℕ) → (leb rows s.rows && leb columns s.rows) ≡ true → columns ≤ s.rows
few_columns s rows columns e = leb-true columns s.rows (and_parts (leb rows s.rows) (leb columns s.rows) e).1

module _ (laws : Laws) (P : ℕ → Type 0) where
  -- what holds of a row from the rows solved before it holds of the rows of all steps
  pub stepwise : (side : Side) (n : ℕ) → ((i : ℕ) → i < n → ((j : ℕ) → SolvedBefore side n i j → P j) → P i) → (most q : ℕ) → q < most → q < n → P (row_at side n q)
  stepwise side n next zero q r h = absurd (omega arith)
  stepwise side n next (suc most) q r h = next (row_at side n q) (laws.row_below side n q h)
      (λ j b. let e = laws.solved_earlier side n q j h b in subst P e.2 (stepwise side n next most e.0 (omega (arith, e.1)) (omega (arith, e.1))))

  -- what holds of a row from its operands among the new rows holds of all rows
  pub by_order : (s : Shape) (call : Call) → Passed (checks s call) → ((i : ℕ) → i < s.rows → ((j : ℕ) → Earlier call i j → P j) → P i) → (i : ℕ) → i < s.rows → P i
  by_order s (dot k r x y alpha beta) p next i h = next i h (λ j e. absurd e)
  by_order s (sum k r x) p next i h = next i h (λ j e. absurd e)
  by_order s (blend k x alpha beta) p next i h = next i h (λ j e. absurd e)
  by_order s (product k x l alpha beta) p next i h = next i h (λ j e. absurd e)
  by_order s (solve k side t alpha) p next i h = ⊎_elim
      (λ b. let at = step_of side t.matrix.rows i b in
      subst P at.is (stepwise side t.matrix.rows (λ i b before. next i (omega (arith, b, few)) (λ j e. before j e.1)) (suc at.step) at.step (omega arith) at.below))
      (λ a. next i h (λ j e. absurd (omega (arith, a, e.0)))) (cases_lt i t.matrix.rows)
    where
      few : t.matrix.rows ≤ s.rows
      few = few_rows s t.matrix.rows t.matrix.columns p.1.0
  by_order s (join k x rule) p next i h = next i h (λ j e. absurd e)
  by_order s (copy k x) p next i h = next i h (λ j e. absurd e)
  by_order s (permute k order) p next i h = next i h (λ j e. absurd e)
