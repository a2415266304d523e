-- The laws of the row formulas, from those of cells, which are assumed here and which `cells::laws::laws_stand` promises.
use Rattle.std.proofs.Common.{◌≡◌, ℕ, ◌<◌, true, false, ℤ, pos, ◌*ℤ◌, ◌<ℤ◌, sym, refl, subst, ap, ◌∙◌, inl, inr, arith}
use lib.Signed.{le_z}
use borrow.Author.Differences.{ints}
use Rattle.std.proofs.lemmas.Bool.{and_left, and_right, false≢true, true_from_ne_false}
use Rattle.arithmetic.specs.Sets.{Included, ProductSet}
use Rattle.arithmetic.specs.Values.{Value, empty, bounds, Ordered, Inside, Within, Apart, Tightly, times}
use Rattle.arithmetic.proofs.Sets.{products_grow, sums_grow, negatives_grow, quotients_grow, totals_grow}
use Rattle.arithmetic.proofs.Totals.{times_empty, plus_empty, total_empty}
use Rattle.arithmetic.proofs.Values.{exactly_inside, exactly_times, exactly_plus, exactly_opposite, exactly_total, quotients_tightly, within_nested, nested_apart}
use Rattle.cells.specs.Cells.{IsCell}
use Rattle.cells.specs.Formulas.{remainder_sum}
use Rattle.cells.specs.Laws.{Laws as CellLaws}
use Rattle.cells.specs.Quotients.{zero_in, divided}
use Rattle.layouts.specs.declared.side.Side.{Side}
use Rattle.layouts.specs.Filled.{is_filled}
use Rattle.layouts.specs.Laws.{Laws, SolvedBefore}
use Rattle.layouts.specs.Matrix.{Matrix, Sound}
use Rattle.layouts.specs.Rows.{product_cell, ProductValues, solved_from, solved_count, solved_sum, solve_cell, SolveValues}
use Rattle.layouts.proofs.Orders.{rows_more, rows_done, row_below, solved_earlier, earlier_solved}
use Rattle.layouts.proofs.Skips.{unfilled}

ordered : (c : Value) → IsCell c → Ordered c
ordered empty g = tt
ordered (bounds a b) g = g.1

entry_ordered : (m : Matrix) → Sound m → (i j : ℕ) → Ordered (m.entry i j)
entry_ordered m s i j = ordered (m.entry i j) (s.cell i j)

-- ---- product: a dot of the row
product_tight : (cell : CellLaws) (u : ℤ) (m : Matrix) (alpha beta r : Value) (x : ℕ → Value) (i : ℕ) → pos 0 <ℤ u → Sound m → Ordered alpha → Ordered beta → Ordered r
    → ((j : ℕ) → j < m.columns → Ordered (x j))
    → Tightly u (ProductValues (Inside u alpha) (Inside u beta) (Inside u r) (λ i j. Inside u (m.entry i j)) (λ j. Inside u (x j)) i m.columns) (product_cell u m alpha beta r x i)
product_tight cell u m alpha beta r x i z s oa ob or ox = cell.dot_tight u alpha beta r (m.entry i) x m.columns z oa ob or (λ j h. entry_ordered m s i j) ox

product_grows : (cell : CellLaws) (u : ℤ) (m m' : Matrix) (alpha beta r alpha' beta' r' : Value) (x x' : ℕ → Value) (i n : ℕ) → Within u alpha alpha' → Within u beta beta' → Within u r r'
    → ((j : ℕ) → j < n → Within u (m.entry i j) (m'.entry i j)) → ((j : ℕ) → j < n → Within u (x j) (x' j))
    → Included (ProductValues (Inside u alpha) (Inside u beta) (Inside u r) (λ i j. Inside u (m.entry i j)) (λ j. Inside u (x j)) i n)
    (ProductValues (Inside u alpha') (Inside u beta') (Inside u r') (λ i j. Inside u (m'.entry i j)) (λ j. Inside u (x' j)) i n)
product_grows cell u m m' alpha beta r alpha' beta' r' x x' i n ia ib ir im ix = cell.dot_grows u alpha beta r alpha' beta' r' (m.entry i) x (m'.entry i) x' n ia ib ir im ix

-- ---- solve: alpha·x − Σ is exact, so the quotients by a diagonal entry that does not hold 0 are tight
solve_tight : (cell : CellLaws) (u : ℤ) (side : Side) (m : Matrix) (alpha x : Value) (z : ℕ → Value) (i : ℕ) → pos 0 <ℤ u → Sound m → Ordered alpha → Ordered x
    → ((j : ℕ) → SolvedBefore side m.rows i j → Ordered (z j)) → zero_in (m.entry i i) ≡ false
    → Tightly u (SolveValues side (Inside u alpha) (Inside u x) (λ i j. Inside u (m.entry i j)) (λ j. Inside u (z j)) i m.rows) (solve_cell side m alpha x z i)
solve_tight cell u side m alpha x z i p s oa ox oz e =
    let d = m.entry i i in let S = SolveValues side (Inside u alpha) (Inside u x) (λ i j. Inside u (m.entry i j)) (λ j. Inside u (z j)) i m.rows in
    let P : Value → Type 0 = Tightly u S in
    let sum = exactly_total (u *ℤ u) (λ j. ProductSet (Inside u (m.entry i j)) (Inside u (z j))) (λ j. times (m.entry i j) (z j)) (solved_from side i) (solved_count side m.rows i)
    (λ j b c. exactly_times (exactly_inside u (m.entry i j) p (entry_ordered m s i j)) (exactly_inside u (z j) p (oz j (record { least = b; most = c })))) in
    subst P (sym (cell.divided_apart (remainder_sum alpha x (solved_sum side m z i)) d e))
    (quotients_tightly u u p (cell.not_zero_apart d (entry_ordered m s i i) e)
    (exactly_plus (exactly_times (exactly_inside u alpha p oa) (exactly_inside u x p ox)) (exactly_opposite sum)) (exactly_inside u d p (entry_ordered m s i i)))

solve_grows : (u : ℤ) (side : Side) (m m' : Matrix) (alpha x alpha' x' : Value) (z z' : ℕ → Value) (i n : ℕ) → Within u alpha alpha' → Within u x x'
    → ((j : ℕ) → SolvedBefore side n i j → Within u (m.entry i j) (m'.entry i j)) → ((j : ℕ) → SolvedBefore side n i j → Within u (z j) (z' j)) → Within u (m.entry i i) (m'.entry i i)
    → Included (SolveValues side (Inside u alpha) (Inside u x) (λ i j. Inside u (m.entry i j)) (λ j. Inside u (z j)) i n)
    (SolveValues side (Inside u alpha') (Inside u x') (λ i j. Inside u (m'.entry i j)) (λ j. Inside u (z' j)) i n)
solve_grows u side m m' alpha x alpha' x' z z' i n ia ix im iz id =
    quotients_grow
    (sums_grow (products_grow ia ix)
    (negatives_grow (totals_grow (λ j. ProductSet (Inside u (m.entry i j)) (Inside u (z j))) (λ j. ProductSet (Inside u (m'.entry i j)) (Inside u (z' j))) (solved_from side i) (solved_count side n i)
    (λ j b c. products_grow (im j (record { least = b; most = c })) (iz j (record { least = b; most = c })))))) id

-- an empty operand empties the sum, what is left of alpha·x, and so the quotient
solve_emptied : (side : Side) (m : Matrix) (alpha x : Value) (z : ℕ → Value) (i j : ℕ) → SolvedBefore side m.rows i j → z j ≡ empty → solve_cell side m alpha x z i ≡ empty
solve_emptied side m alpha x z i j b e =
    let d = m.entry i i in
    let sum : solved_sum side m z i ≡ empty =
    total_empty (λ j. times (m.entry i j) (z j)) (solved_from side i) (solved_count side m.rows i) j b.least b.most (ap (times (m.entry i j)) e ∙ times_empty (m.entry i j)) in
    ap (λ (t : Value). divided (remainder_sum alpha x t) d) sum ∙ ap (λ (v : Value). divided v d) (plus_empty (times alpha x))

solve_filled : (side : Side) (m : Matrix) (alpha x : Value) (z : ℕ → Value) (i : ℕ) → is_filled (solve_cell side m alpha x z i) ≡ true
    → (j : ℕ) → SolvedBefore side m.rows i j → is_filled (z j) ≡ true
solve_filled side m alpha x z i t j b =
    true_from_ne_false (is_filled (z j)) (λ f. false≢true (sym (ap is_filled (solve_emptied side m alpha x z i j b (unfilled (z j) f))) ∙ t))

-- ---- the test of the diagonal
apart_told : (c : Value) → Apart c → zero_in c ≡ false
apart_told empty h = refl
apart_told (bounds c d) (inl h) = let e : false ≡ le_z c (pos 0) = omega (arith, ints) in and_left (le_z c (pos 0)) (le_z (pos 0) d) (sym e)
apart_told (bounds c d) (inr h) = let e : false ≡ le_z (pos 0) d = omega (arith, ints) in and_right (le_z c (pos 0)) (le_z (pos 0) d) (sym e)

zero_outside : (cell : CellLaws) (u : ℤ) (c d : Value) → pos 0 <ℤ u → Ordered c → Ordered d → Within u c d → zero_in d ≡ false → zero_in c ≡ false
zero_outside cell u c d p oc od w e = apart_told c (nested_apart c d oc (within_nested u c d p oc w) (cell.not_zero_apart d od e))

pub laws : CellLaws → Laws
laws cell = record {
  product_tight = product_tight cell;
  product_grows = product_grows cell;
  solve_tight = solve_tight cell;
  solve_grows = solve_grows;
  solve_filled = solve_filled;
  zero_outside = zero_outside cell;
  rows_more = rows_more;
  rows_done = rows_done;
  row_below = row_below;
  solved_earlier = solved_earlier;
  earlier_solved = earlier_solved;
}
