-- The column that a call aims at, the rows that it works out, and the rows that it leaves.
use Rattle.std.proofs.Common.{◌≡◌, ℕ, ◌<◌, Bool, true, false, cond, ltb, eqb, All, [], ◌∷◌, get_or, ◌⊎◌, sym, refl, subst, inl, inr, arith}
use Rattle.std.proofs.lemmas.Bool.{ltb-true, eqb-true}
use Rattle.std.proofs.lemmas.List.Elements.{All-head, All-nil, All-cons}
use Rattle.arithmetic.specs.Values.{Value}
use Rattle.cells.specs.Cells.{IsCell}
use Rattle.layouts.specs.Laws.{Laws as LayoutLaws}
use Rattle.sheet.specs.CallLaws.{Passed}
use Rattle.sheet.specs.declared.shape.Shape.{Shape}
use Rattle.sheet.specs.Calls.{Call, dot, sum, blend, product, solve, join, copy, permute, target}
use Rattle.sheet.specs.Checks.{checks, worked_rows}
use Rattle.sheet.specs.NewColumns.{new_column}
use Rattle.sheet.proofs.Orders.{all_rising, rising_all, all_in_order, in_order_all, few_rows}
use Rattle.sheet.proofs.Tightness.{AllCells}

-- the column that a call aims at
pub aims : (s : Shape) (call : Call) → Passed (checks s call) → target call < s.columns
aims s (dot k i x y alpha beta) p = ltb-true k s.columns p.0
aims s (sum k i x) p = ltb-true k s.columns p.0
aims s (blend k x alpha beta) p = ltb-true k s.columns p.0
aims s (product k x l alpha beta) p = ltb-true k s.columns p.0
aims s (solve k side t alpha) p = ltb-true k s.columns p.0
aims s (join k x rule) p = ltb-true k s.columns p.0
aims s (copy k x) p = ltb-true k s.columns p.0
aims s (permute k order) p = ltb-true k s.columns p.0

one : (P : ℕ → Type 0) (i : ℕ) → P i → All P (i ∷ [])
one P i h = All-cons P i [] h (All-nil P)

-- what holds of every row holds of those that are worked out
pub worked_all : (layout : LayoutLaws) (P : ℕ → Type 0) (s : Shape) (call : Call) → Passed (checks s call) → ((i : ℕ) → i < s.rows → P i) → All P (worked_rows s call)
worked_all layout P s (dot k i x y alpha beta) p f = one P i (f i (ltb-true i s.rows p.1.1.1.0))
worked_all layout P s (sum k i x) p f = one P i (f i (ltb-true i s.rows p.1.1.0))
worked_all layout P s (blend k x alpha beta) p f = rising_all P s.rows f
worked_all layout P s (product k x l alpha beta) p f = rising_all P l.matrix.rows (λ i h. f i (omega (arith, h, few_rows s l.matrix.rows l.matrix.columns p.1.1.0)))
worked_all layout P s (solve k side t alpha) p f = in_order_all layout P side t.matrix.rows (λ i h. f i (omega (arith, h, few_rows s t.matrix.rows t.matrix.columns p.1.0)))
worked_all layout P s (join k x rule) p f = All-nil P
worked_all layout P s (copy k x) p f = All-nil P
worked_all layout P s (permute k order) p f = All-nil P

by_test : (t : Bool) (c d : Value) {X : Type 0} → (t ≡ true → X) → IsCell d → X ⊎ IsCell (cond t c d)
by_test true c d f g = inl (f refl)
by_test false c d f g = inr g

-- what holds of the rows that are worked out holds of a row, or its new cell is a cell as its operands are
pub settled : (P : ℕ → Type 0) (s : Shape) (call : Call) (cols : ℕ → ℕ → Value) → AllCells cols → All P (worked_rows s call) → (i : ℕ) → i < s.rows → P i ⊎ IsCell (new_column s call cols i)
settled P s (dot k r x y alpha beta) cols g f i h = by_test (eqb i r) _ (cols k i) (λ e. subst P (sym (eqb-true i r e)) (All-head P r [] f)) (g k i)
settled P s (sum k r x) cols g f i h = by_test (eqb i r) _ (cols k i) (λ e. subst P (sym (eqb-true i r e)) (All-head P r [] f)) (g k i)
settled P s (blend k x alpha beta) cols g f i h = inl (all_rising P s.rows f i h)
settled P s (product k x l alpha beta) cols g f i h = by_test (ltb i l.matrix.rows) _ (cols k i) (λ e. all_rising P l.matrix.rows f i (ltb-true i l.matrix.rows e)) (g k i)
settled P s (solve k side t alpha) cols g f i h = by_test (ltb i t.matrix.rows) _ (cols k i) (λ e. all_in_order P side t.matrix.rows f i (ltb-true i t.matrix.rows e)) (g k i)
settled P s (join k x rule) cols g f i h = inr (rule.keeps (cols k i) (cols x i) (g k i) (g x i))
settled P s (copy k x) cols g f i h = inr (g x i)
settled P s (permute k order) cols g f i h = inr (g k (get_or order i 0))
