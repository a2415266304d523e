-- Every new cell is tight for the values that its operands reach.
use Rattle.std.proofs.Common.{◌≡◌, ℕ, ◌<◌, ◌≤◌, Bool, true, false, cond, ltb, eqb, map, get_or, ℤ, pos, ◌<ℤ◌, sym, refl, ap, ◌∙◌, subst, arith}
use Rattle.std.proofs.lemmas.Bool.{ltb-true, lt-ltb}
use Rattle.arithmetic.specs.Sets.{Set}
use Rattle.arithmetic.specs.Values.{Value, Ordered, Inside, Tightly}
use Rattle.arithmetic.proofs.Values.{tightly_ordered}
use Rattle.cells.specs.declared.cell.Record.{Record}
use Rattle.cells.specs.Cells.{IsCell, read_as}
use Rattle.cells.specs.Laws.{Laws as CellLaws}
use Rattle.cells.specs.Quotients.{zero_in}
use Rattle.cells.specs.Reading.{read_cell}
use Rattle.cells.specs.Scales.{IsScale}
use Rattle.layouts.specs.declared.side.Side.{Side}
use Rattle.layouts.specs.Laws.{Laws as LayoutLaws}
use Rattle.layouts.specs.Matrix.{Matrix}
use Rattle.layouts.specs.Orders.{rows_in_order}
use Rattle.layouts.specs.Rows.{SolveValues}
use Rattle.sheet.specs.CallLaws.{Passed}
use Rattle.sheet.specs.declared.shape.Shape.{Shape}
use Rattle.sheet.specs.Calls.{Call, dot, sum, blend, product, solve, join, copy, permute}
use Rattle.sheet.specs.Checks.{checks, divides}
use Rattle.sheet.specs.Formulas.{Where, Reached}
use Rattle.sheet.specs.NewColumns.{solution, new_column}
use Rattle.sheet.proofs.Checks.{cell_ordered, divides_all}
use Rattle.sheet.proofs.Orders.{Earlier, by_order, all_in_order, few_rows}
use Rattle.sheet.proofs.Solving.{solution_row_of}

-- every place of every column holds a cell
abbrev pub AllCells : (ℕ → ℕ → Value) → Type 0
AllCells cols = (k i : ℕ) → IsCell (cols k i)

pub tightly_where : {u : ℤ} (t : Bool) (S T : Set) (c d : Value) → (t ≡ true → Tightly u S c) → (t ≡ false → Tightly u T d) → Tightly u (Where t S T) (cond t c d)
tightly_where true S T c d f g = f refl
tightly_where false S T c d f g = g refl

-- no diagonal entry of a solve that has passed holds 0
pub diagonal : (k : ℕ) (side : Side) (m : Matrix) (i : ℕ) → Passed (map (divides k m) (rows_in_order side m.rows)) → i < m.rows → zero_in (m.entry i i) ≡ false
diagonal k side m i p h = all_in_order (λ i. zero_in (m.entry i i) ≡ false) side m.rows (divides_all k m (rows_in_order side m.rows) p) i h

module _ (cell : CellLaws) (layout : LayoutLaws) (s : Shape) (scale : IsScale s.scale) (u : pos 0 <ℤ s.scale) (cols : ℕ → ℕ → Value) (g : AllCells cols) where
  stays : (k i : ℕ) → Tightly s.scale (Inside s.scale (cols k i)) (cols k i)
  stays k i = cell.inside_tight s.scale (cols k i) u (cell_ordered (cols k i) (g k i))

  in_order : (k i : ℕ) → Ordered (cols k i)
  in_order k i = cell_ordered (cols k i) (g k i)

  operand : (r : Record) → Ordered (read_as r)
  operand r = cell_ordered (read_as r) (read_cell r)

  -- from the order of the bounds of the new cells that it reads
  cell_tight : (call : Call) → Passed (checks s call) → (new : ℕ → Value) → ((j : ℕ) → j < s.rows → new j ≡ new_column s call cols j) → (r : ℕ) → r < s.rows
      → ((j : ℕ) → Earlier call r j → Ordered (new j)) → Tightly s.scale (Reached s call cols new r) (new_column s call cols r)
  cell_tight (dot k i x y alpha beta) p new e r h z = tightly_where (eqb r i) _ _ _ _
      (λ t. cell.dot_tight s.scale (read_as alpha) (read_as beta) (cols k r) (cols x) (cols y) s.rows u (operand alpha) (operand beta) (in_order k r) (λ j b. in_order x j) (λ j b. in_order y j))
      (λ t. stays k r)
  cell_tight (sum k i x) p new e r h z = tightly_where (eqb r i) _ _ _ _ (λ t. cell.sum_tight s.scale (cols x) s.rows u (λ j b. in_order x j)) (λ t. stays k r)
  cell_tight (blend k x alpha beta) p new e r h z = cell.blend_tight s.scale (read_as alpha) (read_as beta) (cols x r) (cols k r) u (operand alpha) (operand beta) (in_order x r) (in_order k r)
  cell_tight (product k x l alpha beta) p new e r h z = tightly_where (ltb r l.matrix.rows) _ _ _ _
      (λ t. layout.product_tight s.scale l.matrix (read_as alpha) (read_as beta) (cols k r) (cols x) r u l.sound (operand alpha) (operand beta) (in_order k r) (λ j b. in_order x j))
      (λ t. stays k r)
  cell_tight (solve k side t alpha) p new e r h z = tightly_where (ltb r t.matrix.rows) _ _ _ _
      (λ w. let b = ltb-true r t.matrix.rows w in
      subst (Tightly s.scale (SolveValues side (Inside s.scale (read_as alpha)) (Inside s.scale (cols k r)) (λ i j. Inside s.scale (t.matrix.entry i j)) (λ j. Inside s.scale (new j)) r t.matrix.rows))
      (sym (solution_row_of layout side t.matrix (read_as alpha) (cols k) new same r b))
      (layout.solve_tight s.scale side t.matrix (read_as alpha) (cols k r) new r u t.sound (operand alpha) (in_order k r) (λ j c. z j (b, c)) (diagonal k side t.matrix r p.1.1 b)))
      (λ w. stays k r)
    where
      few : t.matrix.rows ≤ s.rows
      few = few_rows s t.matrix.rows t.matrix.columns p.1.0

      same : (j : ℕ) → j < t.matrix.rows → new j ≡ solution side t.matrix (read_as alpha) (cols k) j
      same j b = e j (omega (arith, b, few)) ∙ ap (λ w. cond w (solution side t.matrix (read_as alpha) (cols k) j) (cols k j)) (lt-ltb j t.matrix.rows b)
  cell_tight (join k x rule) p new e r h z = cell.join_tight rule s.scale (cols k r) (cols x r) scale (g k r) (g x r)
  cell_tight (copy k x) p new e r h z = stays x r
  cell_tight (permute k order) p new e r h z = stays k (get_or order r 0)

  -- `new` is the new column, in any form that agrees with it on the rows
  pub new_tight : (call : Call) → Passed (checks s call) → (new : ℕ → Value) → ((j : ℕ) → j < s.rows → new j ≡ new_column s call cols j)
      → (r : ℕ) → r < s.rows → Tightly s.scale (Reached s call cols new r) (new r)
  new_tight call p new e = by_order layout (λ r. Tightly s.scale (Reached s call cols new r) (new r)) s call p
      (λ r h before. subst (Tightly s.scale (Reached s call cols new r)) (sym (e r h)) (cell_tight call p new e r h (λ j b. tightly_ordered (before j b))))
