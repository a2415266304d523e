-- A call inside another that is granted is granted too, and its new cells lie inside the other's.
use Rattle.std.proofs.Common.{◌≡◌, ℕ, ◌<◌, true, false, ◌&&◌, ltb, leb, ℤ, pos, ◌<ℤ◌, sym, refl, subst, subst₂, ⊎_elim, arith}
use Rattle.std.proofs.lemmas.Bool.{ltb-true, cases_lt}
use Rattle.arithmetic.specs.Sets.{Included}
use Rattle.arithmetic.specs.Values.{Value, empty, Inside, Within, Nested}
use Rattle.arithmetic.proofs.Values.{tightly_nested, nested_within, within_nested}
use Rattle.cells.specs.Held.{Chosen}
use Rattle.cells.specs.Laws.{Laws as CellLaws}
use Rattle.cells.specs.Quotients.{zero_in}
use Rattle.cells.specs.Rules.{Rule}
use Rattle.cells.specs.Scales.{IsScale}
use Rattle.layouts.specs.Laws.{Laws as LayoutLaws}
use Rattle.layouts.specs.Matrix.{Matrix, Sound}
use Rattle.layouts.specs.Orders.{rows_in_order}
use Rattle.layouts.specs.Rows.{ProductValues, SolveValues}
use Rattle.sheet.specs.CallLaws.{Passed}
use Rattle.sheet.specs.declared.shape.Shape.{Shape}
use Rattle.sheet.specs.Calls.{Call, join, target, alpha_of, beta_of, entry_of}
use Rattle.sheet.specs.Checks.{checks}
use Rattle.sheet.specs.Formulas.{Operands, Of, Where, Formula}
use Rattle.sheet.specs.NewColumns.{new_column}
use Rattle.sheet.specs.Promises.{MatrixInside, CallInside, dot_inside, sum_inside, blend_inside, product_inside, solve_inside, join_inside, copy_inside, permute_inside}
use Rattle.sheet.proofs.Checks.{cell_ordered, all_divides}
use Rattle.sheet.proofs.Growth.{Plain, Fewer, formula_grows}
use Rattle.sheet.proofs.Holding.{tight}
use Rattle.sheet.proofs.Orders.{by_order, in_order_all}
use Rattle.sheet.proofs.Tightness.{AllCells, diagonal}

-- ---- where the calls are listed: the inner call has the target, the operands, the formula and the checks of the outer one

pub same_target : {u : ℤ} {call' call : Call} → CallInside u call' call → target call' ≡ target call
same_target (dot_inside wa wb) = refl
same_target sum_inside = refl
same_target (blend_inside wa wb) = refl
same_target (product_inside e wa wb) = refl
same_target (solve_inside e wa) = refl
same_target join_inside = refl
same_target copy_inside = refl
same_target permute_inside = refl

alpha_inside : {u : ℤ} {call' call : Call} → CallInside u call' call → Within u (alpha_of call') (alpha_of call)
alpha_inside (dot_inside wa wb) = wa
alpha_inside sum_inside = λ v h. h
alpha_inside (blend_inside wa wb) = wa
alpha_inside (product_inside e wa wb) = wa
alpha_inside (solve_inside e wa) = wa
alpha_inside join_inside = λ v h. h
alpha_inside copy_inside = λ v h. h
alpha_inside permute_inside = λ v h. h

beta_inside : {u : ℤ} {call' call : Call} → CallInside u call' call → Within u (beta_of call') (beta_of call)
beta_inside (dot_inside wa wb) = wb
beta_inside sum_inside = λ v h. h
beta_inside (blend_inside wa wb) = wb
beta_inside (product_inside e wa wb) = wb
beta_inside (solve_inside e wa) = λ v h. h
beta_inside join_inside = λ v h. h
beta_inside copy_inside = λ v h. h
beta_inside permute_inside = λ v h. h

-- outside the shape both matrices are empty
matrix_inside : (u : ℤ) (m' m : Matrix) → Sound m' → MatrixInside u m' m → (i j : ℕ) → Within u (m'.entry i j) (m.entry i j)
matrix_inside u m' m sound e i j = ⊎_elim
    (λ a. ⊎_elim (λ b. e.entries i j a b) (λ b. nowhere (sound.right i j (omega (arith, b, e.columns)))) (cases_lt j m.columns))
    (λ a. nowhere (sound.below i j (omega (arith, a, e.rows)))) (cases_lt i m.rows)
  where
    nowhere : m'.entry i j ≡ empty → Within u (m'.entry i j) (m.entry i j)
    nowhere z v h = absurd (subst (λ c. Inside u c v) z h)

entry_inside : {u : ℤ} {call' call : Call} → CallInside u call' call → (i j : ℕ) → Within u (entry_of call' i j) (entry_of call i j)
entry_inside (dot_inside wa wb) i j = λ v h. h
entry_inside sum_inside i j = λ v h. h
entry_inside (blend_inside wa wb) i j = λ v h. h
entry_inside {u} (product_inside {l} {l'} e wa wb) i j = matrix_inside u l'.matrix l.matrix l'.sound e i j
entry_inside {u} (solve_inside {t} {t'} e wa) i j = matrix_inside u t'.matrix t.matrix t'.sound e i j
entry_inside join_inside i j = λ v h. h
entry_inside copy_inside i j = λ v h. h
entry_inside permute_inside i j = λ v h. h

module _ (s : Shape) (A B : Operands) (T X : ℕ → ℕ → Operands) (Z : ℕ → Operands) (r : ℕ) where
  formula_inside : {u : ℤ} {call' call : Call} → CallInside u call' call → Included (Formula s call' A B T X Z r) (Formula s call A B T X Z r)
  formula_inside (dot_inside wa wb) v h = h
  formula_inside sum_inside v h = h
  formula_inside (blend_inside wa wb) v h = h
  formula_inside (product_inside {k} {x} e wa wb) v h =
      subst₂ (λ n c. Where (ltb r n) (ProductValues (Of A) (Of B) (Of (X k r)) (λ i j. Of (T i j)) (λ j. Of (X x j)) r c) (Of (X k r)) v) e.rows e.columns h
  formula_inside (solve_inside {k} {side} e wa) v h =
      subst (λ n. Where (ltb r n) (SolveValues side (Of A) (Of (X k r)) (λ i j. Of (T i j)) (λ j. Of (Z j)) r n) (Of (X k r)) v) e.rows h
  formula_inside join_inside v h = h
  formula_inside copy_inside v h = h
  formula_inside permute_inside v h = h

room_inside : (s : Shape) {u : ℤ} (m' m : Matrix) → MatrixInside u m' m → (leb m.rows s.rows && leb m.columns s.rows) ≡ true → (leb m'.rows s.rows && leb m'.columns s.rows) ≡ true
room_inside s m' m e h = subst₂ (λ n c. (leb n s.rows && leb c s.rows) ≡ true) (sym e.rows) (sym e.columns) h

-- ---- a call inside another, over columns inside its columns
module _ (cell : CellLaws) (layout : LayoutLaws) (s : Shape) (scale : IsScale s.scale) (u : pos 0 <ℤ s.scale) where
  pub passes_inside : {call' call : Call} → CallInside s.scale call' call → Passed (checks s call) → Passed (checks s call')
  passes_inside (dot_inside wa wb) p = p
  passes_inside sum_inside p = p
  passes_inside (blend_inside wa wb) p = p
  passes_inside (product_inside {l} {l'} e wa wb) p = (p.0, (p.1.0, (room_inside s l'.matrix l.matrix e p.1.1.0, tt)))
  passes_inside (solve_inside {k} {side} {t} {t'} e wa) p = (
    p.0,
    (
      room_inside s t'.matrix t.matrix e p.1.0,
      all_divides k t'.matrix (rows_in_order side t'.matrix.rows)
          (in_order_all layout (λ i. zero_in (t'.matrix.entry i i) ≡ false) side t'.matrix.rows
          (λ i h. layout.zero_outside s.scale (t'.matrix.entry i i) (t.matrix.entry i i) u (cell_ordered _ (t'.sound.cell i i)) (cell_ordered _ (t.sound.cell i i))
          (matrix_inside s.scale t'.matrix t.matrix t'.sound e i i) (diagonal k side t.matrix i p.1.1 (omega (arith, h, e.rows))))),
    ),
  )
  passes_inside join_inside p = p
  passes_inside copy_inside p = p
  passes_inside permute_inside p = p

  abbrev pub AllWithin : (cols' cols : ℕ → ℕ → Value) → Type 0
  AllWithin cols' cols = (k i : ℕ) → k < s.columns → i < s.rows → Within s.scale (cols' k i) (cols k i)

  abbrev Nests : (call' call : Call) → Type 0
  Nests call' call = (cols' cols : ℕ → ℕ → Value) → AllCells cols' → AllCells cols → AllWithin cols' cols → Passed (checks s call') → Passed (checks s call)
      → (i : ℕ) → i < s.rows → Nested (new_column s call' cols' i) (new_column s call cols i)

  -- row after row in working order, what the inner call reaches the outer one reaches too
  plain_nests : (call' call : Call) → Plain call → CallInside s.scale call' call → Nests call' call
  plain_nests call' call plain e cols' cols g' g within p' p = by_order layout (λ i. Nested (new_column s call' cols' i) (new_column s call cols i)) s call p
      (λ i h before. tightly_nested
      (λ v m. formula_grows s _ _ _ _ (λ j. Chosen s.scale (new_column s call' cols' j)) _ _ _ _ (λ j. Chosen s.scale (new_column s call cols j)) fewer call plain p i h
      (λ j z. nested_within s.scale (new_column s call' cols' j) (new_column s call cols j) (before j z)) v (formula_inside s _ _ _ _ _ i e v m))
      (tight cell layout s scale u call' cols' g' p' i h) (tight cell layout s scale u call cols g p i h))
    where
      fewer : Fewer s (Chosen s.scale (alpha_of call')) (Chosen s.scale (beta_of call')) (λ i j. Chosen s.scale (entry_of call' i j)) (λ k i. Chosen s.scale (cols' k i))
          (Chosen s.scale (alpha_of call)) (Chosen s.scale (beta_of call)) (λ i j. Chosen s.scale (entry_of call i j)) (λ k i. Chosen s.scale (cols k i))
      fewer = record { alpha = alpha_inside e; beta = beta_inside e; entry = entry_inside e; column = within }

  -- that a join grows is the rule's own law
  join_nests : (k x : ℕ) (rule : Rule) → Nests (join k x rule) (join k x rule)
  join_nests k x rule cols' cols g' g within p' p i h =
      within_nested s.scale (rule.joined (cols' k i) (cols' x i)) (rule.joined (cols k i) (cols x i)) u (cell_ordered _ (rule.keeps (cols' k i) (cols' x i) (g' k i) (g' x i)))
      (rule.isotone s.scale (cols' k i) (cols' x i) (cols k i) (cols x i) scale (g' k i) (g' x i) (g k i) (g x i)
      (within k i (ltb-true k s.columns p.0) h) (within x i (ltb-true x s.columns p.1.0) h))

  pub new_nests : {call' call : Call} → CallInside s.scale call' call → Nests call' call
  new_nests {call'} {call} (dot_inside wa wb) = plain_nests call' call tt (dot_inside wa wb)
  new_nests {call'} {call} sum_inside = plain_nests call' call tt sum_inside
  new_nests {call'} {call} (blend_inside wa wb) = plain_nests call' call tt (blend_inside wa wb)
  new_nests {call'} {call} (product_inside e wa wb) = plain_nests call' call tt (product_inside e wa wb)
  new_nests {call'} {call} (solve_inside e wa) = plain_nests call' call tt (solve_inside e wa)
  new_nests (join_inside {k} {x} {rule}) = join_nests k x rule
  new_nests {call'} {call} copy_inside = plain_nests call' call tt copy_inside
  new_nests {call'} {call} permute_inside = plain_nests call' call tt permute_inside
