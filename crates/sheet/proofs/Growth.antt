-- What a formula gives grows with its operands.
use Rattle.std.proofs.Common.{◌≡◌, ℕ, ◌<◌, Bool, true, false, List, get_or, ltb, eqb, refl, arith}
use Rattle.std.proofs.lemmas.Bool.{ltb-true}
use Rattle.arithmetic.specs.Sets.{Set, Included}
use Rattle.arithmetic.proofs.Sets.{products_grow, sums_grow, negatives_grow, quotients_grow, totals_grow}
use Rattle.layouts.specs.Rows.{solved_from, solved_count}
use Rattle.sheet.specs.CallLaws.{Passed}
use Rattle.sheet.specs.declared.shape.Shape.{Shape}
use Rattle.sheet.specs.Calls.{Call, dot, sum, blend, product, solve, join, copy, permute}
use Rattle.sheet.specs.Checks.{checks}
use Rattle.sheet.specs.Formulas.{Operands, Of, Where, Formula}
use Rattle.sheet.specs.Permutations.{is_permutation}
use Rattle.sheet.proofs.Arrangements.{each_once}
use Rattle.sheet.proofs.Orders.{Earlier, few_columns}

-- ---- a permutation names rows of the column
pub names_rows : (n : ℕ) (order : List ℕ) → is_permutation n order ≡ true → (i : ℕ) → i < n → get_or order i 0 < n
names_rows n order e i h = (each_once n order e).below i h

-- ---- growth
pub where_grows : (t : Bool) (S S' T T' : Set) → (t ≡ true → Included S S') → (t ≡ false → Included T T') → Included (Where t S T) (Where t S' T')
where_grows true S S' T T' f g v h = f refl v h
where_grows false S S' T T' f g v h = g refl v h

-- every call but a join, of which an operand may be missing
abbrev pub Plain : Call → Type 0
Plain (dot k i x y alpha beta) = Unit {0}
Plain (sum k i x) = Unit {0}
Plain (blend k x alpha beta) = Unit {0}
Plain (product k x l alpha beta) = Unit {0}
Plain (solve k side t alpha) = Unit {0}
Plain (join k x rule) = ⊥
Plain (copy k x) = Unit {0}
Plain (permute k order) = Unit {0}

-- fewer values of each operand, and more
pub record Fewer (s : Shape) (A B : Operands) (T X : ℕ → ℕ → Operands) (A' B' : Operands) (T' X' : ℕ → ℕ → Operands) : Type 0 where
  pub alpha : Included (Of A) (Of A')
  pub beta : Included (Of B) (Of B')
  pub entry : (i j : ℕ) → Included (Of (T i j)) (Of (T' i j))
  pub column : (k i : ℕ) → k < s.columns → i < s.rows → Included (Of (X k i)) (Of (X' k i))

module _ (s : Shape) (A B : Operands) (T X : ℕ → ℕ → Operands) (Z : ℕ → Operands) (A' B' : Operands) (T' X' : ℕ → ℕ → Operands) (Z' : ℕ → Operands) (fewer : Fewer s A B T X A' B' T' X') where
  named : (k : ℕ) → ltb k s.columns ≡ true → (i : ℕ) → i < s.rows → Included (Of (X k i)) (Of (X' k i))
  named k e i h = fewer.column k i (ltb-true k s.columns e) h

  pub formula_grows : (call : Call) → Plain call → Passed (checks s call) → (r : ℕ) → r < s.rows → ((j : ℕ) → Earlier call r j → Included (Of (Z j)) (Of (Z' j)))
      → Included (Formula s call A B T X Z r) (Formula s call A' B' T' X' Z' r)
  formula_grows (dot k i x y alpha beta) plain p r h z = where_grows (eqb r i) _ _ _ _
      (λ e. sums_grow (products_grow fewer.beta (named k p.0 r h))
      (products_grow fewer.alpha (totals_grow _ _ 0 s.rows (λ j b c. products_grow (named x p.1.0 j (omega (arith, c))) (named y p.1.1.0 j (omega (arith, c)))))))
      (λ e. named k p.0 r h)
  formula_grows (sum k i x) plain p r h z = where_grows (eqb r i) _ _ _ _ (λ e. totals_grow _ _ 0 s.rows (λ j b c. named x p.1.0 j (omega (arith, c)))) (λ e. named k p.0 r h)
  formula_grows (blend k x alpha beta) plain p r h z = sums_grow (products_grow fewer.alpha (named x p.1.0 r h)) (products_grow fewer.beta (named k p.0 r h))
  formula_grows (product k x l alpha beta) plain p r h z =
      let few = few_columns s l.matrix.rows l.matrix.columns p.1.1.0 in
      where_grows (ltb r l.matrix.rows) _ _ _ _
      (λ e. sums_grow (products_grow fewer.beta (named k p.0 r h))
      (products_grow fewer.alpha (totals_grow _ _ 0 l.matrix.columns (λ j b c. products_grow (fewer.entry r j) (named x p.1.0 j (omega (arith, c, few)))))))
      (λ e. named k p.0 r h)
  formula_grows (solve k side t alpha) plain p r h z = where_grows (ltb r t.matrix.rows) _ _ _ _
      (λ e. let b = ltb-true r t.matrix.rows e in
      quotients_grow
      (sums_grow (products_grow fewer.alpha (named k p.0 r h))
      (negatives_grow (totals_grow _ _ (solved_from side r) (solved_count side t.matrix.rows r)
      (λ j c d. products_grow (fewer.entry r j) (z j (b, record { least = c; most = d })))))) (fewer.entry r r))
      (λ e. named k p.0 r h)
  formula_grows (join k x rule) plain p r h z = absurd plain
  formula_grows (copy k x) plain p r h z = named x p.1.0 r h
  formula_grows (permute k order) plain p r h z = named k p.0 (get_or order r 0) (names_rows s.rows order p.1.0 r h)
