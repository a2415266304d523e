-- There is an exact draft of a granted call for every choice of its operands: the formulas worked out over fractions or nothing.
use Rattle.std.proofs.Common.{◌≡◌, ℕ, zero, suc, ◌+◌, ◌<◌, ◌≤◌, Bool, true, false, cond, ltb, eqb, get_or, ℤ, pos, negsuc, neg_ℤ, ◌*ℤ◌, sym, refl, ap, ◌∙◌, subst, subst₂, inl, inr, arith}
use lib.IntN.{zero-*ℤ}
use borrow.Author.Differences.{ints}
use Rattle.std.proofs.lemmas.Bool.{ltb-true, lt-ltb}
use Rattle.arithmetic.specs.Fractions.{Fraction, add, mul, negative, whole, quotient}
use Rattle.arithmetic.specs.Sets.{Set, ProductSet, SumSet, NegativeSet, QuotientSet, TotalSet}
use Rattle.arithmetic.specs.Values.{Value, empty, bounds, Apart}
use Rattle.arithmetic.proofs.Fractions.{same_refl, quotient_is}
use Rattle.arithmetic.proofs.Integers.{neg-*ℤ, *ℤ_pos}
use Rattle.cells.specs.Held.{Held, nothing, held, Chosen}
use Rattle.cells.specs.Laws.{Laws as CellLaws}
use Rattle.cells.specs.Rules.{Rule, Admitted}
use Rattle.layouts.specs.declared.side.Side.{Side}
use Rattle.layouts.specs.Laws.{Laws as LayoutLaws, SolvedBefore}
use Rattle.layouts.specs.Rows.{solved_from, solved_count, SolveValues}
use Rattle.sheet.specs.CallLaws.{Passed}
use Rattle.sheet.specs.declared.shape.Shape.{Shape}
use Rattle.sheet.specs.Calls.{Call, dot, sum, blend, product, solve, join, copy, permute, entry_of}
use Rattle.sheet.specs.Checks.{checks}
use Rattle.sheet.specs.ExactRuns.{Choice, Follows}
use Rattle.sheet.specs.Formulas.{Of, Where, Formula, Only, Gives, no_value, value}
use Rattle.sheet.specs.NewColumns.{unrolled}
use Rattle.sheet.specs.Promises.{CallTells}
use Rattle.sheet.proofs.Checks.{cell_ordered}
use Rattle.sheet.proofs.Solving.{unrolled_row}
use Rattle.sheet.proofs.Tightness.{diagonal}

-- ---- the four operations, nothing as soon as an operand is nothing
abbrev both : (Fraction → Fraction → Fraction) → Held → Held → Held
both f nothing q = nothing
both f (held v) nothing = nothing
both f (held v) (held w) = held (f v w)

abbrev opposite : Held → Held
opposite nothing = nothing
opposite (held v) = held (negative v)

abbrev total : (ℕ → Held) → (from n : ℕ) → Held
total f from zero = held (whole (pos 0))
total f from (suc n) = both add (total f from n) (f (from + n))

-- the numerator of the divisor, once more, to split on
abbrev divided_by : (v w : Fraction) (n : ℤ) → w.num ≡ n → Held
divided_by v w (pos zero) e = nothing
divided_by v w (pos (suc n)) e = held (quotient v w (λ z. omega (arith, ints)))
divided_by v w (negsuc n) e = held (quotient v w (λ z. omega (arith, ints)))

abbrev divided : Held → Held → Held
divided nothing q = nothing
divided (held v) nothing = nothing
divided (held v) (held w) = divided_by v w w.num refl

-- ---- what they give
abbrev IsHeld : Held → Type 0
IsHeld nothing = ⊥
IsHeld (held v) = Unit {0}

gives_only : (p : Held) → Gives (Of (Only p)) p
gives_only nothing = no_value (λ v e. subst IsHeld e tt)
gives_only (held v) = value refl

gives_products : {S T : Set} {p q : Held} → Gives S p → Gives T q → Gives (ProductSet S T) (both mul p q)
gives_products (no_value f) g = no_value (λ v h. f _ h.in_left)
gives_products (value f) (no_value g) = no_value (λ w h. g _ h.in_right)
gives_products (value {v} f) (value {v = w} g) = value (record { left = v; right = w; in_left = f; in_right = g; is = same_refl _ })

gives_sums : {S T : Set} {p q : Held} → Gives S p → Gives T q → Gives (SumSet S T) (both add p q)
gives_sums (no_value f) g = no_value (λ v h. f _ h.in_left)
gives_sums (value f) (no_value g) = no_value (λ w h. g _ h.in_right)
gives_sums (value {v} f) (value {v = w} g) = value (record { left = v; right = w; in_left = f; in_right = g; is = same_refl _ })

gives_negatives : {S : Set} {p : Held} → Gives S p → Gives (NegativeSet S) (opposite p)
gives_negatives (no_value f) = no_value (λ v h. f _ h.in_of)
gives_negatives (value {v} f) = value (record { of = v; in_of = f; is = same_refl _ })

gives_totals : (F : ℕ → Set) (f : ℕ → Held) (from n : ℕ) → ((j : ℕ) → Gives (F j) (f j)) → Gives (TotalSet F from n) (total f from n)
gives_totals F f from zero g = value refl
gives_totals F f from (suc n) g = gives_sums (gives_totals F f from n g) (g (from + n))

abbrev NotZero : Held → Type 0
NotZero nothing = Unit {0}
NotZero (held w) = w.num ≡ pos 0 → ⊥

gives_divided_by : (S T : Set) (v w : Fraction) (n : ℤ) (e : w.num ≡ n) → S v → T w → (w.num ≡ pos 0 → ⊥) → Gives (QuotientSet S T) (divided_by v w n e)
gives_divided_by S T v w (pos zero) e f g z = absurd (z e)
gives_divided_by S T v w (pos (suc n)) e f g z = value (record { dividend = v; divisor = w; in_dividend = f; in_divisor = g; is = quotient_is v w _ })
gives_divided_by S T v w (negsuc n) e f g z = value (record { dividend = v; divisor = w; in_dividend = f; in_divisor = g; is = quotient_is v w _ })

gives_quotients : {S T : Set} {p q : Held} → Gives S p → Gives T q → NotZero q → Gives (QuotientSet S T) (divided p q)
gives_quotients (no_value f) g z = no_value (λ v h. f _ h.in_dividend)
gives_quotients (value f) (no_value g) z = no_value (λ w h. g _ h.in_divisor)
gives_quotients {S} {T} (value {v} f) (value {v = w} g) z = gives_divided_by S T v w w.num refl f g z

-- the first is asked for only where the test passes
gives_where : (t : Bool) {S T : Set} {p q : Held} → (t ≡ true → Gives S p) → Gives T q → Gives (Where t S T) (cond t p q)
gives_where true f g = f refl
gives_where false f g = g

gives_admitted : (rule : Rule) (p q y : Held) → Gives (λ v. rule.admits p q v ≡ true) y → Gives (Admitted rule.admits (Only p) (Only q)) y
gives_admitted rule p q y (no_value f) = no_value (λ v h. f v (subst₂ (λ p q. rule.admits p q v ≡ true) h.in_left h.in_right h.is))
gives_admitted rule p q y (value h) = value (record { left = p; right = q; in_left = refl; in_right = refl; is = h })

-- what is chosen from a cell that 0 is not inside of is not 0
not_zero : (u : ℤ) (c : Value) (p : Held) → Apart c → Chosen u c p → NotZero p
not_zero u c nothing n h = tt
not_zero u empty (held w) n h = absurd h
not_zero u (bounds a b) (held w) (inl n) h = λ e.
    let l = h.least in let k = *ℤ_pos a w.den n w.positive in let f = ap (λ (z : ℤ). z *ℤ u) e in omega (arith, ints, zero-*ℤ u)
not_zero u (bounds a b) (held w) (inr n) h = λ e.
    let l = h.most in let k = *ℤ_pos (neg_ℤ b) w.den (omega (arith, ints)) w.positive in let f = ap (λ (z : ℤ). z *ℤ u) e in omega (arith, ints, zero-*ℤ u, neg-*ℤ b w.den)

total_same : (f g : ℕ → Held) (from n : ℕ) → ((j : ℕ) → from ≤ j → j < from + n → f j ≡ g j) → total f from n ≡ total g from n
total_same f g from zero h = refl
total_same f g from (suc n) h =
    ap (λ c. both add c (f (from + n))) (total_same f g from n (λ j b c. h j b (omega (arith, c)))) ∙ ap (both add (total g from n)) (h (from + n) (omega arith) (omega arith))

-- ---- the exact draft, a and b being chosen for alpha and beta, and t i j for the entries
module _ (s : Shape) (a b : Held) (t xs : ℕ → ℕ → Held) where
  abbrev exact_dot : Held → (ps qs : ℕ → Held) → (n : ℕ) → Held
  exact_dot r ps qs n = both add (both mul b r) (both mul a (total (λ j. both mul (ps j) (qs j)) 0 n))

  abbrev exact_row : (k : ℕ) → Side → (n : ℕ) → (zs : ℕ → Held) (i : ℕ) → Held
  exact_row k side n zs i = divided (both add (both mul a (xs k i)) (opposite (total (λ j. both mul (t i j) (zs j)) (solved_from side i) (solved_count side n i)))) (t i i)

  abbrev exact_draft : (call : Call) → CallTells call → (row : ℕ) → Held
  exact_draft (dot k i x y alpha beta) tells row = cond (eqb row i) (exact_dot (xs k row) (xs x) (xs y) s.rows) (xs k row)
  exact_draft (sum k i x) tells row = cond (eqb row i) (total (xs x) 0 s.rows) (xs k row)
  exact_draft (blend k x alpha beta) tells row = both add (both mul a (xs x row)) (both mul b (xs k row))
  exact_draft (product k x l alpha beta) tells row = cond (ltb row l.matrix.rows) (exact_dot (xs k row) (t row) (xs x) l.matrix.columns) (xs k row)
  exact_draft (solve k side m alpha) tells row = cond (ltb row m.matrix.rows) (unrolled nothing (exact_row k side m.matrix.rows) m.matrix.rows row) (xs k row)
  exact_draft (join k x rule) tells row = (tells (xs k row) (xs x row)).0
  exact_draft (copy k x) tells row = xs x row
  exact_draft (permute k order) tells row = xs k (get_or order row 0)

  gives_dot : (r : Held) (ps qs : ℕ → Held) (n : ℕ)
      → Gives (SumSet (ProductSet (Of (Only b)) (Of (Only r))) (ProductSet (Of (Only a)) (TotalSet (λ j. ProductSet (Of (Only (ps j))) (Of (Only (qs j)))) 0 n))) (exact_dot r ps qs n)
  gives_dot r ps qs n = gives_sums (gives_products (gives_only b) (gives_only r))
      (gives_products (gives_only a) (gives_totals (λ j. ProductSet (Of (Only (ps j))) (Of (Only (qs j)))) (λ j. both mul (ps j) (qs j)) 0 n (λ j. gives_products (gives_only (ps j)) (gives_only (qs j)))))

  row_same : (k : ℕ) (side : Side) (n i : ℕ) (zs zs' : ℕ → Held) → ((j : ℕ) → SolvedBefore side n i j → zs j ≡ zs' j) → exact_row k side n zs i ≡ exact_row k side n zs' i
  row_same k side n i zs zs' e =
      ap (λ c. divided (both add (both mul a (xs k i)) (opposite c)) (t i i))
      (total_same (λ j. both mul (t i j) (zs j)) (λ j. both mul (t i j) (zs' j)) (solved_from side i) (solved_count side n i) (λ j b c. ap (both mul (t i j)) (e j (record { least = b; most = c }))))

  pub draft_follows : CellLaws → LayoutLaws → (call : Call) (tells : CallTells call) → Passed (checks s call) → ((i j : ℕ) → Chosen s.scale (entry_of call i j) (t i j)) → (r : ℕ)
      → Gives (Formula s call (Only a) (Only b) (λ i j. Only (t i j)) (λ k i. Only (xs k i)) (λ j. Only (exact_draft call tells j)) r) (exact_draft call tells r)
  draft_follows cell layout (dot k i x y alpha beta) tells p e r = gives_where (eqb r i) (λ w. gives_dot (xs k r) (xs x) (xs y) s.rows) (gives_only (xs k r))
  draft_follows cell layout (sum k i x) tells p e r = gives_where (eqb r i) (λ w. gives_totals (λ j. Of (Only (xs x j))) (xs x) 0 s.rows (λ j. gives_only (xs x j))) (gives_only (xs k r))
  draft_follows cell layout (blend k x alpha beta) tells p e r = gives_sums (gives_products (gives_only a) (gives_only (xs x r))) (gives_products (gives_only b) (gives_only (xs k r)))
  draft_follows cell layout (product k x l alpha beta) tells p e r = gives_where (ltb r l.matrix.rows) (λ w. gives_dot (xs k r) (t r) (xs x) l.matrix.columns) (gives_only (xs k r))
  draft_follows cell layout (solve k side m alpha) tells p e r = gives_where (ltb r m.matrix.rows)
      (λ w. let h = ltb-true r m.matrix.rows w in
      subst (Gives (SolveValues side (Of (Only a)) (Of (Only (xs k r))) (λ i j. Of (Only (t i j))) (λ j. Of (Only (zs j))) r m.matrix.rows)) (sym (row r h))
      (gives_quotients
      (gives_sums (gives_products (gives_only a) (gives_only (xs k r)))
      (gives_negatives (gives_totals (λ j. ProductSet (Of (Only (t r j))) (Of (Only (zs j)))) (λ j. both mul (t r j) (zs j)) (solved_from side r) (solved_count side m.matrix.rows r)
      (λ j. gives_products (gives_only (t r j)) (gives_only (zs j))))))
      (gives_only (t r r)) (not_zero s.scale (m.matrix.entry r r) (t r r) (apart r h) (e r r))))
      (gives_only (xs k r))
    where
      zs : ℕ → Held
      zs j = cond (ltb j m.matrix.rows) (unrolled nothing (exact_row k side m.matrix.rows) m.matrix.rows j) (xs k j)

      row : (i : ℕ) → i < m.matrix.rows → unrolled nothing (exact_row k side m.matrix.rows) m.matrix.rows i ≡ exact_row k side m.matrix.rows zs i
      row = unrolled_row layout nothing side m.matrix.rows (exact_row k side m.matrix.rows) (λ i h z z' f. row_same k side m.matrix.rows i z z' f) zs
          (λ j h. ap (λ w. cond w (unrolled nothing (exact_row k side m.matrix.rows) m.matrix.rows j) (xs k j)) (lt-ltb j m.matrix.rows h))

      apart : (i : ℕ) → i < m.matrix.rows → Apart (m.matrix.entry i i)
      apart i h = cell.not_zero_apart (m.matrix.entry i i) (cell_ordered (m.matrix.entry i i) (m.sound.cell i i)) (diagonal k side m.matrix i p.1.1 h)
  draft_follows cell layout (join k x rule) tells p e r = gives_admitted rule (xs k r) (xs x r) (tells (xs k r) (xs x r)).0 (tells (xs k r) (xs x r)).1
  draft_follows cell layout (copy k x) tells p e r = gives_only (xs x r)
  draft_follows cell layout (permute k order) tells p e r = gives_only (xs k (get_or order r 0))

pub follows : CellLaws → LayoutLaws → (s : Shape) (call : Call) → Passed (checks s call) → CallTells call → (xs : ℕ → ℕ → Held) (choice : Choice s call) → (new : ℕ → Held) × Follows s call choice xs new
follows cell layout s call p tells xs choice =
    (exact_draft s choice.alpha choice.beta choice.entry xs call tells, λ r h. draft_follows s choice.alpha choice.beta choice.entry xs cell layout call tells p choice.in_entry r)
