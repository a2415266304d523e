-- What is asked is granted exactly where it can be, and a refusal tells what is so. Rests on the laws of layouts.
use Rattle.std.proofs.Common.{◌≡◌, ℕ, ◌<◌, ◌≤◌, true, false, not, ◌&&◌, List, [], ◌∷◌, ◌++◌, map, All, ℤ, ◌≤ℤ◌, ◌⊎◌, sym, refl, ◌∙◌, subst, ⊎_elim, inl, inr, arith, ◌*◌, ◌||◌, length, pos}
use Rattle.std.specs.Prelude.{nat_le, int_le}
use borrow.Author.Differences.{ints}
use lib.Dec.{leb}
use lib.Signed.{lt_z}
use Rattle.std.proofs.lemmas.Bool.{and_from, or_parts, or_from, not-true, and_cases, not_from_false, not-false, false≢true, ltb-true, ltb-false, leb-false, lt-ltb, le-leb, eqb-true}
use Rattle.std.proofs.lemmas.List.Elements.{All-nil, All-cons, All-head, All-tail}
use Rattle.std.proofs.lemmas.Int.{by_lt_z}
use Rattle.arithmetic.specs.Values.{Value, empty, bounds}
use Rattle.arithmetic.proofs.Tests.{true_le_z}
use Rattle.rounding.specs.Limit.{lowest, highest}
use Rattle.rounding.specs.declared.fault.Bound.{Bound}
use Rattle.rounding.specs.declared.fault.Bound.TheVariants.{Lower, Upper}
use Rattle.rounding.specs.Outward.{beyond}
use Rattle.cells.specs.declared.cell.Record.{Record}
use Rattle.cells.specs.Cells.{IsCell, broken}
use Rattle.cells.specs.Quotients.{zero_in}
use Rattle.layouts.specs.Laws.{Laws}
use Rattle.layouts.specs.Matrix.{Matrix}
use Rattle.layouts.specs.Orders.{rows_in_order}
use Rattle.sheet.specs.declared.refusal.CallName.{CallName}
use Rattle.sheet.specs.declared.refusal.CallName.TheVariants.{Dot, Sum, Blend, Product, Solve, Join, Copy, Permute, Open, Set, Begin}
use Rattle.sheet.specs.declared.refusal.Refusal.{Refusal}
use Rattle.sheet.specs.declared.refusal.Refusal.TheVariants.{WrongLength, NoSuchColumn, DivisorHoldsZero, NoPermutation, ScaleOutside, ShapeOutside, NoCell}
use Rattle.sheet.specs.Answers.{call_answer, open_answer, set_answer}
use Rattle.sheet.specs.declared.shape.Shape.{Shape}
use Rattle.sheet.specs.CallLaws.{Passed, BothFit}
use Rattle.sheet.specs.Calls.{Call, dot, sum, blend, product, solve, join, copy, permute, name, target}
use Rattle.sheet.specs.Checks.{Check, check, Answer, granted, refused, first_refusal, column_named, row_named, has_room, divides, checks, worked_rows, lower_fits, upper_fits, past_limit, limits}
use Rattle.sheet.specs.Memory.{has_both, cells_in, has_cells}
use Rattle.sheet.specs.NewColumns.{new_column}
use Rattle.sheet.specs.Permutations.{is_permutation}
use Rattle.sheet.specs.RefusalLaws.{BothLong, Named, WorksOut, WithinLimit, AllThere, FirstMissing, Beyond, BoundBeyond, Reason, RefusalLaws, CanBeSet}
use Rattle.sheet.specs.Refusals.{call_of}
use Rattle.sheet.specs.Shapes.{legal_scale, legal_size, Legal}
use Rattle.sheet.proofs.Answering.{both_sized, sized_both, sized_cells, opens_legal, set_granted, begin_granted, close_granted}
use Rattle.sheet.proofs.Arrangements.{each_once, permutation}
use Rattle.sheet.proofs.Checks.{passes, grants, limits_fit, fit_limits, divides_all, all_divides, all_passed, passed_all}
use Rattle.sheet.proofs.Orders.{all_rising, rising_all, all_in_order, in_order_all, few_rows, few_columns}

-- ---- tests of the table, and what they mean
room : (s : Shape) (rows columns : ℕ) → rows ≤ s.rows → columns ≤ s.rows → (leb rows s.rows && leb columns s.rows) ≡ true
room s rows columns h k = and_from (leb rows s.rows) (leb columns s.rows) (le-leb rows s.rows h) (le-leb columns s.rows k)

named : (s : Shape) (call : Call) → Passed (checks s call) → Named s call
named s (dot k i x y alpha beta) p = (ltb-true k s.columns p.0, ltb-true x s.columns p.1.0, ltb-true y s.columns p.1.1.0, ltb-true i s.rows p.1.1.1.0)
named s (sum k i x) p = (ltb-true k s.columns p.0, ltb-true x s.columns p.1.0, ltb-true i s.rows p.1.1.0)
named s (blend k x alpha beta) p = (ltb-true k s.columns p.0, ltb-true x s.columns p.1.0)
named s (product k x l alpha beta) p =
    (ltb-true k s.columns p.0, ltb-true x s.columns p.1.0, few_rows s l.matrix.rows l.matrix.columns p.1.1.0, few_columns s l.matrix.rows l.matrix.columns p.1.1.0)
named s (solve k side t alpha) p = (
  ltb-true k s.columns p.0,
  few_rows s t.matrix.rows t.matrix.columns p.1.0,
  few_columns s t.matrix.rows t.matrix.columns p.1.0,
  all_in_order (λ i. zero_in (t.matrix.entry i i) ≡ false) side t.matrix.rows (divides_all k t.matrix (rows_in_order side t.matrix.rows) p.1.1),
)
named s (join k x rule) p = (ltb-true k s.columns p.0, ltb-true x s.columns p.1.0)
named s (copy k x) p = (ltb-true k s.columns p.0, ltb-true x s.columns p.1.0)
named s (permute k order) p = (ltb-true k s.columns p.0, each_once s.rows order p.1.0)

checked : (laws : Laws) (s : Shape) (call : Call) → Named s call → Passed (checks s call)
checked laws s (dot k i x y alpha beta) n = (lt-ltb k s.columns n.0, (lt-ltb x s.columns n.1, (lt-ltb y s.columns n.2, (lt-ltb i s.rows n.3, tt))))
checked laws s (sum k i x) n = (lt-ltb k s.columns n.0, (lt-ltb x s.columns n.1, (lt-ltb i s.rows n.2, tt)))
checked laws s (blend k x alpha beta) n = (lt-ltb k s.columns n.0, (lt-ltb x s.columns n.1, tt))
checked laws s (product k x l alpha beta) n = (lt-ltb k s.columns n.0, (lt-ltb x s.columns n.1, (room s l.matrix.rows l.matrix.columns n.2 n.3, tt)))
checked laws s (solve k side t alpha) n = (
  lt-ltb k s.columns n.0,
  (
    room s t.matrix.rows t.matrix.columns n.1 n.2,
    all_divides k t.matrix (rows_in_order side t.matrix.rows) (in_order_all laws (λ i. zero_in (t.matrix.entry i i) ≡ false) side t.matrix.rows n.3),
  ),
)
checked laws s (join k x rule) n = (lt-ltb k s.columns n.0, (lt-ltb x s.columns n.1, tt))
checked laws s (copy k x) n = (lt-ltb k s.columns n.0, (lt-ltb x s.columns n.1, tt))
checked laws s (permute k order) n = (lt-ltb k s.columns n.0, (permutation s.rows order n.1, tt))

-- ---- the rows that are worked out
one : (P : ℕ → Type 0) (i : ℕ) → P i → All P (i ∷ [])
one P i h = All-cons P i [] h (All-nil P)

worked : (P : ℕ → Type 0) (s : Shape) (call : Call) → All P (worked_rows s call) → (row : ℕ) → WorksOut s call row → P row
worked P s (dot k i x y alpha beta) f row w = subst P (sym w) (All-head P i [] f)
worked P s (sum k i x) f row w = subst P (sym w) (All-head P i [] f)
worked P s (blend k x alpha beta) f row w = all_rising P s.rows f row w
worked P s (product k x l alpha beta) f row w = all_rising P l.matrix.rows f row w
worked P s (solve k side t alpha) f row w = all_in_order P side t.matrix.rows f row w
worked P s (join k x rule) f row w = absurd w
worked P s (copy k x) f row w = absurd w
worked P s (permute k order) f row w = absurd w

all_worked : (laws : Laws) (P : ℕ → Type 0) (s : Shape) (call : Call) → ((row : ℕ) → WorksOut s call row → P row) → All P (worked_rows s call)
all_worked laws P s (dot k i x y alpha beta) f = one P i (f i refl)
all_worked laws P s (sum k i x) f = one P i (f i refl)
all_worked laws P s (blend k x alpha beta) f = rising_all P s.rows f
all_worked laws P s (product k x l alpha beta) f = rising_all P l.matrix.rows f
all_worked laws P s (solve k side t alpha) f = in_order_all laws P side t.matrix.rows f
all_worked laws P s (join k x rule) f = All-nil P
all_worked laws P s (copy k x) f = All-nil P
all_worked laws P s (permute k order) f = All-nil P

-- ---- the limit
bound_within : (a : ℤ) → not (beyond a) ≡ true → (lowest ≤ℤ a) × (a ≤ℤ highest)
bound_within a e = let p = or_parts (lt_z a lowest) (lt_z highest a) (not-true (beyond a) e) in (omega (arith, ints, p.0), omega (arith, ints, p.1))

within_bound : (a : ℤ) → lowest ≤ℤ a → a ≤ℤ highest → not (beyond a) ≡ true
within_bound a h k =
    let low : false ≡ lt_z a lowest = omega (arith, ints) in
    let high : false ≡ lt_z highest a = omega (arith, ints) in
    not_from_false (beyond a) (or_from (lt_z a lowest) (lt_z highest a) (sym low) (sym high))

within : (c : Value) → BothFit c → WithinLimit c
within empty f = tt
within (bounds a b) f = let p = bound_within a f.0 in let q = bound_within b f.1 in (p.0, p.1, q.0, q.1)

fits : (c : Value) → WithinLimit c → BothFit c
fits empty w = (refl, refl)
fits (bounds a b) w = (within_bound a w.0 w.1, within_bound b w.2 w.3)

-- ---- what a refusal tells: of any list of checks
-- each refusal tells what is so where its check does not pass and those before it do
abbrev Tells : (P : Refusal → Type 0) → List Check → Type 0
Tells P [] = Unit {0}
Tells P (check passes refusal ∷ rest) = (passes ≡ false → P refusal) × (passes ≡ true → Tells P rest)

told : (P : Refusal → Type 0) (list : List Check) (then : Answer) (r : Refusal) → Tells P list → (Passed list → then ≡ refused r → P r) → first_refusal list then ≡ refused r → P r
told P [] then r t f e = f tt e
told P (check true refusal ∷ rest) then r t f e = told P rest then r (t.1 refl) (λ p. f (refl, p)) e
told P (check false refusal ∷ rest) then r t f e = let same : refusal ≡ r = cc in subst P same (t.0 refl)

columns_tell : (P : Refusal → Type 0) (s : Shape) (call : CallName) (ks : List ℕ) (rest : List Check) → ((j : ℕ) → FirstMissing s.columns ks j → P (NoSuchColumn call j)) → (AllThere s.columns ks → Tells P rest)
    → Tells P (map (column_named s call) ks ++ rest)
columns_tell P s call [] rest f g = g tt
columns_tell P s call (k ∷ ks) rest f g = (
  λ e. f k (inl (ltb-false k s.columns e, refl)),
  λ e. let h = ltb-true k s.columns e in columns_tell P s call ks rest (λ j m. f j (inr (h, m))) (λ all. g (h, all)),
)

divisors_tell : (P : Refusal → Type 0) (k : ℕ) (m : Matrix) (rows : List ℕ) → All (λ row. zero_in (m.entry row row) ≡ true → P (DivisorHoldsZero k row)) rows → Tells P (map (divides k m) rows)
divisors_tell P k m [] f = tt
divisors_tell P k m (row ∷ rows) f =
    let Q = λ (row : ℕ). zero_in (m.entry row row) ≡ true → P (DivisorHoldsZero k row) in
    (λ e. All-head Q row rows f (not-false (zero_in (m.entry row row)) e), λ e. divisors_tell P k m rows (All-tail Q row rows f))

bound_beyond : (a : ℤ) → not (beyond a) ≡ false → Beyond a
bound_beyond a e = by_lt_z a lowest (λ h. inl h) (λ h. by_lt_z highest a (λ k. inr k) (λ k. absurd (false≢true (sym e ∙ within_bound a h k))))

lower_beyond : (c : Value) → lower_fits c ≡ false → BoundBeyond c Lower
lower_beyond empty e = absurd (false≢true (sym e))
lower_beyond (bounds a b) e = bound_beyond a e

upper_beyond : (c : Value) → upper_fits c ≡ false → BoundBeyond c Upper
upper_beyond empty e = absurd (false≢true (sym e))
upper_beyond (bounds a b) e = bound_beyond b e

limits_tell : (P : Refusal → Type 0) (call : CallName) (k : ℕ) (new : ℕ → Value) (rows : List ℕ) → All (λ row. (bound : Bound) → BoundBeyond (new row) bound → P (past_limit call k row bound)) rows → Tells P (limits call k new rows)
limits_tell P call k new [] f = tt
limits_tell P call k new (row ∷ rows) f =
    let Q = λ (row : ℕ). (bound : Bound) → BoundBeyond (new row) bound → P (past_limit call k row bound) in (
      λ e. All-head Q row rows f Lower (lower_beyond (new row) e),
      λ e. (λ e. All-head Q row rows f Upper (upper_beyond (new row) e), λ e. limits_tell P call k new rows (All-tail Q row rows f)),
    )

-- ---- of the checks of a call
no_room : (s : Shape) (rows columns : ℕ) → (leb rows s.rows && leb columns s.rows) ≡ false → (s.rows < rows) ⊎ (s.rows < columns)
no_room s rows columns e =
    ⊎_elim (λ (h : leb rows s.rows ≡ false). inl (leb-false rows s.rows h)) (λ (h : leb columns s.rows ≡ false). inr (leb-false columns s.rows h))
    (and_cases (leb rows s.rows) (leb columns s.rows) e)

abbrev Told : Shape → Call → (cells draft : List Record) → Refusal → Type 0
Told s call cells draft r = (call_of r ≡ name call) × Reason s call cells draft r

tells : (laws : Laws) (s : Shape) (call : Call) (cells draft : List Record) → BothLong s cells draft → Tells (Told s call cells draft) (checks s call)
tells laws s (dot k i x y alpha beta) cells draft l =
    columns_tell (Told s (dot k i x y alpha beta) cells draft) s Dot (k ∷ (x ∷ (y ∷ []))) (row_named s Dot k i ∷ []) (λ j m. (refl, (l, m)))
    (λ all. (λ e. (refl, (l, all, refl, refl, ltb-false i s.rows e)), λ e. tt))
tells laws s (sum k i x) cells draft l =
    columns_tell (Told s (sum k i x) cells draft) s Sum (k ∷ (x ∷ [])) (row_named s Sum k i ∷ []) (λ j m. (refl, (l, m)))
    (λ all. (λ e. (refl, (l, all, refl, refl, ltb-false i s.rows e)), λ e. tt))
tells laws s (blend k x alpha beta) cells draft l = columns_tell (Told s (blend k x alpha beta) cells draft) s Blend (k ∷ (x ∷ [])) [] (λ j m. (refl, (l, m))) (λ all. tt)
tells laws s (product k x m alpha beta) cells draft l =
    columns_tell (Told s (product k x m alpha beta) cells draft) s Product (k ∷ (x ∷ [])) (has_room s Product k m.matrix ∷ []) (λ j m. (refl, (l, m)))
    (λ all. (λ e. (refl, (l, all, refl, no_room s m.matrix.rows m.matrix.columns e)), λ e. tt))
tells laws s (solve k side t alpha) cells draft l =
    let P = Told s (solve k side t alpha) cells draft in let m = t.matrix in
    columns_tell P s Solve (k ∷ []) (has_room s Solve k m ∷ map (divides k m) (rows_in_order side m.rows)) (λ j m. (refl, (l, m)))
    (λ all. (
      λ e. (refl, (l, all, refl, no_room s m.rows m.columns e)),
      λ e. divisors_tell P k m (rows_in_order side m.rows)
          (in_order_all laws (λ row. zero_in (m.entry row row) ≡ true → P (DivisorHoldsZero k row)) side m.rows
          (λ row h z. (refl, (l, all, refl, (few_rows s m.rows m.columns e, few_columns s m.rows m.columns e, h, z))))),
    ))
tells laws s (join k x rule) cells draft l = columns_tell (Told s (join k x rule) cells draft) s Join (k ∷ (x ∷ [])) [] (λ j m. (refl, (l, m))) (λ all. tt)
tells laws s (copy k x) cells draft l = columns_tell (Told s (copy k x) cells draft) s Copy (k ∷ (x ∷ [])) [] (λ j m. (refl, (l, m))) (λ all. tt)
tells laws s (permute k order) cells draft l =
    columns_tell (Told s (permute k order) cells draft) s Permute (k ∷ []) (check (is_permutation s.rows order) (NoPermutation Permute k) ∷ []) (λ j m. (refl, (l, m)))
    (λ all. (λ e. (refl, (l, all, refl, (λ o. false≢true (sym e ∙ permutation s.rows order o)))), λ e. tt))

refused_for : (laws : Laws) (s : Shape) (call : Call) (cells draft : List Record) (r : Refusal) → call_answer s call cells draft ≡ refused r → Told s call cells draft r
unfolding call_answer
refused_for laws s call cells draft r e =
    let P = Told s call cells draft in
    let new = new_column s call (cells_in s cells) in let rows = worked_rows s call in
    let list = limits (name call) (target call) new rows in
    told P (check (has_both s cells draft) (WrongLength (name call) (target call)) ∷ checks s call) (first_refusal list granted) r
    (λ f. (refl, (refl, (λ l. false≢true (sym f ∙ sized_both s cells draft l.0 l.1)))), λ f. tells laws s call cells draft (both_sized s cells draft f))
    (λ p. told P list granted r
    (limits_tell P (name call) (target call) new rows
    (all_worked laws (λ row. (bound : Bound) → BoundBeyond (new row) bound → P (past_limit (name call) (target call) row bound)) s call
    (λ row w bound b. (refl, (both_sized s cells draft p.0, named s call p.1, refl, w, b)))))
    (λ q (f : granted ≡ refused r). cc))
    e

-- ---- the other asks
legal_granted : (s : Shape) (cells draft : List Record) → Legal s → BothLong s cells draft → open_answer s cells draft ≡ granted
legal_granted s cells draft g l =
    let scale = and_from (int_le (pos 1) s.scale) (int_le s.scale (pos 100000)) (true_le_z (pos 1) s.scale g.scale.0) (true_le_z s.scale (pos 100000) g.scale.1) in
    let few = and_from (nat_le s.columns 64) (nat_le (s.rows * s.columns) 4096) (le-leb s.columns 64 g.few_columns) (le-leb (s.rows * s.columns) 4096 g.few_cells) in
    let some = and_from (nat_le 1 s.columns) (nat_le s.columns 64 && nat_le (s.rows * s.columns) 4096) (le-leb 1 s.columns g.some_columns) few in
    let rows = and_from (nat_le s.rows 1024) (nat_le 1 s.columns && (nat_le s.columns 64 && nat_le (s.rows * s.columns) 4096)) (le-leb s.rows 1024 g.few_rows) some in
    let size = and_from (nat_le 1 s.rows) (nat_le s.rows 1024 && (nat_le 1 s.columns && (nat_le s.columns 64 && nat_le (s.rows * s.columns) 4096))) (le-leb 1 s.rows g.some_rows) rows in
    passed_all (check (legal_scale s.scale) ScaleOutside ∷ (check (legal_size s.rows s.columns) ShapeOutside ∷ (check (has_both s cells draft) (WrongLength Open 0) ∷ []))) granted
    (scale, (size, (sized_both s cells draft l.0 l.1, tt)))

opened_lengths : (s : Shape) (cells draft : List Record) → open_answer s cells draft ≡ granted → BothLong s cells draft
opened_lengths s cells draft e =
    let p = all_passed (check (legal_scale s.scale) ScaleOutside ∷ (check (legal_size s.rows s.columns) ShapeOutside ∷ (check (has_both s cells draft) (WrongLength Open 0) ∷ []))) granted e in
    both_sized s cells draft p.0.1.1.0

not_broken : (a b : ℤ) → IsCell (bounds a b) → broken a b ≡ false
not_broken a b h =
    let low : false ≡ lt_z a lowest = omega (arith, ints) in
    let high : false ≡ lt_z highest b = omega (arith, ints) in
    let order : false ≡ lt_z b a = omega (arith, ints) in
    or_from (lt_z a lowest) (lt_z highest b || lt_z b a) (sym low) (or_from (lt_z highest b) (lt_z b a) (sym high) (sym order))

can_be_set : (s : Shape) (k i : ℕ) (lower upper : ℤ) (cells : List Record) → CanBeSet s k i lower upper cells → set_answer s k i lower upper cells ≡ granted
can_be_set s k i lower upper cells g =
    passed_all (check (has_cells s cells) (WrongLength Set k) ∷ (column_named s Set k ∷ (row_named s Set k i ∷ (check (not (broken lower upper)) (NoCell k) ∷ [])))) granted
    (sized_cells s cells g.lengths, (lt-ltb k s.columns g.column, (lt-ltb i s.rows g.row, (not_from_false (broken lower upper) (not_broken lower upper g.cell), tt))))

pub refusal_laws : Laws → RefusalLaws
refusal_laws laws = record {
  granted_exactly = λ s call cells draft. let new = new_column s call (cells_in s cells) in let rows = worked_rows s call in (
    λ e. let p = passes s call cells draft e in record {
      lengths = both_sized s cells draft p.memory;
      named = named s call p.checked;
      limited = λ row w. within (new row) (worked (λ row. BothFit (new row)) s call (limits_fit (name call) (target call) new rows p.limited) row w);
    },
    λ g. grants s call cells draft (record {
      memory = sized_both s cells draft g.lengths.0 g.lengths.1;
      checked = checked laws s call g.named;
      limited = fit_limits (name call) (target call) new rows (all_worked laws (λ row. BothFit (new row)) s call (λ row w. fits (new row) (g.limited row w)));
    }),
  );
  refused_for = refused_for laws;
  open_granted_exactly = λ s cells draft. (λ e. (opens_legal s cells draft e, opened_lengths s cells draft e), λ w. legal_granted s cells draft w.0 w.1);
  set_granted_exactly = λ s k i lower upper cells. (
    λ e. let g = set_granted s k i lower upper cells e in record { lengths = g.sized; column = g.column; row = g.row; cell = g.cell },
    can_be_set s k i lower upper cells,
  );
  begin_granted_exactly = λ s cells. (
    λ e. let p = all_passed (check (has_cells s cells) (WrongLength Begin 0) ∷ []) granted e in eqb-true (length cells) (s.rows * s.columns) p.0.0,
    begin_granted s cells,
  );
  close_granted_exactly = λ s call k cells draft. (
    λ e. let p = all_passed (check (has_both s cells draft) (WrongLength call k) ∷ []) granted e in both_sized s cells draft p.0.0,
    λ w. close_granted s call k cells draft w.0 w.1,
  );
}
