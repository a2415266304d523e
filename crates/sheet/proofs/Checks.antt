-- A call is granted exactly where its memory is that of the shape, each of its checks passes, and no bound of a cell that it works
-- out is beyond the limit.
use Rattle.std.proofs.Common.{◌≡◌, ℕ, true, false, not, List, [], ◌∷◌, map, All, ℤ, ◌≤ℤ◌, sym, refl, ◌∙◌}
use borrow.Author.Differences.{ints}
use Rattle.std.proofs.Common.{arith}
use lib.Signed.{lt_z}
use Rattle.std.proofs.lemmas.Bool.{or_parts, or_from, not-true, not_from_false}
use Rattle.std.proofs.lemmas.List.Elements.{All-nil, All-cons, All-head, All-tail}
use Rattle.arithmetic.specs.Values.{Value, empty, bounds, Ordered, Nested}
use Rattle.rounding.specs.Limit.{lowest, highest}
use Rattle.rounding.specs.Outward.{beyond}
use Rattle.cells.specs.declared.cell.Record.{Record}
use Rattle.cells.specs.Cells.{IsCell}
use Rattle.cells.specs.Quotients.{zero_in}
use Rattle.layouts.specs.Matrix.{Matrix}
use Rattle.sheet.specs.CallLaws.{Passed, BothFit}
use Rattle.sheet.specs.declared.refusal.CallName.{CallName}
use Rattle.sheet.specs.declared.refusal.Refusal.TheVariants.{WrongLength}
use Rattle.sheet.specs.declared.shape.Shape.{Shape}
use Rattle.sheet.specs.Answers.{call_answer}
use Rattle.sheet.specs.Calls.{Call, name, target}
use Rattle.sheet.specs.Checks.{Check, check, Answer, granted, first_refusal, divides, checks, worked_rows, limits}
use Rattle.sheet.specs.Memory.{has_both, cells_in}
use Rattle.sheet.specs.NewColumns.{new_column}

-- ---- any list of checks
pub all_passed : (list : List Check) (then : Answer) → first_refusal list then ≡ granted → Passed list × (then ≡ granted)
all_passed [] then e = (tt, e)
all_passed (check true refusal ∷ rest) then e = let p = all_passed rest then e in ((refl, p.0), p.1)
all_passed (check false refusal ∷ rest) then e = cc

pub passed_all : (list : List Check) (then : Answer) → Passed list → first_refusal list then ≡ then
passed_all [] then p = refl
passed_all (check true refusal ∷ rest) then p = passed_all rest then p.1
passed_all (check false refusal ∷ rest) then p = cc

-- ---- the checks of a call
pub record Passes (s : Shape) (call : Call) (cells draft : List Record) : Type 0 where
  pub memory : has_both s cells draft ≡ true
  pub checked : Passed (checks s call)
  pub limited : Passed (limits (name call) (target call) (new_column s call (cells_in s cells)) (worked_rows s call))

pub passes : (s : Shape) (call : Call) (cells draft : List Record) → call_answer s call cells draft ≡ granted → Passes s call cells draft
unfolding call_answer
passes s call cells draft e =
    let p = all_passed (check (has_both s cells draft) (WrongLength (name call) (target call)) ∷ checks s call) _ e in
    let q = all_passed (limits (name call) (target call) (new_column s call (cells_in s cells)) (worked_rows s call)) granted p.1 in
    record { memory = p.0.0; checked = p.0.1; limited = q.0 }

pub grants : (s : Shape) (call : Call) (cells draft : List Record) → Passes s call cells draft → call_answer s call cells draft ≡ granted
unfolding call_answer
grants s call cells draft p =
    passed_all (check (has_both s cells draft) (WrongLength (name call) (target call)) ∷ checks s call) _ (p.memory, p.checked)
    ∙ passed_all (limits (name call) (target call) (new_column s call (cells_in s cells)) (worked_rows s call)) granted p.limited

-- ---- the limit of a bound
pub limits_fit : (call : CallName) (k : ℕ) (new : ℕ → Value) (rows : List ℕ) → Passed (limits call k new rows) → All (λ row. BothFit (new row)) rows
limits_fit call k new [] p = All-nil (λ row. BothFit (new row))
limits_fit call k new (row ∷ rows) p = All-cons (λ row. BothFit (new row)) row rows (p.0, p.1.0) (limits_fit call k new rows p.1.1)

pub fit_limits : (call : CallName) (k : ℕ) (new : ℕ → Value) (rows : List ℕ) → All (λ row. BothFit (new row)) rows → Passed (limits call k new rows)
fit_limits call k new [] f = tt
fit_limits call k new (row ∷ rows) f =
    let here = All-head (λ row. BothFit (new row)) row rows f in (here.0, (here.1, fit_limits call k new rows (All-tail (λ row. BothFit (new row)) row rows f)))

within_limit : (a : ℤ) → not (beyond a) ≡ true → (lowest ≤ℤ a) × (a ≤ℤ highest)
within_limit a e = let p = or_parts (lt_z a lowest) (lt_z highest a) (not-true (beyond a) e) in (omega (arith, ints, p.0), omega (arith, ints, p.1))

limit_within : (a : ℤ) → lowest ≤ℤ a → a ≤ℤ highest → not (beyond a) ≡ true
limit_within a h k =
    let low : false ≡ lt_z a lowest = omega (arith, ints) in
    let high : false ≡ lt_z highest a = omega (arith, ints) in
    not_from_false (beyond a) (or_from (lt_z a lowest) (lt_z highest a) (sym low) (sym high))

pub fits_cell : (c : Value) → Ordered c → BothFit c → IsCell c
fits_cell empty o f = tt
fits_cell (bounds a b) o f = ((within_limit a f.0).0, o, (within_limit b f.1).1)

pub cell_fits : (c : Value) → IsCell c → BothFit c
cell_fits empty h = (refl, refl)
cell_fits (bounds a b) h = (limit_within a h.0 (omega (arith, ints)), limit_within b (omega (arith, ints)) h.2)

pub cell_ordered : (c : Value) → IsCell c → Ordered c
cell_ordered empty h = tt
cell_ordered (bounds a b) h = h.1

-- inside a cell is a cell
pub nested_cell : (c d : Value) → Ordered c → Nested c d → IsCell d → IsCell c
nested_cell empty d o n h = tt
nested_cell (bounds a b) empty o n h = absurd n
nested_cell (bounds a b) (bounds c d) o n h = (omega (arith, ints), o, omega (arith, ints))

-- ---- the diagonal of a solve
pub divides_all : (k : ℕ) (m : Matrix) (rows : List ℕ) → Passed (map (divides k m) rows) → All (λ i. zero_in (m.entry i i) ≡ false) rows
divides_all k m [] p = All-nil (λ i. zero_in (m.entry i i) ≡ false)
divides_all k m (row ∷ rows) p = All-cons (λ i. zero_in (m.entry i i) ≡ false) row rows (not-true (zero_in (m.entry row row)) p.0) (divides_all k m rows p.1)

pub all_divides : (k : ℕ) (m : Matrix) (rows : List ℕ) → All (λ i. zero_in (m.entry i i) ≡ false) rows → Passed (map (divides k m) rows)
all_divides k m [] f = tt
all_divides k m (row ∷ rows) f =
    (not_from_false (zero_in (m.entry row row)) (All-head (λ i. zero_in (m.entry i i) ≡ false) row rows f), all_divides k m rows (All-tail (λ i. zero_in (m.entry i i) ≡ false) row rows f))
