-- A call is refused for a bound beyond the limit exactly where its memory and its checks pass and this is the first such bound.
use Rattle.std.proofs.Common.{◌≡◌, ℕ, zero, suc, ◌<◌, Bool, true, false, cond, ◌↔◌, List, [], ◌∷◌, map, length, get_or, None, Option, sym, refl, ap, ◌∙◌, subst, arith}
use Rattle.std.proofs.lemmas.Bool.{false≢true, cond-true, cond-false}
use Rattle.arithmetic.specs.Values.{Value}
use Rattle.rounding.specs.declared.fault.Bound.{Bound}
use Rattle.rounding.specs.declared.fault.Bound.TheVariants.{Lower, Upper}
use Rattle.cells.specs.declared.cell.Record.{Record}
use Rattle.layouts.specs.Matrix.{Matrix}
use Rattle.layouts.specs.Orders.{rows_in_order}
use Rattle.sheet.specs.declared.refusal.CallName.{CallName}
use Rattle.sheet.specs.declared.refusal.Refusal.{Refusal}
use Rattle.sheet.specs.declared.refusal.Refusal.TheVariants.{WrongLength}
use Rattle.sheet.specs.declared.shape.Shape.{Shape}
use Rattle.sheet.specs.Answers.{call_answer, empties_draft}
use Rattle.sheet.specs.CallLaws.{Passed, BothFit, PastAt, FirstPast, StopsAt}
use Rattle.sheet.specs.Calls.{Call, dot, sum, blend, product, solve, join, copy, permute, name, target}
use Rattle.sheet.specs.Checks.{Check, check, Answer, granted, refused, first_refusal, divides, checks, worked_rows, lower_fits, upper_fits, past_limit, limits}
use Rattle.sheet.specs.Memory.{has_both, cells_in}
use Rattle.sheet.specs.NewColumns.{new_column}
use Rattle.sheet.specs.Refusals.{row_of, bound_of}
use Rattle.sheet.proofs.Checks.{passed_all}

-- ---- the looks at the limits
module _ (call : CallName) (k : ℕ) (new : ℕ → Value) where
  stops : (rows : List ℕ) (step row : ℕ) (bound : Bound) (then : Answer) → step < length rows → get_or rows step 0 ≡ row → ((q : ℕ) → q < step → BothFit (new (get_or rows q 0))) → PastAt (new row) bound
      → first_refusal (limits call k new rows) then ≡ refused (past_limit call k row bound)
  stops [] step row bound then h e f p = absurd (omega arith)
  stops (r ∷ rows) zero row Lower then h e f p =
      cond-false (lower_fits (new r)) _ _ (ap (λ i. lower_fits (new i)) e ∙ p) ∙ ap (λ i. refused (past_limit call k i Lower)) e
  stops (r ∷ rows) zero row Upper then h e f p =
      cond-true (lower_fits (new r)) _ _ (ap (λ i. lower_fits (new i)) e ∙ p.0)
      ∙ cond-false (upper_fits (new r)) _ _ (ap (λ i. upper_fits (new i)) e ∙ p.1)
      ∙ ap (λ i. refused (past_limit call k i Upper)) e
  stops (r ∷ rows) (suc step) row bound then h e f p =
      let here = f 0 (omega arith) in
      cond-true (lower_fits (new r)) _ _ here.0
      ∙ cond-true (upper_fits (new r)) _ _ here.1
      ∙ stops rows step row bound then (omega arith) e (λ q l. f (suc q) (omega arith)) p

  abbrev told_row : Answer → ℕ
  told_row granted = 0
  told_row (refused refusal) = row_of refusal

  abbrev told_bound : Answer → Option Bound
  told_bound granted = None
  told_bound (refused refusal) = bound_of refusal

  first : (r : ℕ) (rows : List ℕ) (row : ℕ) (bound bound' : Bound) → refused (past_limit call k r bound') ≡ refused (past_limit call k row bound) → PastAt (new r) bound' → FirstPast new (r ∷ rows) row bound
  first r rows row bound bound' e p =
      let same : bound' ≡ bound = let some = ap told_bound e in cc in
      record {
        step = 0;
        in_rows = omega arith;
        is = ap told_row e;
        fit = λ q l. absurd (omega arith);
        past = subst (PastAt (new row)) same (subst (λ i. PastAt (new i) bound') (ap told_row e) p);
      }

  later : (r : ℕ) (rows : List ℕ) (row : ℕ) (bound : Bound) → BothFit (new r) → FirstPast new rows row bound → FirstPast new (r ∷ rows) row bound
  later r rows row bound here f = record { step = suc f.step; in_rows = omega (arith, f.in_rows); is = f.is; fit = earlier; past = f.past }
    where
      earlier : (q : ℕ) → q < suc f.step → BothFit (new (get_or (r ∷ rows) q 0))
      earlier zero l = here
      earlier (suc q) l = f.fit q (omega arith)

  stopped : (rows : List ℕ) (row : ℕ) (bound : Bound) → first_refusal (limits call k new rows) granted ≡ refused (past_limit call k row bound) → FirstPast new rows row bound
  stopped [] row bound e = cc
  stopped (r ∷ rows) row bound e = go (lower_fits (new r)) (upper_fits (new r)) refl refl e (stopped rows row bound)
    where
      go : (t w : Bool) → lower_fits (new r) ≡ t → upper_fits (new r) ≡ w
          → cond t (cond w (first_refusal (limits call k new rows) granted) (refused (past_limit call k r Upper))) (refused (past_limit call k r Lower)) ≡ refused (past_limit call k row bound)
          → (first_refusal (limits call k new rows) granted ≡ refused (past_limit call k row bound) → FirstPast new rows row bound) → FirstPast new (r ∷ rows) row bound
      go false w x y e rest = first r rows row bound Lower e x
      go true false x y e rest = first r rows row bound Upper e (x, y)
      go true true x y e rest = later r rows row bound (x, y) (rest e)

-- ---- the checks before them refuse for other reasons, which leave the draft
abbrev pub Early : List Check → Type 0
Early [] = Unit {0}
Early (check passes refusal ∷ rest) = (empties_draft refusal ≡ false) × Early rest

divides_early : (k : ℕ) (m : Matrix) (rows : List ℕ) → Early (map (divides k m) rows)
divides_early k m [] = tt
divides_early k m (row ∷ rows) = (refl, divides_early k m rows)

pub checks_early : (s : Shape) (call : Call) → Early (checks s call)
checks_early s (dot k i x y alpha beta) = (refl, (refl, (refl, (refl, tt))))
checks_early s (sum k i x) = (refl, (refl, (refl, tt)))
checks_early s (blend k x alpha beta) = (refl, (refl, tt))
checks_early s (product k x l alpha beta) = (refl, (refl, (refl, tt)))
checks_early s (solve k side t alpha) = (refl, (refl, divides_early k t.matrix (rows_in_order side t.matrix.rows)))
checks_early s (join k x rule) = (refl, (refl, tt))
checks_early s (copy k x) = (refl, (refl, tt))
checks_early s (permute k order) = (refl, (refl, tt))

abbrev empties : Answer → Bool
empties granted = false
empties (refused refusal) = empties_draft refusal

-- a refusal that empties the draft comes after the checks
pub passed_early : (list : List Check) (then : Answer) (refusal : Refusal) → Early list → empties_draft refusal ≡ true → first_refusal list then ≡ refused refusal → Passed list × (then ≡ refused refusal)
passed_early [] then refusal l z e = (tt, e)
passed_early (check true refusal' ∷ rest) then refusal l z e = let p = passed_early rest then refusal l.1 z e in ((refl, p.0), p.1)
passed_early (check false refusal' ∷ rest) then refusal l z e = absurd (false≢true (sym l.0 ∙ ap empties e ∙ z))

-- ---- the call
pub first_past : (s : Shape) (call : Call) (cells draft : List Record) (row : ℕ) (bound : Bound) → (call_answer s call cells draft ≡ refused (past_limit (name call) (target call) row bound)) ↔ StopsAt s call cells draft row bound
unfolding call_answer
first_past s call cells draft row bound =
    let new = new_column s call (cells_in s cells) in let rows = worked_rows s call in
    let list = check (has_both s cells draft) (WrongLength (name call) (target call)) ∷ checks s call in
    let refusal = past_limit (name call) (target call) row bound in
    let then = first_refusal (limits (name call) (target call) new rows) granted in (
      λ e. let p = passed_early list then refusal (refl, checks_early s call) refl e in
          record { memory = p.0.0; checked = p.0.1; first = stopped (name call) (target call) new rows row bound p.1 },
      λ w. let f = w.first in passed_all list then (w.memory, w.checked) ∙ stops (name call) (target call) new rows f.step row bound granted f.in_rows f.is f.fit f.past,
    )
