-- What a call answers, opened: for the code, whose exits are its checks one by one.
use Rattle.std.specs.Prelude.{◌≡◌, ◌≢◌, ℕ, ◌<◌, Bool, true, false, cond, List, [], ◌∷◌, ℤ, Ok, Err, Result, length, get_or, slice_set, ◌==◌, refl}
use Rattle.std.proofs.Common.{subst, ◌∙◌, ⊎_elim, arith}
use Rattle.std.proofs.lemmas.Bool.{cases_eq, eq-eqb, ne_eqb}
use Rattle.std.proofs.lemmas.List.{length-set, get_or-set_same, get_or-set_other}
use Rattle.std.proofs.lemmas.List.FromFn.{fill_by_all, length-map-range_with_len, get_or-map-range_with_len}
use Rattle.arithmetic.specs.Values.{Value, empty, bounds}
use Rattle.rounding.specs.declared.fault.RoundingFault.{RoundingFault}
use Rattle.rounding.specs.Outward.{beyond}
use Rattle.cells.specs.declared.cell.Record.{Record}
use Rattle.cells.specs.Cells.{blank, written}
use Rattle.cells.specs.Faults.{kept}
use Rattle.sheet.specs.declared.refusal.Refusal.{Refusal}
use Rattle.sheet.specs.declared.refusal.Refusal.TheVariants.{WrongLength, BeyondLimit}
use Rattle.sheet.specs.declared.refusal.CallName.{CallName}
use Rattle.sheet.specs.declared.shape.Shape.{Shape}
use Rattle.sheet.specs.declared.refusal.SheetFault.{SheetFault}
use Rattle.sheet.specs.Answers.{check_answer, call_answer}
use Rattle.sheet.specs.Faults.{in_call}
use Rattle.sheet.specs.Calls.{Call, name, target}
use Rattle.sheet.specs.Checks.{Answer, Check, check, granted, refused, first_refusal, checks, worked_rows, limits}
use Rattle.sheet.specs.Memory.{has_both, cells_in, written_rows}
use Rattle.sheet.specs.NewColumns.{new_column}
use Rattle.sheet.specs.WorkingRows.{first_fault}

pub answer_opened : (s : Shape) (call : Call) (cells draft : List Record) → call_answer s call cells draft
    ≡ first_refusal (check (has_both s cells draft) (WrongLength (name call) (target call)) ∷ checks s call)
    (first_refusal (limits (name call) (target call) (new_column s call (cells_in s cells)) (worked_rows s call)) granted)
unfolding call_answer
answer_opened s call cells draft = refl

-- a check that refuses decides, whatever comes after; where all pass, what comes after does
abbrev Decides : List Check → Answer → Type 0
Decides cs granted = (after : Answer) → first_refusal cs after ≡ after
Decides cs (refused r) = (after : Answer) → first_refusal cs after ≡ refused r

decides : (cs : List Check) → Decides cs (first_refusal cs granted)
decides [] = λ after. refl
decides (check true r ∷ cs) = decides cs
decides (check false r ∷ cs) = λ after. refl

module _ (s : Shape) (call : Call) (cells draft : List Record) where
  abbrev all : List Check
  all = check (has_both s cells draft) (WrongLength (name call) (target call)) ∷ checks s call

  abbrev last : Answer
  last = first_refusal (limits (name call) (target call) (new_column s call (cells_in s cells)) (worked_rows s call)) granted

  pub answer_stopped : (r : Refusal) → check_answer s call cells draft ≡ refused r → call_answer s call cells draft ≡ refused r
  unfolding call_answer
  answer_stopped r e = subst (Decides all) e (decides all) last

  pub answer_passed : check_answer s call cells draft ≡ granted → call_answer s call cells draft ≡ last
  unfolding call_answer
  answer_passed e = subst (Decides all) e (decides all) last

-- the answer to a fault
abbrev pub fault_answer : Result (Unit {0}) SheetFault → Answer
fault_answer (Ok u) = granted
fault_answer (Err f) = refused (BeyondLimit f)

-- rows are refused exactly if one of their cells is not kept, and then with the fault of the first
pub limits_fault : (call : CallName) (k : ℕ) (new : ℕ → Value) (rows : List ℕ) → first_refusal (limits call k new rows) granted ≡ fault_answer (in_call call k (first_fault new rows))
limits_fault call k new [] = refl
limits_fault call k new (row ∷ rows) = go (new row) refl (limits_fault call k new rows)
  where
    Same : List ℕ → Type 0
    Same is = first_refusal (limits call k new is) granted ≡ fault_answer (in_call call k (first_fault new is))

    by : (a b : ℤ) (p q : Bool) → beyond a ≡ p → beyond b ≡ q → new row ≡ bounds a b → Same rows → Same (row ∷ rows)
    by a b true q e f w rest = rw (w, e) refl
    by a b false true e f w rest = rw (w, e, f) refl
    by a b false false e f w rest = rw (w, e, f) rest

    go : (v : Value) → new row ≡ v → Same rows → Same (row ∷ rows)
    go empty w rest = rw w rest
    go (bounds a b) w rest = by a b (beyond a) (beyond b) refl refl w rest

-- what is kept is the record that is written for the value
abbrev IsWritten : Value → Result Record RoundingFault → Type 0
IsWritten v (Ok r) = r ≡ written v
IsWritten v (Err f) = Unit {0}

pub kept_written : (v : Value) (r : Record) → kept v ≡ Ok r → r ≡ written v
kept_written v r e = subst (IsWritten v) e (is v)
  where
    by : (a b : ℤ) (p q : Bool) → beyond a ≡ p → beyond b ≡ q → IsWritten (bounds a b) (kept (bounds a b))
    by a b true q x y = rw x tt
    by a b false true x y = rw (x, y) tt
    by a b false false x y = rw (x, y) refl

    is : (v : Value) → IsWritten v (kept v)
    is empty = refl
    is (bounds a b) = by a b (beyond a) (beyond b) refl refl

-- one row of a column written anew
pub one_written : (n i : ℕ) (old : ℕ → Value) (v : Value) → slice_set (written_rows n old) i (written v) ≡ written_rows n (λ row. cond (row == i) v (old row))
one_written n i old v =
    fill_by_all (λ row. written (cond (row == i) v (old row))) (slice_set (written_rows n old) i (written v)) n blank (length-set (written_rows n old) i (written v) ∙ size)
    (λ k h. ⊎_elim (λ (e : k ≡ i). here k h e) (λ (e : k ≢ i). there k h e) (cases_eq k i))
  where
    size : length (written_rows n old) ≡ n
    size = length-map-range_with_len (λ row. written (old row)) 0 n

    here : (k : ℕ) → k < n → k ≡ i → get_or (slice_set (written_rows n old) i (written v)) k blank ≡ written (cond (k == i) v (old k))
    here k h e = rw (eq-eqb k i e, e) (get_or-set_same (written_rows n old) i (written v) blank (omega (arith, h, e, size)))

    there : (k : ℕ) → k < n → k ≢ i → get_or (slice_set (written_rows n old) i (written v)) k blank ≡ written (cond (k == i) v (old k))
    there k h e = rw (ne_eqb k i e) (get_or-set_other (written_rows n old) i k (written v) blank e ∙ get_or-map-range_with_len (λ row. written (old row)) 0 n k k blank h (omega arith))
