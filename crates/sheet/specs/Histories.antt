-- How the calls of the code carry runs on: whatever history led to the memory that a call was supplied, it goes on with what the call
-- answers and leaves. And what is refused over other memory leaves the run where it was.
use Rattle.std.specs.Prelude.{◌≡◌, ℕ, false, List, [], ◌∷◌, ℤ, Result, IfOk}
use Rattle.cells.specs.declared.cell.Record.{Record}
use Rattle.sheet.specs.declared.refusal.Refusal.{Refusal}
use Rattle.sheet.specs.declared.shape.Shape.{Shape}
use Rattle.sheet.specs.declared.states.Drafted.{Drafted}
use Rattle.sheet.specs.declared.states.Filling.{Filling}
use Rattle.sheet.specs.declared.states.NotBegun.{NotBegun}
use Rattle.sheet.specs.declared.states.Refused.{Refused}
use Rattle.sheet.specs.declared.states.StillDrafted.{StillDrafted}
use Rattle.sheet.specs.declared.states.Working.{Working}
use Rattle.sheet.specs.Answers.{Stage, filling, working, drafted, Ask, setting, beginning, calling, posting, withdrawing, empties_draft}
use Rattle.sheet.specs.Calls.{Call}
use Rattle.sheet.specs.Checks.{Answer, refused}
use Rattle.sheet.specs.Outcomes.{Outcome, answer_of, answered_begin, answered_call, answered_close, Opens, Sets, Begins, Calls, Posts, Withdraws}
use Rattle.sheet.specs.Runs.{Event, told, Ran}

-- a run goes on with an ask over the memory that it holds, to the outcome and to the memory that is left
abbrev pub GoesOnTo : (s : Shape) (h : List Event) → Stage → Ask → (cells draft : List Record) → Outcome → (cells' draft' : List Record) → Type 0
GoesOnTo s h stage ask cells draft o cells' draft' = Ran s h stage cells draft → Ran o.shape (told ask cells draft o.answer ∷ h) o.stage cells' draft'

-- a run stays where it was, with the refused ask added, and so does the other memory that was supplied
abbrev pub StaysAsItWas : (s : Shape) → Stage → Ask → (others other_draft : List Record) → Answer → (others' other_draft' : List Record) → Type 0
StaysAsItWas s stage ask others other_draft a others' other_draft' = (refusal : Refusal) → a ≡ refused refusal → empties_draft refusal ≡ false
    → (others' ≡ others) × (other_draft' ≡ other_draft) × ((h : List Event) (cells draft : List Record) → Ran s h stage cells draft → Ran s (told ask others other_draft (refused refusal) ∷ h) stage cells draft)

-- set is answered while the sheet is filled, and the sheet stays so
abbrev pub setting_outcome : Shape → Answer → Outcome
setting_outcome s a = record { answer = a; stage = filling; shape = s }

pub record Histories : Type 0 where
  -- an open that is granted begins a run
  pub open_begins : (s : Shape) (cells draft : List Record) (result : Result Filling Refusal) (cells' draft' : List Record) → Opens s cells draft result cells' draft' → IfOk result (λ f. Ran f.shape [] filling cells' draft')
  pub set_goes_on : (s : Shape) (k row : ℕ) (lower upper : ℤ) (cells : List Record) (result : Result (Unit {0}) Refusal) (cells' : List Record) → Sets s k row lower upper cells result cells'
      → (h : List Event) (draft : List Record) → GoesOnTo s h filling (setting k row lower upper) cells draft (setting_outcome s (answer_of result)) cells' draft
  pub begin_goes_on : (s : Shape) (cells : List Record) (result : Result Working NotBegun) → Begins s cells result
      → (h : List Event) (draft : List Record) → GoesOnTo s h filling beginning cells draft (answered_begin result) cells draft
  pub call_goes_on : (s : Shape) (call : Call) (cells draft : List Record) (result : Result Drafted Refused) (draft' : List Record) → Calls s call cells draft result draft'
      → (h : List Event) → GoesOnTo s h working (calling call) cells draft (answered_call result) cells draft'
  pub post_goes_on : (s : Shape) (k : ℕ) (cells draft : List Record) (result : Result Working StillDrafted) (cells' draft' : List Record) → Posts s k cells draft result cells' draft'
      → (h : List Event) → GoesOnTo s h (drafted k) posting cells draft (answered_close result) cells' draft'
  pub withdraw_goes_on : (s : Shape) (k : ℕ) (cells draft : List Record) (result : Result Working StillDrafted) (draft' : List Record) → Withdraws s k cells draft result draft'
      → (h : List Event) → GoesOnTo s h (drafted k) withdrawing cells draft (answered_close result) cells draft'
  -- over other memory
  pub set_aside : (s : Shape) (k row : ℕ) (lower upper : ℤ) (others : List Record) (result : Result (Unit {0}) Refusal) (others' : List Record) → Sets s k row lower upper others result others'
      → (draft : List Record) → StaysAsItWas s filling (setting k row lower upper) others draft (answer_of result) others' draft
  pub begin_aside : (s : Shape) (others : List Record) (result : Result Working NotBegun) → Begins s others result
      → (draft : List Record) → StaysAsItWas s filling beginning others draft (answered_begin result).answer others draft
  pub call_aside : (s : Shape) (call : Call) (others other_draft : List Record) (result : Result Drafted Refused) (other_draft' : List Record) → Calls s call others other_draft result other_draft'
      → StaysAsItWas s working (calling call) others other_draft (answered_call result).answer others other_draft'
  pub post_aside : (s : Shape) (k : ℕ) (others other_draft : List Record) (result : Result Working StillDrafted) (others' other_draft' : List Record) → Posts s k others other_draft result others' other_draft'
      → StaysAsItWas s (drafted k) posting others other_draft (answered_close result).answer others' other_draft'
  pub withdraw_aside : (s : Shape) (k : ℕ) (others other_draft : List Record) (result : Result Working StillDrafted) (other_draft' : List Record) → Withdraws s k others other_draft result other_draft'
      → StaysAsItWas s (drafted k) withdrawing others other_draft (answered_close result).answer others other_draft'
