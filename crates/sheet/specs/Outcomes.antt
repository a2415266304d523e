-- What the calls of the code answer and leave, in the words of the model: their contracts.
use Rattle.std.specs.Prelude.{◌≡◌, ℕ, Bool, true, cond, List, [], ℤ, Ok, Err, Result, IfOk, ◌<◌}
use Rattle.cells.specs.declared.cell.Record.{Record}
use Rattle.layouts.specs.Matrix.{Matrix, Sound}
use Rattle.sheet.specs.declared.refusal.Refusal.{Refusal}
use Rattle.sheet.specs.declared.shape.Shape.{Shape}
use Rattle.sheet.specs.declared.states.Drafted.{Drafted}
use Rattle.sheet.specs.declared.states.Filling.{Filling}
use Rattle.sheet.specs.declared.states.NotBegun.{NotBegun}
use Rattle.sheet.specs.declared.states.Refused.{Refused}
use Rattle.sheet.specs.declared.states.StillDrafted.{StillDrafted}
use Rattle.sheet.specs.declared.states.Working.{Working}
use Rattle.sheet.specs.Answers.{Stage, filling, working, drafted, Ask, setting, beginning, calling, posting, withdrawing, open_answer, set_answer, call_answer, answer, stage_after, cells_after, draft_after, cells_opened, draft_opened}
use Rattle.sheet.specs.Calls.{Meaning, Call, target}
use Rattle.sheet.specs.Checks.{Answer, granted, refused}
use Rattle.sheet.specs.Memory.{has_both}

-- an answer, and the stage and the shape of the sheet that is handed on or handed back with it
pub record Outcome : Type 0 where
  pub answer : Answer
  pub stage : Stage
  pub shape : Shape

-- what the model says of an ask
abbrev pub outcome : Shape → Stage → Ask → (cells draft : List Record) → Outcome
outcome s stage ask cells draft = record { answer = answer s stage ask cells draft; stage = stage_after stage ask (answer s stage ask cells draft); shape = s }

-- a draft that is spent stands no longer
abbrev pub stage_of : Drafted → Stage
stage_of d = cond d.spent working (drafted d.column)

-- ---- what was answered

abbrev pub answer_of : Result (Unit {0}) Refusal → Answer
answer_of (Ok u) = granted
answer_of (Err r) = refused r

-- an open that is refused hands no sheet on
abbrev pub answered_open : Result Filling Refusal → Result Shape Refusal
answered_open (Ok f) = Ok f.shape
answered_open (Err r) = Err r

abbrev pub shape_or : Shape → Answer → Result Shape Refusal
shape_or s granted = Ok s
shape_or s (refused r) = Err r

abbrev pub answered_begin : Result Working NotBegun → Outcome
answered_begin (Ok w) = record { answer = granted; stage = working; shape = w.shape }
answered_begin (Err e) = record { answer = refused e.refusal; stage = filling; shape = e.sheet.shape }

abbrev pub answered_call : Result Drafted Refused → Outcome
answered_call (Ok d) = record { answer = granted; stage = stage_of d; shape = d.shape }
answered_call (Err e) = record { answer = refused e.refusal; stage = working; shape = e.sheet.shape }

-- a sheet that is handed back is drafted as it was; its flag is told apart, by `StillStands`
abbrev pub answered_close : Result Working StillDrafted → Outcome
answered_close (Ok w) = record { answer = granted; stage = working; shape = w.shape }
answered_close (Err e) = record { answer = refused e.refusal; stage = drafted e.sheet.column; shape = e.sheet.shape }

abbrev pub StillStands : Bool → Result Working StillDrafted → Type 0
StillStands spent (Ok w) = Unit {0}
StillStands spent (Err e) = e.sheet.spent ≡ spent

-- ---- the whole of what each call answers and leaves: the contracts of the code. That a call is granted says besides that what it leaves
-- is memory of the right size for the next one, so that a caller need not open the equations for it

-- Filling::open, supplied the cells and the draft, which it leaves as cells' and draft'
pub record Opens (s : Shape) (cells draft : List Record) (result : Result Filling Refusal) (cells' draft' : List Record) : Type 0 where
  pub answers : answered_open result ≡ shape_or s (open_answer s cells draft)
  pub leaves_cells : cells' ≡ cells_opened s cells (open_answer s cells draft)
  pub leaves_draft : draft' ≡ draft_opened s draft (open_answer s cells draft)
  pub right_size : IfOk result (λ f. has_both s cells' draft' ≡ true)

-- Filling::set, supplied the cells
pub record Sets (s : Shape) (k row : ℕ) (lower upper : ℤ) (cells : List Record) (result : Result (Unit {0}) Refusal) (cells' : List Record) : Type 0 where
  pub answers : answer_of result ≡ set_answer s k row lower upper cells
  pub leaves_cells : cells' ≡ cells_after s filling (setting k row lower upper) cells [] (set_answer s k row lower upper cells)

-- Filling::begin, supplied the cells, of which it writes none
pub record Begins (s : Shape) (cells : List Record) (result : Result Working NotBegun) : Type 0 where
  pub answers : answered_begin result ≡ outcome s filling beginning cells []

-- each of the calls of Working, supplied the cells, of which it writes none, and the draft
pub record Calls (s : Shape) (call : Call) (cells draft : List Record) (result : Result Drafted Refused) (draft' : List Record) : Type 0 where
  pub answers : answered_call result ≡ outcome s working (calling call) cells draft
  pub leaves_draft : draft' ≡ draft_after s (calling call) cells draft (call_answer s call cells draft)
  pub right_size : IfOk result (λ d. has_both s cells draft' ≡ true)

-- the same before there is a state for it
pub record Drafts (s : Shape) (call : Call) (cells draft : List Record) (result : Result (Unit {0}) Refusal) (draft' : List Record) : Type 0 where
  pub answers : answer_of result ≡ call_answer s call cells draft
  pub leaves_draft : draft' ≡ draft_after s (calling call) cells draft (call_answer s call cells draft)
  pub aims : IfOk result (λ u. target call < s.columns)
  pub right_size : IfOk result (λ u. has_both s cells draft' ≡ true)

-- of a call over a layout: what the layout means is sound, and is the operand of the call
pub record CallsOver (s : Shape) (m : Matrix) (call : Meaning → Call) (cells draft : List Record) (result : Result Drafted Refused) (draft' : List Record) : Type 0 where
  pub sound : Sound m
  pub calls : Calls s (call (record { matrix = m; sound = sound })) cells draft result draft'

pub record DraftsOver (s : Shape) (m : Matrix) (call : Meaning → Call) (cells draft : List Record) (result : Result (Unit {0}) Refusal) (draft' : List Record) : Type 0 where
  pub sound : Sound m
  pub drafts : Drafts s (call (record { matrix = m; sound = sound })) cells draft result draft'

-- Drafted::post of a draft for column k, supplied both; one that is refused is handed back with its draft standing
pub record Posts (s : Shape) (k : ℕ) (cells draft : List Record) (result : Result Working StillDrafted) (cells' draft' : List Record) : Type 0 where
  pub answers : answered_close result ≡ outcome s (drafted k) posting cells draft
  pub leaves_cells : cells' ≡ cells_after s (drafted k) posting cells draft (answer s (drafted k) posting cells draft)
  pub leaves_draft : draft' ≡ draft_after s posting cells draft (answer s (drafted k) posting cells draft)
  pub right_size : IfOk result (λ w. has_both s cells' draft' ≡ true)

-- Drafted::withdraw, supplied both, of which it writes the draft
pub record Withdraws (s : Shape) (k : ℕ) (cells draft : List Record) (result : Result Working StillDrafted) (draft' : List Record) : Type 0 where
  pub answers : answered_close result ≡ outcome s (drafted k) withdrawing cells draft
  pub leaves_draft : draft' ≡ draft_after s withdrawing cells draft (answer s (drafted k) withdrawing cells draft)
  pub right_size : IfOk result (λ w. has_both s cells draft' ≡ true)
