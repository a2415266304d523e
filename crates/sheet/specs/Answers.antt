-- What a sheet answers to what is asked of it, and what each answer leaves of its stage, its cells and its draft.
use Rattle.std.specs.Prelude.{◌==◌, ℕ, ◌+◌, ◌*◌, Bool, cond, not, List, [], ◌∷◌, ℤ, slice_set}
use Rattle.arithmetic.specs.Values.{bounds}
use Rattle.cells.specs.declared.cell.Record.{Record}
use Rattle.cells.specs.Cells.{broken, written}
use Rattle.sheet.specs.declared.refusal.CallName.{CallName}
use Rattle.sheet.specs.declared.refusal.CallName.TheVariants.{Open, Set, Begin, Post, Withdraw}
use Rattle.sheet.specs.declared.refusal.Refusal.{Refusal}
use Rattle.sheet.specs.declared.refusal.Refusal.TheVariants.{ScaleOutside, ShapeOutside, WrongLength, NoCell}
use Rattle.sheet.specs.declared.shape.Shape.{Shape}
use Rattle.sheet.specs.Calls.{Call, name, target}
use Rattle.sheet.specs.Checks.{check, Answer, granted, refused, first_refusal, column_named, row_named, checks, worked_rows, limits}
use Rattle.sheet.specs.Memory.{has_cells, has_both, cells_in, blanks, written_rows, with_column}
use Rattle.sheet.specs.NewColumns.{new_column}
use Rattle.sheet.specs.Refusals.{number}
use Rattle.sheet.specs.Shapes.{legal_scale, legal_size}

-- the three states of a sheet: filled with set, working, and drafted for a column
pub data Stage : Type 0 where
  filling : Stage
  working : Stage
  drafted : (k : ℕ) → Stage

-- what is asked of a sheet that is open. Questions are no asks: they change nothing, and no promise speaks of them
pub data Ask : Type 0 where
  setting : (k i : ℕ) (lower upper : ℤ) → Ask
  beginning : Ask
  calling : Call → Ask
  posting : Ask
  withdrawing : Ask

-- which stage takes what; what it does not take does not compile
pub data Takes : Stage → Ask → Type 0 where
  sets : {k i : ℕ} {lower upper : ℤ} → Takes filling (setting k i lower upper)
  begins : Takes filling beginning
  calls : {call : Call} → Takes working (calling call)
  posts : {k : ℕ} → Takes (drafted k) posting
  withdraws : {k : ℕ} → Takes (drafted k) withdrawing

-- the column that a draft stands for
abbrev pub drafted_for : Stage → ℕ
drafted_for filling = 0
drafted_for working = 0
drafted_for (drafted k) = k

-- ---- answers. What is supplied with open, a call, post and withdraw are the cells and the draft; with set and begin, the cells

abbrev pub open_answer : Shape → (cells draft : List Record) → Answer
open_answer s cells draft = first_refusal
    (check (legal_scale s.scale) ScaleOutside
    ∷ (check (legal_size s.rows s.columns) ShapeOutside
    ∷ (check (has_both s cells draft) (WrongLength Open 0) ∷ []))) granted

abbrev pub set_answer : Shape → (k i : ℕ) (lower upper : ℤ) (cells : List Record) → Answer
set_answer s k i lower upper cells = first_refusal
    (check (has_cells s cells) (WrongLength Set k)
    ∷ (column_named s Set k
    ∷ (row_named s Set k i
    ∷ (check (not (broken lower upper)) (NoCell k) ∷ [])))) granted

abbrev pub begin_answer : Shape → (cells : List Record) → Answer
begin_answer s cells = first_refusal (check (has_cells s cells) (WrongLength Begin 0) ∷ []) granted

-- before any cell is worked out
abbrev pub check_answer : Shape → Call → (cells draft : List Record) → Answer
check_answer s call cells draft = first_refusal (check (has_both s cells draft) (WrongLength (name call) (target call)) ∷ checks s call) granted

-- the new cells are looked at last
unfoldable pub call_answer : Shape → Call → (cells draft : List Record) → Answer
call_answer s call cells draft =
    first_refusal (check (has_both s cells draft) (WrongLength (name call) (target call)) ∷ checks s call)
    (first_refusal (limits (name call) (target call) (new_column s call (cells_in s cells)) (worked_rows s call)) granted)

abbrev pub close_answer : Shape → CallName → (k : ℕ) (cells draft : List Record) → Answer
close_answer s call k cells draft = first_refusal (check (has_both s cells draft) (WrongLength call k) ∷ []) granted

abbrev pub answer : Shape → Stage → Ask → (cells draft : List Record) → Answer
answer s stage (setting k i lower upper) cells draft = set_answer s k i lower upper cells
answer s stage beginning cells draft = begin_answer s cells
answer s stage (calling call) cells draft = call_answer s call cells draft
answer s stage posting cells draft = close_answer s Post (drafted_for stage) cells draft
answer s stage withdrawing cells draft = close_answer s Withdraw (drafted_for stage) cells draft

-- ---- what an answer leaves

abbrev pub stage_after : Stage → Ask → Answer → Stage
stage_after stage ask (refused refusal) = stage
stage_after stage (setting k i lower upper) granted = stage
stage_after stage beginning granted = working
stage_after stage (calling call) granted = drafted (target call)
stage_after stage posting granted = working
stage_after stage withdrawing granted = working

abbrev pub cells_after : Shape → Stage → Ask → (cells draft : List Record) → Answer → List Record
cells_after s stage ask cells draft (refused refusal) = cells
cells_after s stage (setting k i lower upper) cells draft granted = slice_set cells (k * s.rows + i) (written (bounds lower upper))
cells_after s stage beginning cells draft granted = cells
cells_after s stage (calling call) cells draft granted = cells
cells_after s stage posting cells draft granted = with_column s (drafted_for stage) cells draft
cells_after s stage withdrawing cells draft granted = cells

-- only the refusal for a bound beyond the limit empties the draft
abbrev pub empties_draft : Refusal → Bool
empties_draft refusal = number refusal == 10

abbrev pub draft_after : Shape → Ask → (cells draft : List Record) → Answer → List Record
draft_after s ask cells draft (refused refusal) = cond (empties_draft refusal) (blanks s.rows) draft
draft_after s (setting k i lower upper) cells draft granted = draft
draft_after s beginning cells draft granted = draft
draft_after s (calling call) cells draft granted = written_rows s.rows (new_column s call (cells_in s cells))
draft_after s posting cells draft granted = blanks s.rows
draft_after s withdrawing cells draft granted = blanks s.rows

-- ---- the memory that open leaves

abbrev pub cells_opened : Shape → (cells : List Record) → Answer → List Record
cells_opened s cells (refused refusal) = cells
cells_opened s cells granted = blanks (s.rows * s.columns)

abbrev pub draft_opened : Shape → (draft : List Record) → Answer → List Record
draft_opened s draft (refused refusal) = draft
draft_opened s draft granted = blanks s.rows
