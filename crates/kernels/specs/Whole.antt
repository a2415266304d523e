-- A whole call as C makes it: a sheet is opened over cells of its own, and the call is supplied others, which its column is posted to.
use Rattle.std.specs.Prelude.{◌≡◌, ℕ, Bool, true, false, List, Option, Some, None}
use Rattle.rounding.specs.declared.fault.Bound.{Bound}
use Rattle.rounding.specs.declared.fault.Bound.TheVariants.{Lower, Upper}
use Rattle.cells.specs.declared.cell.Record.{Record}
use Rattle.layouts.specs.declared.side.Side.{Side}
use Rattle.layouts.specs.Matrix.{Matrix, Sound}
use Rattle.sheet.specs.declared.shape.Shape.{Shape}
use Rattle.sheet.specs.Answers.{open_answer, call_answer, calling, draft_after, cells_opened, draft_opened}
use Rattle.sheet.specs.Calls.{Meaning, Call, dot, product, solve, target}
use Rattle.sheet.specs.Checks.{Answer, granted, refused}
use Rattle.sheet.specs.Memory.{blanks, with_column}
use Rattle.sheet.specs.Refusals.{number, row_of, bound_of}
use Rattle.kernels.specs.declared.answer.AnswerRecord.{AnswerRecord}
use Rattle.kernels.specs.declared.asked.Asked.{Asked}

abbrev pub shape_of : Asked → Shape
shape_of a = record { scale = a.scale; rows = a.rows; columns = a.columns }

-- the calls, with the operands that stand in no layout
abbrev pub dot_of : Asked → (row other : ℕ) → Call
dot_of a row other = dot a.target row a.operand other a.alpha a.beta

abbrev pub product_of : Asked → Meaning → Call
product_of a l = product a.target a.operand l a.alpha a.beta

abbrev pub solve_of : Asked → Side → Meaning → Call
solve_of a side t = solve a.target side t a.alpha

abbrev pub is_upper : Option Bound → Bool
is_upper None = false
is_upper (Some Lower) = false
is_upper (Some Upper) = true

-- the record that says an answer: 0 where the call was granted, and otherwise the refusal's number, its row and its bound
abbrev pub answer_record : Answer → AnswerRecord
answer_record granted = record { number = 0; row = 0; upper = false }
answer_record (refused r) = record { number = number r; row = row_of r; upper = is_upper (bound_of r) }

-- a call is made only where the open was granted
abbrev pub unless_refused : Answer → Answer → Answer
unless_refused granted answer = answer
unless_refused (refused r) answer = refused r

-- the answer of the open over the sheet's own cells, and then of the call, with the draft empty
abbrev pub whole_answer : Shape → Call → (own cells draft : List Record) → Answer
whole_answer s call own cells draft = unless_refused (open_answer s own draft) (call_answer s call cells (blanks s.rows))

-- the cells with the new column posted, where all was granted
abbrev pub cells_posted : Shape → Call → (cells : List Record) → Answer → List Record
cells_posted s call cells (refused r) = cells
cells_posted s call cells granted = with_column s (target call) cells (draft_after s (calling call) cells (blanks s.rows) granted)

-- what a whole call answers, and what it leaves of the sheet's own cells, of the cells and of the draft
pub record Works (s : Shape) (call : Call) (own cells draft : List Record) (result : AnswerRecord) (own' cells' draft' : List Record) : Type 0 where
  pub answers : result ≡ answer_record (whole_answer s call own cells draft)
  pub leaves_own : own' ≡ cells_opened s own (open_answer s own draft)
  pub leaves_cells : cells' ≡ cells_posted s call cells (whole_answer s call own cells draft)
  pub leaves_draft : draft' ≡ draft_opened s draft (open_answer s own draft)

-- of a call over a layout: what the layout means is sound, and is the operand of the call
pub record WorksOver (s : Shape) (m : Matrix) (call : Meaning → Call) (own cells draft : List Record) (result : AnswerRecord) (own' cells' draft' : List Record) : Type 0 where
  pub sound : Sound m
  pub works : Works s (call (record { matrix = m; sound = sound })) own cells draft result own' cells' draft'
