-- What the theorem on runs asks of the calls. The inductions over lists of calls use nothing else of them, so a call more changes
-- none of those.
use Rattle.std.specs.Prelude.{◌≡◌, ℕ, ◌<◌, true, List}
use Rattle.arithmetic.specs.Values.{Value, Within, Tightly}
use Rattle.cells.specs.declared.cell.Record.{Record}
use Rattle.cells.specs.Cells.{IsCell}
use Rattle.cells.specs.Held.{Held, Holds}
use Rattle.sheet.specs.declared.shape.Shape.{Shape}
use Rattle.sheet.specs.Answers.{call_answer}
use Rattle.sheet.specs.Calls.{Call, target}
use Rattle.sheet.specs.Checks.{granted}
use Rattle.sheet.specs.ExactRuns.{Choice, Follows}
use Rattle.sheet.specs.Formulas.{Reached}
use Rattle.sheet.specs.Memory.{has_both, cells_in}
use Rattle.sheet.specs.NewColumns.{new_column}
use Rattle.sheet.specs.Promises.{ColumnsHold, ColumnsWithin, CallInside, CallTells}

-- of a call that is granted over the cells
pub record OwesGranted (s : Shape) (call : Call) (cells : List Record) : Type 0 where
  pub aims : target call < s.columns
  -- what is drafted are cells
  pub cell : (row : ℕ) → row < s.rows → IsCell (new_column s call (cells_in s cells) row)
  -- each is tight for the values that its operands reach; `new` is the new column, in any form that agrees with it on the rows
  pub tight : (new : ℕ → Value) → ((row : ℕ) → row < s.rows → new row ≡ new_column s call (cells_in s cells) row) → (row : ℕ) → row < s.rows → Tightly s.scale (Reached s call (cells_in s cells) new row) (new row)
  -- and holds what any exact draft has at its row
  pub holds : (xs : ℕ → ℕ → Held) (ys : ℕ → Held) (choice : Choice s call) → ColumnsHold s cells xs → Follows s call choice xs ys → (row : ℕ) → row < s.rows → Holds s.scale (new_column s call (cells_in s cells) row) (ys row)
  -- there is an exact draft for every choice
  pub follows : CallTells call → (xs : ℕ → ℕ → Held) (choice : Choice s call) → (new : ℕ → Held) × Follows s call choice xs new

-- of a call inside another that is granted, over columns inside its columns
pub record OwesInside (s : Shape) (call' call : Call) (cells' draft' cells : List Record) : Type 0 where
  pub granted_too : has_both s cells' draft' ≡ true → call_answer s call' cells' draft' ≡ granted
  pub within : (row : ℕ) → row < s.rows → Within s.scale (new_column s call' (cells_in s cells') row) (new_column s call (cells_in s cells) row)

pub record Owes (s : Shape) : Type 0 where
  pub of_granted : (call : Call) (cells draft : List Record) → call_answer s call cells draft ≡ granted → OwesGranted s call cells
  pub of_inside : (call' call : Call) (cells' draft' cells draft : List Record) → CallInside s.scale call' call → ColumnsWithin s cells' cells → call_answer s call cells draft ≡ granted → OwesInside s call' call cells' draft' cells
  pub same_target : (call' call : Call) → CallInside s.scale call' call → target call' ≡ target call
