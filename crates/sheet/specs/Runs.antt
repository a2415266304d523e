-- Runs: the lists of what can be asked of one sheet, with the answers, and what each list leaves.
use Rattle.std.specs.Prelude.{◌≡◌, ◌*◌, false, true, List, [], ◌∷◌}
use Rattle.cells.specs.declared.cell.Record.{Record}
use Rattle.sheet.specs.declared.refusal.Refusal.{Refusal}
use Rattle.sheet.specs.declared.shape.Shape.{Shape}
use Rattle.sheet.specs.Answers.{Stage, filling, Ask, Takes, open_answer, answer, stage_after, cells_after, draft_after, empties_draft}
use Rattle.sheet.specs.Checks.{Answer, granted, refused}
use Rattle.sheet.specs.Memory.{blanks}

-- what was asked, the memory that was supplied with it, and the answer. Set and begin are supplied no draft: no answer
-- looks at what stands in its place in their events
pub data Event : Type 0 where
  told : Ask → (cells draft : List Record) → Answer → Event

-- Ran s history stage cells draft: a sheet of shape s, told the history (newest first), is at the stage and has left this memory.
-- What is granted, and what is refused with the draft emptied, was supplied the memory that stood there. What is refused otherwise
-- changes nothing; it may have been supplied this memory or any other
pub data Ran (s : Shape) : (history : List Event) → Stage → (cells draft : List Record) → Type 0 where
  opened : (cells draft : List Record) → open_answer s cells draft ≡ granted → Ran s [] filling (blanks (s.rows * s.columns)) (blanks s.rows)
  went_on : {h : List Event} {stage : Stage} {cells draft : List Record} (ask : Ask) → Ran s h stage cells draft → Takes stage ask
      → answer s stage ask cells draft ≡ granted
      → Ran s (told ask cells draft granted ∷ h) (stage_after stage ask granted) (cells_after s stage ask cells draft granted) (draft_after s ask cells draft granted)
  -- before a call no draft stands, so this leaves the memory as open, post or withdraw left it
  lost_draft : {h : List Event} {stage : Stage} {cells draft : List Record} (ask : Ask) (refusal : Refusal) → Ran s h stage cells draft → Takes stage ask
      → answer s stage ask cells draft ≡ refused refusal → empties_draft refusal ≡ true
      → Ran s (told ask cells draft (refused refusal) ∷ h) stage cells (blanks s.rows)
  turned_away : {h : List Event} {stage : Stage} {cells draft : List Record} (ask : Ask) (others other_draft : List Record) (refusal : Refusal) → Ran s h stage cells draft → Takes stage ask
      → answer s stage ask others other_draft ≡ refused refusal → empties_draft refusal ≡ false
      → Ran s (told ask others other_draft (refused refusal) ∷ h) stage cells draft
