-- What every run keeps: a legal shape, the lengths of the cells and of the draft, and a target that there is.
use Rattle.std.specs.Prelude.{◌≡◌, ◌+◌, ◌*◌, ◌<◌, List, length}
use Rattle.std.proofs.Common.{◌∙◌}
use Rattle.cells.specs.declared.cell.Record.{Record}
use Rattle.cells.specs.Cells.{written}
use Rattle.arithmetic.specs.Values.{bounds}
use Rattle.sheet.specs.declared.shape.Shape.{Shape}
use Rattle.sheet.specs.Answers.{Stage, filling, working, drafted, sets, begins, calls, posts, withdraws}
use Rattle.sheet.specs.Memory.{cells_in}
use Rattle.sheet.specs.NewColumns.{new_column}
use Rattle.sheet.specs.Runs.{Event, Ran, opened, went_on, lost_draft, turned_away}
use Rattle.sheet.specs.Shapes.{Legal}
use Rattle.sheet.proofs.Answering.{opens_legal}
use Rattle.sheet.proofs.Columns.{written_size, blanks_size, set_size, posted_size}
use Rattle.sheet.proofs.Owes.{Owes}

pub legal : {s : Shape} {h : List Event} {stage : Stage} {cells draft : List Record} → Ran s h stage cells draft → Legal s
legal {s} (opened cells draft e) = opens_legal s cells draft e
legal (went_on ask r t e) = legal r
legal (lost_draft ask refusal r t e z) = legal r
legal (turned_away ask others other_draft refusal r t e z) = legal r

-- a draft stands for a column of the sheet
abbrev pub Aims : Shape → Stage → Type 0
Aims s filling = Unit {0}
Aims s working = Unit {0}
Aims s (drafted k) = k < s.columns

pub record Sized (s : Shape) (stage : Stage) (cells draft : List Record) : Type 0 where
  pub cells_size : length cells ≡ s.rows * s.columns
  pub draft_size : length draft ≡ s.rows
  pub aims : Aims s stage

module _ (s : Shape) (owes : Owes s) where
  pub sized : {h : List Event} {stage : Stage} {cells draft : List Record} → Ran s h stage cells draft → Sized s stage cells draft
  sized (opened cells draft e) = record { cells_size = blanks_size (s.rows * s.columns); draft_size = blanks_size s.rows; aims = tt }
  sized (went_on {cells} ask r (sets {k} {i} {lower} {upper}) e) =
      let before = sized r in
      record { cells_size = set_size cells (k * s.rows + i) (written (bounds lower upper)) ∙ before.cells_size; draft_size = before.draft_size; aims = tt }
  sized (went_on ask r begins e) = let before = sized r in record { cells_size = before.cells_size; draft_size = before.draft_size; aims = tt }
  sized (went_on {cells} {draft} ask r (calls {call}) e) =
      let before = sized r in
      record { cells_size = before.cells_size; draft_size = written_size s.rows (new_column s call (cells_in s cells)); aims = (owes.of_granted call cells draft e).aims }
  sized (went_on {cells} {draft} ask r (posts {k}) e) =
      let before = sized r in
      record { cells_size = posted_size s k cells draft before.aims before.cells_size before.draft_size; draft_size = blanks_size s.rows; aims = tt }
  sized (went_on ask r withdraws e) = let before = sized r in record { cells_size = before.cells_size; draft_size = blanks_size s.rows; aims = tt }
  sized (lost_draft ask refusal r t e z) = let before = sized r in record { cells_size = before.cells_size; draft_size = blanks_size s.rows; aims = before.aims }
  sized (turned_away ask others other_draft refusal r t e z) = sized r
