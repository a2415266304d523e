-- Whatever a stage takes is answered, and the run goes on with what the answer leaves.
use Rattle.std.specs.Prelude.{◌≡◌, Bool, true, false, List, ◌∷◌}
use Rattle.std.proofs.Common.{refl}
use Rattle.cells.specs.declared.cell.Record.{Record}
use Rattle.sheet.specs.declared.refusal.Refusal.{Refusal}
use Rattle.sheet.specs.declared.shape.Shape.{Shape}
use Rattle.sheet.specs.Answers.{Stage, Ask, Takes, answer, stage_after, cells_after, draft_after, empties_draft}
use Rattle.sheet.specs.Checks.{Answer, granted, refused}
use Rattle.sheet.specs.Runs.{Event, told, Ran, went_on, lost_draft, turned_away}

abbrev Next : Shape → List Event → Stage → Ask → (cells draft : List Record) → Answer → Type 0
Next s h stage ask cells draft a = Ran s (told ask cells draft a ∷ h) (stage_after stage ask a) (cells_after s stage ask cells draft a) (draft_after s ask cells draft a)

module _ (s : Shape) (h : List Event) (stage : Stage) (cells draft : List Record) (r : Ran s h stage cells draft) (ask : Ask) (t : Takes stage ask) where
  -- a refusal, by whether it empties the draft
  refused_next : (refusal : Refusal) (empties : Bool) → empties_draft refusal ≡ empties → answer s stage ask cells draft ≡ refused refusal → Next s h stage ask cells draft (refused refusal)
  refused_next refusal true z e = rw z (lost_draft ask refusal r t e z)
  refused_next refusal false z e = rw z (turned_away ask cells draft refusal r t e z)

  answered : (a : Answer) → answer s stage ask cells draft ≡ a → Next s h stage ask cells draft a
  answered granted e = went_on ask r t e
  answered (refused refusal) e = refused_next refusal (empties_draft refusal) refl e

  pub going_on : Next s h stage ask cells draft (answer s stage ask cells draft)
  going_on = answered (answer s stage ask cells draft) refl
