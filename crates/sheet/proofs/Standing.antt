-- The memory that a run leaves is of its shape's size, its draft is empty while none stands, a post moves the draft into its column and
-- nothing else, and a run of every legal shape can start.
use Rattle.std.specs.Prelude.{◌≡◌, ◌≢◌, ℕ, ◌*◌, ◌<◌, ◌⊎◌, true, cond, List, [], ◌∷◌, pos, ◌==◌}
use Rattle.std.proofs.Common.{refl, inl, inr}
use Rattle.std.proofs.lemmas.Bool.{cases_eq, eq-eqb, ne_eqb, le-leb, and_from}
use Rattle.arithmetic.proofs.Tests.{true_le_z}
use Rattle.cells.specs.declared.cell.Record.{Record}
use Rattle.cells.specs.Cells.{cell_at}
use Rattle.sheet.specs.declared.shape.Shape.{Shape}
use Rattle.sheet.specs.Answers.{Stage, filling, drafted, posting, withdrawing, sets, begins, calls, posts, withdraws}
use Rattle.sheet.specs.Memory.{cells_in, with_column, has_both, blanks}
use Rattle.sheet.specs.Runs.{Event, told, Ran, opened, went_on, lost_draft, turned_away}
use Rattle.sheet.specs.Checks.{granted}
use Rattle.sheet.specs.Promises.{PostedFrom, NoDraft}
use Rattle.sheet.specs.Shapes.{Legal}
use Rattle.sheet.proofs.Answering.{sized_both}
use Rattle.sheet.proofs.Keeping.{Sized, sized}
use Rattle.sheet.proofs.Columns.{posted_same, posted_other, blanks_size}
use Rattle.sheet.proofs.Owes.{Owes}

module _ (s : Shape) (owes : Owes s) where
  pub fitting : {h : List Event} {stage : Stage} {cells draft : List Record} → Ran s h stage cells draft → has_both s cells draft ≡ true
  fitting {cells} {draft} r = let size = sized s owes r in sized_both s cells draft size.cells_size size.draft_size

  pub posting_moves : {h : List Event} {k : ℕ} {cells draft : List Record} → Ran s h (drafted k) cells draft
      → (j row : ℕ) → row < s.rows → cells_in s (with_column s k cells draft) j row ≡ cond (j == k) (cell_at draft row) (cells_in s cells j row)
  posting_moves {k} {cells} {draft} r j row b = go (cases_eq j k)
    where
      size : Sized s (drafted k) cells draft
      size = sized s owes r

      go : (j ≡ k) ⊎ (j ≢ k) → cells_in s (with_column s k cells draft) j row ≡ cond (j == k) (cell_at draft row) (cells_in s cells j row)
      go (inl e) = rw (e, eq-eqb k k refl) (posted_same s k cells draft size.aims size.cells_size size.draft_size row b)
      go (inr n) = rw (ne_eqb j k n) (posted_other s k cells draft size.aims size.cells_size size.draft_size j row n b)

  pub posted_from : {h : List Event} {cells draft : List Record} {stage : Stage} {after empty_draft : List Record} → Ran s (told posting cells draft granted ∷ h) stage after empty_draft → PostedFrom s h cells draft after
  posted_from (went_on ask r (posts {k}) e) = record { k = k; before = r; moved = λ j row a b. posting_moves r j row b }

pub withdrawing_moves : (s : Shape) {h : List Event} {cells draft : List Record} {stage : Stage} {after empty_draft : List Record} → Ran s (told withdrawing cells draft granted ∷ h) stage after empty_draft → after ≡ cells
withdrawing_moves s (went_on ask r withdraws e) = refl

pub draft_empty : (s : Shape) {h : List Event} {stage : Stage} {cells draft : List Record} → Ran s h stage cells draft → NoDraft stage → draft ≡ blanks s.rows
draft_empty s (opened cells draft e) n = refl
draft_empty s (went_on ask r sets e) n = draft_empty s r tt
draft_empty s (went_on ask r begins e) n = draft_empty s r tt
draft_empty s (went_on ask r calls e) n = absurd n
draft_empty s (went_on ask r posts e) n = refl
draft_empty s (went_on ask r withdraws e) n = refl
draft_empty s (lost_draft ask refusal r t e z) n = refl
draft_empty s (turned_away ask others other_draft refusal r t e z) n = draft_empty s r n

pub starting : (s : Shape) → Legal s → Ran s [] filling (blanks (s.rows * s.columns)) (blanks s.rows)
starting s l =
    opened (blanks (s.rows * s.columns)) (blanks s.rows) (
    rw (
      and_from _ _ (true_le_z (pos 1) s.scale l.scale.0) (true_le_z s.scale (pos 100000) l.scale.1),
      and_from _ _ (le-leb 1 s.rows l.some_rows) (and_from _ _ (le-leb s.rows 1024 l.few_rows) (and_from _ _ (le-leb 1 s.columns l.some_columns) (and_from _ _ (le-leb s.columns 64 l.few_columns) (le-leb (s.rows * s.columns) 4096 l.few_cells)))),
      sized_both s (blanks (s.rows * s.columns)) (blanks s.rows) (blanks_size (s.rows * s.columns)) (blanks_size s.rows),
    ) refl
    )
