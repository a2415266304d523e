-- The exact values lie inside the columns and the standing draft, wherever a run and an exact run of the same history have come to.
use Rattle.std.specs.Prelude.{◌≡◌, ◌≢◌, ℕ, ◌+◌, ◌*◌, ◌<◌, cond, ◌&&◌, ◌⊎◌, List, ◌∷◌, ℤ, length, ◌==◌, slice_set}
use Rattle.std.proofs.Common.{refl, ap, sym, subst, ◌∙◌, inl, inr}
use Rattle.std.proofs.lemmas.Bool.{cases_eq, eq-eqb, ne_eqb}
use Rattle.arithmetic.specs.Values.{Value, bounds}
use Rattle.cells.specs.declared.cell.Record.{Record}
use Rattle.cells.specs.Cells.{written, cell_at}
use Rattle.cells.specs.Held.{Held, nothing, held, Holds, Chosen}
use Rattle.cells.specs.Laws.{Laws}
use Rattle.sheet.specs.declared.refusal.Refusal.{Refusal}
use Rattle.sheet.specs.declared.shape.Shape.{Shape}
use Rattle.sheet.specs.Answers.{Stage, filling, drafted, Ask, setting, beginning, calling, posting, withdrawing, sets, begins, calls, posts, withdraws}
use Rattle.sheet.specs.Checks.{refused}
use Rattle.sheet.specs.ExactRuns.{last_set, with_values, ExactRun, starts, drafts, posts as exact_posts, withdraws as exact_withdraws, stays}
use Rattle.sheet.specs.Memory.{cells_in, with_column}
use Rattle.sheet.specs.NewColumns.{new_column}
use Rattle.sheet.specs.Promises.{ColumnsHold, DraftHolds}
use Rattle.sheet.specs.Runs.{Event, told, Ran, opened, went_on, lost_draft, turned_away}
use Rattle.sheet.proofs.Answering.{SetGranted, set_granted, OfCall, of_call, only_calls}
use Rattle.sheet.proofs.Keeping.{sized}
use Rattle.sheet.proofs.Columns.{read_back, opened_empty, set_same, set_other, posted_same, posted_other}
use Rattle.sheet.proofs.Owes.{Owes}

chosen_holds : (u : ℤ) (c : Value) (p : Held) → Chosen u c p → Holds u c p
chosen_holds u c nothing h = tt
chosen_holds u c (held v) h = h

-- no refusal sets a cell
refused_sets : (ask : Ask) (cells draft : List Record) (refusal : Refusal) (h : List Event) (k row : ℕ) → last_set (told ask cells draft (refused refusal) ∷ h) k row ≡ last_set h k row
refused_sets (setting k' i lower upper) cells draft refusal h k row = refl
refused_sets beginning cells draft refusal h k row = refl
refused_sets (calling call) cells draft refusal h k row = refl
refused_sets posting cells draft refusal h k row = refl
refused_sets withdrawing cells draft refusal h k row = refl

-- no draft stands while calls are taken
of_call_holds : (s : Shape) {stage : Stage} {ask : Ask} (draft : List Record) (ys : ℕ → Held) → OfCall stage ask → DraftHolds s stage draft ys
of_call_holds s draft ys of_call = tt

-- where the stages are the same, the drafts stand for one column
same_column : {j k : ℕ} → drafted j ≡ drafted k → j ≡ k
same_column e = cc

module _ (laws : Laws) (s : Shape) (owes : Owes s) where
  set_at : (k i : ℕ) (lower upper : ℤ) (cells : List Record) → SetGranted s k i lower upper cells → (j row : ℕ) → row < s.rows
      → cells_in s (slice_set cells (k * s.rows + i) (written (bounds lower upper))) j row ≡ cond (j == k && row == i) (bounds lower upper) (cells_in s cells j row)
  set_at k i lower upper cells ok j row h = go (cases_eq j k) (cases_eq row i)
    where
      r : Record
      r = written (bounds lower upper)

      go : (j ≡ k) ⊎ (j ≢ k) → (row ≡ i) ⊎ (row ≢ i) → cells_in s (slice_set cells (k * s.rows + i) r) j row ≡ cond (j == k && row == i) (bounds lower upper) (cells_in s cells j row)
      go (inl a) (inl b) = rw (a, b, eq-eqb k k refl, eq-eqb i i refl) (set_same s k i cells r ok.column ok.row ok.sized ∙ laws.read_written (bounds lower upper) ok.cell)
      go (inl a) (inr b) = rw (eq-eqb j k a, ne_eqb row i b) (set_other s k i j row cells r ok.row h (λ p. b p.1))
      go (inr a) b = rw (ne_eqb j k a) (set_other s k i j row cells r ok.row h (λ p. a p.0))

  -- while a sheet is filled, each cell is as the last granted set made it
  pub filled : {h : List Event} {stage : Stage} {cells draft : List Record} → Ran s h stage cells draft → stage ≡ filling
      → (k row : ℕ) → k < s.columns → row < s.rows → cells_in s cells k row ≡ last_set h k row
  filled (opened cells draft e) f k row a b = opened_empty s k row a b
  filled (went_on {cells} ask r (sets {k = k'} {i} {lower} {upper}) e) f k row a b =
      set_at k' i lower upper cells (set_granted s k' i lower upper cells e) k row b
      ∙ ap (λ c. cond (k == k' && row == i) (bounds lower upper) c) (filled r f k row a b)
  filled (went_on ask r begins e) f k row a b = cc
  filled (went_on ask r calls e) f k row a b = cc
  filled (went_on ask r posts e) f k row a b = cc
  filled (went_on ask r withdraws e) f k row a b = cc
  filled (lost_draft {h} {cells} {draft} ask refusal r t e z) f k row a b = filled r f k row a b ∙ sym (refused_sets ask cells draft refusal h k row)
  filled (turned_away {h} ask others other_draft refusal r t e z) f k row a b = filled r f k row a b ∙ sym (refused_sets ask others other_draft refusal h k row)

  posted_holds : (j k : ℕ) (cells draft : List Record) (xs : ℕ → ℕ → Held) (ys : ℕ → Held) → j ≡ k → k < s.columns → length cells ≡ s.rows * s.columns → length draft ≡ s.rows
      → ColumnsHold s cells xs → ((row : ℕ) → row < s.rows → Holds s.scale (cell_at draft row) (ys row)) → ColumnsHold s (with_column s k cells draft) (with_values j ys xs)
  posted_holds j k cells draft xs ys same here size draft_size held_columns held_draft i row a b = go (cases_eq i k)
    where
      go : (i ≡ k) ⊎ (i ≢ k) → Holds s.scale (cells_in s (with_column s k cells draft) i row) (with_values j ys xs i row)
      go (inl e) = rw (eq-eqb i j (e ∙ sym same), e, posted_same s k cells draft here size draft_size row b) (held_draft row b)
      go (inr n) = rw (ne_eqb i j (λ e. n (e ∙ same)), posted_other s k cells draft here size draft_size i row n b) (held_columns i row a b)

  pub record Contained (stage exact : Stage) (cells draft : List Record) (xs : ℕ → ℕ → Held) (ys : ℕ → Held) : Type 0 where
    -- the stage of the exact run
    pub together : exact ≡ stage
    pub columns_hold : ColumnsHold s cells xs
    pub draft_holds : DraftHolds s stage draft ys

  pub contained : {h : List Event} {stage exact : Stage} {cells draft : List Record} {xs : ℕ → ℕ → Held} {ys : ℕ → Held}
      → Ran s h stage cells draft → ExactRun s h exact xs ys → Contained stage exact cells draft xs ys
  contained (opened cells draft e) x = elim x [ ]
  contained (went_on ask r sets e) x = elim x [ ]
  contained (went_on {h} ask r begins e) (starts xs c) = record {
    together = refl;
    columns_hold = λ k row a b. rw (filled r refl k row a b) (chosen_holds s.scale (last_set h k row) (xs k row) (c k row a b));
    draft_holds = tt;
  }
  contained (went_on {cells} {draft} ask r (calls {call}) e) (drafts {xs} call' choice new x f) =
      let before = contained r x in
      let owed = owes.of_granted call cells draft e in
      record {
        together = refl;
        columns_hold = before.columns_hold;
        draft_holds = λ row b. subst (λ c. Holds s.scale c (new row)) (sym (read_back laws s.rows (new_column s call (cells_in s cells)) row b (owed.cell row b))) (owed.holds xs new choice before.columns_hold f row b);
      }
  contained (went_on {cells} {draft} ask r (posts {k}) e) (exact_posts {xs} {ys} {k = j} x) =
      let before = contained r x in
      let size = sized s owes r in
      record {
        together = refl;
        columns_hold = posted_holds j k cells draft xs ys (same_column before.together) size.aims size.cells_size size.draft_size before.columns_hold before.draft_holds;
        draft_holds = tt;
      }
  contained (went_on ask r withdraws e) (exact_withdraws x) = record { together = refl; columns_hold = (contained r x).columns_hold; draft_holds = tt }
  contained (lost_draft {cells} {draft} ask refusal r t e z) (stays {ys} ask' refusal' x) =
      let before = contained r x in
      record { together = before.together; columns_hold = before.columns_hold; draft_holds = of_call_holds s _ ys (only_calls s cells draft refusal t e z) }
  contained (turned_away ask others other_draft refusal r t e z) (stays ask' refusal' x) = contained r x
