-- A second sheet that is begun inside a first one and asked the same, its operands inside, is refused nothing that the first is
-- granted, and stays inside it; and there is such a second run for every start and all operands inside.
use Rattle.std.specs.Prelude.{◌≡◌, ◌≢◌, ℕ, ◌<◌, ◌⊎◌, List, ◌∷◌}
use Rattle.std.proofs.Common.{refl, ap, sym, subst, inl, inr}
use Rattle.std.proofs.lemmas.Bool.{cases_eq}
use Rattle.arithmetic.specs.Values.{Within}
use Rattle.cells.specs.declared.cell.Record.{Record}
use Rattle.cells.specs.Cells.{cell_at}
use Rattle.cells.specs.Laws.{Laws}
use Rattle.sheet.specs.declared.refusal.CallName.TheVariants.{Post, Withdraw}
use Rattle.sheet.specs.declared.refusal.Refusal.{Refusal}
use Rattle.sheet.specs.declared.shape.Shape.{Shape}
use Rattle.sheet.specs.Answers.{Stage, working, drafted, drafted_for, Ask, beginning, calling, posting, withdrawing, begins, calls, posts, withdraws, answer, call_answer}
use Rattle.sheet.specs.Calls.{Call}
use Rattle.sheet.specs.Checks.{granted, refused}
use Rattle.sheet.specs.Memory.{cells_in, blanks, written_rows, with_column}
use Rattle.sheet.specs.NewColumns.{new_column}
use Rattle.sheet.specs.Promises.{CallInside, call_inside, post_inside, withdraw_inside, ColumnsWithin, DraftWithin, Inner, both_begun, both_asked, OwnMemory, NothingRefused, since_begin, one_more, Planned, nothing_asked, then_asked, none_yet, and_then, RunInside}
use Rattle.sheet.specs.Runs.{Event, told, Ran, went_on, lost_draft, turned_away}
use Rattle.sheet.proofs.Answering.{never_both, sized_both, close_granted}
use Rattle.sheet.proofs.Keeping.{Sized, sized}
use Rattle.sheet.proofs.Columns.{read_back, posted_same, posted_other}
use Rattle.sheet.proofs.Owes.{Owes}

module _ (laws : Laws) (s : Shape) (owes : Owes s) where
  -- ---- one step

  posted_within : (k : ℕ) (cells' draft' cells draft : List Record) → Sized s (drafted k) cells' draft' → Sized s (drafted k) cells draft
      → ColumnsWithin s cells' cells → ((row : ℕ) → row < s.rows → Within s.scale (cell_at draft' row) (cell_at draft row))
      → ColumnsWithin s (with_column s k cells' draft') (with_column s k cells draft)
  posted_within k cells' draft' cells draft size' size inside_columns inside_draft j row a b = go (cases_eq j k)
    where
      go : (j ≡ k) ⊎ (j ≢ k) → Within s.scale (cells_in s (with_column s k cells' draft') j row) (cells_in s (with_column s k cells draft) j row)
      go (inl e) = rw (e, posted_same s k cells' draft' size'.aims size'.cells_size size'.draft_size row b, posted_same s k cells draft size.aims size.cells_size size.draft_size row b) (inside_draft row b)
      go (inr n) = rw (posted_other s k cells' draft' size'.aims size'.cells_size size'.draft_size j row n b, posted_other s k cells draft size.aims size.cells_size size.draft_size j row n b) (inside_columns j row a b)

  -- the drafts of two granted calls, the one inside the other
  drafts_within : (call' call : Call) (cells' draft' cells draft : List Record) → CallInside s.scale call' call → ColumnsWithin s cells' cells
      → call_answer s call' cells' draft' ≡ granted → call_answer s call cells draft ≡ granted
      → (row : ℕ) → row < s.rows → Within s.scale (cell_at (written_rows s.rows (new_column s call' (cells_in s cells'))) row) (cell_at (written_rows s.rows (new_column s call (cells_in s cells))) row)
  drafts_within call' call cells' draft' cells draft inside columns_inside e' e row b =
      let new' = new_column s call' (cells_in s cells') in
      let new = new_column s call (cells_in s cells) in
      rw (read_back laws s.rows new' row b ((owes.of_granted call' cells' draft' e').cell row b), read_back laws s.rows new row b ((owes.of_granted call cells draft e).cell row b))
      ((owes.of_inside call' call cells' draft' cells draft inside columns_inside e).within row b)

  -- a call inside a granted one is granted over the memory that a run has left
  granted_inside : {h' : List Event} {stage : Stage} {cells' draft' : List Record} (call' call : Call) (cells draft : List Record) → Ran s h' stage cells' draft' → CallInside s.scale call' call → ColumnsWithin s cells' cells
      → call_answer s call cells draft ≡ granted → call_answer s call' cells' draft' ≡ granted
  granted_inside {cells'} {draft'} call' call cells draft r' inside columns_inside e =
      let size = sized s owes r' in
      (owes.of_inside call' call cells' draft' cells draft inside columns_inside e).granted_too (sized_both s cells' draft' size.cells_size size.draft_size)

  -- so are post and withdraw
  post_granted : {h : List Event} {stage : Stage} {cells draft : List Record} → Ran s h stage cells draft → answer s stage posting cells draft ≡ granted
  post_granted {stage} {cells} {draft} r = let size = sized s owes r in close_granted s Post (drafted_for stage) cells draft size.cells_size size.draft_size

  withdraw_granted : {h : List Event} {stage : Stage} {cells draft : List Record} → Ran s h stage cells draft → answer s stage withdrawing cells draft ≡ granted
  withdraw_granted {stage} {cells} {draft} r = let size = sized s owes r in close_granted s Withdraw (drafted_for stage) cells draft size.cells_size size.draft_size

  -- what is refused over memory that is equal to the run's own is refused over that
  own : (stage : Stage) (ask : Ask) (refusal : Refusal) (others cells other_draft draft : List Record) → others ≡ cells → other_draft ≡ draft
      → answer s stage ask others other_draft ≡ refused refusal → answer s stage ask cells draft ≡ refused refusal
  own stage ask refusal others cells other_draft draft p q e = subst (λ c. answer s stage ask c draft ≡ refused refusal) p (subst (λ d. answer s stage ask others d ≡ refused refusal) q e)

  -- ---- any second run

  pub record Nested (h' : List Event) (stage' stage : Stage) (cells' draft' cells draft : List Record) : Type 0 where
    pub nothing_refused : NothingRefused h'
    pub together : stage' ≡ stage
    pub columns_inside : ColumnsWithin s cells' cells
    pub draft_inside : DraftWithin s stage draft' draft

  -- the columns that two posts leave: they are posts to one column
  posts_within : {h' h : List Event} {cells' draft' cells draft : List Record} (k' k : ℕ) → drafted k' ≡ drafted k → Ran s h' (drafted k') cells' draft' → Ran s h (drafted k) cells draft
      → ColumnsWithin s cells' cells → ((row : ℕ) → row < s.rows → Within s.scale (cell_at draft' row) (cell_at draft row))
      → ColumnsWithin s (with_column s k' cells' draft') (with_column s k cells draft)
  posts_within {h'} {cells'} {draft'} {cells} {draft} k' k same r' r inside_columns inside_draft =
      let e : k' ≡ k = ap drafted_for same in
      subst (λ j. ColumnsWithin s (with_column s j cells' draft') (with_column s k cells draft)) (sym e)
      (posted_within k cells' draft' cells draft (subst (λ j. Sized s (drafted j) cells' draft') e (sized s owes r')) (sized s owes r) inside_columns inside_draft)

  pub nested : {h h' : List Event} {stage stage' : Stage} {cells draft cells' draft' : List Record} → Inner s h' h → Ran s h stage cells draft → (r' : Ran s h' stage' cells' draft') → OwnMemory s r'
      → Nested h' stage' stage cells' draft' cells draft
  nested (both_begun within) (went_on ask r begins e) (went_on ask' r' begins e') o = record { nothing_refused = since_begin; together = refl; columns_inside = within; draft_inside = tt }
  nested (both_asked n (call_inside {call'} {call} inside)) (went_on {cells} {draft} ask r calls e) (went_on {cells = cells'} {draft = draft'} ask' r' calls e') o =
      let before = nested n r r' o in
      record {
        nothing_refused = one_more before.nothing_refused;
        together = ap drafted (owes.same_target call' call inside);
        columns_inside = before.columns_inside;
        draft_inside = drafts_within call' call cells' draft' cells draft inside before.columns_inside e' e;
      }
  nested (both_asked n (call_inside {call'} {call} inside)) (went_on {cells} {draft} ask r calls e) (lost_draft {cells = cells'} {draft = draft'} ask' refusal r' calls e' z) o =
      never_both (call_answer s call' cells' draft') (granted_inside call' call cells draft r' inside (nested n r r' o).columns_inside e) e'
  nested (both_asked n (call_inside {call'} {call} inside)) (went_on {cells} {draft} ask r calls e) (turned_away {cells = cells'} {draft = draft'} ask' others other_draft refusal r' calls e' z) o =
      never_both (call_answer s call' cells' draft') (granted_inside call' call cells draft r' inside (nested n r r' o.2).columns_inside e)
      (own working (calling call') refusal others cells' other_draft draft' o.0 o.1 e')
  nested (both_asked n post_inside) (went_on ask r (posts {k}) e) (went_on ask' r' (posts {k = k'}) e') o =
      let before = nested n r r' o in
      record {
        nothing_refused = one_more before.nothing_refused;
        together = refl;
        columns_inside = posts_within k' k before.together r' r before.columns_inside before.draft_inside;
        draft_inside = tt;
      }
  nested (both_asked n post_inside) (went_on ask r posts e) (lost_draft {stage = stage'} {cells = cells'} {draft = draft'} ask' refusal r' t e' z) o =
      never_both (answer s stage' posting cells' draft') (post_granted r') e'
  nested (both_asked n post_inside) (went_on ask r posts e) (turned_away {stage = stage'} {cells = cells'} {draft = draft'} ask' others other_draft refusal r' t e' z) o =
      never_both (answer s stage' posting cells' draft') (post_granted r') (own stage' posting refusal others cells' other_draft draft' o.0 o.1 e')
  nested (both_asked n withdraw_inside) (went_on ask r withdraws e) (went_on ask' r' withdraws e') o =
      let before = nested n r r' o in
      record { nothing_refused = one_more before.nothing_refused; together = refl; columns_inside = before.columns_inside; draft_inside = tt }
  nested (both_asked n withdraw_inside) (went_on ask r withdraws e) (lost_draft {stage = stage'} {cells = cells'} {draft = draft'} ask' refusal r' t e' z) o =
      never_both (answer s stage' withdrawing cells' draft') (withdraw_granted r') e'
  nested (both_asked n withdraw_inside) (went_on ask r withdraws e) (turned_away {stage = stage'} {cells = cells'} {draft = draft'} ask' others other_draft refusal r' t e' z) o =
      never_both (answer s stage' withdrawing cells' draft') (withdraw_granted r') (own stage' withdrawing refusal others cells' other_draft draft' o.0 o.1 e')

  -- ---- there is a second run

  -- a run at an equal stage
  at_stage : {h : List Event} {stage next : Stage} {cells draft : List Record} → stage ≡ next → Ran s h stage cells draft → Ran s h next cells draft
  at_stage {h} {cells} {draft} e r = subst (λ z. Ran s h z cells draft) e r

  pub second : {asks : List Ask} {h h' : List Event} {start start' draft' supplied cells draft : List Record} {stage : Stage} → Planned s asks h start → Ran s h stage cells draft
      → Ran s (told beginning start' supplied granted ∷ h') working start' draft' → ColumnsWithin s start' start
      → RunInside s asks (told beginning start' supplied granted ∷ h') stage cells draft
  second {start'} {draft'} nothing_asked (went_on ask r begins e) begun inside = record {
    history = _;
    inner_cells = start';
    inner_draft = draft';
    run = begun;
    granted_all = none_yet;
    columns_inside = inside;
    draft_inside = tt;
  }
  second (then_asked plan (call_inside {call'} {call} inside)) (went_on {cells} {draft} ask r calls e) begun start_inside =
      let so_far = second plan r begun start_inside in
      let g = granted_inside call' call cells draft so_far.run inside so_far.columns_inside e in
      record {
        history = told (calling call') so_far.inner_cells so_far.inner_draft granted ∷ so_far.history;
        inner_cells = so_far.inner_cells;
        inner_draft = written_rows s.rows (new_column s call' (cells_in s so_far.inner_cells));
        run = at_stage (ap drafted (owes.same_target call' call inside)) (went_on (calling call') so_far.run calls g);
        granted_all = and_then so_far.granted_all;
        columns_inside = so_far.columns_inside;
        draft_inside = drafts_within call' call so_far.inner_cells so_far.inner_draft cells draft inside so_far.columns_inside g e;
      }
  second (then_asked plan post_inside) (went_on ask r (posts {k}) e) begun start_inside =
      let so_far = second plan r begun start_inside in
      record {
        history = told posting so_far.inner_cells so_far.inner_draft granted ∷ so_far.history;
        inner_cells = with_column s k so_far.inner_cells so_far.inner_draft;
        inner_draft = blanks s.rows;
        run = went_on posting so_far.run posts (post_granted so_far.run);
        granted_all = and_then so_far.granted_all;
        columns_inside = posts_within k k refl so_far.run r so_far.columns_inside so_far.draft_inside;
        draft_inside = tt;
      }
  second (then_asked plan withdraw_inside) (went_on ask r withdraws e) begun start_inside =
      let so_far = second plan r begun start_inside in
      record {
        history = told withdrawing so_far.inner_cells so_far.inner_draft granted ∷ so_far.history;
        inner_cells = so_far.inner_cells;
        inner_draft = blanks s.rows;
        run = went_on withdrawing so_far.run withdraws (withdraw_granted so_far.run);
        granted_all = and_then so_far.granted_all;
        columns_inside = so_far.columns_inside;
        draft_inside = tt;
      }
