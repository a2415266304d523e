-- Whatever history came before, what a call of the code answers and leaves goes on with it: from the equations of its contract.
use Rattle.std.specs.Prelude.{◌≡◌, ℕ, Bool, true, false, List, [], ◌∷◌, ℤ, Ok, Err, Result, IfOk}
use Rattle.std.proofs.Common.{refl, sym, ap, subst, ◌∙◌}
use Rattle.cells.specs.declared.cell.Record.{Record}
use Rattle.sheet.specs.declared.refusal.Refusal.{Refusal}
use Rattle.sheet.specs.declared.shape.Shape.{Shape}
use Rattle.sheet.specs.declared.states.Filling.{Filling}
use Rattle.sheet.specs.Answers.{Stage, filling, working, drafted, Ask, setting, beginning, calling, posting, withdrawing, Takes, sets, begins, calls, posts, withdraws, open_answer, set_answer, begin_answer, call_answer, answer, stage_after, cells_after, draft_after, cells_opened, draft_opened, empties_draft}
use Rattle.sheet.specs.Calls.{Call}
use Rattle.sheet.specs.Checks.{Answer, granted, refused}
use Rattle.sheet.specs.Histories.{GoesOnTo, StaysAsItWas, setting_outcome, Histories}
use Rattle.sheet.specs.Outcomes.{Outcome, outcome, shape_or, answered_open, answer_of, answered_begin, answered_call, answered_close, Opens}
use Rattle.sheet.specs.Runs.{Event, told, Ran, opened, turned_away}
use Rattle.sheet.proofs.Answering.{OfCall, only_calls}
use Rattle.sheet.proofs.GoingOn.{going_on}

-- ---- what an ask does not write, whatever is answered

unwritten : (s : Shape) (stage : Stage) (cells draft : List Record) (a : Answer) → ((call : Call) → cells_after s stage (calling call) cells draft a ≡ cells) × (cells_after s stage beginning cells draft a ≡ cells) × (cells_after s stage withdrawing cells draft a ≡ cells)
unwritten s stage cells draft granted = (λ call. refl, refl, refl)
unwritten s stage cells draft (refused r) = (λ call. refl, refl, refl)

-- set and begin write no draft, since no refusal of theirs empties it
set_cells : (s : Shape) (k row : ℕ) (lower upper : ℤ) (cells d d' : List Record) (a : Answer) → cells_after s filling (setting k row lower upper) cells d a ≡ cells_after s filling (setting k row lower upper) cells d' a
set_cells s k row lower upper cells d d' granted = refl
set_cells s k row lower upper cells d d' (refused r) = refl

set_stage : (k row : ℕ) (lower upper : ℤ) (a : Answer) → stage_after filling (setting k row lower upper) a ≡ filling
set_stage k row lower upper granted = refl
set_stage k row lower upper (refused r) = refl

module _ (s : Shape) (cells draft : List Record) where
  of_filling : {ask : Ask} → OfCall filling ask → ⊥
  of_filling o = elim o [ ]

  spares : (ask : Ask) → Takes filling ask → (r : Refusal) → answer s filling ask cells draft ≡ refused r → empties_draft r ≡ false
  spares ask t r e = go (empties_draft r) refl
    where
      go : (b : Bool) → empties_draft r ≡ b → b ≡ false
      go false z = refl
      go true z = absurd (of_filling (only_calls s cells draft r t e z))

  set_draft : (k row : ℕ) (lower upper : ℤ) → draft ≡ draft_after s (setting k row lower upper) cells draft (answer s filling (setting k row lower upper) cells draft)
  set_draft k row lower upper = go (answer s filling (setting k row lower upper) cells draft) refl
    where
      go : (a : Answer) → answer s filling (setting k row lower upper) cells draft ≡ a → draft ≡ draft_after s (setting k row lower upper) cells draft a
      go granted e = refl
      go (refused r) e = rw (spares (setting k row lower upper) sets r e) refl

  begin_draft : draft ≡ draft_after s beginning cells draft (answer s filling beginning cells draft)
  begin_draft = go (answer s filling beginning cells draft) refl
    where
      go : (a : Answer) → answer s filling beginning cells draft ≡ a → draft ≡ draft_after s beginning cells draft a
      go granted e = refl
      go (refused r) e = rw (spares beginning begins r e) refl

-- ---- the run that goes on, by the equations of what is answered and left
module _ (s : Shape) (h : List Event) (stage : Stage) (ask : Ask) (t : Takes stage ask) (cells draft : List Record) where
  abbrev a : Answer
  a = answer s stage ask cells draft

  carried : (o : Outcome) (cells' draft' : List Record) → o ≡ outcome s stage ask cells draft → cells' ≡ cells_after s stage ask cells draft a → draft' ≡ draft_after s ask cells draft a → GoesOnTo s h stage ask cells draft o cells' draft'
  carried o cells' draft' e f g r =
      let R : Outcome → List Record → List Record → Type 0 = λ o x d. Ran o.shape (told ask cells draft o.answer ∷ h) o.stage x d in
      subst (λ o. R o cells' draft') (sym e) (subst (λ x. R (outcome s stage ask cells draft) x draft') (sym f) (subst (λ d. R (outcome s stage ask cells draft) (cells_after s stage ask cells draft a) d) (sym g)
      (going_on s h stage cells draft r ask t)))

-- ---- what is refused over other memory
module _ (s : Shape) (stage : Stage) (ask : Ask) (t : Takes stage ask) (others other_draft : List Record) where
  abbrev b : Answer
  b = answer s stage ask others other_draft

  kept_aside : (a : Answer) (others' other_draft' : List Record) → a ≡ b → others' ≡ cells_after s stage ask others other_draft b → other_draft' ≡ draft_after s ask others other_draft b → StaysAsItWas s stage ask others other_draft a others' other_draft'
  kept_aside a others' other_draft' e f g refusal is z =
      let answered : b ≡ refused refusal = sym e ∙ is in
      (f ∙ ap (cells_after s stage ask others other_draft) answered, g ∙ ap (draft_after s ask others other_draft) answered ∙ (rw z refl), λ h cells draft r. turned_away ask others other_draft refusal r t answered z)

-- ---- all of them
begins_run : (s : Shape) (cells draft : List Record) (result : Result Filling Refusal) (cells' draft' : List Record) → Opens s cells draft result cells' draft' → IfOk result (λ f. Ran f.shape [] filling cells' draft')
begins_run s cells draft result cells' draft' o = go result (open_answer s cells draft) refl o.answers o.leaves_cells o.leaves_draft
  where
    go : (result : Result Filling Refusal) (a : Answer) → open_answer s cells draft ≡ a → answered_open result ≡ shape_or s a → cells' ≡ cells_opened s cells a → draft' ≡ draft_opened s draft a → IfOk result (λ f. Ran f.shape [] filling cells' draft')
    go (Ok f) granted e x y z =
        let R : Shape → List Record → List Record → Type 0 = λ s c d. Ran s [] filling c d in
        subst (λ s. R s cells' draft') (sym (ok_shape x)) (subst (λ c. R s c draft') (sym y) (subst (λ d. R s (cells_opened s cells granted) d) (sym z) (opened cells draft e)))
      where
        shape_in : Result Shape Refusal → Shape
        shape_in (Ok s) = s
        shape_in (Err r) = s

        ok_shape : answered_open (Ok f) ≡ shape_or s granted → f.shape ≡ s
        ok_shape e = ap shape_in e
    go (Ok f) (refused r) e x y z = absurd (subst is_ok x tt)
      where
        is_ok : Result Shape Refusal → Type 0
        is_ok (Ok s) = Unit {0}
        is_ok (Err r) = ⊥
    go (Err r) a e x y z = tt

pub histories : Histories
histories = record {
  open_begins = begins_run;
  set_goes_on = λ s k row lower upper cells result cells' c h draft.
      let ask = setting k row lower upper in let a = set_answer s k row lower upper cells in
      carried s h filling ask sets cells draft (setting_outcome s (answer_of result)) cells' draft
      (ap (setting_outcome s) c.answers ∙ ap (λ stage. record { answer = a; stage = stage; shape = s }) (sym (set_stage k row lower upper a)))
      (c.leaves_cells ∙ set_cells s k row lower upper cells [] draft a)
      (set_draft s cells draft k row lower upper);
  begin_goes_on = λ s cells result c h draft.
      carried s h filling beginning begins cells draft (answered_begin result) cells draft c.answers (sym ((unwritten s filling cells draft (begin_answer s cells)).1)) (begin_draft s cells draft);
  call_goes_on = λ s call cells draft result draft' c h.
      carried s h working (calling call) calls cells draft (answered_call result) cells draft' c.answers (sym ((unwritten s working cells draft (call_answer s call cells draft)).0 call)) c.leaves_draft;
  post_goes_on = λ s k cells draft result cells' draft' c h.
      carried s h (drafted k) posting posts cells draft (answered_close result) cells' draft' c.answers c.leaves_cells c.leaves_draft;
  withdraw_goes_on = λ s k cells draft result draft' c h.
      carried s h (drafted k) withdrawing withdraws cells draft (answered_close result) cells draft' c.answers (sym ((unwritten s (drafted k) cells draft (answer s (drafted k) withdrawing cells draft)).2)) c.leaves_draft;
  set_aside = λ s k row lower upper others result others' c draft.
      kept_aside s filling (setting k row lower upper) sets others draft (answer_of result) others' draft c.answers
      (c.leaves_cells ∙ set_cells s k row lower upper others [] draft (set_answer s k row lower upper others)) (set_draft s others draft k row lower upper);
  begin_aside = λ s others result c draft.
      kept_aside s filling beginning begins others draft (answered_begin result).answer others draft (ap (λ (o : Outcome). o.answer) c.answers) (sym ((unwritten s filling others draft (begin_answer s others)).1)) (begin_draft s others draft);
  call_aside = λ s call others other_draft result other_draft' c.
      kept_aside s working (calling call) calls others other_draft (answered_call result).answer others other_draft' (ap (λ (o : Outcome). o.answer) c.answers) (sym ((unwritten s working others other_draft (call_answer s call others other_draft)).0 call)) c.leaves_draft;
  post_aside = λ s k others other_draft result others' other_draft' c.
      kept_aside s (drafted k) posting posts others other_draft (answered_close result).answer others' other_draft' (ap (λ (o : Outcome). o.answer) c.answers) c.leaves_cells c.leaves_draft;
  withdraw_aside = λ s k others other_draft result other_draft' c.
      kept_aside s (drafted k) withdrawing withdraws others other_draft (answered_close result).answer others other_draft' (ap (λ (o : Outcome). o.answer) c.answers)
      (sym ((unwritten s (drafted k) others other_draft (answer s (drafted k) withdrawing others other_draft)).2)) c.leaves_draft;
}
