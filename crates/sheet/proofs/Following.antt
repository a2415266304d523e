-- The exact run goes on beside a granted call with every choice, and with some choice beside every run.
use Rattle.std.specs.Prelude.{ℕ, List, ◌∷◌, pos, ◌<ℤ◌, slice_index_or}
use Rattle.std.proofs.Common.{refl, subst}
use Rattle.cells.specs.declared.cell.Record.{Record}
use Rattle.cells.specs.Cells.{IsCell, blank}
use Rattle.cells.specs.Held.{Held, nothing, Chosen}
use Rattle.cells.specs.Holding.{choice, scale_positive}
use Rattle.cells.specs.Laws.{Laws}
use Rattle.sheet.specs.declared.refusal.Refusal.{Refusal}
use Rattle.sheet.specs.declared.shape.Shape.{Shape}
use Rattle.sheet.specs.Answers.{Stage, filling, working, Ask, setting, beginning, calling, posting, withdrawing, sets, begins, calls, posts, withdraws}
use Rattle.sheet.specs.Calls.{Call, dot, sum, blend, product, solve, join, copy, permute, alpha_of, beta_of, entry_of}
use Rattle.sheet.specs.Checks.{granted, refused}
use Rattle.sheet.specs.ExactRuns.{Choice, Follows, ExactRun, starts, drafts, posts as exact_posts, withdraws as exact_withdraws, stays}
use Rattle.sheet.specs.Memory.{column, cells_in}
use Rattle.sheet.specs.Promises.{CallTells, AllTell, Begun}
use Rattle.sheet.specs.Runs.{Event, told, Ran, opened, went_on, lost_draft, turned_away}
use Rattle.sheet.proofs.Containing.{filled}
use Rattle.sheet.proofs.Keeping.{legal}
use Rattle.sheet.proofs.Owes.{Owes}

-- what stands in a refused event is asked of no rule
refused_tells : (ask : Ask) (cells draft : List Record) (refusal : Refusal) (h : List Event) → AllTell (told ask cells draft (refused refusal) ∷ h) → AllTell h
refused_tells (setting k i lower upper) cells draft refusal h t = t
refused_tells beginning cells draft refusal h t = t
refused_tells (calling call) cells draft refusal h t = t
refused_tells posting cells draft refusal h t = t
refused_tells withdrawing cells draft refusal h t = t

module _ (laws : Laws) where
  -- the operands of a call are cells
  alpha_cell : (call : Call) → IsCell (alpha_of call)
  alpha_cell (dot k i x y alpha beta) = laws.read_cell alpha
  alpha_cell (sum k i x) = tt
  alpha_cell (blend k x alpha beta) = laws.read_cell alpha
  alpha_cell (product k x l alpha beta) = laws.read_cell alpha
  alpha_cell (solve k side t alpha) = laws.read_cell alpha
  alpha_cell (join k x rule) = tt
  alpha_cell (copy k x) = tt
  alpha_cell (permute k order) = tt

  beta_cell : (call : Call) → IsCell (beta_of call)
  beta_cell (dot k i x y alpha beta) = laws.read_cell beta
  beta_cell (sum k i x) = tt
  beta_cell (blend k x alpha beta) = laws.read_cell beta
  beta_cell (product k x l alpha beta) = laws.read_cell beta
  beta_cell (solve k side t alpha) = tt
  beta_cell (join k x rule) = tt
  beta_cell (copy k x) = tt
  beta_cell (permute k order) = tt

  entry_cell : (call : Call) (i j : ℕ) → IsCell (entry_of call i j)
  entry_cell (dot k i x y alpha beta) _ _ = tt
  entry_cell (sum k i x) _ _ = tt
  entry_cell (blend k x alpha beta) _ _ = tt
  entry_cell (product k x l alpha beta) i j = l.sound.cell i j
  entry_cell (solve k side t alpha) i j = t.sound.cell i j
  entry_cell (join k x rule) _ _ = tt
  entry_cell (copy k x) _ _ = tt
  entry_cell (permute k order) _ _ = tt

  -- some choice of them: a cell that is not empty has its lower bound inside
  some_choice : (s : Shape) (call : Call) → pos 0 <ℤ s.scale → Choice s call
  some_choice s call z =
      let a = choice s.scale (alpha_of call) z (alpha_cell call) in
      let b = choice s.scale (beta_of call) z (beta_cell call) in
      record {
        alpha = a.0;
        beta = b.0;
        entry = λ i j. (choice s.scale (entry_of call i j) z (entry_cell call i j)).0;
        in_alpha = a.1;
        in_beta = b.1;
        in_entry = λ i j. (choice s.scale (entry_of call i j) z (entry_cell call i j)).1;
      }

module _ (laws : Laws) (s : Shape) (owes : Owes s) where
  pub every_choice : {h : List Event} {call : Call} {cells before : List Record} {stage : Stage} {after draft : List Record} → Ran s (told (calling call) cells before granted ∷ h) stage after draft → CallTells call
      → (xs : ℕ → ℕ → Held) (c : Choice s call) → (new : ℕ → Held) × Follows s call c xs new
  every_choice (went_on {cells} {draft} ask r (calls {call}) e) t xs c = (owes.of_granted call cells draft e).follows t xs c

  -- the values that an exact run takes at begin: in each cell one that can be chosen
  begun : {h : List Event} {cells draft : List Record} (supplied other : List Record) → Ran s h filling cells draft
      → (xs : ℕ → ℕ → Held) × ExactRun s (told beginning supplied other granted ∷ h) working xs (λ row. nothing)
  begun {h} {cells} supplied other r =
      let z = scale_positive s.scale (legal r).scale in
      let some = λ (k row : ℕ). choice s.scale (cells_in s cells k row) z (laws.read_cell (slice_index_or (column s cells k) row blank)) in
      (λ k row. (some k row).0, starts (λ k row. (some k row).0) (λ k row a b. subst (λ c. Chosen s.scale c (some k row).0) (filled laws s owes r refl k row a b) (some k row).1))

  pub beside : {h : List Event} {stage : Stage} {cells draft : List Record} → Ran s h stage cells draft → Begun stage → AllTell h → (xs : ℕ → ℕ → Held) × (ys : ℕ → Held) × ExactRun s h stage xs ys
  beside (opened cells draft e) g t = absurd g
  beside (went_on ask r sets e) g t = absurd g
  beside (went_on {cells} {draft} ask r begins e) g t = let x = begun cells draft r in (x.0, λ row. nothing, x.1)
  beside (went_on {h} {cells} {draft} ask r (calls {call}) e) g t =
      let x = beside r tt t.1 in
      let c = some_choice laws s call (scale_positive s.scale (legal r).scale) in
      let new = every_choice (went_on (calling call) r calls e) t.0 x.0 c in
      (x.0, new.0, drafts call c new.0 x.2 new.1)
  beside (went_on ask r posts e) g t = let x = beside r tt t in (_, _, exact_posts x.2)
  beside (went_on ask r withdraws e) g t = let x = beside r tt t in (_, _, exact_withdraws x.2)
  beside (lost_draft {h} {cells} {draft} ask refusal r taken e z) g t = let x = beside r g (refused_tells ask cells draft refusal h t) in (x.0, x.1, stays ask refusal x.2)
  beside (turned_away {h} ask others other_draft refusal r taken e z) g t = let x = beside r g (refused_tells ask others other_draft refusal h t) in (x.0, x.1, stays ask refusal x.2)
