-- The exact run: the same calls in exact fractions, nothing rounded. It is told which of them were granted, and holds a fraction or
-- nothing at each place.
use Rattle.std.specs.Prelude.{ℕ, ◌<◌, cond, ◌&&◌, List, [], ◌∷◌, ◌==◌}
use Rattle.arithmetic.specs.Values.{Value, empty, bounds}
use Rattle.cells.specs.declared.cell.Record.{Record}
use Rattle.cells.specs.Held.{Held, nothing, Chosen}
use Rattle.sheet.specs.declared.refusal.Refusal.{Refusal}
use Rattle.sheet.specs.declared.shape.Shape.{Shape}
use Rattle.sheet.specs.Answers.{Stage, working, drafted, Ask, setting, beginning, calling, posting, withdrawing}
use Rattle.sheet.specs.Calls.{Call, target, alpha_of, beta_of, entry_of}
use Rattle.sheet.specs.Checks.{granted, refused}
use Rattle.sheet.specs.Formulas.{Formula, Only, Gives}
use Rattle.sheet.specs.Runs.{Event, told}

-- the cell at a row of column k as the last granted set made it; empty where there was none
abbrev pub last_set : List Event → (k row : ℕ) → Value
last_set [] k row = empty
last_set (told (setting k' i lower upper) cells draft granted ∷ h) k row = cond (k == k' && row == i) (bounds lower upper) (last_set h k row)
last_set (told (setting k' i lower upper) cells draft (refused refusal) ∷ h) k row = last_set h k row
last_set (told beginning cells draft answer ∷ h) k row = last_set h k row
last_set (told (calling call) cells draft answer ∷ h) k row = last_set h k row
last_set (told posting cells draft answer ∷ h) k row = last_set h k row
last_set (told withdrawing cells draft answer ∷ h) k row = last_set h k row

-- what is chosen for the operands that stand in a call: a fraction inside each, nothing for an empty one only
pub record Choice (s : Shape) (call : Call) : Type 0 where
  pub alpha : Held
  pub beta : Held
  pub entry : (i j : ℕ) → Held
  pub in_alpha : Chosen s.scale (alpha_of call) alpha
  pub in_beta : Chosen s.scale (beta_of call) beta
  pub in_entry : (i j : ℕ) → Chosen s.scale (entry_of call i j) (entry i j)

-- the column ys follows by the formula of the call from the columns xs: at each row what the formula gives, and nothing where an
-- operand is nothing or a rule admits none
abbrev pub Follows : (s : Shape) (call : Call) → Choice s call → (xs : ℕ → ℕ → Held) (ys : ℕ → Held) → Type 0
Follows s call c xs ys = (row : ℕ) → row < s.rows → Gives (Formula s call (Only c.alpha) (Only c.beta) (λ i j. Only (c.entry i j)) (λ k i. Only (xs k i)) (λ i. Only (ys i)) row) (ys row)

-- the columns with ys in the place of column k
abbrev pub with_values : (k : ℕ) (ys : ℕ → Held) (xs : ℕ → ℕ → Held) → (j row : ℕ) → Held
with_values k ys xs j row = cond (j == k) (ys row) (xs j row)

-- ExactRun s history stage xs ys: the exact run has come to the columns xs and, where the stage is drafted, to the draft ys
pub data ExactRun (s : Shape) : (history : List Event) → Stage → (xs : ℕ → ℕ → Held) (ys : ℕ → Held) → Type 0 where
  -- at begin it takes any fraction inside each cell as the last granted set made it, nothing for one that was never set
  starts : {h : List Event} {cells draft : List Record} (xs : ℕ → ℕ → Held) → ((k row : ℕ) → k < s.columns → row < s.rows → Chosen s.scale (last_set h k row) (xs k row))
      → ExactRun s (told beginning cells draft granted ∷ h) working xs (λ row. nothing)
  drafts : {h : List Event} {cells draft : List Record} {xs : ℕ → ℕ → Held} {ys : ℕ → Held} (call : Call) (choice : Choice s call) (new : ℕ → Held) → ExactRun s h working xs ys → Follows s call choice xs new
      → ExactRun s (told (calling call) cells draft granted ∷ h) (drafted (target call)) xs new
  posts : {h : List Event} {cells draft : List Record} {xs : ℕ → ℕ → Held} {ys : ℕ → Held} {k : ℕ} → ExactRun s h (drafted k) xs ys
      → ExactRun s (told posting cells draft granted ∷ h) working (with_values k ys xs) (λ row. nothing)
  withdraws : {h : List Event} {cells draft : List Record} {xs : ℕ → ℕ → Held} {ys : ℕ → Held} {k : ℕ} → ExactRun s h (drafted k) xs ys
      → ExactRun s (told withdrawing cells draft granted ∷ h) working xs (λ row. nothing)
  -- what is refused does nothing
  stays : {h : List Event} {cells draft : List Record} {stage : Stage} {xs : ℕ → ℕ → Held} {ys : ℕ → Held} (ask : Ask) (refusal : Refusal) → ExactRun s h stage xs ys
      → ExactRun s (told ask cells draft (refused refusal) ∷ h) stage xs ys
