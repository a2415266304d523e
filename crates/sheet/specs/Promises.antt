-- What every run of a sheet keeps, whatever it is told: the promises.
use Rattle.std.specs.Prelude.{◌≡◌, ℕ, ◌*◌, ◌<◌, true, cond, List, [], ◌∷◌, ℤ, ◌==◌}
use Rattle.arithmetic.specs.Sets.{Set}
use Rattle.arithmetic.specs.Tight.{Near}
use Rattle.arithmetic.specs.Values.{Value, empty, bounds, Within, Tightly}
use Rattle.cells.specs.declared.cell.Record.{Record}
use Rattle.cells.specs.Cells.{read_as, cell_at}
use Rattle.cells.specs.Held.{Held, Holds}
use Rattle.cells.specs.JoinLaws.{meet, hull}
use Rattle.cells.specs.Rules.{Rule}
use Rattle.layouts.specs.declared.side.Side.{Side}
use Rattle.layouts.specs.Matrix.{Matrix}
use Rattle.sheet.specs.declared.shape.Shape.{Shape}
use Rattle.sheet.specs.Answers.{Stage, filling, working, drafted, Ask, setting, beginning, calling, posting, withdrawing, Takes, sets, begins, calls, posts, withdraws, answer, stage_after, cells_after, draft_after}
use Rattle.sheet.specs.Calls.{Meaning, Call, dot, sum, blend, product, solve, join, copy, permute}
use Rattle.sheet.specs.Checks.{Answer, granted, refused}
use Rattle.sheet.specs.ExactRuns.{last_set, Choice, Follows, ExactRun}
use Rattle.sheet.specs.Formulas.{Reached, Gives}
use Rattle.sheet.specs.Memory.{has_both, cells_in, blanks}
use Rattle.sheet.specs.Shapes.{Legal}
use Rattle.sheet.specs.Runs.{Event, told, Ran, opened, went_on, lost_draft, turned_away}

-- ---- contains: the exact values lie inside the cells

-- a place that holds nothing counts as inside any cell
abbrev pub ColumnsHold : Shape → (cells : List Record) → (xs : ℕ → ℕ → Held) → Type 0
ColumnsHold s cells xs = (k row : ℕ) → k < s.columns → row < s.rows → Holds s.scale (cells_in s cells k row) (xs k row)

-- a draft stands while the sheet is drafted
abbrev pub DraftHolds : Shape → Stage → (draft : List Record) → (ys : ℕ → Held) → Type 0
DraftHolds s filling draft ys = Unit {0}
DraftHolds s working draft ys = Unit {0}
DraftHolds s (drafted k) draft ys = (row : ℕ) → row < s.rows → Holds s.scale (cell_at draft row) (ys row)

-- wherever a run and an exact run of the same history have come to
abbrev pub Contains : Type 0
Contains = (s : Shape) (h : List Event) (stage : Stage) (cells draft : List Record) (xs : ℕ → ℕ → Held) (ys : ℕ → Held)
    → Ran s h stage cells draft → ExactRun s h stage xs ys → ColumnsHold s cells xs × DraftHolds s stage draft ys

-- ---- keeps: a run stays within its memory, and what is set and what is posted is what stands

-- the memory that a run leaves is of its shape's size, so that no ask over it is refused for its length
abbrev pub KeepsLength : Type 0
KeepsLength = (s : Shape) (h : List Event) (stage : Stage) (cells draft : List Record) → Ran s h stage cells draft → has_both s cells draft ≡ true

-- while a sheet is filled, each cell is as the last granted set made it
abbrev pub StandsAsSet : Type 0
StandsAsSet = (s : Shape) (h : List Event) (cells draft : List Record) → Ran s h filling cells draft
    → (k row : ℕ) → k < s.columns → row < s.rows → cells_in s cells k row ≡ last_set h k row

-- while no draft stands, the draft's memory is empty
abbrev pub NoDraft : Stage → Type 0
NoDraft filling = Unit {0}
NoDraft working = Unit {0}
NoDraft (drafted k) = ⊥

abbrev pub KeepsDraftEmpty : Type 0
KeepsDraftEmpty = (s : Shape) (h : List Event) (stage : Stage) (cells draft : List Record) → Ran s h stage cells draft → NoDraft stage → draft ≡ blanks s.rows

-- a post is made of a draft that stood for some column k: after it column k is that draft, and the other columns are as they were
pub record PostedFrom (s : Shape) (h : List Event) (cells draft after : List Record) : Type 0 where
  pub k : ℕ
  pub before : Ran s h (drafted k) cells draft
  pub moved : (j row : ℕ) → j < s.columns → row < s.rows → cells_in s after j row ≡ cond (j == k) (cell_at draft row) (cells_in s cells j row)

abbrev pub PostMovesDraft : Type 0
PostMovesDraft = (s : Shape) (h : List Event) (cells draft : List Record) (stage : Stage) (after empty_draft : List Record)
    → Ran s (told posting cells draft granted ∷ h) stage after empty_draft → PostedFrom s h cells draft after

-- a withdraw leaves every column as it was
abbrev pub WithdrawMovesNothing : Type 0
WithdrawMovesNothing = (s : Shape) (h : List Event) (cells draft : List Record) (stage : Stage) (after empty_draft : List Record)
    → Ran s (told withdrawing cells draft granted ∷ h) stage after empty_draft → after ≡ cells

-- ---- close and tight: the cells are no wider than whole steps make them

-- each bound of the cell is less than one step, above or below, from a member
abbrev pub NearBounds : (u : ℤ) → Set → Value → Type 0
NearBounds u S empty = Unit {0}
NearBounds u S (bounds a b) = Near u a S × Near u b S

-- each bound that a granted call drafted is less than one step from a value that its own operands reach
abbrev pub Close : Type 0
Close = (s : Shape) (h : List Event) (call : Call) (cells before : List Record) (stage : Stage) (after draft : List Record)
    → Ran s (told (calling call) cells before granted ∷ h) stage after draft
    → (row : ℕ) → row < s.rows → NearBounds s.scale (Reached s call (cells_in s cells) (cell_at draft) row) (cell_at draft row)

-- more than that: the drafted cell holds every value that its operands reach, and is empty exactly where they reach none
abbrev pub TightDrafts : Type 0
TightDrafts = (s : Shape) (h : List Event) (call : Call) (cells before : List Record) (stage : Stage) (after draft : List Record)
    → Ran s (told (calling call) cells before granted ∷ h) stage after draft
    → (row : ℕ) → row < s.rows → Tightly s.scale (Reached s call (cells_in s cells) (cell_at draft) row) (cell_at draft row)

-- ---- isotone: a sheet begun inside another stays inside it

-- a matrix of the same shape, its entries inside the other's
pub record MatrixInside (u : ℤ) (inner outer : Matrix) : Type 0 where
  pub rows : inner.rows ≡ outer.rows
  pub columns : inner.columns ≡ outer.columns
  pub entries : (i j : ℕ) → i < outer.rows → j < outer.columns → Within u (inner.entry i j) (outer.entry i j)

-- the same call on the same columns, with the same side, rule and permutation, its operands inside those of the other
pub data CallInside (u : ℤ) : (inner outer : Call) → Type 0 where
  dot_inside : {k i x y : ℕ} {a b a' b' : Record} → Within u (read_as a') (read_as a) → Within u (read_as b') (read_as b) → CallInside u (dot k i x y a' b') (dot k i x y a b)
  sum_inside : {k i x : ℕ} → CallInside u (sum k i x) (sum k i x)
  blend_inside : {k x : ℕ} {a b a' b' : Record} → Within u (read_as a') (read_as a) → Within u (read_as b') (read_as b) → CallInside u (blend k x a' b') (blend k x a b)
  product_inside : {k x : ℕ} {l l' : Meaning} {a b a' b' : Record} → MatrixInside u l'.matrix l.matrix → Within u (read_as a') (read_as a) → Within u (read_as b') (read_as b) → CallInside u (product k x l' a' b') (product k x l a b)
  solve_inside : {k : ℕ} {side : Side} {t t' : Meaning} {a a' : Record} → MatrixInside u t'.matrix t.matrix → Within u (read_as a') (read_as a) → CallInside u (solve k side t' a') (solve k side t a)
  join_inside : {k x : ℕ} {rule : Rule} → CallInside u (join k x rule) (join k x rule)
  copy_inside : {k x : ℕ} → CallInside u (copy k x) (copy k x)
  permute_inside : {k : ℕ} {order : List ℕ} → CallInside u (permute k order) (permute k order)

-- what is asked of the inner sheet beside what is asked of the outer one
pub data AskInside (u : ℤ) : (inner outer : Ask) → Type 0 where
  call_inside : {call' call : Call} → CallInside u call' call → AskInside u (calling call') (calling call)
  post_inside : AskInside u posting posting
  withdraw_inside : AskInside u withdrawing withdrawing

abbrev pub ColumnsWithin : Shape → (cells' cells : List Record) → Type 0
ColumnsWithin s cells' cells = (k row : ℕ) → k < s.columns → row < s.rows → Within s.scale (cells_in s cells' k row) (cells_in s cells k row)

abbrev pub DraftWithin : Shape → Stage → (draft' draft : List Record) → Type 0
DraftWithin s filling draft' draft = Unit {0}
DraftWithin s working draft' draft = Unit {0}
DraftWithin s (drafted k) draft' draft = (row : ℕ) → row < s.rows → Within s.scale (cell_at draft' row) (cell_at draft row)

-- Inner s h' h: both sheets have begun, the first inside the second, nothing was refused of the second since, and the first was
-- asked the same list since, its operands inside. What the first answered is left open
pub data Inner (s : Shape) : (h' h : List Event) → Type 0 where
  both_begun : {h h' : List Event} {cells draft cells' draft' : List Record} → ColumnsWithin s cells' cells
      → Inner s (told beginning cells' draft' granted ∷ h') (told beginning cells draft granted ∷ h)
  both_asked : {h h' : List Event} {ask ask' : Ask} {cells draft cells' draft' : List Record} {a' : Answer} → Inner s h' h → AskInside s.scale ask' ask
      → Inner s (told ask' cells' draft' a' ∷ h') (told ask cells draft granted ∷ h)

-- all that was asked since the begin was supplied the memory that this run held then: of what was granted `Ran` says so, so that
-- something is said here of what was turned away only
abbrev pub OwnMemory : (s : Shape) {h : List Event} {stage : Stage} {cells draft : List Record} → Ran s h stage cells draft → Type 0
OwnMemory s (opened cells draft e) = Unit {0}
OwnMemory s (went_on ask r sets e) = Unit {0}
OwnMemory s (went_on ask r begins e) = Unit {0}
OwnMemory s (went_on ask r calls e) = OwnMemory s r
OwnMemory s (went_on ask r posts e) = OwnMemory s r
OwnMemory s (went_on ask r withdraws e) = OwnMemory s r
OwnMemory s (lost_draft ask refusal r t e z) = OwnMemory s r
OwnMemory s (turned_away {cells} {draft} ask others other_draft refusal r t e z) = (others ≡ cells) × (other_draft ≡ draft) × OwnMemory s r

-- nothing was refused since the sheet began
pub data NothingRefused : List Event → Type 0 where
  since_begin : {h : List Event} {cells draft : List Record} → NothingRefused (told beginning cells draft granted ∷ h)
  one_more : {h : List Event} {ask : Ask} {cells draft : List Record} → NothingRefused h → NothingRefused (told ask cells draft granted ∷ h)

-- a second run that is begun inside a first one of which nothing was refused, and asked the same list with operands inside, each
-- call with its own run's memory: nothing is refused of it either, and its columns and its standing draft lie inside the first's
abbrev pub Isotone : Type 0
Isotone = (s : Shape) (h h' : List Event) (stage stage' : Stage) (cells draft cells' draft' : List Record)
    → Ran s h stage cells draft → (r' : Ran s h' stage' cells' draft') → OwnMemory s r' → Inner s h' h
    → NothingRefused h' × (stage' ≡ stage) × ColumnsWithin s cells' cells × DraftWithin s stage draft' draft

-- Planned s asks h start: the sheet that was told h began with the cells `start` and nothing was refused of it since; the asks,
-- newest first, are inside of what it was asked since
pub data Planned (s : Shape) : (asks : List Ask) (h : List Event) (start : List Record) → Type 0 where
  nothing_asked : {h : List Event} {cells draft : List Record} → Planned s [] (told beginning cells draft granted ∷ h) cells
  then_asked : {asks : List Ask} {h : List Event} {start : List Record} {ask ask' : Ask} {cells draft : List Record} → Planned s asks h start → AskInside s.scale ask' ask
      → Planned s (ask' ∷ asks) (told ask cells draft granted ∷ h) start

-- AllGranted asks before h: h is the history `before` with these asks, newest first, all granted
pub data AllGranted : (asks : List Ask) (before h : List Event) → Type 0 where
  none_yet : {before : List Event} → AllGranted [] before before
  and_then : {asks : List Ask} {before h : List Event} {ask : Ask} {cells draft : List Record} → AllGranted asks before h → AllGranted (ask ∷ asks) before (told ask cells draft granted ∷ h)

-- a run that comes of a history by these asks, all of them granted, and stays inside what another run has left
pub record RunInside (s : Shape) (asks : List Ask) (before : List Event) (stage : Stage) (cells draft : List Record) : Type 0 where
  pub history : List Event
  pub inner_cells : List Record
  pub inner_draft : List Record
  pub run : Ran s history stage inner_cells inner_draft
  pub granted_all : AllGranted asks before history
  pub columns_inside : ColumnsWithin s inner_cells cells
  pub draft_inside : DraftWithin s stage inner_draft draft

-- and there is such a second run for every sheet that is begun inside the first and every list of operands inside
abbrev pub SecondRun : Type 0
SecondRun = (s : Shape) (h : List Event) (stage : Stage) (cells draft : List Record) → Ran s h stage cells draft
    → (asks : List Ask) (start : List Record) → Planned s asks h start
    → (h' : List Event) (start' draft' supplied : List Record) → Ran s (told beginning start' supplied granted ∷ h') working start' draft' → ColumnsWithin s start' start
    → RunInside s asks (told beginning start' supplied granted ∷ h') stage cells draft

-- ---- starts: a sheet of every legal shape can be opened

abbrev pub Starts : Type 0
Starts = (s : Shape) → Legal s → Ran s [] filling (blanks (s.rows * s.columns)) (blanks s.rows)

-- ---- goes on: whatever a stage takes is answered, and the run goes on with what the answer leaves

abbrev pub GoesOn : Type 0
GoesOn = (s : Shape) (h : List Event) (stage : Stage) (cells draft : List Record) → Ran s h stage cells draft → (ask : Ask) → Takes stage ask
    → Ran s (told ask cells draft (answer s stage ask cells draft) ∷ h) (stage_after stage ask (answer s stage ask cells draft)) (cells_after s stage ask cells draft (answer s stage ask cells draft)) (draft_after s ask cells draft (answer s stage ask cells draft))

-- ---- beside: there are exact runs, so that `Contains` is no empty talk

-- a rule can tell what it admits: it names an admitted value, or tells that there is none
abbrev pub Tells : Rule → Type 0
Tells rule = (p q : Held) → (y : Held) × Gives (λ v. rule.admits p q v ≡ true) y

-- the rule of a join can; of no other call is anything asked
abbrev pub CallTells : Call → Type 0
CallTells (dot k i x y alpha beta) = Unit {0}
CallTells (sum k i x) = Unit {0}
CallTells (blend k x alpha beta) = Unit {0}
CallTells (product k x l alpha beta) = Unit {0}
CallTells (solve k side t alpha) = Unit {0}
CallTells (join k x rule) = Tells rule
CallTells (copy k x) = Unit {0}
CallTells (permute k order) = Unit {0}

-- the rules of all granted joins can
abbrev pub AllTell : List Event → Type 0
AllTell [] = Unit {0}
AllTell (told (calling call) cells draft granted ∷ h) = CallTells call × AllTell h
AllTell (told (calling call) cells draft (refused refusal) ∷ h) = AllTell h
AllTell (told (setting k i lower upper) cells draft a ∷ h) = AllTell h
AllTell (told beginning cells draft a ∷ h) = AllTell h
AllTell (told posting cells draft a ∷ h) = AllTell h
AllTell (told withdrawing cells draft a ∷ h) = AllTell h

abbrev pub Begun : Stage → Type 0
Begun filling = ⊥
Begun working = Unit {0}
Begun (drafted k) = Unit {0}

-- beside every run there is an exact one
abbrev pub Beside : Type 0
Beside = (s : Shape) (h : List Event) (stage : Stage) (cells draft : List Record) → Ran s h stage cells draft → Begun stage → AllTell h
    → (xs : ℕ → ℕ → Held) × (ys : ℕ → Held) × ExactRun s h stage xs ys

-- and every exact run goes on beside a granted call with every choice of alpha, beta and the entries; `starts` of ExactRun takes
-- every choice inside the cells that were set
abbrev pub EveryChoice : Type 0
EveryChoice = (s : Shape) (h : List Event) (call : Call) (cells before : List Record) (stage : Stage) (after draft : List Record) → Ran s (told (calling call) cells before granted ∷ h) stage after draft → CallTells call
    → (xs : ℕ → ℕ → Held) (ys : ℕ → Held) → ExactRun s h working xs ys → (choice : Choice s call)
    → (new : ℕ → Held) × Follows s call choice xs new

pub record Promises : Type 0 where
  pub starts : Starts
  pub goes_on : GoesOn
  pub keeps_length : KeepsLength
  pub stands_as_set : StandsAsSet
  pub keeps_draft_empty : KeepsDraftEmpty
  pub post_moves_draft : PostMovesDraft
  pub withdraw_moves_nothing : WithdrawMovesNothing
  pub contains : Contains
  pub close : Close
  pub tight : TightDrafts
  pub isotone : Isotone
  pub second_run : SecondRun
  pub beside : Beside
  pub every_choice : EveryChoice
  pub meet_tells : Tells meet
  pub hull_tells : Tells hull
