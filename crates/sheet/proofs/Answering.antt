-- What a granted answer to open, set, begin, post and withdraw shows, and that none of these answers a refusal that empties the draft.
use Rattle.std.specs.Prelude.{◌≡◌, ℕ, ◌*◌, ◌<◌, Bool, true, false, cond, not, ◌&&◌, List, [], ◌∷◌, ℤ, pos, length, ◌==◌, nat_lt, nat_le, int_le}
use Rattle.std.proofs.Common.{refl, subst}
use Rattle.std.proofs.lemmas.Bool.{and_parts, and_from, not-true, ltb-true, leb-true, eqb-true, eq-eqb}
use Rattle.arithmetic.specs.Values.{empty, bounds}
use Rattle.arithmetic.proofs.Tests.{le_z_true}
use Rattle.cells.specs.declared.cell.Record.{Record}
use Rattle.cells.specs.Cells.{IsCell, broken}
use Rattle.cells.specs.Reading.{read_cell}
use Rattle.sheet.specs.declared.refusal.CallName.{CallName}
use Rattle.sheet.specs.declared.refusal.CallName.TheVariants.{Open, Set, Begin, Post, Withdraw}
use Rattle.sheet.specs.declared.refusal.Refusal.{Refusal}
use Rattle.sheet.specs.declared.refusal.Refusal.TheVariants.{ScaleOutside, ShapeOutside, WrongLength, NoSuchColumn, NoSuchRow, NoCell}
use Rattle.sheet.specs.declared.shape.Shape.{Shape}
use Rattle.sheet.specs.Answers.{Stage, working, Ask, calling, Takes, sets, begins, calls, posts, withdraws, open_answer, set_answer, begin_answer, close_answer, answer, empties_draft}
use Rattle.sheet.specs.Calls.{Call}
use Rattle.sheet.specs.Checks.{Check, check, Answer, granted, refused, first_refusal}
use Rattle.sheet.specs.Memory.{has_cells, has_both}
use Rattle.sheet.specs.Shapes.{legal_scale, legal_size, Legal}

-- ---- an answer is one of the two, not both

pub never_both : {X : Type 0} {refusal : Refusal} (a : Answer) → a ≡ granted → a ≡ refused refusal → X
never_both a e f = absurd (clash e f)
  where
    clash : {a : Answer} {refusal : Refusal} → a ≡ granted → a ≡ refused refusal → ⊥
    clash e f = cc

-- ---- the first check of a granted list passes, and the rest is granted

pub passes : (b : Bool) (refusal : Refusal) (rest : List Check) → first_refusal (check b refusal ∷ rest) granted ≡ granted → (b ≡ true) × (first_refusal rest granted ≡ granted)
passes true refusal rest e = (refl, e)
passes false refusal rest e = never_both (refused refusal) e refl

-- ---- memory of the right size

pub both_sized : (s : Shape) (cells draft : List Record) → has_both s cells draft ≡ true → (length cells ≡ s.rows * s.columns) × (length draft ≡ s.rows)
both_sized s cells draft e =
    let p = and_parts (has_cells s cells) (length draft == s.rows) e in
    (eqb-true (length cells) (s.rows * s.columns) p.0, eqb-true (length draft) s.rows p.1)

pub sized_cells : (s : Shape) (cells : List Record) → length cells ≡ s.rows * s.columns → has_cells s cells ≡ true
sized_cells s cells e = eq-eqb (length cells) (s.rows * s.columns) e

pub sized_both : (s : Shape) (cells draft : List Record) → length cells ≡ s.rows * s.columns → length draft ≡ s.rows → has_both s cells draft ≡ true
sized_both s cells draft e f = and_from (has_cells s cells) (length draft == s.rows) (sized_cells s cells e) (eq-eqb (length draft) s.rows f)

-- ---- open: only a legal shape is granted

pub opens_legal : (s : Shape) (cells draft : List Record) → open_answer s cells draft ≡ granted → Legal s
opens_legal s cells draft e =
    let a = passes (legal_scale s.scale) ScaleOutside (check (legal_size s.rows s.columns) ShapeOutside ∷ (check (has_both s cells draft) (WrongLength Open 0) ∷ [])) e in
    let b = passes (legal_size s.rows s.columns) ShapeOutside (check (has_both s cells draft) (WrongLength Open 0) ∷ []) a.1 in
    let u = and_parts (int_le (pos 1) s.scale) (int_le s.scale (pos 100000)) a.0 in
    let n = and_parts (nat_le 1 s.rows) (nat_le s.rows 1024 && (nat_le 1 s.columns && (nat_le s.columns 64 && nat_le (s.rows * s.columns) 4096))) b.0 in
    let m = and_parts (nat_le s.rows 1024) (nat_le 1 s.columns && (nat_le s.columns 64 && nat_le (s.rows * s.columns) 4096)) n.1 in
    let c = and_parts (nat_le 1 s.columns) (nat_le s.columns 64 && nat_le (s.rows * s.columns) 4096) m.1 in
    let d = and_parts (nat_le s.columns 64) (nat_le (s.rows * s.columns) 4096) c.1 in
    record {
      scale = (le_z_true (pos 1) s.scale u.0, le_z_true s.scale (pos 100000) u.1);
      some_rows = leb-true 1 s.rows n.0;
      few_rows = leb-true s.rows 1024 m.0;
      some_columns = leb-true 1 s.columns c.0;
      few_columns = leb-true s.columns 64 d.0;
      few_cells = leb-true (s.rows * s.columns) 4096 d.1;
    }

-- ---- set: there is such a place, and the two numbers are a cell

pub record SetGranted (s : Shape) (k i : ℕ) (lower upper : ℤ) (cells : List Record) : Type 0 where
  pub sized : length cells ≡ s.rows * s.columns
  pub column : k < s.columns
  pub row : i < s.rows
  pub cell : IsCell (bounds lower upper)

whole_cell : (lower upper : ℤ) → broken lower upper ≡ false → IsCell (bounds lower upper)
whole_cell lower upper e = subst (λ (t : Bool). IsCell (cond t empty (bounds lower upper))) e (read_cell (record { lower = lower; upper = upper }))

pub set_granted : (s : Shape) (k i : ℕ) (lower upper : ℤ) (cells : List Record) → set_answer s k i lower upper cells ≡ granted → SetGranted s k i lower upper cells
set_granted s k i lower upper cells e =
    let last = check (not (broken lower upper)) (NoCell k) ∷ [] in
    let a = passes (has_cells s cells) (WrongLength Set k) (check (nat_lt k s.columns) (NoSuchColumn Set k) ∷ (check (nat_lt i s.rows) (NoSuchRow Set k i) ∷ last)) e in
    let b = passes (nat_lt k s.columns) (NoSuchColumn Set k) (check (nat_lt i s.rows) (NoSuchRow Set k i) ∷ last) a.1 in
    let c = passes (nat_lt i s.rows) (NoSuchRow Set k i) last b.1 in
    let d = passes (not (broken lower upper)) (NoCell k) [] c.1 in
    record {
      sized = eqb-true (length cells) (s.rows * s.columns) a.0;
      column = ltb-true k s.columns b.0;
      row = ltb-true i s.rows c.0;
      cell = whole_cell lower upper (not-true (broken lower upper) d.0);
    }

-- ---- begin, post and withdraw are granted over memory of the right size

pub begin_granted : (s : Shape) (cells : List Record) → length cells ≡ s.rows * s.columns → begin_answer s cells ≡ granted
begin_granted s cells e = rw (sized_cells s cells e) refl

pub close_granted : (s : Shape) (call : CallName) (k : ℕ) (cells draft : List Record) → length cells ≡ s.rows * s.columns → length draft ≡ s.rows → close_answer s call k cells draft ≡ granted
close_granted s call k cells draft e f = rw (sized_both s cells draft e f) refl

-- ---- refusals that leave the draft as it was

abbrev Spares : Answer → Type 0
Spares granted = Unit {0}
Spares (refused refusal) = empties_draft refusal ≡ false

abbrev AllSpare : List Check → Type 0
AllSpare [] = Unit {0}
AllSpare (check b refusal ∷ rest) = (empties_draft refusal ≡ false) × AllSpare rest

checks_spare : (list : List Check) → AllSpare list → Spares (first_refusal list granted)
checks_spare [] h = tt
checks_spare (check true refusal ∷ rest) h = checks_spare rest h.1
checks_spare (check false refusal ∷ rest) h = h.0

spared : {X : Type 0} {refusal : Refusal} (a : Answer) → Spares a → a ≡ refused refusal → empties_draft refusal ≡ true → X
spared a h e z = absurd (both_true (subst Spares e h) z)
  where
    both_true : {b : Bool} → b ≡ false → b ≡ true → ⊥
    both_true e f = cc

-- the draft is emptied by the refusal of a call, which is asked while the sheet is working
pub data OfCall : Stage → Ask → Type 0 where
  of_call : {call : Call} → OfCall working (calling call)

pub only_calls : (s : Shape) {stage : Stage} {ask : Ask} (cells draft : List Record) (refusal : Refusal) → Takes stage ask → answer s stage ask cells draft ≡ refused refusal → empties_draft refusal ≡ true → OfCall stage ask
only_calls s cells draft refusal (sets {k} {i} {lower} {upper}) e z =
    spared (set_answer s k i lower upper cells)
    (checks_spare (check (has_cells s cells) (WrongLength Set k) ∷ (check (nat_lt k s.columns) (NoSuchColumn Set k) ∷ (check (nat_lt i s.rows) (NoSuchRow Set k i) ∷ (check (not (broken lower upper)) (NoCell k) ∷ [])))) (refl, (refl, (refl, (refl, tt)))))
    e z
only_calls s cells draft refusal begins e z = spared (begin_answer s cells) (checks_spare (check (has_cells s cells) (WrongLength Begin 0) ∷ []) (refl, tt)) e z
only_calls s cells draft refusal calls e z = of_call
only_calls s cells draft refusal (posts {k}) e z = spared (close_answer s Post k cells draft) (checks_spare (check (has_both s cells draft) (WrongLength Post k) ∷ []) (refl, tt)) e z
only_calls s cells draft refusal (withdraws {k}) e z = spared (close_answer s Withdraw k cells draft) (checks_spare (check (has_both s cells draft) (WrongLength Withdraw k) ∷ []) (refl, tt)) e z
