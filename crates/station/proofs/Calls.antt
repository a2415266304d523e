-- What the calls of the dam's sheet answer: a join is granted; a product, a solve and a sum are unless a bound of a cell is past the limit,
-- and the solve unless a factor on the diagonal holds 0. Assumes nothing.
use Rattle.std.proofs.Common.{◌≡◌, ℕ, ◌<◌, Bool, true, false, List, [], ◌∷◌, map, length, Some, None, Ok, Err, Option, Result, ℤ, cond, sym, refl, ap, subst, ◌∙◌, arith}
use Rattle.std.specs.Prelude.{nat_lt, nat_le, ◌&&◌}
use Rattle.std.specs.List.{range_with_len}
use Rattle.std.proofs.lemmas.Bool.{eq-eqb}
use Rattle.std.proofs.lemmas.Bool.Decides.{nat_tests}
use Rattle.arithmetic.specs.Values.{Value, empty, bounds}
use Rattle.rounding.specs.declared.fault.Bound.TheVariants as bound
use Rattle.rounding.specs.Outward.{beyond}
use Rattle.cells.specs.declared.cell.Record.{Record}
use Rattle.cells.specs.declared.fault.CellFault.{CellFault}
use Rattle.cells.specs.Cells.{IsCell, cell_at}
use Rattle.cells.specs.Faults.{kept, in_row}
use Rattle.cells.specs.JoinLaws.{meet}
use Rattle.cells.specs.Quotients.{zero_in}
use Rattle.layouts.specs.declared.side.Side.TheVariants.{Lower}
use Rattle.layouts.specs.Matrix.{Matrix}
use Rattle.layouts.specs.Orders.{rows_in_order, first_zero}
use Rattle.sheet.specs.declared.refusal.CallName.{CallName}
use Rattle.sheet.specs.declared.refusal.CallName.TheVariants.{Product, Solve, Sum}
use Rattle.sheet.specs.declared.refusal.Refusal.{Refusal}
use Rattle.sheet.specs.declared.refusal.Refusal.TheVariants.{DivisorHoldsZero, BeyondLimit}
use Rattle.sheet.specs.declared.shape.Shape.{Shape}
use Rattle.sheet.specs.Answers.{working, drafted, calling, set_answer, call_answer, stage_after, draft_after}
use Rattle.sheet.specs.Calls.{Meaning, Call, target, product, solve, sum, join}
use Rattle.sheet.specs.Checks.{Check, check, Answer, granted, refused, first_refusal, limits, lower_fits, upper_fits, past_limit, divides}
use Rattle.sheet.specs.Memory.{cells_in, written_rows}
use Rattle.sheet.specs.NewColumns.{new_column}
use Rattle.sheet.specs.Outcomes.{Outcome, answered_call, Calls}
use Rattle.sheet.specs.declared.refusal.SheetFault.{SheetFault}
use Rattle.sheet.specs.declared.states.Drafted.{Drafted}
use Rattle.sheet.specs.declared.states.Refused.{Refused}
use Rattle.station.specs.Boxes.{dam_shape}
use Rattle.station.specs.Stops.{fault_of, or_else, first_past}
use Rattle.station.proofs.Sheets.{fits, drafted as rows_drafted}

named : (k : ℕ) → k < 32 → nat_lt k 32 ≡ true
named k h = grind (arith, nat_tests)

has_room : (rows columns : ℕ) → rows ≡ 3 → columns ≡ 3 → nat_le rows 3 && nat_le columns 3 ≡ true
has_room rows columns r c = rw (r, c) refl

pub not_refused : (r : Refusal) → refused r ≡ granted → ⊥
not_refused r e = cc

pub set_granted : (s : Shape) (k i : ℕ) (lower upper : ℤ) (cells : List Record) → s ≡ dam_shape → k < 32 → i < 3 → length cells ≡ 96 → IsCell (bounds lower upper) → set_answer s k i lower upper cells ≡ granted
set_granted s k i lower upper cells e h g l c =
    let row : nat_lt i 3 ≡ true = grind (arith, nat_tests) in
    rw (e, eq-eqb (length cells) 96 l, named k h, row, fits lower upper c.0 c.1 c.2) refl

pub meet_answer : (s : Shape) (k x : ℕ) (cells draft : List Record) → s ≡ dam_shape → k < 32 → x < 32 → length cells ≡ 96 → length draft ≡ 3 → call_answer s (join k x meet) cells draft ≡ granted
unfolding call_answer
meet_answer s k x cells draft e h g lc ld = rw (e, eq-eqb (length cells) 96 lc, eq-eqb (length draft) 3 ld, named k h, named x g) refl

-- ---- a bound past the limit

abbrev pub at_bound : CallName → (k : ℕ) → Option CellFault → Answer → Answer
at_bound call k None then = then
at_bound call k (Some f) then = refused (BeyondLimit (record { call = call; column = k; cell = f }))

-- a row is refused exactly where its cell is not kept
limit_row : (call : CallName) (k row : ℕ) (v : Value) (rest : List Check)
    → first_refusal (check (lower_fits v) (past_limit call k row bound.Lower) ∷ (check (upper_fits v) (past_limit call k row bound.Upper) ∷ rest)) granted
    ≡ at_bound call k (fault_of (in_row row (kept v))) (first_refusal rest granted)
limit_row call k row empty rest = refl
limit_row call k row (bounds a b) rest = by (beyond a) (beyond b) refl refl
  where
    by : (p q : Bool) → beyond a ≡ p → beyond b ≡ q
        → first_refusal (check (lower_fits (bounds a b)) (past_limit call k row bound.Lower) ∷ (check (upper_fits (bounds a b)) (past_limit call k row bound.Upper) ∷ rest)) granted
        ≡ at_bound call k (fault_of (in_row row (kept (bounds a b)))) (first_refusal rest granted)
    by true q e f = rw e refl
    by false true e f = rw (e, f) refl
    by false false e f = rw (e, f) refl

first_of_three : (call : CallName) (k : ℕ) (a b c : Option CellFault) → at_bound call k a (at_bound call k b (at_bound call k c granted)) ≡ at_bound call k (or_else a (or_else b c)) granted
first_of_three call k (Some f) b c = refl
first_of_three call k None (Some f) c = refl
first_of_three call k None None c = refl

three_rows : (call : CallName) (k : ℕ) (new : ℕ → Value) → first_refusal (limits call k new (0 ∷ (1 ∷ (2 ∷ [])))) granted ≡ at_bound call k (first_past new) granted
three_rows call k new =
    limit_row call k 0 (new 0) (limits call k new (1 ∷ (2 ∷ [])))
    ∙ (ap (at_bound call k (fault_of (in_row 0 (kept (new 0))))) (limit_row call k 1 (new 1) (limits call k new (2 ∷ []))
    ∙ ap (at_bound call k (fault_of (in_row 1 (kept (new 1))))) (limit_row call k 2 (new 2) []))
    ∙ first_of_three call k (fault_of (in_row 0 (kept (new 0)))) (fault_of (in_row 1 (kept (new 1)))) (fault_of (in_row 2 (kept (new 2)))))

-- ---- a product over a matrix of three rows and columns

pub product_answer : (s : Shape) (k x : ℕ) (l : Meaning) (alpha beta : Record) (cells draft : List Record) → s ≡ dam_shape → k < 32 → x < 32 → length cells ≡ 96 → length draft ≡ 3 → l.matrix.rows ≡ 3 → l.matrix.columns ≡ 3
    → call_answer s (product k x l alpha beta) cells draft ≡ at_bound Product k (first_past (new_column dam_shape (product k x l alpha beta) (cells_in dam_shape cells))) granted
unfolding call_answer
product_answer s k x l alpha beta cells draft e h g lc ld rows columns =
    let three : range_with_len 0 l.matrix.rows ≡ 0 ∷ (1 ∷ (2 ∷ [])) = ap (range_with_len 0) rows in
    rw (e, eq-eqb (length cells) 96 lc, eq-eqb (length draft) 3 ld, named k h, named x g, has_room l.matrix.rows l.matrix.columns rows columns, three) (three_rows Product k (new_column dam_shape (product k x l alpha beta) (cells_in dam_shape cells)))

-- ---- a solve over a triangle of three rows

abbrev pub at_zero : (k : ℕ) → Option ℕ → Answer → Answer
at_zero k None then = then
at_zero k (Some row) then = refused (DivisorHoldsZero k row)

divided_rows : (k : ℕ) (m : Matrix) (rows : List ℕ) (then : Answer) → first_refusal (map (divides k m) rows) then ≡ at_zero k (first_zero m rows) then
divided_rows k m [] then = refl
divided_rows k m (row ∷ rows) then = by (zero_in (m.entry row row)) refl (divided_rows k m rows then)
  where
    by : (t : Bool) → zero_in (m.entry row row) ≡ t → first_refusal (map (divides k m) rows) then ≡ at_zero k (first_zero m rows) then → first_refusal (map (divides k m) (row ∷ rows)) then ≡ at_zero k (first_zero m (row ∷ rows)) then
    by true e rest = rw e refl
    by false e rest = rw e rest

pub rising : rows_in_order Lower 3 ≡ 0 ∷ (1 ∷ (2 ∷ []))
unfolding rows_in_order
rising = refl

pub solve_answer : (s : Shape) (k : ℕ) (t : Meaning) (alpha : Record) (cells draft : List Record) → s ≡ dam_shape → k < 32 → length cells ≡ 96 → length draft ≡ 3 → t.matrix.rows ≡ 3 → t.matrix.columns ≡ 3
    → call_answer s (solve k Lower t alpha) cells draft ≡ at_zero k (first_zero t.matrix (rows_in_order Lower 3)) (at_bound Solve k (first_past (new_column dam_shape (solve k Lower t alpha) (cells_in dam_shape cells))) granted)
unfolding call_answer
solve_answer s k t alpha cells draft e h lc ld rows columns =
    let new = new_column dam_shape (solve k Lower t alpha) (cells_in dam_shape cells) in
    let limited : List ℕ → Answer = λ rs. first_refusal (limits Solve k new rs) granted in
    rw (e, eq-eqb (length cells) 96 lc, eq-eqb (length draft) 3 ld, named k h, has_room t.matrix.rows t.matrix.columns rows columns, ap (rows_in_order Lower) rows)
    (divided_rows k t.matrix (rows_in_order Lower 3) (limited (rows_in_order Lower 3))
    ∙ ap (at_zero k (first_zero t.matrix (rows_in_order Lower 3))) (ap limited rising ∙ three_rows Solve k new))

-- ---- a sum into the first row

pub sum_answer : (s : Shape) (k x : ℕ) (cells draft : List Record) → s ≡ dam_shape → k < 32 → x < 32 → length cells ≡ 96 → length draft ≡ 3
    → call_answer s (sum k 0 x) cells draft ≡ at_bound Sum k (fault_of (in_row 0 (kept (new_column dam_shape (sum k 0 x) (cells_in dam_shape cells) 0)))) granted
unfolding call_answer
sum_answer s k x cells draft e h g lc ld =
    rw (e, eq-eqb (length cells) 96 lc, eq-eqb (length draft) 3 ld, named k h, named x g) (limit_row Sum k 0 (new_column dam_shape (sum k 0 x) (cells_in dam_shape cells) 0) [])

-- ---- what came of a call, by its contract

pub came_granted : (s : Shape) (call : Call) (cells draft draft' : List Record) (result : Result Drafted Refused) (d : Drafted) → Calls s call cells draft result draft' → result ≡ Ok d → call_answer s call cells draft ≡ granted
came_granted s call cells draft draft' result d calls e = sym (ap (λ (o : Outcome). o.answer) (ap answered_call (sym e) ∙ calls.answers))

pub came_refused : (s : Shape) (call : Call) (cells draft draft' : List Record) (result : Result Drafted Refused) (r : Refused) → Calls s call cells draft result draft' → result ≡ Err r → call_answer s call cells draft ≡ refused r.refusal
came_refused s call cells draft draft' result r calls e = sym (ap (λ (o : Outcome). o.answer) (ap answered_call (sym e) ∙ calls.answers))

for_column : (spent : Bool) (column k : ℕ) → cond spent working (drafted column) ≡ drafted k → column ≡ k
for_column true column k e = cc
for_column false column k e = cc

pub came_for : (s : Shape) (call : Call) (cells draft draft' : List Record) (result : Result Drafted Refused) (d : Drafted) → Calls s call cells draft result draft' → result ≡ Ok d → d.column ≡ target call
came_for s call cells draft draft' result d calls e =
    let a : call_answer s call cells draft ≡ granted = came_granted s call cells draft draft' result d calls e in
    for_column d.spent d.column (target call) (ap (λ (o : Outcome). o.stage) (ap answered_call (sym e) ∙ calls.answers) ∙ ap (stage_after working (calling call)) a)

-- the draft that a granted call leaves
pub call_drafted : (s : Shape) (call : Call) (cells draft draft' : List Record) → s ≡ dam_shape → call_answer s call cells draft ≡ granted
    → draft' ≡ draft_after s (calling call) cells draft (call_answer s call cells draft) → draft' ≡ written_rows 3 (new_column dam_shape call (cells_in dam_shape cells))
call_drafted s call cells draft draft' e a d = d ∙ rw (a, e) refl

-- each row of it reads as the cell that was worked out
pub row_drafted : (new v : ℕ → Value) (draft' : List Record) (row : ℕ) → draft' ≡ written_rows 3 new → row < 3 → new row ≡ v row → IsCell (v row) → cell_at draft' row ≡ v row
row_drafted new v draft' row d h e c = ap (λ r. cell_at r row) d ∙ (rows_drafted new row h (subst IsCell (sym e) c) ∙ e)

-- ---- what an answer tells of the cells

pub within_bounds : (call : CallName) (k : ℕ) (o : Option CellFault) → at_bound call k o granted ≡ granted → o ≡ None
within_bounds call k None e = refl
within_bounds call k (Some f) e = cc

pub past_bound : (call : CallName) (k : ℕ) (o : Option CellFault) (f : SheetFault) → at_bound call k o granted ≡ refused (BeyondLimit f) → o ≡ Some f.cell
past_bound call k None f e = cc
past_bound call k (Some g) f e = cc

pub only_bounds : (call : CallName) (k : ℕ) (o : Option CellFault) (r : Refusal) → at_bound call k o granted ≡ refused r → ((f : SheetFault) → r ≡ BeyondLimit f → ⊥) → ⊥
only_bounds call k None r e other = cc
only_bounds call k (Some f) r e other = other (record { call = call; column = k; cell = f }) cc

-- ---- and of the factors

pub at_zero_granted : (call : CallName) (k : ℕ) (z : Option ℕ) (o : Option CellFault) → at_zero k z (at_bound call k o granted) ≡ granted → (z ≡ None) × (o ≡ None)
at_zero_granted call k None None e = (refl, refl)
at_zero_granted call k None (Some f) e = cc
at_zero_granted call k (Some row) o e = cc

pub at_zero_divisor : (call : CallName) (k column row : ℕ) (z : Option ℕ) (o : Option CellFault) → at_zero k z (at_bound call k o granted) ≡ refused (DivisorHoldsZero column row) → z ≡ Some row
at_zero_divisor call k column row None None e = cc
at_zero_divisor call k column row None (Some f) e = cc
at_zero_divisor call k column row (Some r) o e = cc

pub at_zero_bound : (call : CallName) (k : ℕ) (z : Option ℕ) (o : Option CellFault) (f : SheetFault) → at_zero k z (at_bound call k o granted) ≡ refused (BeyondLimit f) → (z ≡ None) × (o ≡ Some f.cell)
at_zero_bound call k None None f e = cc
at_zero_bound call k None (Some g) f e = (refl, cc)
at_zero_bound call k (Some r) o f e = cc

pub only_these : (call : CallName) (k : ℕ) (z : Option ℕ) (o : Option CellFault) (r : Refusal) → at_zero k z (at_bound call k o granted) ≡ refused r → ((column row : ℕ) → r ≡ DivisorHoldsZero column row → ⊥) → ((f : SheetFault) → r ≡ BeyondLimit f → ⊥) → ⊥
only_these call k None None r e zero bound = cc
only_these call k None (Some f) r e zero bound = bound (record { call = call; column = k; cell = f }) cc
only_these call k (Some row) o r e zero bound = zero k row cc
