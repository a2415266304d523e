-- Worked cases: what a definition gives, beside what it should give.
use Rattle.std.specs.Prelude.{◌≡◌, ℕ, List, [], ◌∷◌, ℤ, pos, neg_ℤ, Some, Ok, Err, Result}
use Rattle.arithmetic.specs.Values.{Value, empty, bounds}
use Rattle.rounding.specs.declared.fault.Bound.{Bound}
use Rattle.rounding.specs.declared.fault.Bound.TheVariants.{Lower, Upper}
use Rattle.cells.specs.declared.cell.Record.{Record}
use Rattle.cells.specs.declared.fault.CellFault.{CellFault}
use Rattle.cells.specs.Cells.{blank}
use Rattle.cells.specs.JoinLaws.{meet, hull}
use Rattle.cells.specs.Questions.{width_of, middle_of}
use Rattle.cells.specs.Quotients.{divided}
use Rattle.cells.specs.Worked.{dot_at, sum_at, blend_at}

-- a list of cases, of answers of any kind; the parts above put theirs before the ones that stand here
pub data Cases : Type 1 where
  end : Cases
  case : {A : Type 0} (got expected : A) → Cases → Cases

abbrev pub AllHold : Cases → Type 0
AllHold end = Unit {0}
AllHold (case got expected rest) = (got ≡ expected) × AllHold rest

-- the cell [l, u] as a record, the cell [n, n], and a run of one cell
abbrev rec : ℤ → ℤ → Record
rec l u = record { lower = l; upper = u }

abbrev point : ℕ → Record
point n = rec (pos n) (pos n)

abbrev one : Record → List Record
one r = r ∷ []

-- the factor [n, n], and the opposite of a number
abbrev factor : ℕ → Value
factor n = bounds (pos n) (pos n)

abbrev minus : ℕ → ℤ
minus n = neg_ℤ (pos n)

-- the limit
abbrev M : ℕ
M = 131071

-- the answer that is the empty cell, and the fault at row 1
abbrev emptied : Result Record CellFault
emptied = Ok (rec (pos 1) (pos 0))

abbrev past : Bound → Result Record CellFault
past bound = Err (record { row = 1; rounding = record { bound = bound } })

-- all is worked at row 1, and row 0 is empty: dot with U = 10, with beta and the old cell [0, 0] where these are not told
abbrev under : Record → List Record
under r = blank ∷ one r

abbrev dot_with : (alpha beta : Value) (r : Record) (xs ys : List Record) (n : ℕ) → Result Record CellFault
dot_with alpha beta r xs ys n = dot_at (pos 10) alpha beta (under r) 1 xs ys n

abbrev dot : (alpha : Value) (xs ys : List Record) (n : ℕ) → Result Record CellFault
dot alpha xs ys n = dot_with alpha (factor 0) (point 0) xs ys n

abbrev sum : List Record → ℕ → Result Record CellFault
sum xs n = sum_at 1 xs n

abbrev blend : (U : ℕ) (x : Record) (alpha : ℕ) (r : Record) (beta : ℕ) → Result Record CellFault
blend U x alpha r beta = blend_at (pos U) (factor alpha) (factor beta) (under r) 1 (under x)

-- [10, 20] and [−5, 5]; [3, 3] and [2, 4]
abbrev two_xs : List Record
two_xs = rec (pos 10) (pos 20) ∷ one (rec (minus 5) (pos 5))

abbrev two_ys : List Record
two_ys = point 3 ∷ one (rec (pos 2) (pos 4))

abbrev dots : Cases → Cases
dots rest =
    -- [7, 7] times [10, 20]·[3, 3] + [−5, 5]·[2, 4], and the same with [20, 20] times the old cell [10, 10]
    case (dot (factor 7) two_xs two_ys 2) (Ok (rec (pos 0) (pos 6)))
    (case (dot_with (factor 7) (factor 20) (point 10) two_xs two_ys 2) (Ok (rec (pos 20) (pos 26)))
    -- a product between two steps is rounded down and up
    (case (dot (factor 10) (one (rec (minus 3) (minus 3))) (one (point 5)) 1) (Ok (rec (minus 2) (minus 1)))
    -- an empty operand empties the cell even under a factor of zero, and so does a run that is too short
    (case (dot (factor 0) (one blank) (one (point 5)) 1) emptied
    (case (dot (factor 0) two_xs (one (point 3)) 2) emptied rest))))

abbrev sums : Cases → Cases
sums rest =
    case (sum (rec (pos 1) (pos 2) ∷ (rec (pos 3) (pos 5) ∷ one (point 7))) 2) (Ok (rec (pos 4) (pos 7)))
    (case (sum (one (point 7)) 2) emptied
    -- at the limit below, and one step beyond it; beyond it above with both bounds, the lower is told
    (case (sum (one (rec (minus M) (pos 0))) 1) (Ok (rec (minus M) (pos 0)))
    (case (sum (rec (minus M) (pos 0) ∷ one (rec (minus 1) (pos 0))) 2) (past Lower)
    (case (sum (point M ∷ one (point 1)) 2) (past Lower) rest))))

abbrev blends : Cases → Cases
blends rest =
    case (blend 10 (rec (pos 1) (pos 3)) 5 (point 10) 10) (Ok (rec (pos 10) (pos 12)))
    -- at the limit, and one step beyond it: the fault of the upper bound
    (case (blend 1 (point M) 1 (point 0) 1) (Ok (point M))
    (case (blend 1 (point M) 1 (rec (pos 0) (pos 1)) 1) (past Upper) rest))

abbrev joins : Cases → Cases
joins rest =
    case (meet.joined (bounds (pos 1) (pos 4)) (bounds (pos 4) (pos 9))) (bounds (pos 4) (pos 4))
    (case (meet.joined (bounds (pos 1) (pos 3)) (bounds (pos 4) (pos 9))) empty
    (case (hull.joined (bounds (pos 1) (pos 2)) empty) (bounds (pos 1) (pos 2)) rest))

-- the sum [7, 9] divided by [2, 3]; and the questions about [−3, 0]
abbrev others : Cases → Cases
others rest =
    case (divided (bounds (pos 7) (pos 9)) (bounds (pos 2) (pos 3))) (bounds (pos 2) (pos 5))
    (case (width_of (bounds (minus 3) (pos 0))) (Some (pos 3))
    (case (middle_of (bounds (minus 3) (pos 0))) (Some (minus 2)) rest))

abbrev pub cases : Cases
cases = dots (sums (blends (joins (others end))))
