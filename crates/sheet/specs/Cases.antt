-- Worked cases of whole calls and of refusals, put before those of layouts and of cells.
use Rattle.std.specs.Prelude.{ℕ, List, [], ◌∷◌, map, replicate, true, false, ℤ, pos, neg_ℤ, Some, None, Ok, Err}
use Rattle.rounding.specs.declared.fault.Bound.TheVariants.{Lower, Upper}
use Rattle.cells.specs.declared.cell.Record.{Record}
use Rattle.cells.specs.Cases.{Cases, case}
use Rattle.cells.specs.JoinLaws.{hull}
use Rattle.layouts.specs.Cases.{cases as cases-of-layouts}
use Rattle.layouts.specs.declared.side.Side.TheVariants.{Lower as LowerSide, Upper as UpperSide}
use Rattle.layouts.specs.Stored.{dense, dense_sound, packed, packed_sound}
use Rattle.sheet.specs.declared.refusal.CallName.TheVariants.{Open, Set, Begin, Dot, Sum, Blend, Product, Solve, Join, Copy, Permute, Post, Withdraw, OneNorm, InfinityNorm, Largest, Smallest, Width, Middle, Enclosed, PermuteRun}
use Rattle.sheet.specs.declared.refusal.Refusal.{Refusal}
use Rattle.sheet.specs.declared.refusal.Refusal.TheVariants.{ScaleOutside, ShapeOutside, WrongLength, NoSuchColumn, NoSuchRow, NoCell, LayoutTooLarge, DivisorHoldsZero, NoPermutation}
use Rattle.sheet.specs.declared.shape.Shape.{Shape}
use Rattle.sheet.specs.Answers.{working, drafted, calling, posting, withdrawing, stage_after, open_answer, set_answer, begin_answer, call_answer, answer, draft_after}
use Rattle.sheet.specs.Calls.{Meaning, Call, dot, sum, blend, product, solve, join, copy, permute, name}
use Rattle.sheet.specs.Checks.{Answer, granted, refused, past_limit}
use Rattle.sheet.specs.Memory.{blanks}
use Rattle.sheet.specs.Permutations.{run_answer}
use Rattle.sheet.specs.Questions.{one_norm_answer, infinity_norm_answer, largest_answer, smallest_answer, width_answer, middle_answer, enclosed_answer}
use Rattle.sheet.specs.Refusals.{number, call_of, column_of, row_of, bound_of}

abbrev rec : ℤ → ℤ → Record
rec l u = record { lower = l; upper = u }

abbrev point : ℕ → Record
point n = rec (pos n) (pos n)

abbrev minus : ℕ → ℤ
minus n = neg_ℤ (pos n)

-- what a call answers, and the draft that it leaves, on a sheet of two rows whose draft holds [4, 4] twice
abbrev of_two : (u columns : ℕ) → Shape
of_two u columns = record { scale = pos u; rows = 2; columns = columns }

abbrev other : List Record
other = point 4 ∷ (point 4 ∷ [])

abbrev answered : Shape → Call → List Record → Answer
answered s call cells = call_answer s call cells other

abbrev drafted_by : Shape → Call → List Record → List Record
drafted_by s call cells = draft_after s (calling call) cells other (answered s call cells)

-- the lower triangle [20, 20]; [10, 10], d, and the upper one d, [10, 10]; [20, 20]
abbrev below : Record → Meaning
below d = let run = point 20 ∷ (point 10 ∷ (d ∷ [])) in record { matrix = packed run LowerSide 2; sound = packed_sound run LowerSide 2 }

abbrev above : Record → Meaning
above d = let run = d ∷ (point 10 ∷ (point 20 ∷ [])) in record { matrix = packed run UpperSide 2; sound = packed_sound run UpperSide 2 }

abbrev last : Record
last = rec (minus 40) (minus 20)

abbrev zero : Record
zero = rec (minus 1) (pos 2)

-- U = 10, alpha [10, 10]; column 1 is solved, and column 0 is [7, 7] twice
abbrev beside : List Record → List Record
beside column = point 7 ∷ (point 7 ∷ column)

abbrev solved : Meaning → List Record → List Record
solved t column = drafted_by (of_two 10 2) (solve 1 LowerSide t (point 10)) (beside column)

abbrev solved_up : Meaning → List Record → List Record
solved_up t column = drafted_by (of_two 10 2) (solve 1 UpperSide t (point 10)) (beside column)

abbrev solves : Cases → Cases
solves rest =
    -- a lower triangle is solved from its first row on, an upper one from its last
    case (solved (below last) (point 30 ∷ (point 50 ∷ []))) (point 15 ∷ (rec (minus 18) (minus 8) ∷ []))
    (case (solved_up (above last) (point 50 ∷ (point 30 ∷ []))) (rec (minus 18) (minus 8) ∷ (point 15 ∷ []))
    -- a diagonal entry that holds 0 is refused before any row is worked, and the draft stays as it was
    (case (answered (of_two 10 2) (solve 1 LowerSide (below zero) (point 10)) (beside (point 30 ∷ (point 50 ∷ [])))) (refused (DivisorHoldsZero 1 1))
    (case (solved (below zero) (point 30 ∷ (point 50 ∷ []))) other rest)))

-- column 0 is the limit M and [0, 0]; column 1 is r and [0, 0]; U = 1, alpha and beta [1, 1]
abbrev at_limit : (r : Record) → List Record
at_limit r = point 131071 ∷ (point 0 ∷ (r ∷ (point 0 ∷ [])))

abbrev blended : Call
blended = blend 1 0 (point 1) (point 1)

abbrev blends : Cases → Cases
blends rest =
    case (drafted_by (of_two 1 2) blended (at_limit (point 0))) (point 131071 ∷ (point 0 ∷ []))
    -- one step beyond the limit: the upper bound at row 0 is told, and the draft is empty
    (case (answered (of_two 1 2) blended (at_limit (rec (pos 0) (pos 1)))) (refused (past_limit Blend 1 0 Upper))
    (case (drafted_by (of_two 1 2) blended (at_limit (rec (pos 0) (pos 1)))) (blanks 2) rest))

-- each of the ten refusals by its number, and what it names
abbrev refusals : List Refusal
refusals = ScaleOutside ∷ (ShapeOutside ∷ (WrongLength Copy 3 ∷ (NoSuchColumn Copy 3 ∷ (NoSuchRow Sum 3 5 ∷ (NoCell 3 ∷ (LayoutTooLarge Product 3
    ∷ (DivisorHoldsZero 3 5 ∷ (NoPermutation Permute 3 ∷ (past_limit Blend 3 5 Upper ∷ [])))))))))

abbrev named : Cases → Cases
named rest =
    case (map number refusals) (1 ∷ (2 ∷ (3 ∷ (4 ∷ (5 ∷ (6 ∷ (7 ∷ (8 ∷ (9 ∷ (10 ∷ []))))))))))
    (case (map call_of refusals) (Open ∷ (Open ∷ (Copy ∷ (Copy ∷ (Sum ∷ (Set ∷ (Product ∷ (Solve ∷ (Permute ∷ (Blend ∷ []))))))))))
    (case (map column_of refusals) (0 ∷ (0 ∷ (3 ∷ (3 ∷ (3 ∷ (3 ∷ (3 ∷ (3 ∷ (3 ∷ (3 ∷ []))))))))))
    (case (map row_of refusals) (0 ∷ (0 ∷ (0 ∷ (0 ∷ (5 ∷ (0 ∷ (0 ∷ (5 ∷ (0 ∷ (5 ∷ []))))))))))
    (case (map bound_of refusals) (None ∷ (None ∷ (None ∷ (None ∷ (None ∷ (None ∷ (None ∷ (None ∷ (None ∷ (Some Upper ∷ [])))))))))) rest))))

-- ---- what is asked outside of the eight calls: the first fault is told

-- opened over no memory: the scale comes first, then the shape, then the lengths
abbrev opened : (u rows columns : ℕ) → Answer
opened u rows columns = open_answer (record { scale = pos u; rows = rows; columns = columns }) [] []

abbrev opens : Cases → Cases
opens rest =
    case (opened 0 0 0) (refused ScaleOutside)
    (case (opened 100001 1 1) (refused ScaleOutside)
    (case (opened 1 0 1) (refused ShapeOutside)
    (case (opened 1 1025 1) (refused ShapeOutside)
    (case (opened 1 1 65) (refused ShapeOutside)
    -- 4,097 cells
    (case (opened 1 241 17) (refused ShapeOutside)
    (case (opened 1 1024 4) (refused (WrongLength Open 0))
    (case (opened 100000 64 64) (refused (WrongLength Open 0)) rest)))))))

-- on two columns of two rows: the lengths come first, then the column, the row and the bounds
abbrev four : List Record
four = beside other

abbrev asks : Cases → Cases
asks rest =
    case (set_answer (of_two 10 2) 2 3 (pos 5) (pos 4) other) (refused (WrongLength Set 2))
    (case (set_answer (of_two 10 2) 2 3 (pos 5) (pos 4) four) (refused (NoSuchColumn Set 2))
    (case (set_answer (of_two 10 2) 1 3 (pos 5) (pos 4) four) (refused (NoSuchRow Set 1 3))
    (case (set_answer (of_two 10 2) 1 0 (pos 5) (pos 4) four) (refused (NoCell 1))
    (case (begin_answer (of_two 10 2) other) (refused (WrongLength Begin 0))
    (case (answer (of_two 10 2) (drafted 1) posting other other) (refused (WrongLength Post 1))
    (case (answer (of_two 10 2) (drafted 1) withdrawing four []) (refused (WrongLength Withdraw 1))
    (case (run_answer other [] other) (Err (NoPermutation PermuteRun 0)) rest)))))))

-- the questions: column 0 is [-7, 2], [2, 5], and column 1 is [-8, 4], [2, 5]
abbrev questioned : List Record
questioned = rec (minus 7) (pos 2) ∷ (rec (pos 2) (pos 5) ∷ (rec (minus 8) (pos 4) ∷ (rec (pos 2) (pos 5) ∷ [])))

abbrev questions : Cases → Cases
questions rest =
    case (one_norm_answer (of_two 10 2) questioned 0) (Ok (Some 12))
    (case (infinity_norm_answer (of_two 10 2) questioned 0) (Ok (Some 7))
    (case (largest_answer (of_two 10 2) questioned 0) (Ok (Some (7, 0)))
    -- both rows have the least size 2
    (case (smallest_answer (of_two 10 2) questioned 0) (Ok (Some (2, 0)))
    (case (width_answer (of_two 10 2) questioned 0 1) (Ok (Some (pos 3)))
    -- rounded down
    (case (middle_answer (of_two 10 2) questioned 0 0) (Ok (Some (minus 3)))
    (case (enclosed_answer (of_two 10 2) questioned 0 1) (Ok true)
    (case (enclosed_answer (of_two 10 2) questioned 1 0) (Ok false)
    -- the lengths come first, then the columns in the order in which they are named, then the row
    (case (one_norm_answer (of_two 10 2) other 2) (Err (WrongLength OneNorm 2))
    (case (infinity_norm_answer (of_two 10 2) questioned 2) (Err (NoSuchColumn InfinityNorm 2))
    (case (largest_answer (of_two 10 2) questioned 2) (Err (NoSuchColumn Largest 2))
    (case (smallest_answer (of_two 10 2) questioned 2) (Err (NoSuchColumn Smallest 2))
    (case (width_answer (of_two 10 2) questioned 2 3) (Err (NoSuchColumn Width 2))
    (case (width_answer (of_two 10 2) questioned 1 3) (Err (NoSuchRow Width 1 3))
    (case (middle_answer (of_two 10 2) questioned 1 3) (Err (NoSuchRow Middle 1 3))
    (case (enclosed_answer (of_two 10 2) questioned 2 3) (Err (NoSuchColumn Enclosed 2))
    (case (enclosed_answer (of_two 10 2) questioned 1 3) (Err (NoSuchColumn Enclosed 3)) rest))))))))))))))))

-- ---- which column is read for which operand, and which row is told

-- U = 10: x, y and the target, whose last cell is r
abbrev three : (r : Record) → List Record
three r = rec (pos 10) (pos 20) ∷ (rec (minus 5) (pos 5) ∷ (point 3 ∷ (rec (pos 2) (pos 4) ∷ (point 9 ∷ (r ∷ [])))))

abbrev stored : (rows columns : ℕ) → List Record → Meaning
stored rows columns run = record { matrix = dense run rows columns rows; sound = dense_sound run rows columns rows }

-- three rows of one column, and a draft as long
abbrev of_three : List Record
of_three = point 10 ∷ (point 20 ∷ (point 30 ∷ []))

abbrev three_rows : Shape
three_rows = record { scale = pos 1; rows = 3; columns = 1 }

abbrev permuted : Call
permuted = permute 0 (1 ∷ (2 ∷ (0 ∷ [])))

-- both rows of a product by it are beyond the limit, with U = 1
abbrev too_great : Call
too_great = product 1 0 (stored 2 1 (point 131071 ∷ (point 131071 ∷ []))) (point 1) (point 0)

-- each of the eight calls, on column 2
abbrev eight : List Call
eight = dot 2 1 0 1 (point 7) (point 0) ∷ (sum 2 1 0 ∷ (blend 2 0 (point 5) (point 10) ∷ (product 2 0 (below last) (point 1) (point 0)
    ∷ (solve 2 LowerSide (below last) (point 10) ∷ (join 2 0 hull ∷ (copy 2 0 ∷ (permute 2 (1 ∷ (0 ∷ [])) ∷ [])))))))

abbrev wholes : Cases → Cases
wholes rest =
    case (map name eight) (Dot ∷ (Sum ∷ (Blend ∷ (Product ∷ (Solve ∷ (Join ∷ (Copy ∷ (Permute ∷ []))))))))
    (case (map (λ call. stage_after working (calling call) granted) eight) (replicate 8 (drafted 2))
    (case (drafted_by (of_two 10 3) (dot 2 1 0 1 (point 7) (point 0)) (three (point 0))) (point 9 ∷ (rec (pos 0) (pos 6) ∷ []))
    (case (drafted_by (of_two 10 3) (dot 2 1 0 1 (point 7) (point 20)) (three (point 10))) (point 9 ∷ (rec (pos 20) (pos 26) ∷ []))
    (case (drafted_by (of_two 10 2) (blend 1 0 (point 5) (point 10)) (rec (pos 1) (pos 3) ∷ (point 0 ∷ (point 10 ∷ (point 0 ∷ []))))) (rec (pos 10) (pos 12) ∷ (point 0 ∷ []))
    (case (drafted_by (of_two 10 3) (sum 2 1 0) (three (point 0))) (point 9 ∷ (rec (pos 5) (pos 25) ∷ []))
    (case (drafted_by (of_two 10 3) (join 2 0 hull) (three (point 0))) (rec (pos 9) (pos 20) ∷ (rec (minus 5) (pos 5) ∷ []))
    (case (drafted_by (of_two 10 3) (copy 2 1) (three (point 0))) (point 3 ∷ (rec (pos 2) (pos 4) ∷ []))
    -- cell i becomes the old cell at the place that the list has at i
    (case (draft_after three_rows (calling permuted) of_three of_three (call_answer three_rows permuted of_three of_three)) (point 20 ∷ (point 30 ∷ (point 10 ∷ [])))
    -- a cell beyond the rows of the layout stays
    (case (drafted_by (of_two 1 2) (product 1 0 (stored 1 2 (point 2 ∷ (point 3 ∷ []))) (point 10) (point 100)) (point 5 ∷ (point 7 ∷ (point 4 ∷ (point 9 ∷ []))))) (point 710 ∷ (point 9 ∷ []))
    -- both bounds of both rows are beyond the limit: the lower of the first row is told, for an upper solve of the last
    (case (answered (of_two 1 2) too_great (at_limit (point 0))) (refused (past_limit Product 1 0 Lower))
    (case (drafted_by (of_two 1 2) too_great (at_limit (point 0))) (blanks 2)
    (case (answered (of_two 10 2) (solve 1 UpperSide (above last) (point 131071)) (beside (point 131071 ∷ (point 131071 ∷ [])))) (refused (past_limit Solve 1 1 Lower)) rest))))))))))))

abbrev pub cases : Cases
cases = named (opens (asks (questions (solves (blends (wholes cases-of-layouts))))))
