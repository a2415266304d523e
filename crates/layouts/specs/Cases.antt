-- Worked cases of the storage rules and of the row formulas, put before those of the cells.
use Rattle.std.specs.Prelude.{ℕ, List, [], ◌∷◌, ◌++◌, ℤ, pos, neg_ℤ, Some, Ok, replicate}
use Rattle.arithmetic.specs.Values.{Value, empty, bounds, zeros}
use Rattle.cells.specs.declared.cell.Record.{Record}
use Rattle.cells.specs.Cases.{Cases, case, cases as cases-of-cells}
use Rattle.cells.specs.Cells.{blank, cell_at}
use Rattle.layouts.specs.declared.side.Side.TheVariants.{Lower, Upper}
use Rattle.layouts.specs.Layers.{transposed, symmetric, triangle, unit_diagonal}
use Rattle.layouts.specs.Matrix.{Matrix}
use Rattle.layouts.specs.Orders.{rows_in_order, first_zero}
use Rattle.layouts.specs.Rows.{row_sums, product_at, solve_at}
use Rattle.layouts.specs.Stored.{dense, band, packed}

abbrev minus : ℕ → ℤ
minus n = neg_ℤ (pos n)

-- the cell [n, n], as a record and as a value
abbrev point : ℕ → Record
point n = record { lower = pos n; upper = pos n }

abbrev is : ℕ → Value
is n = bounds (pos n) (pos n)

-- place k holds [k, k]
abbrev five : List Record
five = point 0 ∷ (point 1 ∷ (point 2 ∷ (point 3 ∷ (point 4 ∷ []))))

abbrev six : List Record
six = five ++ (point 5 ∷ [])

-- 3 by 3, one place below the diagonal, none above, stride 2
abbrev narrow : Matrix
narrow = band six 3 3 1 0 2

-- 2 by 3, none below, one above
abbrev upward : Matrix
upward = band six 2 3 0 1 2

abbrev stored : Cases → Cases
stored rest =
    case (narrow.entry 2 1) (is 3)
    (case (narrow.entry 0 2) zeros
    -- outside the shape
    (case (narrow.entry 3 2) empty
    -- the place above the diagonal stands before it in its column
    (case (upward.entry 0 1) (is 2)
    (case (upward.entry 1 1) (is 3)
    (case (upward.entry 1 0) zeros
    -- the columns of a triangle one after the other, and not its rows
    (case ((packed six Lower 3).entry 2 0) (is 2)
    (case ((packed six Lower 3).entry 2 1) (is 4)
    (case ((packed six Upper 3).entry 0 2) (is 3)
    (case ((packed six Upper 3).entry 1 2) (is 4)
    (case ((packed six Upper 3).entry 2 1) zeros
    -- side 3 needs exactly six places: one less or one more is unfit
    (case (packed six Lower 3).rows 3
    (case (packed five Lower 3).rows 0
    (case (packed (six ++ (point 6 ∷ [])) Lower 3).rows 0 rest)))))))))))))

-- 1,024 rows and columns are fit, one more is not; and so for the diagonals of a band, 1,023 on either side
abbrev limits : Cases → Cases
limits rest =
    case (dense [] 1024 0 1024).rows 1024
    (case (dense [] 1025 0 1025).rows 0
    (case (dense (replicate 1024 blank) 1 1024 1).columns 1024
    (case (dense (replicate 1025 blank) 1 1025 1).columns 0
    (case (band [] 1024 0 1023 1023 2047).rows 1024
    (case (band [] 1024 0 1024 0 2047).rows 0
    (case (band [] 1024 0 0 1024 2047).rows 0
    (case (unit_diagonal (pos 100000) narrow).rows 3
    (case (unit_diagonal (pos 100001) narrow).rows 0 rest))))))))

-- 2 by 3, stride 2
abbrev wide : Matrix
wide = dense six 2 3 2

abbrev layered : Cases → Cases
layered rest =
    case (wide.entry 1 2) (is 5)
    (case ((transposed wide).entry 2 1) (is 5)
    -- square by the smaller side, (0, 1) read at (1, 0)
    (case (symmetric Lower wide).columns 2
    (case ((symmetric Lower wide).entry 0 1) (is 1)
    (case ((symmetric Upper wide).entry 1 0) (is 2)
    -- a triangle keeps its side and the diagonal
    (case ((triangle Upper wide).entry 1 0) zeros
    (case ((triangle Upper wide).entry 0 1) (is 2)
    (case ((triangle Lower wide).entry 1 0) (is 1)
    (case ((triangle Lower wide).entry 1 1) (is 3)
    (case ((unit_diagonal (pos 10) (packed six Lower 3)).entry 1 1) (is 10)
    (case ((unit_diagonal (pos 10) (packed six Lower 3)).entry 2 1) (is 4) rest))))))))))

-- products with the band, U = 1: at row 2 an empty x_0 stands under a structural zero, and empties the cell all the same
abbrev products : Cases → Cases
products rest =
    case (product_at (pos 1) narrow (is 1) (is 1) six 2 (point 7 ∷ (point 5 ∷ (point 6 ∷ [])))) (Ok (point 41))
    (case (product_at (pos 1) narrow (is 1) (is 1) six 2 (blank ∷ (point 5 ∷ (point 6 ∷ [])))) (Ok blank)
    -- past the rows every entry is empty, and so is the cell; where there are no columns, beta·r is left
    (case (product_at (pos 1) narrow (is 1) (is 1) six 3 (point 7 ∷ (point 5 ∷ (point 6 ∷ [])))) (Ok blank)
    (case (product_at (pos 1) (packed five Lower 3) (is 1) (is 1) six 2 (point 7 ∷ [])) (Ok (point 2))
    -- the sums alone, of four rows where the band has three
    (case (row_sums narrow (cell_at (point 7 ∷ (point 5 ∷ (point 6 ∷ [])))) 4) (is 0 ∷ (is 17 ∷ (is 39 ∷ (empty ∷ [])))) rest))))

-- the lower triangle [20, 20]; [10, 10], d
abbrev below : Record → Matrix
below d = packed (point 20 ∷ (point 10 ∷ (d ∷ []))) Lower 2

abbrev last : Record
last = record { lower = minus 40; upper = minus 20 }

-- solved with the column [30, 30], [50, 50] and alpha [10, 10], U = 10, row after row
abbrev solves : Cases → Cases
solves rest =
    case (solve_at Lower (below last) (is 10) (point 30 ∷ (point 50 ∷ [])) 0) (Ok (point 15))
    (case (solve_at Lower (below last) (is 10) (point 15 ∷ (point 50 ∷ [])) 1) (Ok (record { lower = minus 18; upper = minus 8 }))
    -- a last diagonal entry that holds 0 is found at row 1
    (case (first_zero (below (record { lower = minus 1; upper = pos 2 })) (rows_in_order Lower 2)) (Some 1) rest))

abbrev pub cases : Cases
cases = stored (limits (layered (products (solves cases-of-cells))))
