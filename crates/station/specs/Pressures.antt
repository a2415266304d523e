-- The pressures at the three tips of a box: calibrated from all readings of the box, and then with the neighbours taken out.
use Rattle.std.specs.Prelude.{ℕ, pos}
use Rattle.arithmetic.specs.Sets.{Set}
use Rattle.arithmetic.specs.Values.{Value, Inside}
use Rattle.cells.specs.Cells.{cell_at}
use Rattle.layouts.specs.declared.side.Side.TheVariants.{Lower}
use Rattle.layouts.specs.Matrix.{Matrix}
use Rattle.layouts.specs.Rows.{product_cell, ProductValues, SolveValues}
use Rattle.layouts.specs.Stored.{band, packed}
use Rattle.account.specs.Outcomes.{unity}
use Rattle.sheet.specs.NewColumns.{solution}
use Rattle.station.specs.declared.line.Junction.{Junction}

-- 3 by 3, one place below the diagonal and one above
abbrev pub calibration : Junction → Matrix
calibration j = band j.calibration 3 3 1 1 3

-- offset + Σ calibration·reading at a place of a box, at 100 steps to one unit
abbrev pub calibrated : Junction → ℕ → Value
calibrated j place = product_cell (pos 100) (calibration j) unity unity (cell_at j.offsets place) (cell_at j.readings) place

-- 3 by 3, a lower triangle
abbrev pub factors : Junction → Matrix
factors j = packed j.factors Lower 3

-- the column of pressures that, each times its factor and with what its neighbours before it add, is the calibrated one
abbrev pub pressure : Junction → ℕ → Value
pressure j = solution Lower (factors j) unity (calibrated j)

-- what the tip at a place can show: offset, calibration and readings are any fractions inside their pairs. How many readings there
-- are is a name of its own here, for the proof that the calibration has three columns.
abbrev pub ShownOver : ℕ → Junction → ℕ → Set
ShownOver n j place =
    ProductValues (Inside (pos 100) unity) (Inside (pos 100) unity) (Inside (pos 100) (cell_at j.offsets place)) (λ i k. Inside (pos 100) ((calibration j).entry i k))
    (λ k. Inside (pos 100) (cell_at j.readings k)) place n

abbrev pub Shown : Junction → ℕ → Set
Shown j place = ShownOver 3 j place

-- the pressures that the tip at a place can have: what it shows, the factors, and the pressures of the tips before it are any fractions
-- inside their cells. How many tips there are is a name of its own, too.
abbrev pub PressuresOver : ℕ → Junction → ℕ → Set
PressuresOver n j place =
    SolveValues Lower (Inside (pos 100) unity) (Inside (pos 100) (calibrated j place)) (λ i k. Inside (pos 100) ((factors j).entry i k))
    (λ k. Inside (pos 100) (pressure j k)) place n

abbrev pub Pressures : Junction → ℕ → Set
Pressures j place = PressuresOver 3 j place
