-- The refusal of a layout's check: its number, and the column and the row that it names.
use Rattle.std.specs.Prelude.{◌≡◌, ℕ, Bool, true, false, Ok, Err, Result}
use Rattle.layouts.specs.declared.refusal.LayoutRefusal.{LayoutRefusal}
use Rattle.layouts.specs.declared.refusal.LayoutRefusal.TheVariants.{UnfitFigures}

abbrev pub number : LayoutRefusal → ℕ
number UnfitFigures = 11

-- a check is no call on a sheet, so it names no column and no row
abbrev pub column : LayoutRefusal → ℕ
column UnfitFigures = 0

abbrev pub row : LayoutRefusal → ℕ
row UnfitFigures = 0

-- what a check answers: nothing where the figures are fit, and refusal 11 with column 0 and row 0 where they are not
abbrev pub Checked : Bool → Result (Unit {0}) LayoutRefusal → Type 0
Checked fit (Ok u) = fit ≡ true
Checked fit (Err e) = (fit ≡ false) × (number e ≡ 11) × (column e ≡ 0) × (row e ≡ 0)
