-- The layers: what each makes of the matrix below it.
use Rattle.std.specs.Prelude.{◌≡◌, ℕ, ◌≤◌, min, max, Bool, true, false, cond, ◌&&◌, ℤ, pos, ◌==◌, int_le}
use Rattle.std.proofs.Common.{arith}
use Rattle.std.proofs.lemmas.Int.{ints}
use Rattle.std.proofs.lemmas.Bool.{cond_both, and_parts}
use Rattle.arithmetic.specs.Values.{Value, bounds, zeros}
use Rattle.arithmetic.proofs.Tests.{le_z_true}
use Rattle.cells.specs.Cells.{IsCell}
use Rattle.layouts.specs.declared.side.Side.{Side}
use Rattle.layouts.specs.declared.side.Side.TheVariants.{Lower, Upper}
use Rattle.layouts.specs.Matrix.{Matrix, Sound, nothing, shaped, shaped_sound, fitted, fitted_nothing, fitted_sound}
use Rattle.layouts.specs.Sides.{on_side}
use Rattle.layouts.specs.Stored.{zero_cell}

-- ---- transposed: entry (i, j) is (j, i) below

abbrev pub transposed : Matrix → Matrix
transposed m = record { rows = m.columns; columns = m.rows; entry = λ i j. m.entry j i }

pub transposed_sound : (m : Matrix) → Sound m → Sound (transposed m)
transposed_sound m s = record {
  few_rows = s.few_columns;
  few_columns = s.few_rows;
  below = λ i j h. s.right j i h;
  right = λ i j h. s.below j i h;
  cell = λ i j. s.cell j i;
}

-- the side of the largest square at the matrix's corner (0, 0)
abbrev pub smaller : Matrix → ℕ
smaller m = min m.rows m.columns

pub smaller_few : (m : Matrix) → Sound m → smaller m ≤ 1024
smaller_few m s = omega (arith, s.few_rows)

-- ---- symmetric: both triangles are read from the named one below

abbrev pub mirrored : Side → (ℕ → ℕ → Value) → (i j : ℕ) → Value
mirrored Lower f i j = f (max i j) (min i j)
mirrored Upper f i j = f (min i j) (max i j)

abbrev pub symmetric : Side → Matrix → Matrix
symmetric side m = shaped (smaller m) (smaller m) (mirrored side m.entry)

mirrored_cell : (side : Side) (m : Matrix) → Sound m → (i j : ℕ) → IsCell (mirrored side m.entry i j)
mirrored_cell Lower m s i j = s.cell (max i j) (min i j)
mirrored_cell Upper m s i j = s.cell (min i j) (max i j)

pub symmetric_sound : (side : Side) (m : Matrix) → Sound m → Sound (symmetric side m)
symmetric_sound side m s = shaped_sound (smaller m) (smaller m) (mirrored side m.entry) (smaller_few m s) (smaller_few m s) (mirrored_cell side m s)

-- ---- triangle: the named side and the diagonal below, [0, 0] elsewhere

abbrev pub kept_side : Side → (ℕ → ℕ → Value) → (i j : ℕ) → Value
kept_side side f i j = cond (on_side side i j) (f i j) zeros

abbrev pub triangle : Side → Matrix → Matrix
triangle side m = shaped (smaller m) (smaller m) (kept_side side m.entry)

pub triangle_sound : (side : Side) (m : Matrix) → Sound m → Sound (triangle side m)
triangle_sound side m s = shaped_sound (smaller m) (smaller m) (kept_side side m.entry) (smaller_few m s) (smaller_few m s)
    (λ i j. cond_both (on_side side i j) (m.entry i j) zeros IsCell (λ t. s.cell i j) (λ t. zero_cell))

-- ---- unit diagonal: [u, u] on the diagonal, all else as below; a u that is no scale is unfit

abbrev pub unit_entry : ℤ → (ℕ → ℕ → Value) → (i j : ℕ) → Value
unit_entry u f i j = cond (i == j) (bounds u u) (f i j)

abbrev pub unit_fit : ℤ → Bool
unit_fit u = int_le (pos 1) u && int_le u (pos 100000)

abbrev pub unit_diagonal : ℤ → Matrix → Matrix
unit_diagonal u m = fitted (unit_fit u) m.rows m.columns (unit_entry u m.entry)

unit_cell : (u : ℤ) → unit_fit u ≡ true → IsCell (bounds u u)
unit_cell u e =
    let p = and_parts (int_le (pos 1) u) (int_le u (pos 100000)) e in let least = le_z_true (pos 1) u p.0 in let most = le_z_true u (pos 100000) p.1 in
    (omega (arith, ints, least), omega (arith, ints), omega (arith, ints, most))

pub unit_sound : (u : ℤ) (m : Matrix) → Sound m → Sound (unit_diagonal u m)
unit_sound u m s =
    fitted_sound (unit_fit u) m.rows m.columns (unit_entry u m.entry) (λ e. s.few_rows) (λ e. s.few_columns)
    (λ e i j. cond_both (i == j) (bounds u u) (m.entry i j) IsCell (λ t. unit_cell u e) (λ t. s.cell i j))

pub unit_unfit : (u : ℤ) (m : Matrix) → unit_fit u ≡ false → unit_diagonal u m ≡ nothing
unit_unfit u m e = fitted_nothing (unit_fit u) m.rows m.columns (unit_entry u m.entry) e
