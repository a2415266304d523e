-- The storage rules: at which place of a run of records each entry stands, and which figures are fit for the storage.
-- Figures that are unfit mean the 0 by 0 matrix.
use Rattle.std.specs.Prelude.{◌≡◌, ℕ, ◌+◌, ◌-◌, ◌*◌, ◌/◌, Bool, false, cond, ◌&&◌, List, length, ◌==◌, nat_le, slice_index_or}
use Rattle.std.proofs.Common.{arith}
use Rattle.std.proofs.lemmas.Int.{ints}
use Rattle.std.proofs.lemmas.Bool.{cond_both, leb-true, and_parts}
use Rattle.arithmetic.specs.Values.{Value, zeros}
use Rattle.cells.specs.declared.cell.Record.{Record}
use Rattle.cells.specs.Cells.{IsCell, blank, cell_at}
use Rattle.cells.specs.Reading.{read_cell}
use Rattle.layouts.specs.declared.side.Side.{Side}
use Rattle.layouts.specs.declared.side.Side.TheVariants.{Lower, Upper}
use Rattle.layouts.specs.Matrix.{Matrix, Sound, nothing, fitted, fitted_nothing, fitted_sound}
use Rattle.layouts.specs.Sides.{on_side}

pub zero_cell : IsCell zeros
zero_cell = (omega (arith, ints), omega (arith, ints), omega (arith, ints))

stored_cell : (run : List Record) (k : ℕ) → IsCell (cell_at run k)
stored_cell run k = read_cell (slice_index_or run k blank)

-- ---- dense: column after column, each `stride` places long

abbrev pub dense_place : (stride i j : ℕ) → ℕ
dense_place stride i j = j * stride + i

abbrev pub dense_fit : List Record → (rows columns stride : ℕ) → Bool
dense_fit run rows columns stride = nat_le rows 1024 && (nat_le columns 1024 && (nat_le 1 stride && (nat_le rows stride && nat_le (stride * columns) (length run))))

abbrev pub dense : List Record → (rows columns stride : ℕ) → Matrix
dense run rows columns stride = fitted (dense_fit run rows columns stride) rows columns (λ i j. cell_at run (dense_place stride i j))

pub dense_sound : (run : List Record) (rows columns stride : ℕ) → Sound (dense run rows columns stride)
dense_sound run rows columns stride =
    fitted_sound (dense_fit run rows columns stride) rows columns (λ i j. cell_at run (dense_place stride i j))
    (λ e. leb-true rows 1024 (and_parts _ _ e).0) (λ e. leb-true columns 1024 (and_parts _ _ (and_parts _ _ e).1).0) (λ e i j. stored_cell run (dense_place stride i j))

pub dense_unfit : (run : List Record) (rows columns stride : ℕ) → dense_fit run rows columns stride ≡ false → dense run rows columns stride ≡ nothing
dense_unfit run rows columns stride e = fitted_nothing (dense_fit run rows columns stride) rows columns (λ i j. cell_at run (dense_place stride i j)) e

-- ---- band: of each column the kl places below the diagonal, the diagonal and the ku places above it; [0, 0] elsewhere

abbrev pub in_band : (kl ku i j : ℕ) → Bool
in_band kl ku i j = nat_le j (i + ku) && nat_le i (j + kl)

abbrev pub band_place : (ku stride i j : ℕ) → ℕ
band_place ku stride i j = ku + i - j + j * stride

abbrev pub band_entry : List Record → (kl ku stride i j : ℕ) → Value
band_entry run kl ku stride i j = cond (in_band kl ku i j) (cell_at run (band_place ku stride i j)) zeros

abbrev pub band_fit : List Record → (rows columns kl ku stride : ℕ) → Bool
band_fit run rows columns kl ku stride = nat_le rows 1024 && (nat_le columns 1024 && (nat_le kl 1023 && (nat_le ku 1023 && (nat_le (kl + ku + 1) stride && nat_le (stride * columns) (length run)))))

abbrev pub band : List Record → (rows columns kl ku stride : ℕ) → Matrix
band run rows columns kl ku stride = fitted (band_fit run rows columns kl ku stride) rows columns (band_entry run kl ku stride)

pub band_sound : (run : List Record) (rows columns kl ku stride : ℕ) → Sound (band run rows columns kl ku stride)
band_sound run rows columns kl ku stride =
    fitted_sound (band_fit run rows columns kl ku stride) rows columns (band_entry run kl ku stride)
    (λ e. leb-true rows 1024 (and_parts _ _ e).0) (λ e. leb-true columns 1024 (and_parts _ _ (and_parts _ _ e).1).0)
    (λ e i j. cond_both (in_band kl ku i j) (cell_at run (band_place ku stride i j)) zeros IsCell (λ t. stored_cell run (band_place ku stride i j)) (λ t. zero_cell))

pub band_unfit : (run : List Record) (rows columns kl ku stride : ℕ) → band_fit run rows columns kl ku stride ≡ false → band run rows columns kl ku stride ≡ nothing
band_unfit run rows columns kl ku stride e = fitted_nothing (band_fit run rows columns kl ku stride) rows columns (band_entry run kl ku stride) e

-- ---- packed: the columns of one triangle of side n, one after the other; [0, 0] on the other side

abbrev pub packed_place : Side → (n i j : ℕ) → ℕ
packed_place Lower n i j = i + j * (2 * n - j - 1) / 2
packed_place Upper n i j = i + j * (j + 1) / 2

abbrev pub packed_entry : List Record → Side → (n i j : ℕ) → Value
packed_entry run side n i j = cond (on_side side i j) (cell_at run (packed_place side n i j)) zeros

abbrev pub packed_fit : List Record → (n : ℕ) → Bool
packed_fit run n = nat_le n 1024 && length run == n * (n + 1) / 2

abbrev pub packed : List Record → Side → (n : ℕ) → Matrix
packed run side n = fitted (packed_fit run n) n n (packed_entry run side n)

pub packed_sound : (run : List Record) (side : Side) (n : ℕ) → Sound (packed run side n)
packed_sound run side n =
    fitted_sound (packed_fit run n) n n (packed_entry run side n) (λ e. leb-true n 1024 (and_parts _ _ e).0) (λ e. leb-true n 1024 (and_parts _ _ e).0)
    (λ e i j. cond_both (on_side side i j) (cell_at run (packed_place side n i j)) zeros IsCell (λ t. stored_cell run (packed_place side n i j)) (λ t. zero_cell))

pub packed_unfit : (run : List Record) (side : Side) (n : ℕ) → packed_fit run n ≡ false → packed run side n ≡ nothing
packed_unfit run side n e = fitted_nothing (packed_fit run n) n n (packed_entry run side n) e
