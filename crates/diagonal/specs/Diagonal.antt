-- What a diagonal layout means, and that this is a matrix as every layout has to mean one.
use Rattle.std.specs.Prelude.{◌≡◌, ℕ, Bool, false, cond, List, length, ◌==◌, nat_le, slice_index_or}
use Rattle.std.proofs.lemmas.Bool.{cond_both, leb-true}
use Rattle.arithmetic.specs.Values.{Value, zeros}
use Rattle.cells.specs.declared.cell.Record.{Record}
use Rattle.cells.specs.Cells.{IsCell, blank, cell_at}
use Rattle.cells.specs.Reading.{read_cell}
use Rattle.layouts.specs.Matrix.{Matrix, Sound, nothing, fitted, fitted_nothing, fitted_sound}
use Rattle.layouts.specs.Stored.{zero_cell}

abbrev pub diagonal_entry : List Record → (i j : ℕ) → Value
diagonal_entry run i j = cond (i == j) (cell_at run i) zeros

-- the run is the diagonal, so its length is the one figure: at most 1,024
abbrev pub diagonal_fit : List Record → Bool
diagonal_fit run = nat_le (length run) 1024

abbrev pub diagonal : List Record → Matrix
diagonal run = fitted (diagonal_fit run) (length run) (length run) (diagonal_entry run)

pub diagonal_unfit : (run : List Record) → diagonal_fit run ≡ false → diagonal run ≡ nothing
diagonal_unfit run e = fitted_nothing (diagonal_fit run) (length run) (length run) (diagonal_entry run) e

pub diagonal_sound : (run : List Record) → Sound (diagonal run)
diagonal_sound run =
    fitted_sound (diagonal_fit run) (length run) (length run) (diagonal_entry run) (leb-true (length run) 1024) (leb-true (length run) 1024)
    (λ e i j. cond_both (i == j) (cell_at run i) zeros IsCell (λ t. read_cell (slice_index_or run i blank)) (λ t. zero_cell))
