-- Each place that a storage rule names lies inside a run of the length that fit figures have, and what is read there is the
-- entry. Assumes nothing.
use Rattle.std.proofs.Common.{◌≡◌, ℕ, ◌+◌, ◌-◌, ◌*◌, ◌/◌, ◌<◌, ◌≤◌, Bool, true, ◌&&◌, ltb, leb, List, length, get_or, sym, ap, ◌∙◌, add-mul, one-mul, mul-one, mul-add, arith}
use Rattle.std.proofs.lemmas.Nat.{mul-le, mul-add-lt}
use Rattle.std.proofs.lemmas.List.{get_or_default}
use Rattle.std.proofs.lemmas.Bool.{cond-true, and_from, lt-ltb, le-leb, leb-true}
use Rattle.std.proofs.lemmas.Bool.Decides.{nat_tests}
use Rattle.arithmetic.specs.Values.{Value, empty, zeros}
use Rattle.cells.specs.declared.cell.Record.{Record}
use Rattle.cells.specs.Cells.{blank, read_as, cell_at}
use Rattle.layouts.specs.declared.side.Side.{Side}
use Rattle.layouts.specs.declared.side.Side.TheVariants.{Lower, Upper}
use Rattle.layouts.specs.Matrix.{fitted}
use Rattle.layouts.specs.Sides.{on_side}
use Rattle.layouts.specs.Stored.{dense_fit, dense_place, in_band, band_fit, band_place, band_entry, packed_fit, packed_place, packed_entry}

-- what fit figures keep
dense_fits : (run : List Record) (rows columns stride : ℕ) → true ≡ dense_fit run rows columns stride → (rows ≤ stride) × (stride * columns ≤ length run)
dense_fits run rows columns stride e = (grind (arith, nat_tests), grind (arith, nat_tests))

band_fits : (run : List Record) (rows columns kl ku stride : ℕ) → true ≡ band_fit run rows columns kl ku stride → (kl + ku + 1 ≤ stride) × (stride * columns ≤ length run)
band_fits run rows columns kl ku stride e = (grind (arith, nat_tests), grind (arith, nat_tests))

pub packed_fits : (run : List Record) (n : ℕ) → true ≡ packed_fit run n → length run ≡ n * (n + 1) / 2
packed_fits run n e = grind (arith, nat_tests)

pub dense_inside : (run : List Record) (rows columns stride i j : ℕ) → true ≡ dense_fit run rows columns stride → i < rows → j < columns → dense_place stride i j < length run
dense_inside run rows columns stride i j e h k = let f = dense_fits run rows columns stride e in omega (arith, f.0, f.1, mul-add-lt j stride i columns k (omega (arith, f.0)))

pub band_inside : (run : List Record) (rows columns kl ku stride i j : ℕ) → true ≡ band_fit run rows columns kl ku stride → j < columns → j ≤ i + ku → i ≤ j + kl → band_place ku stride i j < length run
band_inside run rows columns kl ku stride i j e h low high =
    let f = band_fits run rows columns kl ku stride e in omega (arith, f.0, f.1, mul-add-lt j stride (ku + i - j) columns h (omega (arith, f.0)))

-- ---- packed
wider : (j m : ℕ) → j * (j + 2 * m + 1) + 2 * (j + m + 1) ≤ (j + m + 1) * (j + m + 1 + 1)
wider j m = simp (mul-add, add-mul, mul-one, one-mul) (omega arith)

lower_at : (n i j m : ℕ) → n ≡ j + m + 1 → i < n → i + j * (2 * n - j - 1) / 2 < n * (n + 1) / 2
lower_at n i j m e h =
    let f : 2 * n - j - 1 ≡ j + 2 * m + 1 = omega arith in
    let w : j * (2 * n - j - 1) + 2 * n ≤ n * (n + 1) = rw (f, e) (wider j m) in
    omega arith

lower_inside : (n i j : ℕ) → i < n → j ≤ i → i + j * (2 * n - j - 1) / 2 < n * (n + 1) / 2
lower_inside n i j h k = lower_at n i j (n - 1 - j) (omega arith) h

upper_inside : (n i j : ℕ) → j < n → i ≤ j → i + j * (j + 1) / 2 < n * (n + 1) / 2
upper_inside n i j h k =
    let w : (j + 1) * (j + 2) ≤ n * (n + 1) = mul-le (j + 1) (j + 2) n (n + 1) (omega arith) (omega arith) in
    let v = simp (mul-add, add-mul, mul-one, one-mul) at w in
    simp (mul-add, mul-one) (omega arith)

pub packed_inside : (side : Side) (n i j : ℕ) → i < n → j < n → on_side side i j ≡ true → packed_place side n i j < n * (n + 1) / 2
packed_inside Lower n i j h k e = lower_inside n i j h (leb-true j i e)
packed_inside Upper n i j h k e = upper_inside n i j k (leb-true i j e)

-- ---- what is read
-- inside the shape of fit figures, the entry is what f says
pub shaped_entry : (fit : Bool) (rows columns i j : ℕ) (f : ℕ → ℕ → Value) → true ≡ fit → i < rows → j < columns → f i j ≡ (fitted fit rows columns f).entry i j
shaped_entry fit rows columns i j f e h k =
    sym (cond-true (ltb i rows && ltb j columns) (f i j) empty (and_from (ltb i rows) (ltb j columns) (lt-ltb i rows h) (lt-ltb j columns k)))
    ∙ ap (λ (t : Bool). (fitted t rows columns f).entry i j) e

-- a record that was read at a place k inside the run is the cell there
pub stored_read : (run : List Record) (at k : ℕ) (d : Record) (v : Value) → at ≡ k → k < length run → v ≡ read_as (get_or run at d) → v ≡ cell_at run k
stored_read run at k d v s h e = e ∙ ap (λ (n : ℕ). read_as (get_or run n d)) s ∙ ap read_as (get_or_default run k d blank h)

-- and it is the cell of a place in the band, or on the side
pub band_read : (run : List Record) (kl ku stride i j : ℕ) (v : Value) → j ≤ i + ku → i ≤ j + kl → v ≡ cell_at run (band_place ku stride i j) → v ≡ band_entry run kl ku stride i j
band_read run kl ku stride i j v low high e =
    e ∙ sym (cond-true (in_band kl ku i j) (cell_at run (band_place ku stride i j)) zeros (and_from (leb j (i + ku)) (leb i (j + kl)) (le-leb j (i + ku) low) (le-leb i (j + kl) high)))

pub packed_read : (run : List Record) (side : Side) (n i j : ℕ) (v : Value) → on_side side i j ≡ true → v ≡ cell_at run (packed_place side n i j) → v ≡ packed_entry run side n i j
packed_read run side n i j v t e = e ∙ sym (cond-true (on_side side i j) (cell_at run (packed_place side n i j)) zeros t)
