-- The memory of a sheet, by column and row: what is read back where it was written, and what stays.
use Rattle.std.specs.Prelude.{◌≡◌, ℕ, ◌+◌, ◌-◌, ◌*◌, ◌<◌, ◌≤◌, ◌⊎◌, ◌≢◌, List, ◌++◌, length, get_or, take, drop, slice_set}
use Rattle.std.proofs.Common.{ap, sym, ◌∙◌, inl, inr, arith}
use Rattle.std.proofs.lemmas.Bool.{cases_order}
use Rattle.std.proofs.lemmas.List.{length-set, length-drop, length-append, length-replicate, length-take-le, get_or-take, get_or-drop, get_or-replicate, get_or-set_same, get_or-set_other, get_or_append_left, get_or-append_right}
use Rattle.std.proofs.lemmas.List.FromFn.{length-map-range_with_len, get_or-map-range_with_len}
use Rattle.std.proofs.lemmas.Nat.{mul-add-lt, row_fits_turned, same_from_place}
use Rattle.arithmetic.specs.Values.{Value, empty}
use Rattle.cells.specs.declared.cell.Record.{Record}
use Rattle.cells.specs.Cells.{IsCell, blank, written, read_as, cell_at}
use Rattle.cells.specs.Laws.{Laws}
use Rattle.sheet.specs.declared.shape.Shape.{Shape}
use Rattle.sheet.specs.Memory.{cells_in, blanks, written_rows, with_column}

-- ---- what was written for a run of rows

pub written_size : (n : ℕ) (new : ℕ → Value) → length (written_rows n new) ≡ n
written_size n new = length-map-range_with_len (λ row. written (new row)) 0 n

pub read_back : Laws → (n : ℕ) (new : ℕ → Value) (row : ℕ) → row < n → IsCell (new row) → cell_at (written_rows n new) row ≡ new row
read_back laws n new row h c = ap read_as (get_or-map-range_with_len (λ j. written (new j)) 0 n row row blank h (omega arith)) ∙ laws.read_written (new row) c

pub blanks_size : (n : ℕ) → length (blanks n) ≡ n
blanks_size n = length-replicate n blank

-- ---- columns

-- the cell at a row of column k stands k·n places on
pub at_place : (s : Shape) (cells : List Record) (k row : ℕ) → row < s.rows → cells_in s cells k row ≡ read_as (get_or cells (k * s.rows + row) blank)
at_place s cells k row h = ap read_as (get_or-take s.rows (drop (k * s.rows) cells) row blank h ∙ get_or-drop (k * s.rows) cells row blank)

pub opened_empty : (s : Shape) (k row : ℕ) → k < s.columns → row < s.rows → cells_in s (blanks (s.rows * s.columns)) k row ≡ empty
opened_empty s k row h g =
    at_place s (blanks (s.rows * s.columns)) k row g
    ∙ ap read_as (get_or-replicate (s.rows * s.columns) (k * s.rows + row) blank blank (mul-add-lt k s.rows row s.columns h g))

-- ---- a set

pub set_size : (cells : List Record) (place : ℕ) (r : Record) → length (slice_set cells place r) ≡ length cells
set_size cells place r = length-set cells place r

pub set_same : (s : Shape) (k i : ℕ) (cells : List Record) (r : Record) → k < s.columns → i < s.rows → length cells ≡ s.rows * s.columns
    → cells_in s (slice_set cells (k * s.rows + i) r) k i ≡ read_as r
set_same s k i cells r h g e =
    at_place s (slice_set cells (k * s.rows + i) r) k i g
    ∙ ap read_as (get_or-set_same cells (k * s.rows + i) r blank (omega (arith, e, mul-add-lt k s.rows i s.columns h g)))

pub set_other : (s : Shape) (k i j row : ℕ) (cells : List Record) (r : Record) → i < s.rows → row < s.rows → ((j ≡ k) × (row ≡ i) → ⊥)
    → cells_in s (slice_set cells (k * s.rows + i) r) j row ≡ cells_in s cells j row
set_other s k i j row cells r g h apart =
    at_place s (slice_set cells (k * s.rows + i) r) j row h
    ∙ (ap read_as (get_or-set_other cells (k * s.rows + i) (j * s.rows + row) r blank (λ e. apart (same_from_place j row k i s.rows h g e)))
    ∙ sym (at_place s cells j row h))

-- ---- a post

-- the places of another column lie before column k or after it
outside : (n k j row : ℕ) → j ≢ k → row < n → (j * n + row < k * n) ⊎ (k * n + n ≤ j * n + row)
outside n k j row other g = go (cases_order j k)
  where
    go : (j ≡ k) ⊎ ((j < k) ⊎ (k < j)) → (j * n + row < k * n) ⊎ (k * n + n ≤ j * n + row)
    go (inl e) = absurd (other e)
    go (inr (inl h)) = inl (omega (arith, g, row_fits_turned j n n k h (omega arith)))
    go (inr (inr h)) = inr (omega (arith, row_fits_turned k n n j h (omega arith)))

-- a draft for column k, and the cells that it is posted to, each of its size
module _ (s : Shape) (k : ℕ) (cells draft : List Record) (here : k < s.columns) (cells_size : length cells ≡ s.rows * s.columns) (draft_size : length draft ≡ s.rows) where
  room : k * s.rows + s.rows ≤ length cells
  room = omega (arith, cells_size, row_fits_turned k s.rows s.rows s.columns here (omega arith))

  head_size : length (take (k * s.rows) cells) ≡ k * s.rows
  head_size = length-take-le (k * s.rows) cells (omega (arith, room))

  pub posted_size : length (with_column s k cells draft) ≡ s.rows * s.columns
  posted_size =
      let rest = drop (k * s.rows + s.rows) cells in
      omega (arith, room, cells_size, draft_size, head_size, length-append (take (k * s.rows) cells) (draft ++ rest), length-append draft rest, length-drop (k * s.rows + s.rows) cells)

  pub posted_same : (row : ℕ) → row < s.rows → cells_in s (with_column s k cells draft) k row ≡ cell_at draft row
  posted_same row h =
      let rest = drop (k * s.rows + s.rows) cells in
      let back : k * s.rows + row - k * s.rows ≡ row = omega arith in
      at_place s (with_column s k cells draft) k row h
      ∙ ap read_as
      (get_or-append_right (take (k * s.rows) cells) (draft ++ rest) (k * s.rows) (k * s.rows + row) blank head_size (omega arith)
      ∙ (ap (λ i. get_or (draft ++ rest) i blank) back ∙ get_or_append_left draft rest blank row (omega (arith, h, draft_size))))

  -- the place of a cell that the post leaves as it was
  kept_place : (place : ℕ) → (place < k * s.rows) ⊎ (k * s.rows + s.rows ≤ place) → get_or (with_column s k cells draft) place blank ≡ get_or cells place blank
  kept_place place (inl h) =
      get_or_append_left (take (k * s.rows) cells) (draft ++ drop (k * s.rows + s.rows) cells) blank place (omega (arith, h, head_size))
      ∙ get_or-take (k * s.rows) cells place blank h
  kept_place place (inr h) =
      let rest = drop (k * s.rows + s.rows) cells in
      let on : k * s.rows + s.rows + (place - k * s.rows - s.rows) ≡ place = omega (arith, h) in
      get_or-append_right (take (k * s.rows) cells) (draft ++ rest) (k * s.rows) place blank head_size (omega (arith, h))
      ∙ (get_or-append_right draft rest s.rows (place - k * s.rows) blank draft_size (omega (arith, h))
      ∙ (get_or-drop (k * s.rows + s.rows) cells (place - k * s.rows - s.rows) blank ∙ ap (λ i. get_or cells i blank) on))

  pub posted_other : (j row : ℕ) → j ≢ k → row < s.rows → cells_in s (with_column s k cells draft) j row ≡ cells_in s cells j row
  posted_other j row other h =
      at_place s (with_column s k cells draft) j row h
      ∙ (ap read_as (kept_place (j * s.rows + row) (outside s.rows k j row other h)) ∙ sym (at_place s cells j row h))
