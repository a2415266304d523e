-- The memory of a box's sheet, by column and row: what is read back where it was written, and what stays. It is the memory of the
-- sheet's contracts at one shape. Assumes nothing.
use Rattle.std.proofs.Common.{◌≡◌, ◌≢◌, ℕ, ◌+◌, ◌-◌, ◌*◌, ◌<◌, ◌≤◌, ◌⊎◌, true, false, cond, List, ◌++◌, length, get_or, take, drop, ℤ, ◌≤ℤ◌, refl, ap, sym, ◌∙◌, inl, inr, arith}
use Rattle.std.specs.Prelude.{nat_lt, slice_set}
use borrow.Author.Differences.{ints}
use Rattle.std.proofs.lemmas.Bool.Decides.{nat_tests}
use Rattle.std.proofs.lemmas.Bool.{cases_order}
use Rattle.std.proofs.lemmas.List.{length-take-le, get_or-take, get_or-drop, get_or-replicate, get_or-set_same, get_or-set_other, get_or_append_left, get_or-append_right}
use Rattle.std.proofs.lemmas.List.FromFn.{get_or-map-range_with_len}
use Rattle.arithmetic.specs.Values.{Value, empty, bounds}
use Rattle.rounding.specs.Limit.{lowest, highest}
use Rattle.cells.specs.declared.cell.Record.{Record}
use Rattle.cells.specs.Cells.{IsCell, broken, blank, written, read_as, cell_at}
use Rattle.cells.specs.Reading.{read_cell}
use Rattle.sheet.specs.Memory.{column, cells_in, blanks, written_rows, with_column}
use Rattle.station.specs.declared.line.Junction.{Junction}
use Rattle.station.specs.Boxes.{dam_shape, Filled}

-- the cell at a row of a column stands as many rows on as there are in the columns before
pub at_place : (cells : List Record) (k row : ℕ) → row < 3 → cells_in dam_shape cells k row ≡ read_as (get_or cells (k * 3 + row) blank)
at_place cells k row h = ap read_as (get_or-take 3 (drop (k * 3) cells) row blank h ∙ get_or-drop (k * 3) cells row blank)

pub opened_empty : (k row : ℕ) → k < 32 → row < 3 → cells_in dam_shape (blanks 96) k row ≡ empty
opened_empty k row h g = at_place (blanks 96) k row g ∙ ap read_as (get_or-replicate 96 (k * 3 + row) blank blank (omega arith))

-- a column of a box is none outside the box
pub apart : (first which j : ℕ) → which < 4 → (j < first) ⊎ (first + 4 ≤ j) → j ≡ first + which → ⊥
apart first which j h (inl b) e = omega (arith, h, b, e)
apart first which j h (inr b) e = omega (arith, h, b, e)

-- ---- a set

pub set_there : (k i : ℕ) (cells : List Record) (r : Record) → k < 32 → i < 3 → length cells ≡ 96 → cells_in dam_shape (slice_set cells (k * 3 + i) r) k i ≡ read_as r
set_there k i cells r h g e = at_place (slice_set cells (k * 3 + i) r) k i g ∙ ap read_as (get_or-set_same cells (k * 3 + i) r blank (omega (arith, e)))

pub set_elsewhere : (k i j row : ℕ) (cells : List Record) (r : Record) → i < 3 → row < 3 → ((j ≡ k) × (row ≡ i) → ⊥) → cells_in dam_shape (slice_set cells (k * 3 + i) r) j row ≡ cells_in dam_shape cells j row
set_elsewhere k i j row cells r g h apart =
    at_place (slice_set cells (k * 3 + i) r) j row h
    ∙ (ap read_as (get_or-set_other cells (k * 3 + i) (j * 3 + row) r blank (λ e. apart (omega (arith, e), omega (arith, e))))
    ∙ sym (at_place cells j row h))

-- ---- a post

module _ (k : ℕ) (cells draft : List Record) (here : k < 32) (cells_size : length cells ≡ 96) (draft_size : length draft ≡ 3) where
  head_size : length (take (k * 3) cells) ≡ k * 3
  head_size = length-take-le (k * 3) cells (omega (arith, here, cells_size))

  pub posted_there : (row : ℕ) → row < 3 → cells_in dam_shape (with_column dam_shape k cells draft) k row ≡ cell_at draft row
  posted_there row h =
      let rest = drop (k * 3 + 3) cells in
      let back : k * 3 + row - k * 3 ≡ row = omega arith in
      at_place (with_column dam_shape k cells draft) k row h
      ∙ ap read_as
      (get_or-append_right (take (k * 3) cells) (draft ++ rest) (k * 3) (k * 3 + row) blank head_size (omega arith)
      ∙ (ap (λ i. get_or (draft ++ rest) i blank) back ∙ get_or_append_left draft rest blank row (omega (arith, h, draft_size))))

  -- a place before the column or behind it
  kept_place : (place : ℕ) → (place < k * 3) ⊎ (k * 3 + 3 ≤ place) → get_or (with_column dam_shape k cells draft) place blank ≡ get_or cells place blank
  kept_place place (inl h) =
      get_or_append_left (take (k * 3) cells) (draft ++ drop (k * 3 + 3) cells) blank place (omega (arith, h, head_size))
      ∙ get_or-take (k * 3) cells place blank h
  kept_place place (inr h) =
      let rest = drop (k * 3 + 3) cells in
      let on : k * 3 + 3 + (place - k * 3 - 3) ≡ place = omega (arith, h) in
      get_or-append_right (take (k * 3) cells) (draft ++ rest) (k * 3) place blank head_size (omega (arith, h))
      ∙ (get_or-append_right draft rest 3 (place - k * 3) blank draft_size (omega (arith, h))
      ∙ (get_or-drop (k * 3 + 3) cells (place - k * 3 - 3) blank ∙ ap (λ i. get_or cells i blank) on))

  outside : (j row : ℕ) → j ≢ k → row < 3 → (j * 3 + row < k * 3) ⊎ (k * 3 + 3 ≤ j * 3 + row)
  outside j row other g = go (cases_order j k)
    where
      go : (j ≡ k) ⊎ ((j < k) ⊎ (k < j)) → (j * 3 + row < k * 3) ⊎ (k * 3 + 3 ≤ j * 3 + row)
      go (inl e) = absurd (other e)
      go (inr (inl h)) = inl (omega (arith, g, h))
      go (inr (inr h)) = inr (omega (arith, h))

  pub posted_elsewhere : (j row : ℕ) → j ≢ k → row < 3 → cells_in dam_shape (with_column dam_shape k cells draft) j row ≡ cells_in dam_shape cells j row
  posted_elsewhere j row other h =
      at_place (with_column dam_shape k cells draft) j row h
      ∙ (ap read_as (kept_place (j * 3 + row) (outside j row other h)) ∙ sym (at_place cells j row h))

-- ---- a draft

pub fits : (a b : ℤ) → lowest ≤ℤ a → a ≤ℤ b → b ≤ℤ highest → broken a b ≡ false
fits a b l o h = grind (arith, ints)

-- what is written of a cell reads as the cell
pub reads : (v : Value) → IsCell v → read_as (written v) ≡ v
reads empty c = refl
reads (bounds a b) c = rw (fits a b c.0 c.1 c.2) refl

pub column_cell : (cells : List Record) (k row : ℕ) → IsCell (cells_in dam_shape cells k row)
column_cell cells k row = read_cell (get_or (column dam_shape cells k) row blank)

pub drafted : (new : ℕ → Value) (row : ℕ) → row < 3 → IsCell (new row) → cell_at (written_rows 3 new) row ≡ new row
drafted new row h c = ap read_as (get_or-map-range_with_len (λ j. written (new j)) 0 3 row row blank h (omega arith)) ∙ reads (new row) c

-- ---- filling a column, row after row

pub none_yet : (row : ℕ) (v : Value) → cond (nat_lt row row) v empty ≡ empty
none_yet row v = let t : nat_lt row row ≡ false = grind (arith, nat_tests) in rw t refl

pub all_set : (row : ℕ) (v : Value) → row < 3 → cond (nat_lt row 3) v empty ≡ v
all_set row v h = let t : nat_lt row 3 ≡ true = grind (arith, nat_tests) in rw t refl

pub one_more : (row : ℕ) (value before after : ℕ → Value) → ((i : ℕ) → i < 3 → before i ≡ cond (nat_lt i row) (value i) empty) → after row ≡ value row → ((i : ℕ) → i < 3 → i ≢ row → after i ≡ before i)
    → (i : ℕ) → i < 3 → after i ≡ cond (nat_lt i (row + 1)) (value i) empty
one_more row value before after sofar there elsewhere i h = go (cases_order i row)
  where
    go : (i ≡ row) ⊎ ((i < row) ⊎ (row < i)) → after i ≡ cond (nat_lt i (row + 1)) (value i) empty
    go (inl e) = let t : nat_lt i (row + 1) ≡ true = grind (arith, nat_tests) in rw (t, e) there
    go (inr (inl b)) =
        let t : nat_lt i (row + 1) ≡ true = grind (arith, nat_tests) in
        let u : nat_lt i row ≡ true = grind (arith, nat_tests) in
        let other : i ≢ row = omega arith in
        rw t (elsewhere i h other ∙ rw u at (sofar i h))
    go (inr (inr b)) =
        let t : nat_lt i (row + 1) ≡ false = grind (arith, nat_tests) in
        let u : nat_lt i row ≡ false = grind (arith, nat_tests) in
        let other : i ≢ row = omega arith in
        rw t (elsewhere i h other ∙ rw u at (sofar i h))

-- ---- the columns of a box, while others change

pub filled_stays : (before after : List Record) (first : ℕ) (j : Junction) → ((k row : ℕ) → first ≤ k → k < first + 3 → row < 3 → cells_in dam_shape after k row ≡ cells_in dam_shape before k row) → Filled before first j → Filled after first j
filled_stays before after first j same filled = record {
  readings = λ row h. same first row (omega arith) (omega arith) h ∙ filled.readings row h;
  offsets = λ row h. same (first + 1) row (omega arith) (omega arith) h ∙ filled.offsets row h;
  dips = λ row h. same (first + 2) row (omega arith) (omega arith) h ∙ filled.dips row h;
}
