-- Which entries make a matrix again: its own triangle, if it is one, and its cells as dense storage reads them, column after column.
use Rattle.std.proofs.Common.{◌≡◌, ◌⊎◌, inl, inr, ℕ, ◌*◌, ◌/◌, ◌%◌, ◌<◌, ◌≤◌, max, true, false, cond, ◌&&◌, ltb, List, length, map, sym, ap, ◌∙◌, refl, arith}
use Rattle.std.proofs.Math.Path.{fun_ext}
use Rattle.std.proofs.lemmas.Bool.{cond_both, cond-true, and_parts, and_cases, ltb-true, ltb-false}
use Rattle.std.proofs.lemmas.Bool.Decides.{nat_tests}
use Rattle.std.proofs.lemmas.List.FromFn.{get_or-map-range_with_len, length-map-range_with_len}
use Rattle.std.proofs.lemmas.Nat.{div-mul-add, mod-mul-add, mul-add-lt}
use Rattle.std.specs.List.{range_with_len}
use Rattle.arithmetic.specs.Values.{Value, empty, zeros}
use Rattle.cells.specs.declared.cell.Record.{Record}
use Rattle.cells.specs.Cells.{IsCell, blank, read_as, written, cell_at}
use Rattle.layouts.specs.declared.side.Side.{Side}
use Rattle.layouts.specs.Layers.{smaller, kept_side, triangle}
use Rattle.layouts.specs.Matrix.{Matrix, Sound, shaped, nothing}
use Rattle.layouts.specs.Sides.{on_side, IsTriangle}
use Rattle.layouts.specs.Stored.{dense_place, dense_fit, dense}

-- outside its shape a matrix is empty, so entries that agree with it inside make it
shaped_same : (m : Matrix) (f : ℕ → ℕ → Value) → Sound m → ((i j : ℕ) → i < m.rows → j < m.columns → f i j ≡ m.entry i j) → shaped m.rows m.columns f ≡ m
shaped_same m f s e = ap (λ (g : ℕ → ℕ → Value). let n : Matrix = record { rows = m.rows; columns = m.columns; entry = g } in n) (fun_ext (λ i. fun_ext (λ j. at i j)))
  where
    outside : (i j : ℕ) → (ltb i m.rows ≡ false) ⊎ (ltb j m.columns ≡ false) → empty ≡ m.entry i j
    outside i j (inl b) = sym (s.below i j (ltb-false i m.rows b))
    outside i j (inr b) = sym (s.right i j (ltb-false j m.columns b))

    at : (i j : ℕ) → cond (ltb i m.rows && ltb j m.columns) (f i j) empty ≡ m.entry i j
    at i j =
        let a = ltb i m.rows in let b = ltb j m.columns in
        cond_both (a && b) (f i j) empty (λ v. v ≡ m.entry i j)
        (λ t. e i j (ltb-true i m.rows (and_parts a b t).0) (ltb-true j m.columns (and_parts a b t).1)) (λ t. outside i j (and_cases a b t))

-- the triangle layer changes nothing of a matrix that is that triangle
pub triangle_same : (side : Side) (m : Matrix) → Sound m → IsTriangle side m → triangle side m ≡ m
triangle_same side m s t =
    let f = kept_side side m.entry in
    let r : smaller m ≡ m.rows = omega (arith, t.square) in
    let c : smaller m ≡ m.columns = omega (arith, t.square) in
    ap (λ (k : ℕ). shaped k (smaller m) f) r ∙ ap (λ (k : ℕ). shaped m.rows k f) c
    ∙ shaped_same m f s (λ i j h k. cond_both (on_side side i j) (m.entry i j) zeros (λ v. v ≡ m.entry i j) (λ e. refl) (λ e. sym (t.zero_beyond i j h k e)))

-- the cell at a place of a matrix's cells, column after column, each of `stride` places
abbrev pub cell_of : Matrix → (stride place : ℕ) → Record
cell_of m stride k = written (m.entry (k % stride) (k / stride))

-- the figures of a copy are fit
copied_fit : (run : List Record) (rows columns stride : ℕ) → rows ≤ 1024 → columns ≤ 1024 → stride ≡ max rows 1 → length run ≡ stride * columns → dense_fit run rows columns stride ≡ true
copied_fit run rows columns stride few narrow wide long = grind (arith, nat_tests)

-- dense storage over these cells means the matrix again
pub dense_same : (m : Matrix) (run : List Record) (stride : ℕ) → ((c : Value) → IsCell c → read_as (written c) ≡ c) → Sound m → stride ≡ max m.rows 1
    → run ≡ map (cell_of m stride) (range_with_len 0 (stride * m.columns)) → dense run m.rows m.columns stride ≡ m
dense_same m run stride back s wide is =
    let f : ℕ → ℕ → Value = λ i j. cell_at run (dense_place stride i j) in
    let n = stride * m.columns in
    let long : length run ≡ n = ap length is ∙ length-map-range_with_len (cell_of m stride) 0 n in
    cond-true (dense_fit run m.rows m.columns stride) (shaped m.rows m.columns f) nothing (copied_fit run m.rows m.columns stride s.few_rows s.few_columns wide long)
    ∙ shaped_same m f s there
  where
    there : (i j : ℕ) → i < m.rows → j < m.columns → cell_at run (dense_place stride i j) ≡ m.entry i j
    there i j h k =
        let low : i < stride = omega arith in
        let place = dense_place stride i j in
        let in_run : place < stride * m.columns = omega (arith, mul-add-lt j stride i m.columns k low) in
        ap (λ (xs : List Record). cell_at xs place) is
        ∙ ap read_as (get_or-map-range_with_len (cell_of m stride) 0 (stride * m.columns) place place blank in_run (omega arith))
        ∙ ap (λ (t : ℕ). read_as (written (m.entry t (place / stride)))) (mod-mul-add j stride i low)
        ∙ ap (λ (t : ℕ). read_as (written (m.entry i t))) (div-mul-add j stride i low)
        ∙ back (m.entry i j) (s.cell i j)
