-- What a layout means: a matrix of cells, rows and columns counted from 0, with at most 1,024 of each, empty outside.
use Rattle.std.specs.Prelude.{◌≡◌, ℕ, ◌≤◌, Bool, true, false, cond, ◌&&◌, nat_lt, refl}
use Rattle.std.proofs.Common.{arith}
use Rattle.std.proofs.lemmas.Bool.{cond_both, cond-false, and_left, and_right, le-ltb}
use Rattle.arithmetic.specs.Values.{Value, empty}
use Rattle.cells.specs.Cells.{IsCell}

pub record Matrix : Type 0 where
  pub rows : ℕ
  pub columns : ℕ
  -- row, then column
  pub entry : ℕ → ℕ → Value

-- what the meaning of every layout keeps
pub record Sound (m : Matrix) : Type 0 where
  pub few_rows : m.rows ≤ 1024
  pub few_columns : m.columns ≤ 1024
  pub below : (i j : ℕ) → m.rows ≤ i → m.entry i j ≡ empty
  pub right : (i j : ℕ) → m.columns ≤ j → m.entry i j ≡ empty
  pub cell : (i j : ℕ) → IsCell (m.entry i j)

-- the entries f inside the shape, empty outside
abbrev pub shaped : (rows columns : ℕ) → (ℕ → ℕ → Value) → Matrix
shaped rows columns f = record { rows = rows; columns = columns; entry = λ i j. cond (nat_lt i rows && nat_lt j columns) (f i j) empty }

pub shaped_sound : (rows columns : ℕ) (f : ℕ → ℕ → Value) → rows ≤ 1024 → columns ≤ 1024 → ((i j : ℕ) → IsCell (f i j)) → Sound (shaped rows columns f)
shaped_sound rows columns f few narrow cells = record {
  few_rows = few;
  few_columns = narrow;
  below = λ i j h. cond-false (nat_lt i rows && nat_lt j columns) (f i j) empty (and_left _ _ (le-ltb i rows h));
  right = λ i j h. cond-false (nat_lt i rows && nat_lt j columns) (f i j) empty (and_right _ _ (le-ltb j columns h));
  cell = λ i j. cond_both (nat_lt i rows && nat_lt j columns) (f i j) empty IsCell (λ e. cells i j) (λ e. tt);
}

-- the 0 by 0 matrix, which figures that fit no storage mean
abbrev pub nothing : Matrix
nothing = record { rows = 0; columns = 0; entry = λ i j. empty }

pub nothing_sound : Sound nothing
nothing_sound = record { few_rows = omega arith; few_columns = omega arith; below = λ i j h. refl; right = λ i j h. refl; cell = λ i j. tt }

-- what a storage means: the entries f where its figures are fit
abbrev pub fitted : (fit : Bool) (rows columns : ℕ) → (ℕ → ℕ → Value) → Matrix
fitted fit rows columns f = cond fit (shaped rows columns f) nothing

pub fitted_nothing : (fit : Bool) (rows columns : ℕ) (f : ℕ → ℕ → Value) → fit ≡ false → fitted fit rows columns f ≡ nothing
fitted_nothing fit rows columns f e = cond-false fit (shaped rows columns f) nothing e

pub fitted_sound : (fit : Bool) (rows columns : ℕ) (f : ℕ → ℕ → Value) → (fit ≡ true → rows ≤ 1024) → (fit ≡ true → columns ≤ 1024) → (fit ≡ true → (i j : ℕ) → IsCell (f i j)) → Sound (fitted fit rows columns f)
fitted_sound fit rows columns f few narrow cells =
    cond_both fit (shaped rows columns f) nothing Sound (λ e. shaped_sound rows columns f (few e) (narrow e) (cells e)) (λ e. nothing_sound)
