-- A stretch of the places of a row or of a column outside which every entry is [0, 0].
use Rattle.std.specs.Prelude.{◌≡◌, ℕ, ◌+◌, ◌<◌, ◌≤◌}
use Rattle.arithmetic.specs.Values.{Value, zeros}
use Rattle.cells.specs.declared.cell.Places.{Places}
use Rattle.layouts.specs.declared.side.Side.{Side}
use Rattle.layouts.specs.declared.side.Side.TheVariants.{Lower, Upper}
use Rattle.layouts.specs.Matrix.{Matrix}

-- of the n places of f, those before the stretch and those from its end on hold [0, 0]
pub record ZeroOutside (f : ℕ → Value) (n : ℕ) (s : Places) : Type 0 where
  pub order : s.from ≤ s.to
  pub inside : s.to ≤ n
  pub before : (k : ℕ) → k < s.from → f k ≡ zeros
  pub after : (k : ℕ) → s.to ≤ k → k < n → f k ≡ zeros

-- of row i, and of column j
abbrev pub ZeroAcross : Matrix → ℕ → Places → Type 0
ZeroAcross m i = ZeroOutside (λ j. m.entry i j) m.columns

abbrev pub ZeroDown : Matrix → ℕ → Places → Type 0
ZeroDown m j = ZeroOutside (λ i. m.entry i j) m.rows

-- where the half of a row that is on a side begins and ends, its place d on the diagonal among its n places; of a column it is
-- the half on the opposite side
abbrev pub half_from : Side → (d : ℕ) → ℕ
half_from Lower d = 0
half_from Upper d = d

abbrev pub half_to : Side → (d n : ℕ) → ℕ
half_to Lower d n = d + 1
half_to Upper d n = n
