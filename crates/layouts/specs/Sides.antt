-- The two sides of a square matrix: the lower triangle, on and below the diagonal, and the upper, on and above it.
use Rattle.std.specs.Prelude.{◌≡◌, ℕ, ◌<◌, Bool, false, nat_le}
use Rattle.arithmetic.specs.Values.{zeros}
use Rattle.layouts.specs.declared.side.Side.{Side}
use Rattle.layouts.specs.declared.side.Side.TheVariants.{Lower, Upper}
use Rattle.layouts.specs.Matrix.{Matrix}

-- place (i, j) is on the side or on the diagonal
abbrev pub on_side : Side → ℕ → ℕ → Bool
on_side Lower i j = nat_le j i
on_side Upper i j = nat_le i j

abbrev pub opposite : Side → Side
opposite Lower = Upper
opposite Upper = Lower

-- what a triangular layout promises: square, and [0, 0] at every place on the other side of the diagonal
pub record IsTriangle (side : Side) (m : Matrix) : Type 0 where
  pub square : m.rows ≡ m.columns
  pub zero_beyond : (i j : ℕ) → i < m.rows → j < m.columns → on_side side i j ≡ false → m.entry i j ≡ zeros
