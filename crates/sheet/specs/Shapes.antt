-- The numbers that a sheet is opened with, and which of them are legal.
use Rattle.std.specs.Prelude.{ℕ, ◌*◌, ◌≤◌, Bool, ◌&&◌, ℤ, pos, nat_le, int_le}
use Rattle.cells.specs.Scales.{IsScale}
use Rattle.sheet.specs.declared.shape.Shape.{Shape}

-- from 1 to 100,000 steps to one unit
abbrev pub legal_scale : ℤ → Bool
legal_scale u = int_le (pos 1) u && int_le u (pos 100000)

-- from 1 to 1,024 rows, from 1 to 64 columns, and at most 4,096 cells
abbrev pub legal_size : (rows columns : ℕ) → Bool
legal_size n c = nat_le 1 n && (nat_le n 1024 && (nat_le 1 c && (nat_le c 64 && nat_le (n * c) 4096)))

-- what the shape of every opened sheet keeps
pub record Legal (s : Shape) : Type 0 where
  pub scale : IsScale s.scale
  pub some_rows : 1 ≤ s.rows
  pub few_rows : s.rows ≤ 1024
  pub some_columns : 1 ≤ s.columns
  pub few_columns : s.columns ≤ 64
  pub few_cells : s.rows * s.columns ≤ 4096
