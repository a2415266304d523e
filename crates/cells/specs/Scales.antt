-- The legal scales: from 1 to 100,000 steps to one unit.
use Rattle.std.specs.Prelude.{ℤ, pos, ◌≤ℤ◌}

abbrev pub IsScale : ℤ → Type 0
IsScale u = (pos 1 ≤ℤ u) × (u ≤ℤ pos 100000)
