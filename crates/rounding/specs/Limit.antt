-- The limit of a bound, M: 131,071 steps in size.
use Rattle.std.specs.Prelude.{ℤ, pos, negsuc}

-- the least and the greatest number that a bound can be, −M and M
abbrev pub lowest : ℤ
lowest = negsuc 131070

abbrev pub highest : ℤ
highest = pos 131071
