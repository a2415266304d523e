-- Steps as they are written in kPa.
use Rattle.std.specs.Prelude.{ℕ, ◌/◌, ◌%◌, cond, List, [], ◌++◌, ℤ, pos, Some, None, codes, decimal, Option, int_lt, unsigned_abs}

abbrev pub minus_text : ℤ → List ℕ
minus_text z = cond (int_lt z (pos 0)) (codes "-") []

-- the sign, the whole kPa, a point and two decimals
abbrev pub kpa_text : ℤ → List ℕ
kpa_text z = minus_text z ++ (decimal (unsigned_abs z / 100) ++ (codes "." ++ (decimal (unsigned_abs z / 10 % 10) ++ decimal (unsigned_abs z % 10))))

abbrev pub dip_text : Option ℤ → List ℕ
dip_text None = codes "-"
dip_text (Some d) = kpa_text d
