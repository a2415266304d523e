-- A number below 0, held.
use Rattle.std.proofs.Common.{◌≡◌, ℕ, ◌-◌, ◌^◌, min, pos, negsuc, neg_ℤ, refl, sym, ap, arith, zero, suc}
use Rattle.script.specs.Numbers.{held}

pub held_below : (v : ℕ) → held (neg_ℤ (pos v)) ≡ neg_ℤ (pos (min v (2 ^ 63 - 1)))
held_below zero = refl
held_below (suc v) = least (2 ^ 63 - 2) v
  where
    least : (m v : ℕ) → negsuc (min v m) ≡ neg_ℤ (pos (min (suc v) (suc m)))
    least m v = let e : min (suc v) (suc m) ≡ suc (min v m) = omega arith in ap (λ n. neg_ℤ (pos n)) (sym e)
