-- Division of a whole number by any other but 0, rounded down (the floor) or up (the ceiling).
use Rattle.std.specs.Prelude.{◌≡◌, suc, ℤ, pos, negsuc, ◌+ℤ◌, ◌-ℤ◌, neg_ℤ, ◌≤ℤ◌}
use Rattle.std.specs.Int.Signed.{shr_z}
use Rattle.arithmetic.specs.Fractions.{Less, AtMost, whole, quotient}

-- shr_z divides by a natural number and rounds down; a negative divisor turns both signs
abbrev pub floor : ℤ → ℤ → ℤ
floor n (pos d) = shr_z n d
floor n (negsuc d) = shr_z (neg_ℤ n) (suc d)

abbrev pub ceiling : ℤ → ℤ → ℤ
ceiling n d = neg_ℤ (floor (neg_ℤ n) d)

-- q is at most n/d and q + 1 is not, so q is the greatest whole number at most n/d
pub record IsFloor (n d q : ℤ) (nonzero : d ≡ pos 0 → ⊥) : Type 0 where
  pub under : AtMost (whole q) (quotient (whole n) (whole d) nonzero)
  pub next : Less (quotient (whole n) (whole d) nonzero) (whole (q +ℤ pos 1))
  pub greatest : (m : ℤ) → AtMost (whole m) (quotient (whole n) (whole d) nonzero) → m ≤ℤ q

-- q is at least n/d and q - 1 is not, so q is the least whole number at least n/d
pub record IsCeiling (n d q : ℤ) (nonzero : d ≡ pos 0 → ⊥) : Type 0 where
  pub over : AtMost (quotient (whole n) (whole d) nonzero) (whole q)
  pub before : Less (whole (q -ℤ pos 1)) (quotient (whole n) (whole d) nonzero)
  pub least : (m : ℤ) → AtMost (quotient (whole n) (whole d) nonzero) (whole m) → q ≤ℤ m
