-- The laws that a contract carries: what floor and ceiling are, and how exact and tight values go together.
-- A contract cannot range over all sets of fractions, so the laws of sets stand here for every set that a test tells; the
-- lemmas in proofs/ have them for all.
use Rattle.std.specs.Prelude.{◌≡◌, Bool, true, ℤ, pos, ◌*ℤ◌, ◌<ℤ◌, ◌≢◌}
use Rattle.arithmetic.specs.Fractions.{Fraction}
use Rattle.arithmetic.specs.Rounding.{floor, ceiling, IsFloor, IsCeiling}
use Rattle.arithmetic.specs.Sets.{Set, Included, QuotientSet}
use Rattle.arithmetic.specs.Values.{Value, Exactly, Tightly, Nested, Apart, rounded, quotients}

-- the fractions of which the test is true
abbrev pub Told : (Fraction → Bool) → Set
Told test v = test v ≡ true

pub record Laws : Type 0 where
  pub floor_law : (n d : ℤ) (nonzero : d ≡ pos 0 → ⊥) → IsFloor n d (floor n d) nonzero
  pub ceiling_law : (n d : ℤ) (nonzero : d ≡ pos 0 → ⊥) → IsCeiling n d (ceiling n d) nonzero
  -- what is exact at the scale s·t is tight at the scale s once it is rounded by t
  pub rounding_law : (S : Fraction → Bool) (s t : ℤ) (c : Value) → (t ≢ pos 0) → Exactly (s *ℤ t) (Told S) c → Tightly s (Told S) (rounded t c)
  -- the quotients of a dividend at the scale s·t and a divisor at s that does not hold 0 are tight at t
  pub quotient_law : (S T : Fraction → Bool) (s t : ℤ) (c d : Value) → pos 0 <ℤ s → Apart d → Exactly (s *ℤ t) (Told S) c → Exactly s (Told T) d
      → Tightly t (QuotientSet (Told S) (Told T)) (quotients c d)
  -- a larger set has a wider tight value
  pub growth_law : (S T : Fraction → Bool) (s : ℤ) (c d : Value) → Included (Told S) (Told T) → Tightly s (Told S) c → Tightly s (Told T) d → Nested c d
  -- a set has one tight value at most
  pub uniqueness_law : (S : Fraction → Bool) (s : ℤ) (c d : Value) → Tightly s (Told S) c → Tightly s (Told S) d → c ≡ d
