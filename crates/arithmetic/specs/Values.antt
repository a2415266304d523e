-- Intervals of whole bounds, or empty: what lies inside them, and their sums, products, quotients and roundings.
use Rattle.std.specs.Prelude.{ℕ, zero, suc, ◌+◌, ◌≤◌, Bool, ◌&&◌, ◌⊎◌, ℤ, pos, negsuc, ◌+ℤ◌, ◌*ℤ◌, neg_ℤ, ◌≤ℤ◌, ◌<ℤ◌, int_le, unsigned_abs}
use Rattle.arithmetic.specs.Four.{least4, greatest4, least, greatest, products}
use Rattle.arithmetic.specs.Fractions.{Fraction, Between}
use Rattle.arithmetic.specs.Rounding.{floor, ceiling}
use Rattle.arithmetic.specs.Sets.{Set, Exact}
use Rattle.arithmetic.specs.Tight.{Tight}

-- what a cell or an unrounded sum stands for: nothing, or a lower and an upper bound
pub data Value : Type 0 where
  empty : Value
  bounds : ℤ → ℤ → Value

abbrev pub Ordered : Value → Type 0
Ordered empty = Unit {0}
Ordered (bounds a b) = a ≤ℤ b

-- v times the scale s lies between the bounds; nothing lies inside the empty one
abbrev pub Inside : ℤ → Value → Set
Inside s empty v = ⊥
Inside s (bounds a b) v = Between s a b v

-- every fraction inside c is inside d
abbrev pub Within : ℤ → Value → Value → Type 0
Within s c d = (v : Fraction) → Inside s c v → Inside s d v

-- the same, told by the bounds
abbrev pub Nested : Value → Value → Type 0
Nested empty d = Unit {0}
Nested (bounds a b) empty = ⊥
Nested (bounds a b) (bounds c d) = (c ≤ℤ a) × (b ≤ℤ d)

-- the value holds all of S and both bounds are attained; it is empty where S has no member
pub data Exactly (s : ℤ) (S : Set) : Value → Type 0 where
  none : ((v : Fraction) → S v → ⊥) → Exactly s S empty
  some : {a b : ℤ} → Exact s a b S → Exactly s S (bounds a b)

-- the value holds all of S and both bounds are less than one step from a member; it is empty where S has no member
pub data Tightly (s : ℤ) (S : Set) : Value → Type 0 where
  void : ((v : Fraction) → S v → ⊥) → Tightly s S empty
  near : {a b : ℤ} → Tight s a b S → Tightly s S (bounds a b)

-- ---- unrounded values; each is empty as soon as an operand is

abbrev pub zeros : Value
zeros = bounds (pos 0) (pos 0)

-- from the least to the greatest of the four products of bounds
abbrev pub times : Value → Value → Value
times empty y = empty
times (bounds a b) empty = empty
times (bounds a b) (bounds c d) = bounds (least (products a b c d)) (greatest (products a b c d))

abbrev pub plus : Value → Value → Value
plus empty y = empty
plus (bounds a b) empty = empty
plus (bounds a b) (bounds c d) = bounds (a +ℤ c) (b +ℤ d)

abbrev pub opposite : Value → Value
opposite empty = empty
opposite (bounds a b) = bounds (neg_ℤ b) (neg_ℤ a)

-- the same at t times the scale
abbrev pub rescaled : ℤ → Value → Value
rescaled t empty = empty
rescaled t (bounds a b) = bounds (a *ℤ t) (b *ℤ t)

-- Σ f j over n places from the place `from` on
abbrev pub total : (ℕ → Value) → (from n : ℕ) → Value
total f from zero = zeros
total f from (suc n) = plus (total f from n) (f (from + n))

-- ---- rounded values

-- which of two numbers gives the lesser quotient by t, and which the greater: a negative divisor turns the order round
abbrev pub lesser : (t a b : ℤ) → ℤ
lesser (pos t) a b = a
lesser (negsuc t) a b = b

abbrev pub greater : (t a b : ℤ) → ℤ
greater (pos t) a b = b
greater (negsuc t) a b = a

-- divided by t, the lesser quotient rounded down and the greater up
abbrev pub rounded : ℤ → Value → Value
rounded t empty = empty
rounded t (bounds a b) = bounds (floor (lesser t a b) t) (ceiling (greater t a b) t)

-- the least of the four quotients of bounds, rounded down, and the greatest, rounded up
unfoldable pub least_quotient : (a b c d : ℤ) → ℤ
least_quotient a b c d = least4 (floor a c) (floor a d) (floor b c) (floor b d)

unfoldable pub greatest_quotient : (a b c d : ℤ) → ℤ
greatest_quotient a b c d = greatest4 (ceiling a c) (ceiling a d) (ceiling b c) (ceiling b d)

abbrev pub quotients : Value → Value → Value
quotients empty y = empty
quotients (bounds a b) empty = empty
quotients (bounds a b) (bounds c d) = bounds (least_quotient a b c d) (greatest_quotient a b c d)

-- 0 lies from c to d
abbrev pub spans_zero : ℤ → ℤ → Bool
spans_zero c d = int_le c (pos 0) && int_le (pos 0) d

-- 0 is not inside
abbrev pub Apart : Value → Type 0
Apart empty = Unit {0}
Apart (bounds c d) = (pos 0 <ℤ c) ⊎ (d <ℤ pos 0)

-- ---- sizes

-- neither bound is beyond n in size
abbrev pub Small : ℕ → Value → Type 0
Small n empty = Unit {0}
Small n (bounds a b) = (unsigned_abs a ≤ n) × (unsigned_abs b ≤ n)
