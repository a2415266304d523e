-- The bar of a pair: which character a number of steps falls in, and what each character shows.
use Rattle.std.specs.Prelude.{ℕ, ◌/◌, min, Bool, true, false, ◌&&◌, List, map, ℤ, pos, negsuc, Some, None, Option, ◌==◌, nat_le}
use Rattle.std.specs.List.{range_with_len}
use Rattle.account.specs.declared.bar.Mark.{Mark}
use Rattle.account.specs.declared.bar.Mark.TheVariants as mark

-- a character is 1000 steps wide, and there are 40; what leaves the scale falls in the character at its edge
abbrev pub place : ℤ → ℕ
place (pos n) = min (n / 1000) 39
place (negsuc n) = 0

abbrev pub in_pair : ℤ → ℤ → ℕ → Bool
in_pair lower upper k = nat_le (place lower) k && nat_le k (place upper)

abbrev pub at_dip : Option ℤ → ℕ → Bool
at_dip None k = false
at_dip (Some d) k = place d == k

-- what is shown of a pair, then of a dip
abbrev pub mark_of : Bool → Bool → Mark
mark_of true true = mark.Both
mark_of true false = mark.Pair
mark_of false true = mark.Dip
mark_of false false = mark.Nothing

abbrev pub mark_at : ℤ → ℤ → Option ℤ → ℕ → Mark
mark_at lower upper dip k = mark_of (in_pair lower upper k) (at_dip dip k)

-- the codes of @ = o and .
abbrev pub sign : Mark → ℕ
sign mark.Both = 64
sign mark.Pair = 61
sign mark.Dip = 111
sign mark.Nothing = 46

abbrev pub bar_text : ℤ → ℤ → Option ℤ → List ℕ
bar_text lower upper dip = map (λ k. sign (mark_at lower upper dip k)) (range_with_len 0 40)
