-- What it is to have a fraction, what lies inside a cell, and which cells are equal: shared by the laws of meet and hull.
use Rattle.std.specs.Prelude.{◌≡◌, Bool, true, ℤ, pos, ◌*ℤ◌, ◌≤ℤ◌, ◌<ℤ◌, int_le, refl}
use Rattle.std.proofs.Common.{sym, inl, inr, arith}
use Rattle.std.proofs.lemmas.Int.{ints}
use Rattle.std.proofs.lemmas.Bool.{and_parts, and_from, false≢true}
use Rattle.arithmetic.specs.Fractions.{Fraction, Same, Between, ratio}
use Rattle.arithmetic.specs.Values.{Value, empty, bounds, Ordered, Inside, Within, Nested}
use Rattle.arithmetic.proofs.Integers.{*ℤ_mono}
use Rattle.arithmetic.proofs.Fractions.{weak, same_refl, same_sym, same_trans, at_ratio}
use Rattle.arithmetic.proofs.Tests.{le_z_true, true_le_z}
use Rattle.arithmetic.proofs.Values.{within_nested, inside_same}
use Rattle.cells.specs.Cells.{IsCell}
use Rattle.cells.specs.Held.{Held, nothing, held, Holds, Chosen, Alike}
use Rattle.cells.specs.Rules.{End, ReachedAt}
use Rattle.cells.specs.Scales.{IsScale}
use Rattle.cells.specs.Joins.{same_fraction, has}

-- ---- what it is to have a fraction

same_yes : (v w : Fraction) → same_fraction v w ≡ true → Same v w
same_yes v w e =
    let x = v.num *ℤ w.den in let y = w.num *ℤ v.den in
    let p = and_parts (int_le x y) (int_le y x) e in record { cross = equal x y (le_z_true x y p.0) (le_z_true y x p.1) }
  where
    equal : (x y : ℤ) → x ≤ℤ y → y ≤ℤ x → x ≡ y
    equal x y h k = omega (arith, ints)

yes_same : (v w : Fraction) → Same v w → same_fraction v w ≡ true
yes_same v w h =
    let x = v.num *ℤ w.den in let y = w.num *ℤ v.den in
    and_from (int_le x y) (int_le y x) (true_le_z x y (under x y h.cross)) (true_le_z y x (under y x (sym h.cross)))
  where
    under : (x y : ℤ) → x ≡ y → x ≤ℤ y
    under x y e = omega (arith, ints)

pub has_self : (v : Fraction) → has (held v) v ≡ true
has_self v = yes_same v v (same_refl v)

pub has_alike : (p p' : Held) (v v' : Fraction) → Alike p p' → Same v v' → has p v ≡ true → has p' v' ≡ true
has_alike nothing nothing v v' a e h = h
has_alike nothing (held w) v v' a e h = absurd a
has_alike (held w) nothing v v' a e h = absurd a
has_alike (held w) (held w') v v' a e h = yes_same w' v' (same_trans w' v v' (same_trans w' w v (same_sym w w' a) (same_yes w v h)) e)

pub has_inside : (u : ℤ) (c : Value) (p : Held) (v : Fraction) → Holds u c p → has p v ≡ true → Inside u c v
has_inside u c nothing v h e = absurd (false≢true e)
has_inside u c (held w) v h e = inside_same u c w v (same_yes w v e) h

-- ---- what lies inside a cell

pub scale_positive : (u : ℤ) → IsScale u → pos 0 <ℤ u
scale_positive u s = omega (arith, ints)

pub cell_ordered : (c : Value) → IsCell c → Ordered c
cell_ordered empty g = tt
cell_ordered (bounds a b) g = g.1

ratio_inside : (u a b l : ℤ) (z : pos 0 <ℤ u) → a ≤ℤ l → l ≤ℤ b → Between u a b (ratio l u z)
ratio_inside u a b l z h k = record { least = *ℤ_mono a l u (weak z) h; most = *ℤ_mono l b u (weak z) k }

-- a bound of a cell is inside it
pub end_inside : (u : ℤ) (c : Value) (e : ℤ) (z : pos 0 <ℤ u) → IsCell c → End e c → Inside u c (ratio e u z)
end_inside u empty e z g i = absurd i
end_inside u (bounds a b) e z g (inl i) = ratio_inside u a b e z (omega (arith, ints)) (omega (arith, ints))
end_inside u (bounds a b) e z g (inr i) = ratio_inside u a b e z (omega (arith, ints)) (omega (arith, ints))

-- every cell has something that can be chosen from it
pub choice : (u : ℤ) (c : Value) → pos 0 <ℤ u → IsCell c → (p : Held) × Chosen u c p
choice u empty z g = (nothing, tt)
choice u (bounds a b) z g = (held (ratio a u z), end_inside u (bounds a b) a z g (inl refl))

-- e steps are reached from a choice out of each operand from which their fraction is admitted
pub reached_at : (admits : Held → Held → Fraction → Bool) (u : ℤ) (x y : Value) (e : ℤ) (z : pos 0 <ℤ u) (p q : Held) → Chosen u x p → Chosen u y q → admits p q (ratio e u z) ≡ true → ReachedAt admits u x y e
reached_at admits u x y e z p q i j t = record { value = ratio e u z; admitted = record { left = p; right = q; in_left = i; in_right = j; is = t }; at = at_ratio e u z }

-- ---- which cells are equal

pub equal_bounds : {a b c d : ℤ} → a ≡ c → b ≡ d → bounds a b ≡ bounds c d
equal_bounds p q = cc

pub equal_nested : (c d : Value) → Nested c d → Nested d c → c ≡ d
equal_nested empty empty m n = refl
equal_nested empty (bounds a b) m n = absurd n
equal_nested (bounds a b) empty m n = absurd m
equal_nested (bounds a b) (bounds c d) m n = equal_bounds (omega (arith, ints)) (omega (arith, ints))

-- two cells that hold the same fractions are the same cell
pub equal_within : (c d : Value) → IsCell c → IsCell d → Within (pos 1) c d → Within (pos 1) d c → c ≡ d
equal_within c d g h i j =
    let z : pos 0 <ℤ pos 1 = omega (arith, ints) in
    equal_nested c d (within_nested (pos 1) c d z (cell_ordered c g) i) (within_nested (pos 1) d c z (cell_ordered d h) j)
