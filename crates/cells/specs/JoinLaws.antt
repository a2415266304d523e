-- Meet and hull keep the laws of a joining rule: each law proved, and the two rules.
use Rattle.std.specs.Prelude.{◌≡◌, Bool, true, false, cond, ◌⊎◌, ℤ, pos, ◌*ℤ◌, ◌≤ℤ◌, int_lt, refl}
use Rattle.std.proofs.Common.{inl, inr, ⊎_elim, arith}
use Rattle.std.specs.Int.{int_min, int_max}
use Rattle.std.proofs.lemmas.Int.{clamps, by_lt_z, ints}
use Rattle.std.proofs.lemmas.Bool.{and_parts, and_from, or_cases, or_left, or_right}
use Rattle.arithmetic.specs.Fractions.{Fraction, Same, Between, ratio}
use Rattle.arithmetic.specs.Values.{Value, empty, bounds, Inside, Within, Nested}
use Rattle.arithmetic.proofs.Integers.{*ℤ_cancel, ≤ℤ_trans}
use Rattle.arithmetic.proofs.Fractions.{between_weaken}
use Rattle.arithmetic.proofs.Values.{nested_within, within_nested}
use Rattle.cells.specs.Cells.{IsCell}
use Rattle.cells.specs.Held.{Held, held, Holds, Alike}
use Rattle.cells.specs.Rules.{End, ReachedAt, Rule}
use Rattle.cells.specs.Scales.{IsScale}
use Rattle.cells.specs.Joins.{has, if_ordered, met, meet_admits, hulled, hull_admits}
use Rattle.cells.specs.Holding.{has_self, has_alike, has_inside, scale_positive, cell_ordered, end_inside, choice, reached_at, equal_bounds, equal_nested, equal_within}

-- ---- meet: a fraction is inside it exactly where it is inside both

between_ordered : (u a b : ℤ) (v : Fraction) → Between u a b v → Inside u (if_ordered a b) v
between_ordered u a b v h = go (int_lt b a) refl
  where
    go : (t : Bool) → int_lt b a ≡ t → Inside u (cond t empty (bounds a b)) v
    go true e = let k = *ℤ_cancel a b v.den v.positive (≤ℤ_trans h.least h.most) in absurd (omega (arith, ints))
    go false e = h

ordered_between : (u a b : ℤ) (v : Fraction) → Inside u (if_ordered a b) v → Between u a b v
ordered_between u a b v = go (int_lt b a)
  where
    go : (t : Bool) → Inside u (cond t empty (bounds a b)) v → Between u a b v
    go true h = absurd h
    go false h = h

pub met_in : (u : ℤ) (x y : Value) (v : Fraction) → Inside u x v → Inside u y v → Inside u (met x y) v
met_in u empty y v h k = absurd h
met_in u (bounds a b) empty v h k = absurd k
met_in u (bounds a b) (bounds c d) v h k = between_ordered u (int_max a c) (int_min b d) v (record {
  least = pick (int_lt c a) (λ m. (m *ℤ v.den) ≤ℤ (v.num *ℤ u)) a c h.least k.least;
  most = pick (int_lt d b) (λ m. (v.num *ℤ u) ≤ℤ (m *ℤ v.den)) d b k.most h.most;
})
  where
    pick : (t : Bool) (P : ℤ → Type 0) (x y : ℤ) → P x → P y → P (cond t x y)
    pick true P x y p q = p
    pick false P x y p q = q

pub met_out : (u : ℤ) (x y : Value) (v : Fraction) → Inside u (met x y) v → Inside u x v × Inside u y v
met_out u empty y v h = absurd h
met_out u (bounds a b) empty v h = absurd h
met_out u (bounds a b) (bounds c d) v h =
    let l = int_max a c in let m = int_min b d in let k = ordered_between u l m v h in
    (between_weaken u l m a b v k (omega (arith, ints, clamps)) (omega (arith, ints, clamps)), between_weaken u l m c d v k (omega (arith, ints, clamps)) (omega (arith, ints, clamps)))

pub meet_alike : (p q p' q' : Held) (v v' : Fraction) → Alike p p' → Alike q q' → Same v v' → meet_admits p q v ≡ true → meet_admits p' q' v' ≡ true
meet_alike p q p' q' v v' a b e h = let k = and_parts (has p v) (has q v) h in and_from (has p' v') (has q' v') (has_alike p p' v v' a e k.0) (has_alike q q' v v' b e k.1)

pub meet_keeps : (x y : Value) → IsCell x → IsCell y → IsCell (met x y)
meet_keeps empty y g h = tt
meet_keeps (bounds a b) empty g h = tt
meet_keeps (bounds a b) (bounds c d) g h = go (int_lt (int_min b d) (int_max a c)) refl
  where
    go : (t : Bool) → int_lt (int_min b d) (int_max a c) ≡ t → IsCell (cond t empty (bounds (int_max a c) (int_min b d)))
    go true e = tt
    go false e = (omega (arith, ints, clamps), omega (arith, ints), omega (arith, ints, clamps))

pub meet_contains : (u : ℤ) (x y : Value) (p q : Held) (v : Fraction) → Holds u x p → Holds u y q → meet_admits p q v ≡ true → Inside u (met x y) v
meet_contains u x y p q v h k e = let t = and_parts (has p v) (has q v) e in met_in u x y v (has_inside u x p v h t.0) (has_inside u y q v k t.1)

-- a bound of the meet is inside both operands, so it can be chosen from both
pub meet_attained : (u : ℤ) (x y : Value) (e : ℤ) → IsScale u → IsCell x → IsCell y → End e (met x y) → ReachedAt meet_admits u x y e
meet_attained u x y e s g h i =
    let z = scale_positive u s in let v = ratio e u z in let k = met_out u x y v (end_inside u (met x y) e z (meet_keeps x y g h) i) in
    reached_at meet_admits u x y e z (held v) (held v) k.0 k.1 (and_from (has (held v) v) (has (held v) v) (has_self v) (has_self v))

pub meet_isotone : (u : ℤ) (a b c d : Value) → Within u a c → Within u b d → Within u (met a b) (met c d)
meet_isotone u a b c d i j v h = let k = met_out u a b v h in met_in u c d v (i v k.0) (j v k.1)

pub meet_comm : (x y : Value) → IsCell x → IsCell y → met x y ≡ met y x
meet_comm x y g h = equal_within (met x y) (met y x) (meet_keeps x y g h) (meet_keeps y x h g) (swapped x y) (swapped y x)
  where
    swapped : (x y : Value) → Within (pos 1) (met x y) (met y x)
    swapped x y v h = let k = met_out (pos 1) x y v h in met_in (pos 1) y x v k.1 k.0

pub meet_assoc : (x y z : Value) → IsCell x → IsCell y → IsCell z → met (met x y) z ≡ met x (met y z)
meet_assoc x y z g h k =
    equal_within (met (met x y) z) (met x (met y z)) (meet_keeps (met x y) z (meet_keeps x y g h) k) (meet_keeps x (met y z) g (meet_keeps y z h k)) rightward leftward
  where
    rightward : Within (pos 1) (met (met x y) z) (met x (met y z))
    rightward v h = let m = met_out (pos 1) (met x y) z v h in let n = met_out (pos 1) x y v m.0 in met_in (pos 1) x (met y z) v n.0 (met_in (pos 1) y z v n.1 m.1)

    leftward : Within (pos 1) (met x (met y z)) (met (met x y) z)
    leftward v h = let m = met_out (pos 1) x (met y z) v h in let n = met_out (pos 1) y z v m.1 in met_in (pos 1) (met x y) z v (met_in (pos 1) x y v m.0 n.0) n.1

pub meet_same : (x : Value) → IsCell x → met x x ≡ x
meet_same x g = equal_within (met x x) x (meet_keeps x x g g) g (λ v h. (met_out (pos 1) x x v h).0) (λ v h. met_in (pos 1) x x v h h)

-- ---- hull: it holds both, and lies inside whatever else holds both

pub hull_left : (x y : Value) → Nested x (hulled x y)
hull_left empty y = tt
hull_left (bounds a b) empty = (omega (arith, ints), omega (arith, ints))
hull_left (bounds a b) (bounds c d) = (omega (arith, ints, clamps), omega (arith, ints, clamps))

pub hull_right : (x y : Value) → Nested y (hulled x y)
hull_right empty empty = tt
hull_right empty (bounds c d) = (omega (arith, ints), omega (arith, ints))
hull_right (bounds a b) empty = tt
hull_right (bounds a b) (bounds c d) = (omega (arith, ints, clamps), omega (arith, ints, clamps))

pub hull_least : (x y z : Value) → Nested x z → Nested y z → Nested (hulled x y) z
hull_least empty y z m n = n
hull_least (bounds a b) empty z m n = m
hull_least (bounds a b) (bounds c d) empty m n = absurd m
hull_least (bounds a b) (bounds c d) (bounds e f) m n = (omega (arith, ints, clamps), omega (arith, ints, clamps))

-- a bound of the hull is a bound of an operand
hull_end : (x y : Value) (e : ℤ) → End e (hulled x y) → End e x ⊎ End e y
hull_end empty y e i = inr i
hull_end (bounds a b) empty e i = inl i
hull_end (bounds a b) (bounds c d) e (inl i) = by_lt_z a c (λ l. inl (inl (omega (arith, ints, clamps)))) (λ l. inr (inl (omega (arith, ints, clamps))))
hull_end (bounds a b) (bounds c d) e (inr i) = by_lt_z b d (λ l. inr (inr (omega (arith, ints, clamps)))) (λ l. inl (inr (omega (arith, ints, clamps))))

pub hull_alike : (p q p' q' : Held) (v v' : Fraction) → Alike p p' → Alike q q' → Same v v' → hull_admits p q v ≡ true → hull_admits p' q' v' ≡ true
hull_alike p q p' q' v v' a b e h =
    ⊎_elim (λ i. or_left (has p' v') (has q' v') (has_alike p p' v v' a e i)) (λ i. or_right (has p' v') (has q' v') (has_alike q q' v v' b e i)) (or_cases (has p v) (has q v) h)

pub hull_keeps : (x y : Value) → IsCell x → IsCell y → IsCell (hulled x y)
hull_keeps empty y g h = h
hull_keeps (bounds a b) empty g h = g
hull_keeps (bounds a b) (bounds c d) g h = (omega (arith, ints, clamps), omega (arith, ints, clamps), omega (arith, ints, clamps))

pub hull_contains : (u : ℤ) (x y : Value) (p q : Held) (v : Fraction) → Holds u x p → Holds u y q → hull_admits p q v ≡ true → Inside u (hulled x y) v
hull_contains u x y p q v h k e = ⊎_elim
    (λ i. nested_within u x (hulled x y) (hull_left x y) v (has_inside u x p v h i))
    (λ i. nested_within u y (hulled x y) (hull_right x y) v (has_inside u y q v k i))
    (or_cases (has p v) (has q v) e)

-- a bound of one operand is admitted with whatever is chosen from the other
pub hull_attained : (u : ℤ) (x y : Value) (e : ℤ) → IsScale u → IsCell x → IsCell y → End e (hulled x y) → ReachedAt hull_admits u x y e
hull_attained u x y e s g h i =
    let z = scale_positive u s in let v = ratio e u z in let p = choice u x z g in let q = choice u y z h in
    ⊎_elim
    (λ k. reached_at hull_admits u x y e z (held v) q.0 (end_inside u x e z g k) q.1 (or_left (has (held v) v) (has q.0 v) (has_self v)))
    (λ k. reached_at hull_admits u x y e z p.0 (held v) p.1 (end_inside u y e z h k) (or_right (has p.0 v) (has (held v) v) (has_self v)))
    (hull_end x y e i)

pub hull_isotone : (u : ℤ) (a b c d : Value) → IsScale u → IsCell a → IsCell b → Within u a c → Within u b d → Within u (hulled a b) (hulled c d)
hull_isotone u a b c d s g h i j =
    let z = scale_positive u s in let e = hulled c d in
    let m = within_nested u a e z (cell_ordered a g) (λ v k. nested_within u c e (hull_left c d) v (i v k)) in
    let n = within_nested u b e z (cell_ordered b h) (λ v k. nested_within u d e (hull_right c d) v (j v k)) in
    nested_within u (hulled a b) e (hull_least a b e m n)

pub hull_comm : (x y : Value) → hulled x y ≡ hulled y x
hull_comm x y = equal_nested (hulled x y) (hulled y x) (hull_least x y (hulled y x) (hull_right y x) (hull_left y x)) (hull_least y x (hulled x y) (hull_right x y) (hull_left x y))

pub hull_assoc : (x y z : Value) → hulled (hulled x y) z ≡ hulled x (hulled y z)
hull_assoc empty y z = refl
hull_assoc (bounds a b) empty z = refl
hull_assoc (bounds a b) (bounds c d) empty = refl
hull_assoc (bounds a b) (bounds c d) (bounds e f) = equal_bounds (omega (arith, ints, clamps)) (omega (arith, ints, clamps))

pub hull_same : (x : Value) → hulled x x ≡ x
hull_same empty = refl
hull_same (bounds a b) = equal_bounds (omega (arith, ints, clamps)) (omega (arith, ints, clamps))

-- ---- the two rules

abbrev pub meet : Rule
meet = record {
  joined = met;
  admits = meet_admits;
  alike = meet_alike;
  keeps = meet_keeps;
  contains = λ u a b p q v s g h. meet_contains u a b p q v;
  attained = meet_attained;
  isotone = λ u a b c d s ga gb gc gd. meet_isotone u a b c d;
  comm = meet_comm;
  assoc = meet_assoc;
  same = meet_same;
}

abbrev pub hull : Rule
hull = record {
  joined = hulled;
  admits = hull_admits;
  alike = hull_alike;
  keeps = hull_keeps;
  contains = λ u a b p q v s g h. hull_contains u a b p q v;
  attained = hull_attained;
  isotone = λ u a b c d s ga gb gc gd. hull_isotone u a b c d s ga gb;
  comm = λ a b g h. hull_comm a b;
  assoc = λ a b c g h k. hull_assoc a b c;
  same = λ a g. hull_same a;
}
