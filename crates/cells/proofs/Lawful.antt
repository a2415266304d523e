-- The laws of cells, each from the combinators of exact and tight values. Assumes nothing.
use Rattle.std.proofs.Common.{◌≡◌, ℕ, ◌<◌, Bool, true, false, cond, ◌||◌, ℤ, pos, ◌*ℤ◌, ◌≤ℤ◌, ◌<ℤ◌, Ok, Err, Result, sym, refl, ap, ◌∙◌, subst, inl, inr, ⊎_elim, arith}
use lib.Signed.{le_z, lt_z}
use borrow.Author.Differences.{ints}
use Rattle.std.proofs.lemmas.Int.{by_lt_z}
use Rattle.std.proofs.lemmas.Bool.{and_parts, and_from, and_cases, or_parts, or_from, false≢true}
use Rattle.arithmetic.specs.Sets.{TotalSet, ProductSet, QuotientSet, Included}
use Rattle.arithmetic.specs.Values.{Value, empty, bounds, Ordered, Inside, Within, Nested, Exactly, Tightly, Apart, times, total, quotients}
use Rattle.arithmetic.proofs.Integers.{*ℤ_assoc, *ℤ_pos}
use Rattle.arithmetic.proofs.Fractions.{weak}
use Rattle.arithmetic.proofs.Sets.{products_grow, sums_grow, totals_grow}
use Rattle.arithmetic.proofs.Tests.{le_z_true, true_le_z}
use Rattle.arithmetic.proofs.Values.{exactly_inside, exactly_times, exactly_plus, exactly_rescaled, exactly_total, exactly_tightly, rounded_tightly, quotients_tightly, nested_within, within_nested}
use Rattle.rounding.specs.declared.fault.Bound.TheVariants.{Lower, Upper}
use Rattle.rounding.specs.declared.fault.RoundingFault.{RoundingFault}
use Rattle.rounding.specs.Limit.{lowest, highest}
use Rattle.rounding.specs.Outward.{beyond, both}
use Rattle.cells.specs.declared.cell.Record.{Record}
use Rattle.cells.specs.Cells.{IsCell, broken, read_as, written}
use Rattle.cells.specs.Faults.{kept, paired}
use Rattle.cells.specs.Formulas.{dot_cell, DotValues, sum_cell, SumValues, blend_cell, BlendValues}
use Rattle.cells.specs.Questions.{nested}
use Rattle.cells.specs.Quotients.{zero_in, nought, divided}
use Rattle.cells.specs.JoinLaws.{met_in, met_out, hull_left, hull_right, hull_least}
use Rattle.cells.specs.Laws.{Laws}
use Rattle.cells.specs.Scales.{IsScale}
use Rattle.cells.specs.Reading.{read_cell}
use Rattle.cells.proofs.JoinTight.{join_tight}

positive_nonzero : (t : ℤ) → pos 0 <ℤ t → t ≡ pos 0 → ⊥
positive_nonzero t h e = omega (arith, ints)

scale_ends : IsScale (pos 1) × IsScale (pos 100000)
scale_ends = ((omega (arith, ints), omega (arith, ints)), (omega (arith, ints), omega (arith, ints)))

-- ---- the formulas
products_exactly : (u : ℤ) (xs ys : ℕ → Value) (n : ℕ) → pos 0 <ℤ u → ((j : ℕ) → j < n → Ordered (xs j)) → ((j : ℕ) → j < n → Ordered (ys j))
    → Exactly (u *ℤ u) (TotalSet (λ j. ProductSet (Inside u (xs j)) (Inside u (ys j))) 0 n) (total (λ j. times (xs j) (ys j)) 0 n)
products_exactly u xs ys n z ox oy = exactly_total (u *ℤ u) (λ j. ProductSet (Inside u (xs j)) (Inside u (ys j))) (λ j. times (xs j) (ys j)) 0 n
    (λ j b c. exactly_times (exactly_inside u (xs j) z (ox j (omega (arith, c)))) (exactly_inside u (ys j) z (oy j (omega (arith, c)))))

dot_tight : (u : ℤ) (alpha beta r : Value) (xs ys : ℕ → Value) (n : ℕ) → pos 0 <ℤ u → Ordered alpha → Ordered beta → Ordered r
    → ((j : ℕ) → j < n → Ordered (xs j)) → ((j : ℕ) → j < n → Ordered (ys j))
    → Tightly u (DotValues (Inside u alpha) (Inside u beta) (Inside u r) (λ j. Inside u (xs j)) (λ j. Inside u (ys j)) n) (dot_cell u alpha beta r xs ys n)
dot_tight u alpha beta r xs ys n z oa ob or ox oy =
    let br = exactly_rescaled u (weak z) (exactly_times (exactly_inside u beta z ob) (exactly_inside u r z or)) in
    let ax = exactly_times (exactly_inside u alpha z oa) (products_exactly u xs ys n z ox oy) in
    rounded_tightly u (u *ℤ u) (positive_nonzero (u *ℤ u) (*ℤ_pos u u z z)) (exactly_plus (rw *ℤ_assoc at br) ax)

dot_grows : (u : ℤ) (alpha beta r alpha' beta' r' : Value) (xs ys xs' ys' : ℕ → Value) (n : ℕ) → Within u alpha alpha' → Within u beta beta' → Within u r r'
    → ((j : ℕ) → j < n → Within u (xs j) (xs' j)) → ((j : ℕ) → j < n → Within u (ys j) (ys' j))
    → Included (DotValues (Inside u alpha) (Inside u beta) (Inside u r) (λ j. Inside u (xs j)) (λ j. Inside u (ys j)) n)
    (DotValues (Inside u alpha') (Inside u beta') (Inside u r') (λ j. Inside u (xs' j)) (λ j. Inside u (ys' j)) n)
dot_grows u alpha beta r alpha' beta' r' xs ys xs' ys' n ia ib ir ix iy =
    sums_grow (products_grow ib ir)
    (products_grow ia
    (totals_grow (λ j. ProductSet (Inside u (xs j)) (Inside u (ys j))) (λ j. ProductSet (Inside u (xs' j)) (Inside u (ys' j))) 0 n
    (λ j b c. products_grow (ix j (omega (arith, c))) (iy j (omega (arith, c))))))

sum_tight : (u : ℤ) (xs : ℕ → Value) (n : ℕ) → pos 0 <ℤ u → ((j : ℕ) → j < n → Ordered (xs j)) → Tightly u (SumValues (λ j. Inside u (xs j)) n) (sum_cell xs n)
sum_tight u xs n z o = exactly_tightly (exactly_total u (λ j. Inside u (xs j)) xs 0 n (λ j b c. exactly_inside u (xs j) z (o j (omega (arith, c)))))

sum_grows : (u : ℤ) (xs xs' : ℕ → Value) (n : ℕ) → ((j : ℕ) → j < n → Within u (xs j) (xs' j)) → Included (SumValues (λ j. Inside u (xs j)) n) (SumValues (λ j. Inside u (xs' j)) n)
sum_grows u xs xs' n i = totals_grow (λ j. Inside u (xs j)) (λ j. Inside u (xs' j)) 0 n (λ j b c. i j (omega (arith, c)))

blend_tight : (u : ℤ) (alpha beta x r : Value) → pos 0 <ℤ u → Ordered alpha → Ordered beta → Ordered x → Ordered r
    → Tightly u (BlendValues (Inside u alpha) (Inside u beta) (Inside u x) (Inside u r)) (blend_cell u alpha beta x r)
blend_tight u alpha beta x r z oa ob ox or =
    rounded_tightly u u (positive_nonzero u z) (exactly_plus (exactly_times (exactly_inside u alpha z oa) (exactly_inside u x z ox)) (exactly_times (exactly_inside u beta z ob) (exactly_inside u r z or)))

blend_grows : (u : ℤ) (alpha beta x r alpha' beta' x' r' : Value) → Within u alpha alpha' → Within u beta beta' → Within u x x' → Within u r r'
    → Included (BlendValues (Inside u alpha) (Inside u beta) (Inside u x) (Inside u r)) (BlendValues (Inside u alpha') (Inside u beta') (Inside u x') (Inside u r'))
blend_grows u alpha beta x r alpha' beta' x' r' ia ib ix ir = sums_grow (products_grow ia ix) (products_grow ib ir)

-- ---- quotients
divided_apart : (v d : Value) → zero_in d ≡ false → divided v d ≡ quotients v d
divided_apart empty d e = refl
divided_apart (bounds a b) empty e = refl
divided_apart (bounds a b) (bounds c d) e = ap (λ (t : Bool). cond t empty (quotients (bounds a b) (bounds c d))) e

divided_zero : (v d : Value) → zero_in d ≡ true → divided v d ≡ empty
divided_zero empty d e = refl
divided_zero (bounds a b) empty e = refl
divided_zero (bounds a b) (bounds c d) e = ap (λ (t : Bool). cond t empty (quotients (bounds a b) (bounds c d))) e

not_zero_apart : (d : Value) → Ordered d → zero_in d ≡ false → Apart d
not_zero_apart empty o e = tt
not_zero_apart (bounds c d) o e = ⊎_elim (λ l. inl (not_le c (pos 0) l)) (λ h. inr (not_le (pos 0) d h)) (and_cases (le_z c (pos 0)) (le_z (pos 0) d) e)
  where
    not_le : (a b : ℤ) → le_z a b ≡ false → b <ℤ a
    not_le a b e = by_lt_z b a (λ l. l) (λ l. absurd (false≢true (sym e ∙ true_le_z a b l)))

zero_held : (u : ℤ) (d : Value) → zero_in d ≡ true → Inside u d nought
zero_held u empty e = absurd (false≢true e)
zero_held u (bounds c d) e =
    let p = and_parts (le_z c (pos 0)) (le_z (pos 0) d) e in let low = le_z_true c (pos 0) p.0 in let high = le_z_true (pos 0) d p.1 in
    record { least = omega (arith, ints, low); most = omega (arith, ints, high) }

quotient_tight : (u : ℤ) (alpha x d : Value) → pos 0 <ℤ u → Ordered alpha → Ordered x → Ordered d → zero_in d ≡ false
    → Tightly u (QuotientSet (ProductSet (Inside u alpha) (Inside u x)) (Inside u d)) (divided (times alpha x) d)
quotient_tight u alpha x d z oa ox od e =
    let P : Value → Type 0 = Tightly u (QuotientSet (ProductSet (Inside u alpha) (Inside u x)) (Inside u d)) in
    subst P (sym (divided_apart (times alpha x) d e))
    (quotients_tightly u u z (not_zero_apart d od e) (exactly_times (exactly_inside u alpha z oa) (exactly_inside u x z ox)) (exactly_inside u d z od))

-- ---- reading, writing, keeping
not_broken : (a b : ℤ) → IsCell (bounds a b) → broken a b ≡ false
not_broken a b h =
    let low : false ≡ lt_z a lowest = omega (arith, ints) in
    let high : false ≡ lt_z highest b = omega (arith, ints) in
    let order : false ≡ lt_z b a = omega (arith, ints) in
    or_from (lt_z a lowest) (lt_z highest b || lt_z b a) (sym low) (or_from (lt_z highest b) (lt_z b a) (sym high) (sym order))

read_written : (c : Value) → IsCell c → read_as (written c) ≡ c
read_written empty h = refl
read_written (bounds a b) h = ap (λ (t : Bool). cond t empty (bounds a b)) (not_broken a b h)

not_beyond : (z : ℤ) → lowest ≤ℤ z → z ≤ℤ highest → beyond z ≡ false
not_beyond z h k =
    let low : false ≡ lt_z z lowest = omega (arith, ints) in
    let high : false ≡ lt_z highest z = omega (arith, ints) in
    or_from (lt_z z lowest) (lt_z highest z) (sym low) (sym high)

within_limit : (z : ℤ) → beyond z ≡ false → (lowest ≤ℤ z) × (z ≤ℤ highest)
within_limit z e = let p = or_parts (lt_z z lowest) (lt_z highest z) e in (omega (arith, ints, p.0), omega (arith, ints, p.1))

-- the record of two bounds, by what the limit says of each
abbrev kept_by : ℤ → ℤ → Bool → Bool → Result Record RoundingFault
kept_by a b s t = paired (both (cond s (Err (record { bound = Lower })) (Ok a)) (cond t (Err (record { bound = Upper })) (Ok b)))

kept_cell : (v : Value) → IsCell v → kept v ≡ Ok (written v)
kept_cell empty h = refl
kept_cell (bounds a b) h =
    let low : beyond a ≡ false = not_beyond a h.0 (omega (arith, ints)) in let high : beyond b ≡ false = not_beyond b (omega (arith, ints)) h.2 in
    ap (λ (s : Bool). kept_by a b s (beyond b)) low ∙ ap (λ (t : Bool). kept_by a b false t) high

kept_is : (v : Value) (r : Record) → Ordered v → kept v ≡ Ok r → IsCell v × (r ≡ written v)
kept_is empty r o e = (tt, cc)
kept_is (bounds a b) r o e = go (beyond a) (beyond b) refl refl e
  where
    never : {X : Type 0} (f : RoundingFault) → ◌≡◌ {A = Result Record RoundingFault} (Err f) (Ok r) → X
    never f e = let z : ◌≡◌ {A = ℕ} 0 1 = cc in absurd (omega arith)

    go : (s t : Bool) → beyond a ≡ s → beyond b ≡ t → kept_by a b s t ≡ Ok r → IsCell (bounds a b) × (r ≡ written (bounds a b))
    go true t x y e = never (record { bound = Lower }) e
    go false true x y e = never (record { bound = Upper }) e
    go false false x y e = (((within_limit a x).0, o, (within_limit b y).1), cc)

-- ---- inside
told_nested : (a b : Value) → nested a b ≡ true → Nested a b
told_nested empty d e = tt
told_nested (bounds a b) empty e = false≢true e
told_nested (bounds a b) (bounds c d) e = let p = and_parts (le_z c a) (le_z b d) e in (le_z_true c a p.0, le_z_true b d p.1)

nested_told : (a b : Value) → Nested a b → nested a b ≡ true
nested_told empty d h = refl
nested_told (bounds a b) empty h = absurd h
nested_told (bounds a b) (bounds c d) h = and_from (le_z c a) (le_z b d) (true_le_z c a h.0) (true_le_z b d h.1)

pub laws : Laws
laws = record {
  scale_ends = scale_ends;
  read_cell = read_cell;
  read_written = read_written;
  kept_cell = kept_cell;
  kept_is = kept_is;
  nested_within = λ u a b e. nested_within u a b (told_nested a b e);
  within_nested = λ u a b z o w. nested_told a b (within_nested u a b z o w);
  inside_tight = λ u c z o. exactly_tightly (exactly_inside u c z o);
  dot_tight = dot_tight;
  dot_grows = dot_grows;
  sum_tight = sum_tight;
  sum_grows = sum_grows;
  blend_tight = blend_tight;
  blend_grows = blend_grows;
  divided_apart = divided_apart;
  divided_zero = divided_zero;
  not_zero_apart = not_zero_apart;
  zero_held = zero_held;
  quotient_tight = quotient_tight;
  join_tight = join_tight;
  meet_in = met_in;
  meet_out = met_out;
  hull_left = hull_left;
  hull_right = hull_right;
  hull_least = hull_least;
}
