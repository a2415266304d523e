-- Which rows are inside a column, and which stay, for the working orders and the new columns of the calls.
use Rattle.std.proofs.Common.{◌≡◌, ℕ, ◌-◌, ◌<◌, ◌≤◌, Bool, true, false, cond, ltb, eqb, refl, arith}
use Rattle.std.proofs.lemmas.Bool.{ltb-true, le-ltb, cond-false}
use Rattle.arithmetic.specs.Values.{Value}
use Rattle.layouts.specs.declared.side.Side.{Side}
use Rattle.layouts.specs.declared.side.Side.TheVariants.{Lower, Upper}
use Rattle.sheet.specs.declared.order.WorkingOrder.TheVariants.{One, All}
use Rattle.sheet.specs.WorkingRows.{AreInside, Stays}

pub one_inside : (n i : ℕ) → i < n → AreInside n (One i)
one_inside n i h = λ step b. h

pub all_inside : (n m : ℕ) (side : Side) → m ≤ n → AreInside n (All side m)
all_inside n m Lower h = λ step b. omega (arith, h, b)
all_inside n m Upper h = λ step b. omega (arith, h, b)

pub every_inside : (n : ℕ) → AreInside n (All Lower n)
every_inside n = λ step b. b

pub others_stay : (n i : ℕ) (f old : ℕ → Value) → Stays n (One i) old (λ row. cond (eqb row i) (f row) (old row))
others_stay n i f old = λ row b a. by (eqb row i) (f row) (old row) a
  where
    by : (t : Bool) (v o : Value) → 1 ≤ cond t 0 1 → cond t v o ≡ o
    by true v o a = absurd (omega (arith, a))
    by false v o a = refl

pub rest_stays : (n m : ℕ) (side : Side) (f old : ℕ → Value) → Stays n (All side m) old (λ row. cond (ltb row m) (f row) (old row))
rest_stays n m Lower f old = λ row b a. cond-false (ltb row m) (f row) (old row) (le-ltb row m a)
rest_stays n m Upper f old = λ row b a. by row (ltb row m) refl a
  where
    by : (row : ℕ) (t : Bool) → ltb row m ≡ t → m ≤ cond t (m - 1 - row) m → cond t (f row) (old row) ≡ old row
    by row true e a = absurd (omega (arith, a, ltb-true row m e))
    by row false e a = refl

pub none_stays : (n : ℕ) (old new : ℕ → Value) → Stays n (All Lower n) old new
none_stays n old new = λ row b a. absurd (omega (arith, a, b))
