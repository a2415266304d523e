-- Meet and hull can name a value that they admit, or tell that there is none.
use Rattle.std.specs.Prelude.{◌≡◌, Bool, true, false, ℤ, ◌*ℤ◌, ◌≤ℤ◌, int_le}
use Rattle.std.proofs.Common.{refl, sym, ◌∙◌, arith}
use Rattle.std.proofs.lemmas.Bool.{and_parts, and_from, or_left, false≢true}
use Rattle.std.proofs.lemmas.Int.{ints}
use Rattle.arithmetic.specs.Fractions.{Fraction, Same}
use Rattle.arithmetic.proofs.Fractions.{same_refl, same_sym}
use Rattle.arithmetic.proofs.Tests.{le_z_true}
use Rattle.cells.specs.Held.{Held, nothing, held}
use Rattle.cells.specs.Holding.{has_self, has_alike}
use Rattle.cells.specs.JoinLaws.{meet, hull}
use Rattle.cells.specs.Joins.{has, meet_admits}
use Rattle.sheet.specs.Formulas.{Gives, no_value, value}
use Rattle.sheet.specs.Promises.{Tells}

-- the fraction that it has is an equal one
has_same : (v w : Fraction) → has (held v) w ≡ true → Same v w
has_same v w e =
    let x = v.num *ℤ w.den in let y = w.num *ℤ v.den in
    let p = and_parts (int_le x y) (int_le y x) e in
    record { cross = equal x y (le_z_true x y p.0) (le_z_true y x p.1) }
  where
    equal : (x y : ℤ) → x ≤ℤ y → y ≤ℤ x → x ≡ y
    equal x y h k = omega (arith, ints)

-- meet: the fraction of the left operand, if the right one has it too
pub meet_tells : Tells meet
meet_tells nothing q = (nothing, no_value (λ v e. false≢true e))
meet_tells (held v) nothing = (nothing, no_value (λ w h. false≢true (and_parts (has (held v) w) false h).1))
meet_tells (held v) (held w) = go (has (held w) v) refl
  where
    go : (t : Bool) → has (held w) v ≡ t → (y : Held) × Gives (λ x. meet_admits (held v) (held w) x ≡ true) y
    go true e = (held v, value (and_from (has (held v) v) (has (held w) v) (has_self v) e))
    go false e = (
      nothing,
      no_value (λ x h.
          let p = and_parts (has (held v) x) (has (held w) x) h in
          false≢true (sym e ∙ has_alike (held w) (held w) x v (same_refl w) (same_sym v x (has_same v x p.0)) p.1)),
    )

-- hull: the fraction of either operand
pub hull_tells : Tells hull
hull_tells nothing nothing = (nothing, no_value (λ v e. false≢true e))
hull_tells nothing (held w) = (held w, value (has_self w))
hull_tells (held v) q = (held v, value (or_left (has (held v) v) (has q v) (has_self v)))
