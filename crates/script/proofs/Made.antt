-- The cell of two numbers is the cell of the numbers held.
use Rattle.std.proofs.Common.{◌≡◌, Bool, true, false, ◌||◌, ℤ, pos, negsuc, ◌≤ℤ◌, Option, Some, None, int_lt, refl, sym, ap, ◌∙◌, arith}
use Rattle.std.specs.Option.{option_map}
use Rattle.std.proofs.lemmas.Bool.{or_parts, both_ways, true_from_ne_false}
use Rattle.std.proofs.lemmas.Int.{ints}
use Rattle.arithmetic.specs.Values.{Value}
use Rattle.rounding.specs.Limit.{lowest, highest}
use Rattle.cells.specs.Cells.{broken}
use Rattle.script.specs.Numbers.{held, made, made_of}

in_order : (l u : ℤ) → broken l u ≡ false → (lowest ≤ℤ l) × (l ≤ℤ u) × (u ≤ℤ highest)
in_order l u e =
    let p = or_parts (int_lt l lowest) (int_lt highest u || int_lt u l) e in
    let q = or_parts (int_lt highest u) (int_lt u l) p.1 in
    (omega (arith, ints, p.0), omega (arith, ints, q.1), omega (arith, ints, q.0))

-- a number that a cell can have is held as it is, and nothing else is held as such a number
near : (z : ℤ) → lowest ≤ℤ z → z ≤ℤ highest → held z ≡ z
near (pos n) low high = ap pos (omega (arith, ints, high))
near (negsuc n) low high = ap negsuc (omega (arith, ints, low))

held_near : (z : ℤ) → lowest ≤ℤ held z → held z ≤ℤ highest → held z ≡ z
held_near (pos n) low high = ap pos (omega (arith, ints, high))
held_near (negsuc n) low high = ap negsuc (omega (arith, ints, low))

pub broken_held : (l u : ℤ) → broken (held l) (held u) ≡ broken l u
broken_held l u = go (broken l u) refl
  where
    go : (b : Bool) → broken l u ≡ b → broken (held l) (held u) ≡ b
    go false e =
        let p = in_order l u e in
        let hl : held l ≡ l = near l p.0 (omega (arith, ints, p.1, p.2)) in
        let hu : held u ≡ u = near u (omega (arith, ints, p.0, p.1)) p.2 in
        rw (hl, hu) e
    go true e = true_from_ne_false _ (λ f.
        let p = in_order (held l) (held u) f in
        let hl : held l ≡ l = held_near l p.0 (omega (arith, ints, p.1, p.2)) in
        let hu : held u ≡ u = held_near u (omega (arith, ints, p.0, p.1)) p.2 in
        both_ways (broken l u) (rw (hl, hu) at f) e)

pub made_held : (l u : ℤ) → made (held l) (held u) ≡ made l u
made_held l u = go (broken l u) refl
  where
    go : (b : Bool) → broken l u ≡ b → made (held l) (held u) ≡ made l u
    go true e = let f : broken (held l) (held u) ≡ true = broken_held l u ∙ e in rw (e, f) refl
    go false e =
        let p = in_order l u e in
        let hl : held l ≡ l = near l p.0 (omega (arith, ints, p.1, p.2)) in
        let hu : held u ≡ u = near u (omega (arith, ints, p.0, p.1)) p.2 in
        rw (hl, hu) refl

-- the cell of two words, by their sizes
pub sizes : (a b : Option ℤ) → made_of a b ≡ made_of (option_map held a) (option_map held b)
sizes None b = refl
sizes (Some l) None = refl
sizes (Some l) (Some u) = ap Some (sym (made_held l u))

pub made_from : (a b : Option ℤ) (x y x' y' : ℤ) (v : Value) → option_map held a ≡ Some x → option_map held b ≡ Some y → x' ≡ x → y' ≡ y → v ≡ made x' y' → Some v ≡ made_of a b
made_from a b x y x' y' v p q i j r = sym (sizes a b ∙ both (option_map held a) (option_map held b) p q)
  where
    both : (s t : Option ℤ) → s ≡ Some x → t ≡ Some y → made_of s t ≡ Some v
    both s t e f = rw (e, f, ← i, ← j) (ap Some (sym r))
