-- A joined cell is tight: it holds every value that the rule admits, and each of its bounds is admitted.
use Rattle.std.proofs.Common.{ℤ, refl, inl, inr}
use Rattle.arithmetic.specs.Fractions.{Fraction}
use Rattle.arithmetic.specs.Sets.{Set, Included, Attains}
use Rattle.arithmetic.specs.Values.{Value, empty, bounds, Inside, Exactly, none, some, Tightly}
use Rattle.arithmetic.proofs.Values.{exactly_tightly}
use Rattle.cells.specs.Cells.{IsCell}
use Rattle.cells.specs.Held.{Held, nothing, held, Holds, Chosen}
use Rattle.cells.specs.Rules.{End, Admitted, ReachedAt, Rule}
use Rattle.cells.specs.Scales.{IsScale}

-- what can be chosen from a cell is inside it
chosen_holds : (u : ℤ) (c : Value) (p : Held) → Chosen u c p → Holds u c p
chosen_holds u c nothing h = tt
chosen_holds u c (held v) h = h

-- the values that the rule admits from a choice out of a and b
abbrev Reached : Rule → ℤ → Value → Value → Set
Reached rule u a b = Admitted rule.admits (Chosen u a) (Chosen u b)

pub join_tight : (rule : Rule) (u : ℤ) (a b : Value) → IsScale u → IsCell a → IsCell b → Tightly u (Admitted rule.admits (Chosen u a) (Chosen u b)) (rule.joined a b)
join_tight rule u a b s g h = exactly_tightly (exactly (rule.joined a b) inside (λ e i. attains e (rule.attained u a b e s g h i)))
  where
    inside : (v : Fraction) → Reached rule u a b v → Inside u (rule.joined a b) v
    inside v m = rule.contains u a b m.left m.right v s g h (chosen_holds u a m.left m.in_left) (chosen_holds u b m.right m.in_right) m.is

    attains : (e : ℤ) → ReachedAt rule.admits u a b e → Attains u e (Reached rule u a b)
    attains e r = record { value = r.value; member = r.admitted; at = r.at }

    exactly : (c : Value) → Included (Reached rule u a b) (Inside u c) → ((e : ℤ) → End e c → Attains u e (Reached rule u a b)) → Exactly u (Reached rule u a b) c
    exactly empty f r = none f
    exactly (bounds l m) f r = some (record { holds = f; low = r l (inl refl); high = r m (inr refl) })
