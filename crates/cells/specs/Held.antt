-- A fraction or nothing: which of them a cell holds, which can be chosen from it, and which are alike.
use Rattle.std.specs.Prelude.{ℤ}
use Rattle.arithmetic.specs.Fractions.{Fraction, Same}
use Rattle.arithmetic.specs.Values.{Value, empty, bounds, Inside}

pub data Held : Type 0 where
  nothing : Held
  held : Fraction → Held

-- inside the cell c at the scale u; nothing counts as inside any cell
abbrev pub Holds : ℤ → Value → Held → Type 0
Holds u c nothing = Unit {0}
Holds u c (held v) = Inside u c v

-- a fraction inside, or nothing for an empty cell only
abbrev pub Chosen : ℤ → Value → Held → Type 0
Chosen u c (held v) = Inside u c v
Chosen u empty nothing = Unit {0}
Chosen u (bounds a b) nothing = ⊥

-- equal fractions, or both missing
abbrev pub Alike : Held → Held → Type 0
Alike nothing nothing = Unit {0}
Alike nothing (held w) = ⊥
Alike (held v) nothing = ⊥
Alike (held v) (held w) = Same v w
