-- A box has three readings: what all of a list pass, each of its three places does. Assumes nothing.
use Rattle.std.proofs.Common.{◌≡◌, Bool, true, false, ◌&&◌, List, [], ◌∷◌, length, refl, ap, arith}
use Rattle.std.specs.List.{list_all}
use Rattle.cells.specs.declared.cell.Record.{Record}
use Rattle.cells.specs.Cells.{read_as}
use Rattle.layouts.specs.Filled.{is_filled}
use Rattle.station.specs.Lacks.{all_read}

and_true : (b : Bool) → b && true ≡ b
and_true true = refl
and_true false = refl

pub all_of_three : (rs : List Record) → length rs ≡ 3 → list_all (λ (r : Record). is_filled (read_as r)) rs ≡ all_read rs
all_of_three [] e = absurd (omega (arith, e))
all_of_three (a ∷ []) e = absurd (omega (arith, e))
all_of_three (a ∷ (b ∷ [])) e = absurd (omega (arith, e))
all_of_three (a ∷ (b ∷ (c ∷ []))) e = ap (λ (t : Bool). is_filled (read_as a) && (is_filled (read_as b) && t)) (and_true (is_filled (read_as c)))
all_of_three (a ∷ (b ∷ (c ∷ (d ∷ rs)))) e = absurd (omega (arith, e))
