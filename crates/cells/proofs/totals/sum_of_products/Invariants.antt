use Rattle.std.proofs.Common.{◌≡◌, ◌-◌, ◌*◌}
use Rattle.arithmetic.specs.Values.{bounds, Small}
use Rattle.cells.specs.Formulas.{sum_of_products}
use Rattle.cells.proofs.totals.sum_of_products.Given as goal

-- the loop begins at the place `from`
abbrev pub invariant-loop-j : goal.invariant-loop-j
invariant-loop-j g l =
    (bounds l.sofar.0 l.sofar.1.0 ≡ sum_of_products (g.O.Operands.lefts l.operands) (g.O.Operands.rights l.operands) l.initial.j (l.j - l.initial.j))
    × Small (17179607041 * (l.j - l.initial.j)) (bounds l.sofar.0 l.sofar.1.0)
