-- That a matrix is sound is a fact: it has one proof at most.
use Rattle.std.specs.Coded.{Unit-prop}
use Rattle.std.proofs.Props.{props}
use Rattle.arithmetic.specs.Values.{Value, empty, bounds}
use Rattle.cells.specs.Cells.{IsCell}
use Rattle.layouts.specs.Matrix.{Matrix, Sound}

pub cell_prop : (v : Value) → IsProp (IsCell v)
cell_prop empty = Unit-prop
cell_prop (bounds a b) = Prim.hlevel props

pub sound_prop : (m : Matrix) → IsProp (Sound m)
sound_prop m = Prim.hlevel (props, cell_prop)
