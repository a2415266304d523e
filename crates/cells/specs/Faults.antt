-- A worked-out value as the record that holds it, or the fault of the first bound beyond the limit; the row added to a fault.
use Rattle.std.specs.Prelude.{ℕ, ℤ, Ok, Err, Result}
use Rattle.arithmetic.specs.Values.{Value, empty, bounds}
use Rattle.rounding.specs.declared.fault.Bound.TheVariants.{Lower, Upper}
use Rattle.rounding.specs.declared.fault.RoundingFault.{RoundingFault}
use Rattle.rounding.specs.Outward.{fitted, both}
use Rattle.cells.specs.declared.cell.Record.{Record}
use Rattle.cells.specs.declared.fault.CellFault.{CellFault}
use Rattle.cells.specs.Cells.{blank}

-- a pair of bounds, as a record
abbrev pub paired : Result (ℤ × ℤ) RoundingFault → Result Record RoundingFault
paired (Ok p) = Ok (record { lower = p.0; upper = p.1 })
paired (Err f) = Err f

-- a value as a record; an empty one has no bound that could be beyond the limit
abbrev pub kept : Value → Result Record RoundingFault
kept empty = Ok blank
kept (bounds a b) = paired (both (fitted Lower a) (fitted Upper b))

-- a fault with the row in which it arose
abbrev pub in_row : {T : Type 0} → ℕ → Result T RoundingFault → Result T CellFault
in_row row (Ok x) = Ok x
in_row row (Err f) = Err (record { row = row; rounding = f })
