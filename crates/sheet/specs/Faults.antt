-- The call and the column added to a cell's fault.
use Rattle.std.specs.Prelude.{ℕ, Ok, Err, Result}
use Rattle.cells.specs.declared.fault.CellFault.{CellFault}
use Rattle.sheet.specs.declared.refusal.CallName.{CallName}
use Rattle.sheet.specs.declared.refusal.SheetFault.{SheetFault}

abbrev pub in_call : {T : Type 0} → CallName → (column : ℕ) → Result T CellFault → Result T SheetFault
in_call call column (Ok x) = Ok x
in_call call column (Err f) = Err (record { call = call; column = column; cell = f })
