-- The number of each refusal, and the call, the column, the row and the bound that it names.
use Rattle.std.specs.Prelude.{ℕ, Some, None, Option}
use Rattle.rounding.specs.declared.fault.Bound.{Bound}
use Rattle.sheet.specs.declared.refusal.CallName.{CallName}
use Rattle.sheet.specs.declared.refusal.CallName.TheVariants.{Open, Set, Solve}
use Rattle.sheet.specs.declared.refusal.Refusal.{Refusal}
use Rattle.sheet.specs.declared.refusal.Refusal.TheVariants.{ScaleOutside, ShapeOutside, WrongLength, NoSuchColumn, NoSuchRow, NoCell, LayoutTooLarge, DivisorHoldsZero, NoPermutation, BeyondLimit}

abbrev pub number : Refusal → ℕ
number ScaleOutside = 1
number ShapeOutside = 2
number (WrongLength call column) = 3
number (NoSuchColumn call column) = 4
number (NoSuchRow call column row) = 5
number (NoCell column) = 6
number (LayoutTooLarge call column) = 7
number (DivisorHoldsZero column row) = 8
number (NoPermutation call column) = 9
number (BeyondLimit fault) = 10

abbrev pub call_of : Refusal → CallName
call_of ScaleOutside = Open
call_of ShapeOutside = Open
call_of (WrongLength call column) = call
call_of (NoSuchColumn call column) = call
call_of (NoSuchRow call column row) = call
call_of (NoCell column) = Set
call_of (LayoutTooLarge call column) = call
call_of (DivisorHoldsZero column row) = Solve
call_of (NoPermutation call column) = call
call_of (BeyondLimit fault) = fault.call

-- the target of the call, the drafted or the first asked-about column; for 4 the first named one that there is not; 0 for open
abbrev pub column_of : Refusal → ℕ
column_of ScaleOutside = 0
column_of ShapeOutside = 0
column_of (WrongLength call column) = column
column_of (NoSuchColumn call column) = column
column_of (NoSuchRow call column row) = column
column_of (NoCell column) = column
column_of (LayoutTooLarge call column) = column
column_of (DivisorHoldsZero column row) = column
column_of (NoPermutation call column) = column
column_of (BeyondLimit fault) = fault.column

-- the row that was given for 5, the first in working order for 8 and 10; otherwise 0
abbrev pub row_of : Refusal → ℕ
row_of ScaleOutside = 0
row_of ShapeOutside = 0
row_of (WrongLength call column) = 0
row_of (NoSuchColumn call column) = 0
row_of (NoSuchRow call column row) = row
row_of (NoCell column) = 0
row_of (LayoutTooLarge call column) = 0
row_of (DivisorHoldsZero column row) = row
row_of (NoPermutation call column) = 0
row_of (BeyondLimit fault) = fault.cell.row

-- the bound that is beyond the limit, for 10 only
abbrev pub bound_of : Refusal → Option Bound
bound_of ScaleOutside = None
bound_of ShapeOutside = None
bound_of (WrongLength call column) = None
bound_of (NoSuchColumn call column) = None
bound_of (NoSuchRow call column row) = None
bound_of (NoCell column) = None
bound_of (LayoutTooLarge call column) = None
bound_of (DivisorHoldsZero column row) = None
bound_of (NoPermutation call column) = None
bound_of (BeyondLimit fault) = Some fault.cell.rounding.bound
