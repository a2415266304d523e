-- The record that an instrument leaves where it gives nothing, and what a record gives.
use Rattle.std.specs.Prelude.{Bool, true, false, ◌&&◌, ℤ, pos, int_le}
use Rattle.arithmetic.specs.Values.{Value, empty, bounds}
use Rattle.cells.specs.declared.cell.Record.{Record}
use Rattle.cells.specs.Cells.{read_as}
use Rattle.account.specs.declared.records.Given.{Given}
use Rattle.account.specs.declared.records.Given.TheVariants.{Nothing, Broken, Good}

abbrev pub same : ℤ → ℤ → Bool
same a b = int_le a b && int_le b a

abbrev pub is_blank : Record → Bool
is_blank r = same r.lower (pos 1) && same r.upper (pos 0)

-- the record that an instrument leaves where it gives nothing, one that breaks the rule of a cell, or a good one
abbrev pub given_when : Bool → Value → Given
given_when true v = Nothing
given_when false empty = Broken
given_when false (bounds a b) = Good

abbrev pub given_by : Record → Given
given_by r = given_when (is_blank r) (read_as r)
