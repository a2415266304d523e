-- Sums in the form that C reads.
use Rattle.std.specs.Prelude.{◌≡◌, true, false, pos, List, map, length, nat_le, Bool, MatchBool}
use Rattle.arithmetic.specs.Values.{Value, empty, bounds}
use Rattle.kernels.specs.declared.sum.SumRecord.{SumRecord}

-- the record that says a value; where it is empty, the bounds are 0
abbrev pub sum_record : Value → SumRecord
sum_record empty = record { filled = false; least = pos 0; greatest = pos 0 }
sum_record (bounds a b) = record { filled = true; least = a; greatest = b }

-- up to 1,024 sums are all told, and more are left as they were; the answer says which
abbrev pub ToldIfFew : Bool → (before after : List SumRecord) → List Value → Type 0
ToldIfFew answer before after values = (answer ≡ nat_le (length before) 1024) × MatchBool answer (after ≡ map sum_record values) (after ≡ before)
