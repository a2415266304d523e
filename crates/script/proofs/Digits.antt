-- Digits as std's `parse` reads them.
use Rattle.std.proofs.Common.{◌≡◌, ℕ, ◌<◌, ◌^◌, List, length, true, Option, Result, Ok, Err, SomeIff, rules}
use Rattle.std.specs.Char.{is_ascii_digit}
use Rattle.std.specs.List.{list_all}
use Rattle.std.specs.Result.{OkIff, result_ok}
use Rattle.std.specs.Str.Parse.{digits_value, ParsesUnsigned}
use Rattle.std.proofs.lemmas.Str.Parse.{IsNumeralModel, numerals_by_value, parse_digits}

abbrev pub Digits : List ℕ → Type 0
Digits ds = list_all is_ascii_digit ds ≡ true

pub own : IsNumeralModel Digits (digits_value 10)
own = numerals_by_value Digits (search rules)

some_from_ok : {E : Type 0} (r : Result ℕ E) (P : Type 0) (v : ℕ) → OkIff r P v → SomeIff (result_ok r) P v
some_from_ok (Ok x) P v h = h
some_from_ok (Err e) P v h = h

-- what `parse` reads of digits
pub value_read : {E : Type 0} (ds bs : List ℕ) (r : Result ℕ E) (o : Option ℕ) → bs ≡ ds → Digits ds → ParsesUnsigned 64 10 bs r → o ≡ result_ok r
    → SomeIff o ((0 < length ds) × (digits_value 10 ds < 2 ^ 64)) (digits_value 10 ds)
value_read ds bs r o e d p q = rw q (some_from_ok r _ _ (parse_digits own 64 ds r (rw e at p) d))
