-- How calls are counted.
use Rattle.std.specs.Prelude.{ℕ, ◌+◌, min, Ok, Err, Result}
use Rattle.account.specs.declared.tally.Tally.{Tally}

-- one more, up to the greatest count that is held
abbrev pub one_more : ℕ → ℕ
one_more n = min (n + 1) 4294967295

abbrev pub granted_call : Tally → Tally
granted_call t = record { granted = one_more t.granted; refused = t.refused; posted = t.posted }

abbrev pub refused_call : Tally → Tally
refused_call t = record { granted = t.granted; refused = one_more t.refused; posted = t.posted }

abbrev pub answered : {T E : Type 0} → Result T E → Tally → Tally
answered (Ok x) t = granted_call t
answered (Err e) t = refused_call t

-- a column that was posted
abbrev pub one_posted : Tally → Tally
one_posted t = record { granted = t.granted; refused = t.refused; posted = one_more t.posted }

-- before any call
abbrev pub no_calls : Tally
no_calls = record { granted = 0; refused = 0; posted = 0 }
