use Rattle.std.proofs.Common.{rules, ◌≡◌}
use Rattle.std.proofs.lemmas.Str.{IsUtf8-from_ascii}
use Rattle.std.proofs.lemmas.Fmt.{IsAscii-from_digits}
use Rattle.script.proofs.Digits.{Digits, own, value_read}
use Rattle.script.proofs.numbers.value.Goals as goal

pub returns-in_err-ok : goal.returns-in_err-ok
returns-in_err-ok c = search (rules, IsUtf8-from_ascii, IsAscii-from_digits, own)

pub returns : goal.returns
returns c =
    let e : c.in_ok-ok.field-0.now ≡ c.args.digits.now = search rules in
    let d : Digits c.args.digits.now = search rules in
    value_read _ _ c.parse.result _ e d c.parse.ensures.value.0 c.ok-2.ensures.value
