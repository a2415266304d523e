use Rattle.std.proofs.Common.{◌≡◌, Some, FitsSigned, w64, rules}
use Rattle.std.proofs.lemmas.Int.{to_z-of_z}
use Rattle.std.specs.Option.{option_map}
use Rattle.script.specs.Numbers.{held, number}
use Rattle.script.proofs.Made.{made_from}
use Rattle.script.proofs.numbers.bounded.Goals as goal

pub returns : goal.returns
returns c =
    let l : option_map held (number c.args.lower.now) ≡ Some c.in_ok-size.field-0 = search rules in
    let u : option_map held (number c.args.upper.now) ≡ Some c.in_ok-size-2.field-0 = search rules in
    let x : FitsSigned w64 c.in_ok-size.field-0 = search rules in
    let y : FitsSigned w64 c.in_ok-size-2.field-0 = search rules in
    made_from _ _ _ _ _ _ _ l u (to_z-of_z w64 _ x) (to_z-of_z w64 _ y) c.record.ensures
