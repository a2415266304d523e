use Rattle.std.proofs.Common.{◌≡◌, w64, SFits, rules}
use Rattle.std.proofs.lemmas.Int.{to_z-of_z}
use Rattle.arithmetic.specs.Values.{least_quotient, greatest_quotient}
use Rattle.rounding.specs.declared.fault.Bound.TheVariants.{Lower, Upper}
use Rattle.rounding.specs.Outward.{fitted}
use Rattle.cells.proofs.Sides.{lower_side, upper_side}
use Rattle.cells.proofs.dividing.divide_out.Goals as goal

pub returns-in_err-lower : goal.returns-in_err-lower
returns-in_err-lower c =
    let s = c.args.sums in let by = c.args.by in
    let f : SFits w64 c.least.result = search rules in
    let lower : c.fitting.result ≡ fitted Lower (least_quotient s.least.value s.greatest.value by.lower by.upper) =
    lower_side s.least.value s.greatest.value by.lower by.upper _ _ _ _ c.divide.ensures (search rules) c.least.ensures (simp to_z-of_z at c.fitting.ensures) in
    search rules

pub returns-in_err-upper : goal.returns-in_err-upper
returns-in_err-upper c =
    let s = c.args.sums in let by = c.args.by in
    let f : SFits w64 c.least.result = search rules in let g : SFits w64 c.greatest.result = search rules in
    let lower : c.fitting.result ≡ fitted Lower (least_quotient s.least.value s.greatest.value by.lower by.upper) =
    lower_side s.least.value s.greatest.value by.lower by.upper _ _ _ _ c.divide.ensures (search rules) c.least.ensures (simp to_z-of_z at c.fitting.ensures) in
    let upper : c.fitting-2.result ≡ fitted Upper (greatest_quotient s.least.value s.greatest.value by.lower by.upper) =
    upper_side s.least.value s.greatest.value by.lower by.upper _ _ _ _ c.divide-2.ensures (search rules) c.greatest.ensures (simp to_z-of_z at c.fitting-2.ensures) in
    search rules

pub returns : goal.returns
returns c =
    let s = c.args.sums in let by = c.args.by in
    let f : SFits w64 c.least.result = search rules in let g : SFits w64 c.greatest.result = search rules in
    let lower : c.fitting.result ≡ fitted Lower (least_quotient s.least.value s.greatest.value by.lower by.upper) =
    lower_side s.least.value s.greatest.value by.lower by.upper _ _ _ _ c.divide.ensures (search rules) c.least.ensures (simp to_z-of_z at c.fitting.ensures) in
    let upper : c.fitting-2.result ≡ fitted Upper (greatest_quotient s.least.value s.greatest.value by.lower by.upper) =
    upper_side s.least.value s.greatest.value by.lower by.upper _ _ _ _ c.divide-2.ensures (search rules) c.greatest.ensures (simp to_z-of_z at c.fitting-2.ensures) in
    search rules
