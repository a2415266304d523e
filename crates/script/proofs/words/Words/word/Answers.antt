use Rattle.std.proofs.Common.{◌≡◌, ◌+◌, ◌-◌, length, drop, slice_get, sym, ap, ◌∙◌, rules, arith}
use Rattle.std.proofs.lemmas.List.{take_all, length-drop}
use Rattle.script.specs.Words.{words, left}
use Rattle.script.proofs.Splits.{cut_at, cut_nowhere}
use Rattle.script.proofs.words.Words.word.Goals as goal

pub returns-in-Some-clause-word : goal.returns-in-Some-clause-word
returns-in-Some-clause-word c =
    let e : left c.args.self.now ≡ words c.in_ok-rest.rest.now = search rules in
    sym (ap (λ ws. slice_get ws 0) (e ∙ cut_at c.in_ok-rest.rest.now c.in-Some.at (sym c.in-Some.ensures.place)))

pub returns-in-Some-clause-others : goal.returns-in-Some-clause-others
returns-in-Some-clause-others c =
    let e : left c.args.self.now ≡ words c.in_ok-rest.rest.now = search rules in
    ap words (take_all (length c.in_ok-rest.rest.now - (c.in-Some.at + 1)) (drop (c.in-Some.at + 1) c.in_ok-rest.rest.now) (let n = length-drop (c.in-Some.at + 1) c.in_ok-rest.rest.now in omega (arith, n)))
    ∙ sym (ap (drop 1) (e ∙ cut_at c.in_ok-rest.rest.now c.in-Some.at (sym c.in-Some.ensures.place)))

pub returns-in-None-clause-word : goal.returns-in-None-clause-word
returns-in-None-clause-word c =
    let e : left c.args.self.now ≡ words c.in_ok-rest.rest.now = search rules in
    sym (ap (λ ws. slice_get ws 0) (e ∙ cut_nowhere c.in_ok-rest.rest.now (sym c.in-None.ensures.place)))

pub returns-in-None-clause-others : goal.returns-in-None-clause-others
returns-in-None-clause-others c =
    let e : left c.args.self.now ≡ words c.in_ok-rest.rest.now = search rules in
    sym (ap (drop 1) (e ∙ cut_nowhere c.in_ok-rest.rest.now (sym c.in-None.ensures.place)))
