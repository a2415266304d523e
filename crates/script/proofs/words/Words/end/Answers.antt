use Rattle.std.proofs.Common.{◌≡◌, sym, ◌∙◌, rules}
use Rattle.std.proofs.lemmas.Bool.{false≢true}
use Rattle.script.specs.Words.{words, left}
use Rattle.script.proofs.Splits.{some_words}
use Rattle.script.proofs.words.Words.end.Goals as goal

pub returns-in-Some : goal.returns-in-Some
returns-in-Some c =
    let h : left c.args.self ≡ words c.in-Some.field-0.now = search rules in
    (λ e. absurd (false≢true e), λ e. absurd (some_words c.in-Some.field-0.now (sym h ∙ e)))
