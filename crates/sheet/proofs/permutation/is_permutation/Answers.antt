use Rattle.std.proofs.Common.{◌≡◌, ℕ, eqb, length, sym, refl, ap, ◌∙◌, ◌&&◌, Bool, count_by, arith, rules, tests}
use Rattle.std.specs.List.{range_with_len, list_all}
use Rattle.std.proofs.lemmas.Bool.{eq-eqb}
use Rattle.std.proofs.lemmas.Iterator.{YieldsList-from_range}
use Rattle.std.proofs.lemmas.Iterator.Search.{all_from_yields_List}
use Rattle.sheet.specs.Permutations.{is_permutation}
use Rattle.sheet.proofs.Arrangements.{each_once, permutation}
use Rattle.sheet.proofs.permutation.is_permutation.Goals as goal

answer : (c : goal.After-all) → c.all.result ≡ is_permutation c.args.n c.args.order.now
unfolding is_permutation
answer c =
    let order = c.args.order.now in let n = c.args.n in let test : ℕ → Bool = λ number. eqb (count_by (λ p. eqb p number) order) 1 in
    let asked : c.all.result ≡ list_all test (range_with_len 0 n) =
    all_from_yields_List test _ _ c.all.result c.all.ensures.ran (YieldsList-from_range 0 n n refl (omega arith)) (λ x b q k. search (rules, tests)) in
    asked ∙ sym (ap (λ (t : Bool). t && list_all test (range_with_len 0 n)) (eq-eqb (length order) n c.if-order-n.true))

pub returns-then-order-n-clause-answer : goal.returns-then-order-n-clause-answer
returns-then-order-n-clause-answer c = answer c

pub returns-then-order-n-clause-meaning : goal.returns-then-order-n-clause-meaning
returns-then-order-n-clause-meaning c =
    (λ t. each_once c.args.n c.args.order.now (sym (answer c) ∙ t), λ o. answer c ∙ permutation c.args.n c.args.order.now o)
