use Rattle.std.proofs.Common.{rules, ◌≡◌, string_bytes, ℕ, List, [], ◌∷◌, ◌++◌, map, refl, ap, ◌∙◌}
use Rattle.std.proofs.lemmas.Iterator.{YieldsList-from_map, YieldsList-from_range, text_from_collect}
use Rattle.std.proofs.lemmas.Result.{IfOk-weaker}
use Rattle.std.specs.List.{range_with_len}
use Rattle.std.specs.Str.{encode_utf8_all}
use lib.Utf8.{encode}
use Rattle.account.specs.declared.bar.Mark.{Mark}
use Rattle.account.specs.declared.bar.Mark.TheVariants.{Nothing, Pair, Dip, Both}
use Rattle.account.specs.Bars.{mark_at, sign, bar_text}
use Rattle.account.proofs.bar.text.Goals as goal

-- each sign is one byte
one_byte : (m : Mark) → encode (sign m) ≡ sign m ∷ []
unfolding encode
one_byte Nothing = refl
one_byte Pair = refl
one_byte Dip = refl
one_byte Both = refl

bytes_of_signs : (mark : ℕ → Mark) (ks : List ℕ) → encode_utf8_all (map (λ k. sign (mark k)) ks) ≡ map (λ k. sign (mark k)) ks
bytes_of_signs mark [] = refl
bytes_of_signs mark (k ∷ ks) = ap (λ b. b ++ encode_utf8_all (map (λ i. sign (mark i)) ks)) (one_byte (mark k)) ∙ ap (λ bs. sign (mark k) ∷ bs) (bytes_of_signs mark ks)

pub returns : goal.returns
returns c =
    let mark : ℕ → Mark = mark_at c.args.pair.lower c.args.pair.upper c.args.dip in
    let bytes =
    text_from_collect c.collect.result c.collect.ensures.ran
    (YieldsList-from_map _ (λ k. sign (mark k)) (YieldsList-from_range 0 40 40 c.map.ensures.source refl) c.map.ensures.closure (λ x r q k. search rules)) in
    IfOk-weaker c.collect.result _ (λ s. string_bytes s ≡ bar_text c.args.pair.lower c.args.pair.upper c.args.dip) (λ s e. e ∙ bytes_of_signs mark (range_with_len 0 40)) bytes
