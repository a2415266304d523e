use Rattle.std.proofs.Common.{◌≡◌, ℕ, ◌+◌, min, max, sym, ap, ◌∙◌, subst, arith}
use Rattle.layouts.specs.declared.side.Side.{Side}
use Rattle.layouts.specs.Layers.{smaller, symmetric}
use Rattle.layouts.specs.Matrix.{Matrix}
use Rattle.layouts.specs.Spans.{ZeroAcross}
use Rattle.layouts.proofs.Mirrors.{lower_across, upper_across}
use Rattle.layouts.proofs.symmetric.SymmetricLayout.across.Goals as goal

pub returns-in-Lower : goal.returns-in-Lower
returns-in-Lower g c =
    let m : Matrix = g.L.Layout.meaning c.args.self.now.below in let i = c.args.row in let s = c.around.result in
    let P : Side → Type 0 = λ side. ZeroAcross (symmetric side m) i s in
    let n : c.whole-line.result.to ≡ smaller m = c.whole-line.ensures.1 ∙ c.smaller.ensures in
    subst P (sym c.in-Lower.is)
    (lower_across m i c.across.result c.down.result s (omega (arith, n, c.if-row-line.true)) c.across.ensures c.down.ensures c.around.ensures.0
    (c.around.ensures.1 ∙ ap (λ (k : ℕ). max (i + 1) (min k c.down.result.to)) n))

pub returns-in-Upper : goal.returns-in-Upper
returns-in-Upper g c =
    let m : Matrix = g.L.Layout.meaning c.args.self.now.below in let i = c.args.row in let s = c.around-in-Upper.result in
    let P : Side → Type 0 = λ side. ZeroAcross (symmetric side m) i s in
    let n : c.whole-line.result.to ≡ smaller m = c.whole-line.ensures.1 ∙ c.smaller.ensures in
    subst P (sym c.in-Upper.is)
    (upper_across m i c.across-in-Upper.result c.down-in-Upper.result s (omega (arith, n, c.if-row-line.true)) c.across-in-Upper.ensures c.down-in-Upper.ensures c.around-in-Upper.ensures.0
    (c.around-in-Upper.ensures.1 ∙ ap (λ (k : ℕ). max (i + 1) (min k c.across-in-Upper.result.to)) n))
