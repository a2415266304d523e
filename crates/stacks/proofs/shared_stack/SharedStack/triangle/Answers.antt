use Rattle.std.proofs.Common.{ap, ◌∙◌}
use Rattle.layouts.specs.Layers.{triangle}
use Rattle.layouts.specs.Matrix.{Matrix}
use Rattle.stacks.specs.Shared.{meaning_of}
use Rattle.stacks.proofs.Layers.{meaning_sound}
use Rattle.stacks.proofs.Matrices.{triangle_same}
use Rattle.stacks.proofs.shared_stack.SharedStack.triangle.Goals as goal

pub returns-clause-same : goal.returns-clause-same
returns-clause-same c =
    let s = c.args.self.now in let side = c.in_ok-side.side in
    ap (λ (m : Matrix). triangle side m) c.stack.ensures ∙ triangle_same side (meaning_of s) (meaning_sound s) (s.named side c.in_ok-side.was)
