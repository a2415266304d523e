use Rattle.std.proofs.Common.{rules, Vec, Global, ◌≡◌, length, ap, arith, get_or}
use Rattle.cells.specs.declared.cell.Record.{Record}
use Rattle.stacks.specs.Shared.{meaning_of}
use Rattle.stacks.specs.declared.layered.Layer.TheVariants.{Plain}
use Rattle.stacks.specs.Stacks.{read_by}
use Rattle.stacks.proofs.Layers.{lowest_plain}
use Rattle.stacks.proofs.Sides.{named_over}
use Rattle.stacks.proofs.shared_stack.SharedStack.with_layer.Goals as goal

pub invariant_of-result : goal.invariant_of-result
invariant_of-result c =
    let s = c.args.self.now in
    let low : get_or s.layers 0 Plain ≡ Plain = search rules in
    let four : length s.layers ≡ 4 = omega arith in
    record { named = named_over c.args.layer s.side c.side_over-side.result (meaning_of s) _ c.side_over-side.ensures s.named (lowest_plain s.layers (read_by s.scheme s.run.value.items) _ four low (ap (λ (v : Vec Record Global). read_by s.scheme v.items) c.in_ok-clone.ensures.cases)) }

pub invariant_of-result-in_default : goal.invariant_of-result-in_default
invariant_of-result-in_default c =
    let s = c.args.self.now in
    record { named = named_over c.args.layer s.side c.side_over-side.result (meaning_of s) _ c.side_over-side.ensures s.named (search rules) }
