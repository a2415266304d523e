use Rattle.std.proofs.Common.{refl, length, arith}
use Rattle.sheet.specs.Permutations.{EachOnce}
use Rattle.sheet.proofs.Gathering.{gathered_more, gathers}
use Rattle.sheet.proofs.permutation.permute_run.Goals as goal

pub loop-row-preserved : goal.loop-row-preserved
loop-row-preserved g c =
    let from = c.args.from.now in let order = c.args.order.now in let row = c.loop-row.row in
    let once : EachOnce (length from) order = c.if-not-is_permutation.ensures.meaning.0 refl in
    let inside = c.loop-row-test.true in
    gathered_more from order c.loop-row.to row c.index-from-place.result inside (omega (arith, once.places)) (once.below row (omega (arith, once.places))) c.index-from-place.is c.loop-row.invariant

pub returns-clause-gathers : goal.returns-clause-gathers
returns-clause-gathers g c =
    let from = c.args.from.now in let order = c.args.order.now in
    let once : EachOnce (length from) order = c.if-not-is_permutation.ensures.meaning.0 refl in
    gathers from order c.loop-row.to c.loop-row.row once (omega arith) (omega (arith, once.places)) c.loop-row.invariant
