use Rattle.std.proofs.Common.{◌≤ℤ◌, w32, SFits, arith, rules}
use Rattle.std.proofs.lemmas.Int.{to_z-of_z, ints, clamps}
use Rattle.cells.proofs.rules.HullJoinRule.join.Goals as goal

-- the least bound is at most the first cell's lower, which is at most its upper, which is at most the greatest bound
pub invariant_of-result : goal.invariant_of-result
invariant_of-result c =
    let x = c.in-Some-Some.x in let y = c.in-Some-Some.y in
    let fl : SFits w32 c.min.result = search rules in
    let fg : SFits w32 c.max.result = search rules in
    let xl : SFits w32 x.lower = search rules in let xu : SFits w32 x.upper = search rules in
    let yl : SFits w32 y.lower = search rules in let yu : SFits w32 y.upper = search rules in
    let low : c.min.result ≤ℤ x.lower = search rules in
    let high : x.upper ≤ℤ c.max.result = search rules in
    let least = simp to_z-of_z at c.min.ensures.value in
    let greatest = simp to_z-of_z at c.max.ensures.value in
    record { low = simp to_z-of_z (omega (arith, ints, clamps)); order = simp to_z-of_z (omega (arith, ints)); high = simp to_z-of_z (omega (arith, ints, clamps)) }
