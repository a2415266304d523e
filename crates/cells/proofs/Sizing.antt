-- Sizes of cells, of sums of products, of scales and of their squares. Assumes nothing.
use Rattle.std.proofs.Common.{◌≤◌, ℤ, pos, negsuc, ◌*ℤ◌, nat_abs, ◌≤ℤ◌, ◌<ℤ◌, arith}
use Rattle.std.proofs.lemmas.Nat.{mul-le}
use Rattle.std.proofs.lemmas.Int.{ints}
use Rattle.arithmetic.specs.Values.{bounds, Small}
use Rattle.cells.specs.declared.cell.Interval.{Interval}
use Rattle.cells.specs.Scales.{IsScale}

pub small_interval : (i : Interval) → Small 131071 (bounds i.lower i.upper)
small_interval i = let a = i.low in let b = i.order in let d = i.high in (omega (arith, ints), omega (arith, ints))

pub small_scale : (u : ℤ) → IsScale u → nat_abs u ≤ 100000
small_scale u h = omega (arith, ints)

pub square : (z : ℤ) → IsScale z → (pos 0 <ℤ (z *ℤ z)) × ((z *ℤ z) ≤ℤ pos 10000000000)
square (pos n) h =
    let a : 1 ≤ n = omega (arith, ints) in
    let b : n ≤ 100000 = omega (arith, ints) in
    (omega (arith, ints, mul-le 1 1 n n a a), omega (arith, ints, mul-le n n 100000 100000 b b))
square (negsuc n) h = absurd (omega (arith, ints))
