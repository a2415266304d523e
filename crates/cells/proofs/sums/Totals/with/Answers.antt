use Rattle.std.proofs.Common.{◌+ℤ◌, w64, SFits, rules}
use Rattle.std.proofs.lemmas.Int.{to_z-of_z}
use Rattle.cells.proofs.sums.Totals.with.Goals as goal

pub returns : goal.returns
returns g c =
    let s = c.args.self in let t = c.args.term in
    let a : SFits w64 s.least = search rules in
    let b : SFits w64 s.greatest = search rules in
    let x : SFits w64 t.least = search rules in
    let y : SFits w64 t.greatest = search rules in
    let l : SFits w64 (s.least +ℤ t.least) = search rules in
    let m : SFits w64 (s.greatest +ℤ t.greatest) = search rules in
    simp to_z-of_z
