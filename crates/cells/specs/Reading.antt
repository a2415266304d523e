-- Every record reads as a cell, and what is read of a part of a run. These are laws; they stand with the definitions, since the
-- meaning of a layout over a run of records carries the first, and the crates above cite the second.
use Rattle.std.specs.Prelude.{◌≡◌, ℕ, ◌<◌, Bool, true, false, cond, ◌||◌, List, length, take, slice_index_or, int_lt, refl}
use Rattle.std.proofs.Common.{ap, ◌∙◌, arith}
use Rattle.std.proofs.lemmas.Int.{ints}
use Rattle.std.proofs.lemmas.Bool.{or_parts}
use Rattle.std.proofs.lemmas.List.{get_or-take, get_or_default, length-take}
use Rattle.arithmetic.specs.Values.{empty, bounds}
use Rattle.rounding.specs.Limit.{lowest, highest}
use Rattle.cells.specs.declared.cell.Record.{Record}
use Rattle.cells.specs.Cells.{IsCell, broken, blank, read_as, cell_at}

pub read_cell : (r : Record) → IsCell (read_as r)
read_cell r = go (broken r.lower r.upper) refl
  where
    go : (t : Bool) → broken r.lower r.upper ≡ t → IsCell (cond t empty (bounds r.lower r.upper))
    go true e = tt
    go false e =
        let p = or_parts (int_lt r.lower lowest) (int_lt highest r.upper || int_lt r.upper r.lower) e in
        let q = or_parts (int_lt highest r.upper) (int_lt r.upper r.lower) p.1 in
        (omega (arith, ints, p.0), omega (arith, ints, q.1), omega (arith, ints, q.0))

-- of the first n records of a run, whatever stands for one past their end
pub read_first : (run : List Record) (n j : ℕ) (d : Record) → j < length (take n run) → read_as (slice_index_or (take n run) j d) ≡ cell_at run j
read_first run n j d h = ap read_as (get_or-take n run j d (omega (arith, h, length-take n run)) ∙ get_or_default run j d blank (omega (arith, h, length-take n run)))
