use Rattle.std.proofs.Common.{◌≡◌, ℕ, ◌+◌, ◌-◌, ◌<◌, List, length, get_or, take, sym, subst, refl, ap, ◌∙◌, arith}
use Rattle.std.specs.List.{slice_range}
use Rattle.arithmetic.proofs.Sizes.{total_more}
use Rattle.arithmetic.proofs.Totals.{total_empty}
use Rattle.cells.specs.declared.cell.Record.{Record}
use Rattle.cells.specs.Cells.{read_as, extremes, total_value, cell_at}
use Rattle.cells.specs.Reading.{read_first}
use Rattle.cells.proofs.formulas.sum_of_cells.Goals as goal

-- of the records that are looked at
here : (run items : List Record) (n j : ℕ) (d : Record) → items ≡ slice_range run 0 n → j < length items → read_as (get_or items j d) ≡ cell_at run j
here run items n j d e h =
    let all : n - 0 ≡ n = omega arith in let first : items ≡ take n run = e ∙ ap (λ (k : ℕ). take k run) all in
    let P : List Record → Type 0 = λ l. j < length l in
    ap (λ (l : List Record). read_as (get_or l j d)) first ∙ read_first run n j d (subst P first h)

pub returns-in_err-read : goal.returns-in_err-read
returns-in_err-read c =
    let xs = c.args.xs.now in let n = c.args.terms.count in let j = c.loop-record.record-index in let l = c.in_ok-record-items.ensures.lookup.0 in
    let b : j < n = omega (arith, c.loop-record-test.true, l.3) in
    ap total_value c.from_residual-in_err-read.ensures
    ∙ sym (total_empty (cell_at xs) 0 n j (omega arith) (omega (arith, b)) (sym (c.in_err-read.ensures ∙ here xs c.in_ok-record-items.record-items.now n j _ l.2 c.loop-record-test.true)))

pub loop-record-preserved : goal.loop-record-preserved
loop-record-preserved c =
    let xs = c.args.xs.now in let n = c.args.terms.count in let j = c.loop-record.record-index in let l = c.in_ok-record-items.ensures.lookup.0 in
    let b : j < n = omega (arith, c.loop-record-test.true, l.3) in
    let is = c.from.ensures ∙ c.in_ok-read.ensures ∙ here xs c.in_ok-record-items.record-items.now n j _ l.2 c.loop-record-test.true in
    total_more (cell_at xs) 131071 0 j j (j + 1) _ (extremes c.from.result) (extremes c.with-sofar.result)
    (omega arith) refl c.loop-record.invariant.0 is c.with-sofar.ensures c.loop-record.invariant.1 (c.from.result.least_size, c.from.result.greatest_size)
