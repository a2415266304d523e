use Rattle.std.proofs.Common.{◌≡◌, ℕ, ◌+◌, ◌-◌, ◌*◌, ◌<◌, ◌≤◌, true, List, length, None, get_or, drop, length-drop, replicate, sym, subst, ap, ◌∙◌, ⊎_elim, rules, arith}
use Rattle.std.proofs.lemmas.Bool.{cases_lt, false≢true}
use Rattle.std.proofs.lemmas.List.{get_or-replicate, length-take}
use Rattle.std.proofs.Math.Seq.{of_parts}
use Rattle.arithmetic.specs.Values.{Value, empty, bounds, zeros, times, total, Small}
use Rattle.arithmetic.proofs.Sizes.{small_more}
use Rattle.cells.specs.Cells.{Cell, Total, cell_value, total_value, cell_at}
use Rattle.cells.specs.Reading.{read_first}
use Rattle.cells.specs.Formulas.{sum_of_products}
use Rattle.layouts.specs.Filled.{is_filled}
use Rattle.layouts.specs.Rows.{row_sum}
use Rattle.layouts.proofs.Skips.{lacked}
use Rattle.layouts.proofs.Sweeps.{all_sums, end_kept, end_filled, filled_inside, outside_empty, sum_more}
use Rattle.layouts.proofs.sweep.product_sums.Goals as goal
use Rattle.layouts.proofs.sweep.product_sums.Goals.{in-Some, in_default}

pub returns-then-xs-columns : goal.returns-then-xs-columns
returns-then-xs-columns g c =
    let m = g.L.Layout.meaning c.args.layout.now in let x = c.args.xs in let n = length c.args.sums.now in
    let filled : c.fill.new.self ≡ replicate n None = c.fill.ensures.after (λ y h. search rules) in
    let none : (k : ℕ) → row_sum m (cell_at x.run.now) k ≡ empty =
    λ k. lacked m x.run.now k 0 m.columns (record { place = x.filled; least = omega arith; most = omega (arith, c.columns-columns.ensures, c.if-xs-columns.true); lacks = x.next }) in
    all_sums (row_sum m (cell_at x.run.now)) c.fill.new.self n c.fill.ensures.len
    (λ k h. ap (λ (l : List Total). total_value (get_or l k None)) filled ∙ ap total_value (get_or-replicate n k None None h) ∙ sym (none k))

pub loop-column-init : goal.loop-column-init
loop-column-init g c =
    let n = length c.args.sums.now in
    let filled = c.fill-2.ensures.after (λ y h. search rules) in
    let here : (k : ℕ) → k < length c.fill-2.new.self → total_value (get_or c.fill-2.new.self k None) ≡ zeros =
    λ k h. ap (λ (l : List Total). total_value (get_or l k None)) filled ∙ ap total_value (get_or-replicate n k _ None (omega (arith, h, c.fill-2.ensures.len))) in
    (λ k h r. here k h, λ k h. let P : Value → Type 0 = Small 0 in subst P (sym (here k h)) (search rules), λ e. here)

pub loop-column-preserved : goal.loop-column-preserved
loop-column-preserved g c =
    let m = g.L.Layout.meaning c.args.layout.now in let run = c.args.xs.run.now in let x : ℕ → Value = cell_at run in let l = c.loop-column in let j = l.column in
    let read : cell_value c.read.result ≡ x j = c.read.ensures ∙ read_first run c.columns-columns.result j _ c.loop-column-test.true in
    let filled : is_filled (cell_value c.read.result) ≡ true =
    ap is_filled read ∙ c.args.xs.before j (omega arith) (omega (arith, c.loop-column-test.true, length-take c.columns-columns.result run, c.if-xs-columns.false)) in
    let Kept : List Total → Type 0 = λ sums.
    ((k : ℕ) → k < length sums → k < m.rows → total_value (get_or sums k None) ≡ sum_of_products (m.entry k) x 0 (j + 1))
    × ((k : ℕ) → k < length sums → Small (17179607041 * (j + 1)) (total_value (get_or sums k None)))
    × (j + 1 ≡ 0 → (k : ℕ) → k < length sums → total_value (get_or sums k None) ≡ zeros) in
    elim c.match-read.branch [
      | in-Some w ↦
          let new = w.add_column.new.sums in let same : length new ≡ length l.sums = w.add_column.auto.sums in
          let factor = bounds w.in-Some.factor.lower w.in-Some.factor.upper in
          subst Kept (sym w.sums-is) (
            λ k h r. let lt : k < length l.sums = omega (arith, same, h) in
                sum_more (λ j. times (m.entry k j) (x j)) j (total_value (get_or l.sums k None)) (times (m.entry k j) factor) (total_value (get_or new k None))
                (l.invariant.0 k lt r) (ap (times (m.entry k j)) (sym (ap cell_value w.in-Some.is) ∙ read)) (w.add_column.ensures.is k lt r),
            λ k h. let lt : k < length l.sums = omega (arith, same, h) in
                small_more (17179607041 * j + 17179607041) (17179607041 * (j + 1)) (total_value (get_or new k None)) (omega arith) (w.add_column.ensures.size k lt (17179607041 * j) (l.invariant.1 k lt)),
            λ e k h. absurd (omega (arith, e)),
          )
      | in_default w ↦ absurd (false≢true (sym (ap (λ (r : Cell). is_filled (cell_value r)) w.in_default.is) ∙ filled))
    ]

pub returns-then-columns-gt0 : goal.returns-then-columns-gt0
returns-then-columns-gt0 g c =
    let m = g.L.Layout.meaning c.args.layout.now in let run = c.args.xs.run.now in let x : ℕ → Value = cell_at run in let l = c.loop-column in
    let n = length c.args.sums.now in let r = c.min-rows.result in
    let long : length l.sums ≡ n = omega (arith, l.auto.sums, c.fill-2.ensures.len) in
    let low : r ≤ length l.sums = omega (arith, c.min-rows.ensures) in
    let end = c.fill-then-columns-gt0.ensures.after (λ y h. search rules) in
    let last : l.column ≡ m.columns = omega (arith, c.loop-column-test.false, l.auto.column-end, c.columns-columns.ensures, c.if-xs-columns.false, length-take c.columns-columns.result run, filled_inside run c.args.xs.filled c.args.xs.before) in
    all_sums (row_sum m x) _ n (search (rules, of_parts) ∙ long)
    (λ k h. let here : k < length l.sums = omega (arith, long, h) in
    ⊎_elim (λ (b : k < r). ap total_value (end_kept l.sums _ r k low b) ∙ l.invariant.0 k here (omega (arith, b, c.min-rows.ensures, c.rows.ensures)) ∙ ap (total (λ j. times (m.entry k j) (x j)) 0) last)
    (λ (b : r ≤ k). ap total_value (end_filled l.sums c.fill-then-columns-gt0.new.self _ r _ k (omega (arith, low, length-take (length l.sums - r) (drop r l.sums), length-drop r l.sums)) end b here)
    ∙ sym (outside_empty m x k (g.met.L.Layout.sound c.args.layout.now) (omega (arith, b, c.min-rows.ensures, c.rows.ensures, here)) (omega (arith, c.if-columns-gt0.true, c.columns-columns.ensures))))
    (cases_lt k r))

pub returns-else-columns-gt0 : goal.returns-else-columns-gt0
returns-else-columns-gt0 g c =
    let m = g.L.Layout.meaning c.args.layout.now in let x : ℕ → Value = cell_at c.args.xs.run.now in let l = c.loop-column in let n = length c.args.sums.now in
    let long : length l.sums ≡ n = omega (arith, l.auto.sums, c.fill-2.ensures.len) in
    let none : 0 ≡ m.columns = omega (arith, c.if-columns-gt0.false, c.columns-columns.ensures) in
    let first : l.column ≡ 0 = omega (arith, l.auto.column-end, c.if-columns-gt0.false, length-take c.columns-columns.result c.args.xs.run.now) in
    all_sums (row_sum m x) l.sums n long (λ k h. l.invariant.2 first k (omega (arith, long, h)) ∙ ap (total (λ j. times (m.entry k j) (x j)) 0) none)
