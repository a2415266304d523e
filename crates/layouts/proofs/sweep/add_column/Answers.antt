use Rattle.std.proofs.Common.{◌≡◌, ◌≢◌, ℕ, ◌+◌, ◌<◌, ◌≤◌, List, length, None, get_or, set, sym, refl, ap, ◌∙◌, subst, ⊎_elim, below_more, arith}
use Rattle.std.proofs.lemmas.List.{get_or_read, get_or-set_same, get_or-set_other}
use Rattle.std.proofs.lemmas.Bool.{cases_lt}
use Rattle.arithmetic.specs.Values.{Value, bounds, plus, times, Small}
use Rattle.arithmetic.proofs.Sizes.{small_more}
use Rattle.cells.specs.Cells.{Total, cell_value, total_value}
use Rattle.layouts.proofs.Skips.{still}
use Rattle.layouts.proofs.sweep.add_column.Goals as goal

-- what stood at the row before the call
old : (sums was : List Total) (row : ℕ) (x : Total) → row < length sums → x ≡ get_or sums row x → ((k : ℕ) → row ≤ k → get_or sums k None ≡ get_or was k None) → x ≡ get_or was row None
old sums was row x lt e same = get_or_read sums row x lt e None ∙ same row (omega arith)

pub loop-row-init : goal.loop-row-init
loop-row-init g c =
    let m = g.L.Layout.meaning c.args.layout.now in let was = c.args.sums.now in let j = c.args.column in (
      λ k h. sym (still (total_value (get_or was k None)) (m.entry k j) (bounds c.args.factor.lower c.args.factor.upper) (c.down-places.ensures.before k h) refl),
      λ k h n s. small_more n (n + 17179607041) (total_value (get_or was k None)) (omega arith) s,
      λ k h. refl,
    )

pub loop-row-preserved : goal.loop-row-preserved
loop-row-preserved g c =
    let m = g.L.Layout.meaning c.args.layout.now in let l = c.loop-row in let was = c.args.sums.now in let x = c.index-sums-row.result in
    let j = c.args.column in let v = bounds c.args.factor.lower c.args.factor.upper in let new = c.add_product.result in
    let here : l.row < length l.sums = omega (arith, c.loop-row-test.true, c.min-row-end.ensures, l.auto.sums) in
    let before : x ≡ get_or was l.row None = old l.sums was l.row x here c.index-sums-row.is l.invariant.2 in
    let Sized : Total → Total → Type 0 = λ w t. (n : ℕ) → Small n (total_value w) → Small (n + 17179607041) (total_value t) in
    let kept : (k : ℕ) → k ≢ l.row → get_or (set l.sums l.row new) k None ≡ get_or l.sums k None = λ k n. get_or-set_other l.sums l.row k new None n in
    let put : get_or (set l.sums l.row new) l.row None ≡ new = get_or-set_same l.sums l.row new None here in
    let is : total_value new ≡ plus (total_value (get_or was l.row None)) (times (m.entry l.row j) v) =
    c.add_product.ensures.is ∙ ap (λ (t : Total). plus (total_value t) (times (cell_value c.entry.result) v)) before ∙ ap (λ (e : Value). plus (total_value (get_or was l.row None)) (times e v)) c.entry.ensures in
    let size : Sized (get_or was l.row None) new =
    let P : Total → Type 0 = λ t. Sized t new in subst P before c.add_product.ensures.size in (
      below_more _ _ (λ k h. ap total_value (kept k (λ e. omega (arith, e))) ∙ l.invariant.0 k h) (ap total_value put ∙ is),
      below_more _ _ (λ k h. subst (Sized (get_or was k None)) (sym (kept k (λ e. omega (arith, e)))) (l.invariant.1 k h)) (subst (Sized (get_or was l.row None)) (sym put) size),
      λ k h. kept k (λ e. omega (arith, e)) ∙ l.invariant.2 k (omega arith),
    )

pub returns : goal.returns
returns g c =
    let m = g.L.Layout.meaning c.args.layout.now in let l = c.loop-row in let was = c.args.sums.now in let z = c.down-places.ensures in
    let j = c.args.column in let v = bounds c.args.factor.lower c.args.factor.upper in
    let after : (k : ℕ) → k < length was → l.row ≤ k → c.down-places.result.to ≤ k = λ k h r. omega (arith, c.loop-row-test.false, c.min-row-end.ensures, h, r) in
    record {
      is = λ k h r. ⊎_elim (λ (b : k < l.row). l.invariant.0 k b)
          (λ (b : l.row ≤ k). ap total_value (l.invariant.2 k b) ∙ sym (still (total_value (get_or was k None)) (m.entry k j) v (z.after k (after k h b) r) refl)) (cases_lt k l.row);
      size = λ k h n s. ⊎_elim (λ (b : k < l.row). l.invariant.1 k b n s)
          (λ (b : l.row ≤ k). let P : Total → Type 0 = λ t. Small (n + 17179607041) (total_value t) in
          subst P (sym (l.invariant.2 k b)) (small_more n (n + 17179607041) (total_value (get_or was k None)) (omega arith) s)) (cases_lt k l.row);
    }
