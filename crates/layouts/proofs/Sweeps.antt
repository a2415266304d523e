-- What a sweep over the columns leaves: the sums as a list, and the sums that no column reaches. Assumes nothing.
use Rattle.std.proofs.Common.{◌≡◌, ℕ, true, ◌+◌, ◌-◌, ◌<◌, ◌≤◌, List, ◌++◌, map, length, get_or, take, replicate, sym, ap, ◌∙◌, ⊎_elim, None, add-one, arith}
use Rattle.std.proofs.lemmas.Bool.{cases_lt, false≢true}
use Rattle.std.specs.List.{range_with_len}
use Rattle.std.proofs.lemmas.List.FromFn.{fill_by_all}
use Rattle.std.proofs.Math.ListN.{get_or-append}
use Rattle.std.proofs.lemmas.List.{get_or-map, length-map, get_or-take, get_or-replicate, get_or-append_right, get_or_past, length-take-le, length-replicate}
use Rattle.arithmetic.specs.Values.{Value, empty, plus, times, total}
use Rattle.arithmetic.proofs.Totals.{total_empty}
use Rattle.cells.specs.declared.cell.Record.{Record}
use Rattle.cells.specs.Cells.{Total, total_value, blank, read_as, cell_at}
use Rattle.cells.specs.Formulas.{sum_of_products}
use Rattle.layouts.specs.Filled.{is_filled, Filled}
use Rattle.layouts.specs.Matrix.{Matrix, Sound}

-- sums that are right at each place are right as a list
pub all_sums : (f : ℕ → Value) (sums : List Total) (n : ℕ) → length sums ≡ n → ((k : ℕ) → k < n → total_value (get_or sums k None) ≡ f k) → map total_value sums ≡ map f (range_with_len 0 n)
all_sums f sums n e h =
    fill_by_all f (map total_value sums) n empty (length-map sums total_value ∙ e)
    (λ k l. get_or-map total_value sums k None empty (omega (arith, e, l)) ∙ h k l)

-- filled cells stand in the run: past its end every cell is empty
pub filled_here : (run : List Record) (k : ℕ) → is_filled (cell_at run k) ≡ true → k < length run
filled_here run k f =
    ⊎_elim (λ (b : k < length run). b) (λ (b : length run ≤ k). absurd (false≢true (sym (ap (λ (r : Record). is_filled (read_as r)) (get_or_past run k blank b)) ∙ f))) (cases_lt k (length run))

pub filled_inside : (run : List Record) (n : ℕ) → Filled run 0 n → n ≤ length run
filled_inside run n f =
    ⊎_elim (λ (b : length run < n). absurd (omega (arith, filled_here run (length run) (f (length run) (omega arith) b)))) (λ (b : n ≤ length run). b) (cases_lt (length run) n)

-- what a list keeps whose end is written anew from r on, and what stands in that end once it is filled
pub end_kept : (s end : List Total) (r k : ℕ) → r ≤ length s → k < r → get_or (take r s ++ end) k None ≡ get_or s k None
end_kept s end r k h b = get_or-append (take r s) end None k (omega (arith, length-take-le r s h)) ∙ get_or-take r s k None b

pub end_filled : (s f past : List Total) (r n k : ℕ) → r + n ≡ length s → f ≡ replicate n None → r ≤ k → k < length s → get_or (take r s ++ (f ++ past)) k None ≡ None
end_filled s f past r n k h e b l =
    let here : k - r < n = omega arith in
    get_or-append_right (take r s) (f ++ past) r k None (length-take-le r s (omega arith)) b
    ∙ get_or-append f past None (k - r) (omega (arith, here, ap length e, length-replicate {A = Total} n None))
    ∙ ap (λ (l : List Total). get_or l (k - r) None) e ∙ get_or-replicate n (k - r) None None here

-- a row outside the shape of a matrix that has columns
pub outside_empty : (m : Matrix) (x : ℕ → Value) (i : ℕ) → Sound m → m.rows ≤ i → 0 < m.columns → sum_of_products (m.entry i) x 0 m.columns ≡ empty
outside_empty m x i s h k = total_empty (λ j. times (m.entry i j) (x j)) 0 m.columns 0 (omega arith) (omega (arith, k)) (ap (λ (v : Value). times v (x 0)) (s.below i 0 h))

-- one more column
pub sum_more : (f : ℕ → Value) (j : ℕ) (sofar term all : Value) → sofar ≡ total f 0 j → term ≡ f j → all ≡ plus sofar term → all ≡ total f 0 (j + 1)
sum_more f j sofar term all s t a =
    let here : j ≡ 0 + j = omega arith in
    a ∙ ap (λ (v : Value). plus v term) s ∙ ap (plus (total f 0 j)) (t ∙ ap f here) ∙ sym (ap (total f 0) (add-one j))
