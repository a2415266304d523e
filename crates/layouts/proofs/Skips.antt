-- Which terms of a row's sum can be left out: those under a structural zero where every operand is filled; and one operand
-- that is not filled empties the sum. Assumes nothing.
use Rattle.std.proofs.Common.{◌≡◌, ℕ, ◌+◌, ◌-◌, ◌≤◌, min, max, true, false, List, sym, refl, ap, ◌∙◌, arith}
use Rattle.std.proofs.lemmas.Bool.{false≢true, true≢false}
use Rattle.arithmetic.specs.Values.{Value, empty, bounds, zeros, times, plus}
use Rattle.arithmetic.proofs.Totals.{times_zeros, times_empty, plus_zeros, total_inside, total_empty}
use Rattle.cells.specs.declared.cell.Places.{Places}
use Rattle.cells.specs.declared.cell.Record.{Record}
use Rattle.cells.specs.Cells.{cell_at}
use Rattle.cells.specs.Formulas.{sum_of_products}
use Rattle.layouts.specs.Filled.{is_filled, Filled, Lacking}
use Rattle.layouts.specs.Matrix.{Matrix}
use Rattle.layouts.specs.Spans.{ZeroAcross}

not_empty : (v : Value) → is_filled v ≡ true → v ≡ empty → ⊥
not_empty v t e = false≢true (sym (ap is_filled e) ∙ t)

pub unfilled : (v : Value) → is_filled v ≡ false → v ≡ empty
unfilled empty e = refl
unfilled (bounds a b) e = absurd (true≢false e)

-- a structural zero beside an operand that is filled
pub zero_term : (t v : Value) → t ≡ zeros → is_filled v ≡ true → times t v ≡ zeros
zero_term t v z f = ap (λ (w : Value). times w v) z ∙ times_zeros v (not_empty v f)

-- such a term changes nothing
pub still : (sofar t v : Value) → t ≡ zeros → is_filled v ≡ true → plus sofar (times t v) ≡ sofar
still sofar t v z f = ap (plus sofar) (zero_term t v z f) ∙ plus_zeros sofar

-- s is the part of the row's places a that is among p
pub skipped : (m : Matrix) (run : List Record) (i : ℕ) (p a s : Places) → p.to ≤ m.columns → Filled run p.from p.to → ZeroAcross m i a
    → s.to ≡ min p.to (max p.from a.to) → s.from ≡ min s.to (max p.from a.from)
    → sum_of_products (m.entry i) (cell_at run) p.from (p.to - p.from) ≡ sum_of_products (m.entry i) (cell_at run) s.from (s.to - s.from)
skipped m run i p a s k f z et ef =
    total_inside (λ j. times (m.entry i j) (cell_at run j)) p.from p.to s.from s.to (omega (arith, et, ef, z.order, p.order)) s.order (omega (arith, et))
    (λ j l u. zero_term (m.entry i j) (cell_at run j) (z.before j (omega (arith, ef, l, u))) (f j l (omega (arith, et, ef, u))))
    (λ j l u. zero_term (m.entry i j) (cell_at run j) (z.after j (omega (arith, et, l, u)) (omega (arith, u, k))) (f j (omega (arith, et, l, u)) u))

pub lacked : (m : Matrix) (run : List Record) (i from n : ℕ) → Lacking run from (from + n) → sum_of_products (m.entry i) (cell_at run) from n ≡ empty
lacked m run i from n l = total_empty (λ j. times (m.entry i j) (cell_at run j)) from n l.place l.least l.most
    (ap (times (m.entry i l.place)) (unfilled (cell_at run l.place) l.lacks) ∙ times_empty (m.entry i l.place))
