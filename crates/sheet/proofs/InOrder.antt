-- A refusal for a bound beyond the limit, and one for a diagonal entry that holds 0, name the first row in the order in which rows depend
-- on one another.
use Rattle.std.proofs.Common.{◌≡◌, ℕ, ◌<◌, List, sym, ◌∙◌, subst, zero-add, arith}
use Rattle.std.specs.List.{range_with_len}
use Rattle.std.proofs.lemmas.List.FromFn.{length-range_with_len, get_or-range_with_len, length-map-range_with_len, get_or-map-range_with_len}
use Rattle.arithmetic.specs.Values.{Value}
use Rattle.rounding.specs.declared.fault.Bound.{Bound}
use Rattle.cells.specs.declared.cell.Record.{Record}
use Rattle.layouts.specs.declared.side.Side.{Side}
use Rattle.layouts.specs.Laws.{Laws, SolvedBefore}
use Rattle.layouts.specs.Orders.{row_at, rows_in_order}
use Rattle.sheet.specs.declared.shape.Shape.{Shape}
use Rattle.sheet.specs.Answers.{call_answer}
use Rattle.sheet.specs.CallLaws.{BothFit, FirstPast, WorkedBefore}
use Rattle.sheet.specs.Calls.{Call, dot, sum, blend, product, solve, join, copy, permute, name, target}
use Rattle.sheet.specs.Checks.{refused, past_limit}
use Rattle.sheet.specs.Memory.{cells_in}
use Rattle.sheet.specs.NewColumns.{new_column}
use Rattle.sheet.proofs.FirstPast.{first_past}

module _ (new : ℕ → Value) (row : ℕ) (bound : Bound) where
  rising_before : (n : ℕ) → FirstPast new (range_with_len 0 n) row bound → (j : ℕ) → j < row → BothFit (new j)
  rising_before n f j h =
      let below : f.step < n = omega (arith, f.in_rows, length-range_with_len 0 n) in
      let here : f.step ≡ row = sym (get_or-range_with_len 0 n f.step 0 below ∙ zero-add f.step) ∙ f.is in
      subst (λ i. BothFit (new i)) (get_or-range_with_len 0 n j 0 (omega (arith, below, here, h)) ∙ zero-add j) (f.fit j (omega (arith, here, h)))

  solved_first : Laws → (side : Side) (n : ℕ) → FirstPast new (rows_in_order side n) row bound → (j : ℕ) → SolvedBefore side n row j → BothFit (new j)
  unfolding rows_in_order
  solved_first laws side n f j h =
      let below : f.step < n = omega (arith, f.in_rows, length-map-range_with_len (row_at side n) 0 n) in
      let at = get_or-map-range_with_len (row_at side n) 0 n in
      let w = laws.solved_earlier side n f.step j below (subst (λ i. SolvedBefore side n i j) (sym f.is ∙ at f.step f.step 0 below (omega arith)) h) in
      subst (λ i. BothFit (new i)) (at w.0 w.0 0 (omega (arith, w.1, below)) (omega arith) ∙ w.2) (f.fit w.0 w.1)

pub stops_first : Laws → (s : Shape) (call : Call) (cells draft : List Record) (row : ℕ) (bound : Bound) → call_answer s call cells draft ≡ refused (past_limit (name call) (target call) row bound)
    → (j : ℕ) → WorkedBefore call row j → BothFit (new_column s call (cells_in s cells) j)
stops_first laws s (dot k i x y alpha beta) cells draft row bound e j h = absurd h
stops_first laws s (sum k i x) cells draft row bound e j h = absurd h
stops_first laws s (blend k x alpha beta) cells draft row bound e j h = rising_before _ row bound s.rows ((first_past s (blend k x alpha beta) cells draft row bound).0 e).first j h
stops_first laws s (product k x l alpha beta) cells draft row bound e j h = rising_before _ row bound l.matrix.rows ((first_past s (product k x l alpha beta) cells draft row bound).0 e).first j h
stops_first laws s (solve k side t alpha) cells draft row bound e j h = solved_first _ row bound laws side t.matrix.rows ((first_past s (solve k side t alpha) cells draft row bound).0 e).first j h
stops_first laws s (join k x rule) cells draft row bound e j h = absurd h
stops_first laws s (copy k x) cells draft row bound e j h = absurd h
stops_first laws s (permute k order) cells draft row bound e j h = absurd h
