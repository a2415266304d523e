-- What a granted call drafts are cells, and each of them holds what any exact draft has at its row.
use Rattle.std.proofs.Common.{ℕ, ◌<◌, List, slice_index_or, All, pos, ◌<ℤ◌, sym, refl, subst, ⊎_elim}
use Rattle.std.proofs.lemmas.Bool.{ltb-true}
use Rattle.arithmetic.specs.Sets.{Set, Included}
use Rattle.arithmetic.specs.Values.{Value, Tightly}
use Rattle.arithmetic.proofs.Values.{tightly_ordered, tightly_holds}
use Rattle.cells.specs.declared.cell.Record.{Record}
use Rattle.cells.specs.Cells.{IsCell, blank}
use Rattle.cells.specs.Held.{Held, Holds, Chosen}
use Rattle.cells.specs.Laws.{Laws as CellLaws}
use Rattle.cells.specs.Reading.{read_cell}
use Rattle.cells.specs.Rules.{Rule, Admitted}
use Rattle.cells.specs.Scales.{IsScale}
use Rattle.layouts.specs.Laws.{Laws as LayoutLaws}
use Rattle.sheet.specs.CallLaws.{Passed, BothFit}
use Rattle.sheet.specs.declared.shape.Shape.{Shape}
use Rattle.sheet.specs.Calls.{Call, dot, sum, blend, product, solve, join, copy, permute, alpha_of, beta_of, entry_of}
use Rattle.sheet.specs.Checks.{checks, worked_rows}
use Rattle.sheet.specs.ExactRuns.{Choice, Follows}
use Rattle.sheet.specs.Formulas.{Of, Reached, Only, Gives, no_value, value}
use Rattle.sheet.specs.Memory.{cells_in, column}
use Rattle.sheet.specs.NewColumns.{new_column}
use Rattle.sheet.proofs.Checks.{fits_cell}
use Rattle.sheet.proofs.Growth.{Plain, Fewer, formula_grows}
use Rattle.sheet.proofs.Orders.{by_order}
use Rattle.sheet.proofs.Tightness.{AllCells, new_tight}
use Rattle.sheet.proofs.WorkedRows.{settled}

-- every record of a column reads as a cell
pub columns_cells : (s : Shape) (cells : List Record) → AllCells (cells_in s cells)
columns_cells s cells k i = read_cell (slice_index_or (column s cells k) i blank)

module _ (cell : CellLaws) (layout : LayoutLaws) (s : Shape) (scale : IsScale s.scale) (u : pos 0 <ℤ s.scale) where
  pub tight : (call : Call) (cols : ℕ → ℕ → Value) → AllCells cols → Passed (checks s call) → (i : ℕ) → i < s.rows
      → Tightly s.scale (Reached s call cols (new_column s call cols) i) (new_column s call cols i)
  tight call cols g p = new_tight cell layout s scale u cols g call p (new_column s call cols) (λ j h. refl)

  pub new_cell : (call : Call) (cols : ℕ → ℕ → Value) → AllCells cols → Passed (checks s call) → All (λ i. BothFit (new_column s call cols i)) (worked_rows s call)
      → (i : ℕ) → i < s.rows → IsCell (new_column s call cols i)
  new_cell call cols g p f i h =
      ⊎_elim (fits_cell (new_column s call cols i) (tightly_ordered (tight call cols g p i h))) (λ c. c)
      (settled (λ i. BothFit (new_column s call cols i)) s call cols g f i h)

  -- a member of a smaller set than the one that the cell is tight for
  gives_holds : {S T : Set} {c : Value} {y : Held} → Tightly s.scale T c → Included S T → Gives S y → Holds s.scale c y
  gives_holds t i (no_value f) = tt
  gives_holds t i (value {v} h) = tightly_holds t v (i v h)

  only_chosen : (c : Value) (p : Held) → Chosen s.scale c p → Included (Of (Only p)) (Of (Chosen s.scale c))
  only_chosen c p h v e = subst (Chosen s.scale c) (sym e) h

  only_held : (c : Value) (p : Held) → Holds s.scale c p → Included (Of (Only p)) (Of (Chosen s.scale c))
  only_held c p h v e = subst (Holds s.scale c) (sym e) h

  abbrev pub AllHold : (cols : ℕ → ℕ → Value) (xs : ℕ → ℕ → Held) → Type 0
  AllHold cols xs = (k i : ℕ) → k < s.columns → i < s.rows → Holds s.scale (cols k i) (xs k i)

  plain_holds : (call : Call) → Plain call → (cols : ℕ → ℕ → Value) (xs : ℕ → ℕ → Held) (ys : ℕ → Held) (choice : Choice s call)
      → AllCells cols → AllHold cols xs → Passed (checks s call) → Follows s call choice xs ys
      → (i : ℕ) → i < s.rows → Holds s.scale (new_column s call cols i) (ys i)
  plain_holds call plain cols xs ys choice g holds p f = by_order layout (λ i. Holds s.scale (new_column s call cols i) (ys i)) s call p
      (λ i h before. gives_holds (tight call cols g p i h)
      (formula_grows s _ _ _ _ (λ j. Only (ys j)) _ _ _ _ (λ j. Chosen s.scale (new_column s call cols j)) fewer call plain p i h (λ j e. only_held (new_column s call cols j) (ys j) (before j e)))
      (f i h))
    where
      fewer : Fewer s (Only choice.alpha) (Only choice.beta) (λ i j. Only (choice.entry i j)) (λ k i. Only (xs k i))
          (Chosen s.scale (alpha_of call)) (Chosen s.scale (beta_of call)) (λ i j. Chosen s.scale (entry_of call i j)) (λ k i. Chosen s.scale (cols k i))
      fewer = record {
        alpha = only_chosen (alpha_of call) choice.alpha choice.in_alpha;
        beta = only_chosen (beta_of call) choice.beta choice.in_beta;
        entry = λ i j. only_chosen (entry_of call i j) (choice.entry i j) (choice.in_entry i j);
        column = λ k i a b. only_held (cols k i) (xs k i) (holds k i a b);
      }

  -- of a join an operand may be missing: that it contains is the rule's own law
  join_holds : (k x : ℕ) (rule : Rule) (cols : ℕ → ℕ → Value) (xs : ℕ → ℕ → Held) (ys : ℕ → Held) (choice : Choice s (join k x rule))
      → AllCells cols → AllHold cols xs → Passed (checks s (join k x rule)) → Follows s (join k x rule) choice xs ys
      → (i : ℕ) → i < s.rows → Holds s.scale (rule.joined (cols k i) (cols x i)) (ys i)
  join_holds k x rule cols xs ys choice g holds p f i h = go (f i h)
    where
      go : {y : Held} → Gives (Admitted rule.admits (Only (xs k i)) (Only (xs x i))) y → Holds s.scale (rule.joined (cols k i) (cols x i)) y
      go (no_value n) = tt
      go (value {v} m) = rule.contains s.scale (cols k i) (cols x i) m.left m.right v scale (g k i) (g x i)
          (subst (Holds s.scale (cols k i)) (sym m.in_left) (holds k i (ltb-true k s.columns p.0) h))
          (subst (Holds s.scale (cols x i)) (sym m.in_right) (holds x i (ltb-true x s.columns p.1.0) h)) m.is

  pub new_holds : (call : Call) (cols : ℕ → ℕ → Value) (xs : ℕ → ℕ → Held) (ys : ℕ → Held) (choice : Choice s call)
      → AllCells cols → AllHold cols xs → Passed (checks s call) → Follows s call choice xs ys
      → (i : ℕ) → i < s.rows → Holds s.scale (new_column s call cols i) (ys i)
  new_holds (dot k r x y alpha beta) = plain_holds (dot k r x y alpha beta) tt
  new_holds (sum k r x) = plain_holds (sum k r x) tt
  new_holds (blend k x alpha beta) = plain_holds (blend k x alpha beta) tt
  new_holds (product k x l alpha beta) = plain_holds (product k x l alpha beta) tt
  new_holds (solve k side t alpha) = plain_holds (solve k side t alpha) tt
  new_holds (join k x rule) = join_holds k x rule
  new_holds (copy k x) = plain_holds (copy k x) tt
  new_holds (permute k order) = plain_holds (permute k order) tt
