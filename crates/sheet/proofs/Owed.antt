-- What the theorem on runs asks of the calls holds of every call, at every legal shape.
use Rattle.std.proofs.Common.{◌≡◌, ℕ, ◌<◌, List, pos, ◌<ℤ◌, arith}
use borrow.Author.Differences.{ints}
use Rattle.arithmetic.proofs.Values.{tightly_ordered, nested_within}
use Rattle.cells.specs.declared.cell.Record.{Record}
use Rattle.cells.specs.Cells.{IsCell}
use Rattle.cells.specs.Laws.{Laws as CellLaws}
use Rattle.cells.specs.Scales.{IsScale}
use Rattle.layouts.specs.Laws.{Laws as LayoutLaws}
use Rattle.sheet.specs.CallLaws.{BothFit}
use Rattle.sheet.specs.declared.shape.Shape.{Shape}
use Rattle.sheet.specs.Answers.{call_answer}
use Rattle.sheet.specs.Calls.{Call, name, target}
use Rattle.sheet.specs.Checks.{granted, worked_rows}
use Rattle.sheet.specs.Memory.{cells_in}
use Rattle.sheet.specs.NewColumns.{new_column}
use Rattle.sheet.specs.Promises.{ColumnsWithin, CallInside}
use Rattle.sheet.specs.Shapes.{Legal}
use Rattle.sheet.proofs.Checks.{passes, grants, limits_fit, fit_limits, cell_fits, nested_cell}
use Rattle.sheet.proofs.ExactDrafts.{follows}
use Rattle.sheet.proofs.Holding.{columns_cells, tight, new_cell, new_holds}
use Rattle.sheet.proofs.Inside.{passes_inside, new_nests, same_target}
use Rattle.sheet.proofs.Owes.{OwesGranted, OwesInside, Owes}
use Rattle.sheet.proofs.Tightness.{new_tight}
use Rattle.sheet.proofs.WorkedRows.{aims, worked_all}

module _ (cell : CellLaws) (layout : LayoutLaws) (s : Shape) (scale : IsScale s.scale) (u : pos 0 <ℤ s.scale) where
  granted_cells : (call : Call) (cells draft : List Record) → call_answer s call cells draft ≡ granted → (i : ℕ) → i < s.rows → IsCell (new_column s call (cells_in s cells) i)
  granted_cells call cells draft e =
      let p = passes s call cells draft e in
      new_cell cell layout s scale u call (cells_in s cells) (columns_cells s cells) p.checked (limits_fit (name call) (target call) (new_column s call (cells_in s cells)) (worked_rows s call) p.limited)

  of_granted : (call : Call) (cells draft : List Record) → call_answer s call cells draft ≡ granted → OwesGranted s call cells
  of_granted call cells draft e =
      let p = (passes s call cells draft e).checked in
      record {
        aims = aims s call p;
        cell = granted_cells call cells draft e;
        tight = new_tight cell layout s scale u (cells_in s cells) (columns_cells s cells) call p;
        holds = λ xs ys choice h f. new_holds cell layout s scale u call (cells_in s cells) xs ys choice (columns_cells s cells) h p f;
        follows = λ tells xs choice. follows cell layout s call p tells xs choice;
      }

  of_inside : (call' call : Call) (cells' draft' cells draft : List Record) → CallInside s.scale call' call
      → ColumnsWithin s cells' cells → call_answer s call cells draft ≡ granted → OwesInside s call' call cells' draft' cells
  of_inside call' call cells' draft' cells draft inside within e =
      let p = (passes s call cells draft e).checked in
      let p' = passes_inside cell layout s scale u inside p in
      let new = new_column s call (cells_in s cells) in let new' = new_column s call' (cells_in s cells') in
      let nests = new_nests cell layout s scale u inside (cells_in s cells') (cells_in s cells) (columns_cells s cells') (columns_cells s cells) within p' p in
      record {
        granted_too = λ memory. grants s call' cells' draft' (record {
          memory = memory;
          checked = p';
          limited = fit_limits (name call') (target call') new' (worked_rows s call') (worked_all layout (λ i. BothFit (new' i)) s call' p'
              (λ i h. cell_fits (new' i) (nested_cell (new' i) (new i) (tightly_ordered (tight cell layout s scale u call' (cells_in s cells') (columns_cells s cells') p' i h)) (nests i h) (granted_cells call cells draft e i h))));
        });
        within = λ i h. nested_within s.scale (new' i) (new i) (nests i h);
      }

pub owes : CellLaws → LayoutLaws → (s : Shape) → Legal s → Owes s
owes cell layout s legal =
    let positive : pos 0 <ℤ s.scale = omega (arith, ints, legal.scale.0) in
    record {
      of_granted = of_granted cell layout s legal.scale positive;
      of_inside = of_inside cell layout s legal.scale positive;
      same_target = λ call' call inside. same_target inside;
    }
