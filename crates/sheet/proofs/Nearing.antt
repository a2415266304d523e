-- Each cell that a granted call drafted is tight for the values that its operands reach, and so each of its bounds is near one of them.
use Rattle.std.specs.Prelude.{ℕ, ◌<◌, List, ◌∷◌, ℤ}
use Rattle.arithmetic.specs.Sets.{Set}
use Rattle.arithmetic.specs.Values.{Value, Tightly, void, near}
use Rattle.arithmetic.proofs.Tight.{tight_low, tight_high}
use Rattle.cells.specs.declared.cell.Record.{Record}
use Rattle.cells.specs.Cells.{cell_at}
use Rattle.cells.specs.Laws.{Laws}
use Rattle.sheet.specs.declared.shape.Shape.{Shape}
use Rattle.sheet.specs.Answers.{Stage, calling, calls}
use Rattle.sheet.specs.Calls.{Call}
use Rattle.sheet.specs.Checks.{granted}
use Rattle.sheet.specs.Formulas.{Reached}
use Rattle.sheet.specs.Memory.{cells_in, written_rows}
use Rattle.sheet.specs.NewColumns.{new_column}
use Rattle.sheet.specs.Promises.{NearBounds}
use Rattle.sheet.specs.Runs.{Event, told, Ran, went_on}
use Rattle.sheet.proofs.Columns.{read_back}
use Rattle.sheet.proofs.Owes.{Owes}

tightly_near : {u : ℤ} {S : Set} {c : Value} → Tightly u S c → NearBounds u S c
tightly_near (void f) = tt
tightly_near {u} (near {a} {b} t) = (tight_low u a b t, tight_high u a b t)

module _ (laws : Laws) (s : Shape) (owes : Owes s) where
  -- the drafted cells are read back as the new column has them, so both are tight for the same values
  pub tight : {h : List Event} {call : Call} {cells before : List Record} {stage : Stage} {after draft : List Record} → Ran s (told (calling call) cells before granted ∷ h) stage after draft
      → (row : ℕ) → row < s.rows → Tightly s.scale (Reached s call (cells_in s cells) (cell_at draft) row) (cell_at draft row)
  tight (went_on {cells} {draft} ask r (calls {call}) e) row b =
      let owed = owes.of_granted call cells draft e in
      let new = new_column s call (cells_in s cells) in
      owed.tight (cell_at (written_rows s.rows new)) (λ i c. read_back laws s.rows new i c (owed.cell i c)) row b

  pub close : {h : List Event} {call : Call} {cells before : List Record} {stage : Stage} {after draft : List Record} → Ran s (told (calling call) cells before granted ∷ h) stage after draft
      → (row : ℕ) → row < s.rows → NearBounds s.scale (Reached s call (cells_in s cells) (cell_at draft) row) (cell_at draft row)
  close r row b = tightly_near (tight r row b)
