-- What the questions of a sheet answer, and when they are refused. They look at the columns as these stand, on a drafted sheet too.
use Rattle.std.specs.Prelude.{ℕ, Bool, List, [], ◌∷◌, ℤ, Ok, Err, Result, Option}
use Rattle.cells.specs.declared.cell.Record.{Record}
use Rattle.cells.specs.Questions.{width_of, middle_of}
use Rattle.sheet.specs.declared.refusal.CallName.{CallName}
use Rattle.sheet.specs.declared.refusal.CallName.TheVariants.{OneNorm, InfinityNorm, Largest, Smallest, Width, Middle, Enclosed}
use Rattle.sheet.specs.declared.refusal.Refusal.{Refusal}
use Rattle.sheet.specs.declared.refusal.Refusal.TheVariants.{WrongLength}
use Rattle.sheet.specs.declared.shape.Shape.{Shape}
use Rattle.sheet.specs.Checks.{Check, check, Answer, granted, refused, first_refusal, column_named, row_named}
use Rattle.sheet.specs.ColumnQuestions.{one_norm_of, infinity_norm_of, largest_of, smallest_of, enclosed_in}
use Rattle.sheet.specs.Memory.{has_cells, column, cells_in}

-- what is asked for, unless a check refuses
abbrev pub asked_unless : {T : Type 0} → Answer → T → Result T Refusal
asked_unless granted asked = Ok asked
asked_unless (refused refusal) asked = Err refusal

abbrev pub asked_after : {T : Type 0} → List Check → T → Result T Refusal
asked_after list asked = asked_unless (first_refusal list granted) asked

-- the cells alone are supplied; then the first column that is asked about
abbrev pub first_column : Shape → CallName → (cells : List Record) (k : ℕ) → (rest : List Check) → List Check
first_column s call cells k rest = check (has_cells s cells) (WrongLength call k) ∷ (column_named s call k ∷ rest)

abbrev pub one_norm_answer : Shape → (cells : List Record) (k : ℕ) → Result (Option ℕ) Refusal
one_norm_answer s cells k = asked_after (first_column s OneNorm cells k []) (one_norm_of (column s cells k))

abbrev pub infinity_norm_answer : Shape → (cells : List Record) (k : ℕ) → Result (Option ℕ) Refusal
infinity_norm_answer s cells k = asked_after (first_column s InfinityNorm cells k []) (infinity_norm_of (column s cells k))

-- the size, then its first row
abbrev pub largest_answer : Shape → (cells : List Record) (k : ℕ) → Result (Option (ℕ × ℕ)) Refusal
largest_answer s cells k = asked_after (first_column s Largest cells k []) (largest_of (column s cells k))

abbrev pub smallest_answer : Shape → (cells : List Record) (k : ℕ) → Result (Option (ℕ × ℕ)) Refusal
smallest_answer s cells k = asked_after (first_column s Smallest cells k []) (smallest_of (column s cells k))

abbrev pub width_answer : Shape → (cells : List Record) (k row : ℕ) → Result (Option ℤ) Refusal
width_answer s cells k row = asked_after (first_column s Width cells k (row_named s Width k row ∷ [])) (width_of (cells_in s cells k row))

abbrev pub middle_answer : Shape → (cells : List Record) (k row : ℕ) → Result (Option ℤ) Refusal
middle_answer s cells k row = asked_after (first_column s Middle cells k (row_named s Middle k row ∷ [])) (middle_of (cells_in s cells k row))

-- whether each cell of column k is inside the one of column x
abbrev pub enclosed_answer : Shape → (cells : List Record) (k x : ℕ) → Result Bool Refusal
enclosed_answer s cells k x = asked_after (first_column s Enclosed cells k (column_named s Enclosed x ∷ [])) (enclosed_in (column s cells k) (column s cells x))
