-- When what is asked is granted, and what a refusal tells, in the words of the subject: said of the cells, with no look at the table of checks.
use Rattle.std.specs.Prelude.{◌≡◌, ℕ, ◌*◌, ◌<◌, ◌≤◌, true, false, ◌↔◌, ◌⊎◌, List, [], ◌∷◌, length, ℤ, ◌≤ℤ◌, ◌<ℤ◌}
use Rattle.arithmetic.specs.Values.{Value, empty, bounds}
use Rattle.rounding.specs.Limit.{lowest, highest}
use Rattle.rounding.specs.declared.fault.Bound.{Bound}
use Rattle.rounding.specs.declared.fault.Bound.TheVariants.{Lower, Upper}
use Rattle.cells.specs.declared.cell.Record.{Record}
use Rattle.cells.specs.Cells.{IsCell}
use Rattle.cells.specs.Quotients.{zero_in}
use Rattle.sheet.specs.declared.refusal.CallName.{CallName}
use Rattle.sheet.specs.declared.refusal.Refusal.{Refusal}
use Rattle.sheet.specs.declared.refusal.Refusal.TheVariants.{ScaleOutside, ShapeOutside, WrongLength, NoSuchColumn, NoSuchRow, NoCell, LayoutTooLarge, DivisorHoldsZero, NoPermutation, BeyondLimit}
use Rattle.sheet.specs.declared.shape.Shape.{Shape}
use Rattle.sheet.specs.Answers.{open_answer, set_answer, begin_answer, call_answer, close_answer}
use Rattle.sheet.specs.Calls.{Call, dot, sum, blend, product, solve, join, copy, permute, name, target}
use Rattle.sheet.specs.Checks.{granted, refused}
use Rattle.sheet.specs.Memory.{cells_in}
use Rattle.sheet.specs.NewColumns.{new_column}
use Rattle.sheet.specs.Permutations.{EachOnce}
use Rattle.sheet.specs.Refusals.{call_of}
use Rattle.sheet.specs.Shapes.{Legal}

-- ---- when a call can be granted

-- the cells of all columns are supplied, and one draft
abbrev pub BothLong : Shape → (cells draft : List Record) → Type 0
BothLong s cells draft = (length cells ≡ s.rows * s.columns) × (length draft ≡ s.rows)

-- the columns and the row that the call names are there, its matrix has room and can be divided by, and its list is a permutation
abbrev pub Named : Shape → Call → Type 0
Named s (dot k i x y alpha beta) = (k < s.columns) × (x < s.columns) × (y < s.columns) × (i < s.rows)
Named s (sum k i x) = (k < s.columns) × (x < s.columns) × (i < s.rows)
Named s (blend k x alpha beta) = (k < s.columns) × (x < s.columns)
Named s (product k x l alpha beta) = (k < s.columns) × (x < s.columns) × (l.matrix.rows ≤ s.rows) × (l.matrix.columns ≤ s.rows)
Named s (solve k side t alpha) = (k < s.columns) × (t.matrix.rows ≤ s.rows) × (t.matrix.columns ≤ s.rows) × ((row : ℕ) → row < t.matrix.rows → zero_in (t.matrix.entry row row) ≡ false)
Named s (join k x rule) = (k < s.columns) × (x < s.columns)
Named s (copy k x) = (k < s.columns) × (x < s.columns)
Named s (permute k order) = (k < s.columns) × EachOnce s.rows order

-- the call works out the new cell of the row; the cells of the others are copied or joined
abbrev pub WorksOut : Shape → Call → (row : ℕ) → Type 0
WorksOut s (dot k i x y alpha beta) row = row ≡ i
WorksOut s (sum k i x) row = row ≡ i
WorksOut s (blend k x alpha beta) row = row < s.rows
WorksOut s (product k x l alpha beta) row = row < l.matrix.rows
WorksOut s (solve k side t alpha) row = row < t.matrix.rows
WorksOut s (join k x rule) row = ⊥
WorksOut s (copy k x) row = ⊥
WorksOut s (permute k order) row = ⊥

-- neither bound is beyond the limit; an empty cell has none
abbrev pub WithinLimit : Value → Type 0
WithinLimit empty = Unit {0}
WithinLimit (bounds a b) = (lowest ≤ℤ a) × (a ≤ℤ highest) × (lowest ≤ℤ b) × (b ≤ℤ highest)

pub record CanBeGranted (s : Shape) (call : Call) (cells draft : List Record) : Type 0 where
  pub lengths : BothLong s cells draft
  pub named : Named s call
  pub limited : (row : ℕ) → WorksOut s call row → WithinLimit (new_column s call (cells_in s cells) row)

-- ---- what a refusal tells

-- the columns that a call names, in the order in which they are looked at
abbrev pub columns_of : Call → List ℕ
columns_of (dot k i x y alpha beta) = k ∷ (x ∷ (y ∷ []))
columns_of (sum k i x) = k ∷ (x ∷ [])
columns_of (blend k x alpha beta) = k ∷ (x ∷ [])
columns_of (product k x l alpha beta) = k ∷ (x ∷ [])
columns_of (solve k side t alpha) = k ∷ []
columns_of (join k x rule) = k ∷ (x ∷ [])
columns_of (copy k x) = k ∷ (x ∷ [])
columns_of (permute k order) = k ∷ []

-- all of them are there
abbrev pub AllThere : (columns : ℕ) → List ℕ → Type 0
AllThere columns [] = Unit {0}
AllThere columns (k ∷ ks) = (k < columns) × AllThere columns ks

-- j is the first of them that is not
abbrev pub FirstMissing : (columns : ℕ) → List ℕ → (j : ℕ) → Type 0
FirstMissing columns [] j = ⊥
FirstMissing columns (k ∷ ks) j = ((columns ≤ k) × (j ≡ k)) ⊎ ((k < columns) × FirstMissing columns ks j)

-- i is the row that the call names
abbrev pub NamesRow : Call → (i : ℕ) → Type 0
NamesRow (dot k i' x y alpha beta) i = i ≡ i'
NamesRow (sum k i' x) i = i ≡ i'
NamesRow (blend k x alpha beta) i = ⊥
NamesRow (product k x l alpha beta) i = ⊥
NamesRow (solve k side t alpha) i = ⊥
NamesRow (join k x rule) i = ⊥
NamesRow (copy k x) i = ⊥
NamesRow (permute k order) i = ⊥

-- the matrix of the call has more rows, or more columns, than a column has cells
abbrev pub NoRoom : Shape → Call → Type 0
NoRoom s (dot k i x y alpha beta) = ⊥
NoRoom s (sum k i x) = ⊥
NoRoom s (blend k x alpha beta) = ⊥
NoRoom s (product k x l alpha beta) = (s.rows < l.matrix.rows) ⊎ (s.rows < l.matrix.columns)
NoRoom s (solve k side t alpha) = (s.rows < t.matrix.rows) ⊎ (s.rows < t.matrix.columns)
NoRoom s (join k x rule) = ⊥
NoRoom s (copy k x) = ⊥
NoRoom s (permute k order) = ⊥

-- the call divides by the diagonal entry of the row, and 0 is inside it
abbrev pub DividesByZero : Shape → Call → (row : ℕ) → Type 0
DividesByZero s (dot k i x y alpha beta) row = ⊥
DividesByZero s (sum k i x) row = ⊥
DividesByZero s (blend k x alpha beta) row = ⊥
DividesByZero s (product k x l alpha beta) row = ⊥
DividesByZero s (solve k side t alpha) row = (t.matrix.rows ≤ s.rows) × (t.matrix.columns ≤ s.rows) × (row < t.matrix.rows) × (zero_in (t.matrix.entry row row) ≡ true)
DividesByZero s (join k x rule) row = ⊥
DividesByZero s (copy k x) row = ⊥
DividesByZero s (permute k order) row = ⊥

-- the list of the call is no permutation of the rows
abbrev pub NotPermuted : Shape → Call → Type 0
NotPermuted s (dot k i x y alpha beta) = ⊥
NotPermuted s (sum k i x) = ⊥
NotPermuted s (blend k x alpha beta) = ⊥
NotPermuted s (product k x l alpha beta) = ⊥
NotPermuted s (solve k side t alpha) = ⊥
NotPermuted s (join k x rule) = ⊥
NotPermuted s (copy k x) = ⊥
NotPermuted s (permute k order) = EachOnce s.rows order → ⊥

-- this bound of the cell is beyond the limit
abbrev pub Beyond : ℤ → Type 0
Beyond a = (a <ℤ lowest) ⊎ (highest <ℤ a)

abbrev pub BoundBeyond : Value → Bound → Type 0
BoundBeyond empty bound = ⊥
BoundBeyond (bounds a b) Lower = Beyond a
BoundBeyond (bounds a b) Upper = Beyond b

-- why a call of a working sheet is refused; of the ten refusals it never gives those of open and set
abbrev pub Reason : (s : Shape) (call : Call) (cells draft : List Record) → Refusal → Type 0
Reason s call cells draft ScaleOutside = ⊥
Reason s call cells draft ShapeOutside = ⊥
Reason s call cells draft (WrongLength c k) = (k ≡ target call) × (BothLong s cells draft → ⊥)
Reason s call cells draft (NoSuchColumn c j) = BothLong s cells draft × FirstMissing s.columns (columns_of call) j
Reason s call cells draft (NoSuchRow c k i) = BothLong s cells draft × AllThere s.columns (columns_of call) × (k ≡ target call) × NamesRow call i × (s.rows ≤ i)
Reason s call cells draft (NoCell k) = ⊥
Reason s call cells draft (LayoutTooLarge c k) = BothLong s cells draft × AllThere s.columns (columns_of call) × (k ≡ target call) × NoRoom s call
Reason s call cells draft (DivisorHoldsZero k row) = BothLong s cells draft × AllThere s.columns (columns_of call) × (k ≡ target call) × DividesByZero s call row
Reason s call cells draft (NoPermutation c k) = BothLong s cells draft × AllThere s.columns (columns_of call) × (k ≡ target call) × NotPermuted s call
Reason s call cells draft (BeyondLimit fault) = BothLong s cells draft × Named s call × (fault.column ≡ target call) × WorksOut s call fault.cell.row
    × BoundBeyond (new_column s call (cells_in s cells) fault.cell.row) fault.cell.rounding.bound

-- ---- when the other asks are granted

pub record CanBeSet (s : Shape) (k i : ℕ) (lower upper : ℤ) (cells : List Record) : Type 0 where
  pub lengths : length cells ≡ s.rows * s.columns
  pub column : k < s.columns
  pub row : i < s.rows
  pub cell : IsCell (bounds lower upper)

pub record RefusalLaws : Type 0 where
  -- a call is granted where it can be, and nowhere else
  pub granted_exactly : (s : Shape) (call : Call) (cells draft : List Record) → (call_answer s call cells draft ≡ granted) ↔ CanBeGranted s call cells draft
  -- a refusal names the call that is refused, and what it tells is so
  pub refused_for : (s : Shape) (call : Call) (cells draft : List Record) (r : Refusal) → call_answer s call cells draft ≡ refused r → (call_of r ≡ name call) × Reason s call cells draft r
  -- open is granted over a legal shape and memory of the right lengths
  pub open_granted_exactly : (s : Shape) (cells draft : List Record) → (open_answer s cells draft ≡ granted) ↔ (Legal s × BothLong s cells draft)
  -- set where there is such a place and the two bounds are a cell; begin, post and withdraw over memory of the right lengths
  pub set_granted_exactly : (s : Shape) (k i : ℕ) (lower upper : ℤ) (cells : List Record) → (set_answer s k i lower upper cells ≡ granted) ↔ CanBeSet s k i lower upper cells
  pub begin_granted_exactly : (s : Shape) (cells : List Record) → (begin_answer s cells ≡ granted) ↔ (length cells ≡ s.rows * s.columns)
  pub close_granted_exactly : (s : Shape) (call : CallName) (k : ℕ) (cells draft : List Record) → (close_answer s call k cells draft ≡ granted) ↔ BothLong s cells draft
