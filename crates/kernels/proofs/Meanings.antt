-- What a call over a layout answers and leaves depends on the matrix alone, and on no proof that it is sound.
use Rattle.std.proofs.Common.{ℕ, List, Result}
use Rattle.cells.specs.declared.cell.Record.{Record}
use Rattle.layouts.specs.declared.side.Side.{Side}
use Rattle.layouts.specs.Matrix.{Matrix, Sound}
use Rattle.sheet.specs.declared.shape.Shape.{Shape}
use Rattle.sheet.specs.declared.states.Drafted.{Drafted}
use Rattle.sheet.specs.declared.states.Refused.{Refused}
use Rattle.sheet.specs.Answers.{call_answer}
use Rattle.sheet.specs.Calls.{product, solve}
use Rattle.sheet.specs.Outcomes.{Calls, CallsOver}

pub any_product : (s : Shape) (m : Matrix) (k x : ℕ) (alpha beta : Record) (cells draft : List Record) (result : Result Drafted Refused) (draft' : List Record) (sound : Sound m)
    → CallsOver s m (λ l. product k x l alpha beta) cells draft result draft' → Calls s (product k x (record { matrix = m; sound = sound }) alpha beta) cells draft result draft'
unfolding call_answer
any_product s m k x alpha beta cells draft result draft' sound c = record { answers = c.calls.answers; leaves_draft = c.calls.leaves_draft; right_size = c.calls.right_size }

pub any_solve : (s : Shape) (m : Matrix) (k : ℕ) (side : Side) (alpha : Record) (cells draft : List Record) (result : Result Drafted Refused) (draft' : List Record) (sound : Sound m)
    → CallsOver s m (λ t. solve k side t alpha) cells draft result draft' → Calls s (solve k side (record { matrix = m; sound = sound }) alpha) cells draft result draft'
unfolding call_answer
any_solve s m k side alpha cells draft result draft' sound c = record { answers = c.calls.answers; leaves_draft = c.calls.leaves_draft; right_size = c.calls.right_size }
