-- What an open tells of its answer.
use Rattle.std.proofs.Common.{◌≡◌, Ok, Err, refl}
use Rattle.sheet.specs.declared.refusal.Refusal.{Refusal}
use Rattle.sheet.specs.declared.shape.Shape.{Shape}
use Rattle.sheet.specs.Checks.{Answer, granted, refused}
use Rattle.sheet.specs.Outcomes.{shape_or}

pub open_granted : (s t : Shape) (a : Answer) → Ok t ≡ shape_or s a → a ≡ granted
open_granted s t granted e = refl
open_granted s t (refused q) e = cc

pub open_shape : (s t : Shape) (a : Answer) → Ok t ≡ shape_or s a → t ≡ s
open_shape s t granted e = cc
open_shape s t (refused q) e = cc

pub open_refused : (s : Shape) (r : Refusal) (a : Answer) → Err r ≡ shape_or s a → a ≡ refused r
open_refused s r granted e = cc
open_refused s r (refused q) e = cc
