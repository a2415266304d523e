-- The promises, from what each call owes.
use Rattle.std.proofs.Common.{refl}
use Rattle.cells.specs.Laws.{Laws}
use Rattle.sheet.specs.declared.shape.Shape.{Shape}
use Rattle.sheet.specs.Promises.{Promises}
use Rattle.sheet.specs.Shapes.{Legal}
use Rattle.sheet.proofs.Containing.{filled, contained}
use Rattle.sheet.proofs.Following.{every_choice, beside}
use Rattle.sheet.proofs.GoingOn.{going_on}
use Rattle.sheet.proofs.Keeping.{legal}
use Rattle.sheet.proofs.Nearing.{tight, close}
use Rattle.sheet.proofs.Nesting.{nested, second}
use Rattle.sheet.proofs.Owes.{Owes}
use Rattle.sheet.proofs.Standing.{fitting, posted_from, withdrawing_moves, draft_empty, starting}
use Rattle.sheet.proofs.Tellers.{meet_tells, hull_tells}

pub promises : Laws → ((s : Shape) → Legal s → Owes s) → Promises
promises laws owes = record {
  starts = starting;
  goes_on = going_on;
  keeps_length = λ s h stage cells draft r. fitting s (owes s (legal r)) r;
  stands_as_set = λ s h cells draft r. filled laws s (owes s (legal r)) r refl;
  keeps_draft_empty = λ s h stage cells draft r n. draft_empty s r n;
  post_moves_draft = λ s h cells draft stage after empty_draft r. posted_from s (owes s (legal r)) r;
  withdraw_moves_nothing = λ s h cells draft stage after empty_draft r. withdrawing_moves s r;
  contains = λ s h stage cells draft xs ys r x. let c = contained laws s (owes s (legal r)) r x in (c.columns_hold, c.draft_holds);
  close = λ s h call cells before stage after draft r. close laws s (owes s (legal r)) r;
  tight = λ s h call cells before stage after draft r. tight laws s (owes s (legal r)) r;
  isotone = λ s h h' stage stage' cells draft cells' draft' r r' own n.
      let m = nested laws s (owes s (legal r)) n r r' own in (m.nothing_refused, m.together, m.columns_inside, m.draft_inside);
  second_run = λ s h stage cells draft r asks start plan h' start' draft' supplied begun inside. second laws s (owes s (legal r)) plan r begun inside;
  beside = λ s h stage cells draft r g t. beside laws s (owes s (legal r)) r g t;
  every_choice = λ s h call cells before stage after draft r t xs ys x choice. every_choice laws s (owes s (legal r)) r t xs choice;
  meet_tells = meet_tells;
  hull_tells = hull_tells;
}
