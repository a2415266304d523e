-- Whatever the open sheet is asked, its shape stays.
use Rattle.std.proofs.Common.{◌≡◌, ◌∙◌, ap, arith, ℕ, ◌+◌, ◌-◌, length, take, drop, ◌++◌, Bool, true, false, cond, List, Option, Some, None, inl, inr}
use Rattle.std.proofs.lemmas.List.{length-append, length-drop, length-take-le}
use Rattle.cells.specs.declared.cell.Record.{Record}
use Rattle.replay.specs.Asks.{takes, Taken, Undone, Asked, LineCalled, CalledAt, CallAsked, AskedOf}
use Rattle.replay.specs.Stages.{Standing, standing, shape_of, FitsShape}
use Rattle.replay.specs.declared.answer.Answer.TheVariants.{NotTaken}
use Rattle.replay.specs.declared.stage.Left.{Left}
use Rattle.script.specs.declared.line.Ask.{Ask as LineAsk}
use Rattle.script.specs.declared.line.Ask.TheVariants as ask
use Rattle.script.specs.declared.line.Call.{Call as Line}
use Rattle.script.specs.declared.line.Call.TheVariants.{Dot, Sum, Blend, Product, Solve, Join, Copy, Permute}
use Rattle.script.specs.declared.line.Rule.TheVariants.{Meet, Hull}
use Rattle.sheet.specs.declared.shape.Shape.{Shape}
use Rattle.sheet.specs.Answers.{Stage, filling, working, drafted, Ask}

asked_kept : (s : Option Standing) (a : Ask) (cells draft : List Record) (left : Left) (cells' draft' : List Record) → Asked s a cells draft left cells' draft' → shape_of (standing left.stage) ≡ shape_of s
asked_kept None a cells draft left cells' draft' h = ap shape_of h.stands
asked_kept (Some s) a cells draft left cells' draft' h = by (takes s.stage a) h
  where
    by : (t : Bool) → cond t (Taken s a cells draft left cells' draft') (Undone NotTaken (Some s) cells draft left cells' draft') → shape_of (standing left.stage) ≡ Some s.shape
    by true done = ap shape_of done.stands
    by false undone = ap shape_of undone.stands

line_kept : (line : Line) (s : Shape) (cells draft : List Record) (left : Left) (draft' : List Record) → LineCalled line s cells draft left draft' → shape_of (standing left.stage) ≡ Some s
line_kept (Dot k i x y alpha beta) s cells draft left draft' h = ap shape_of h.stands
line_kept (Sum k i x) s cells draft left draft' h = ap shape_of h.stands
line_kept (Blend k x alpha beta) s cells draft left draft' h = ap shape_of h.stands
line_kept (Product k x name alpha beta) s cells draft left draft' (inl h) = ap shape_of h.stands
line_kept (Product k x name alpha beta) s cells draft left draft' (inr h) = ap shape_of h.1.stands
line_kept (Solve k name alpha) s cells draft left draft' (inl h) = ap shape_of h.stands
line_kept (Solve k name alpha) s cells draft left draft' (inr h) = ap shape_of h.2.stands
line_kept (Join k x Meet) s cells draft left draft' h = ap shape_of h.stands
line_kept (Join k x Hull) s cells draft left draft' h = ap shape_of h.stands
line_kept (Copy k x) s cells draft left draft' h = ap shape_of h.stands
line_kept (Permute k order) s cells draft left draft' (inl h) = ap shape_of h.stands
line_kept (Permute k order) s cells draft left draft' (inr h) = ap shape_of h.1.stands

call_kept : (s : Option Standing) (line : Line) (cells draft : List Record) (left : Left) (draft' : List Record) → CallAsked s line cells draft left draft' → shape_of (standing left.stage) ≡ shape_of s
call_kept None line cells draft left draft' h = ap shape_of h.stands
call_kept (Some s) line cells draft left draft' h = by s.stage h
  where
    by : (stage : Stage) → CalledAt stage s line cells draft left draft' → shape_of (standing left.stage) ≡ Some s.shape
    by filling undone = ap shape_of undone.stands
    by working called = line_kept line s.shape cells draft left draft' called
    by (drafted k) undone = ap shape_of undone.stands

pub kept : (a : LineAsk) (s : Option Standing) (cells draft : List Record) (left : Left) (cells' draft' : List Record) → AskedOf a s cells draft left cells' draft' → shape_of (standing left.stage) ≡ shape_of s
kept (ask.Set k i bounds) s cells draft left cells' draft' h = asked_kept s _ cells draft left cells' draft' h
kept ask.Begin s cells draft left cells' draft' h = asked_kept s _ cells draft left cells' draft' h
kept (ask.Call line) s cells draft left cells' draft' h = call_kept s line cells draft left draft' h.0
kept ask.Post s cells draft left cells' draft' h = asked_kept s _ cells draft left cells' draft' h
kept ask.Withdraw s cells draft left cells' draft' h = asked_kept s _ cells draft left cells' draft' h
kept (ask.Question question) s cells draft left cells' draft' h = ap shape_of h.stands

-- memory that fits a shape goes on to fit it, whatever is written there
pub still_fits : (s s' : Option Shape) (cells draft cells' draft' : List Record) → s' ≡ s → length cells' ≡ length cells → length draft' ≡ length draft → FitsShape s cells draft → FitsShape s' cells' draft'
still_fits None s' cells draft cells' draft' e lc ld h = rw e h
still_fits (Some s) s' cells draft cells' draft' e lc ld h = rw (e, lc, ld) h

-- a part of memory that was lent and comes back: the whole is as long as it was
pub back_length : (n : ℕ) (part whole : List Record) → n ≡ length whole → length (take n (part ++ drop (length part) whole)) ≡ length whole
back_length n part whole e =
    let all : length (part ++ drop (length part) whole) ≡ length part + (length whole - length part) = length-append part _ ∙ ap (λ k. length part + k) (length-drop (length part) whole) in
    length-take-le n _ (omega (arith, e, all)) ∙ e
