use Rattle.std.proofs.Common.{inl, inr}
use Rattle.replay.proofs.stage.call_working.Goals as goal

-- a name that is not bound
pub returns-in-None : goal.returns-in-None
returns-in-None c = rw c.in-Product.is (inl (c.not_taken.ensures c.args.cells.now c.args.draft.now))

pub returns-in-Some : goal.returns-in-Some
returns-in-Some c = rw c.in-Product.is (inr (_, c.called-in-Some.ensures _ _ _ _ _ c.product.ensures.calls))

pub returns-in-None-get : goal.returns-in-None-get
returns-in-None-get c = rw c.in-Solve.is (inl (c.not_taken-in-None-get.ensures c.args.cells.now c.args.draft.now))

-- a layout that is not triangular
pub returns-in-None-triangle : goal.returns-in-None-triangle
returns-in-None-triangle c = rw c.in-Solve.is (inl (c.not_taken-in-None-triangle.ensures c.args.cells.now c.args.draft.now))

pub returns-in-Some-triangle : goal.returns-in-Some-triangle
returns-in-Some-triangle c = rw c.in-Solve.is (inr (_, _, c.called-in-Some-triangle.ensures _ _ _ _ _ c.solve.ensures.calls))

pub returns-in-Ok : goal.returns-in-Ok
returns-in-Ok c = rw c.in-Permute.is (inr (_, c.called-in-Ok.ensures _ _ _ _ _ c.permute.ensures))
