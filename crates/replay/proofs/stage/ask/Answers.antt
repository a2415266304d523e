use Rattle.std.proofs.Common.{refl}
use Rattle.replay.specs.Stages.{standing}
use Rattle.replay.proofs.Kept.{kept, still_fits, back_length}
use Rattle.replay.proofs.stage.ask.Goals as goal

-- the shape of the sheet stays, and so do the lengths of its memory

pub returns-in-None : goal.returns-in-None
returns-in-None c = still_fits _ _ c.args.memory.now.own.cells.items c.args.memory.now.own.draft.items _ _ (kept c.args.ask (standing c.args.stage) _ _ _ _ _ c.ask_of.ensures) (back_length _ _ c.args.memory.now.own.cells.items c.args.memory.now.own.cells.ok.0) (back_length _ _ c.args.memory.now.own.draft.items c.args.memory.now.own.draft.ok.0) c.requires

pub returns-in-true-true : goal.returns-in-true-true
returns-in-true-true c = still_fits _ _ c.args.memory.now.own.cells.items c.args.memory.now.own.draft.items _ _ (kept c.args.ask (standing c.args.stage) _ _ _ _ _ c.ask_of-in-true-true.ensures) (back_length _ _ c.args.memory.now.own.cells.items c.args.memory.now.own.cells.ok.0) (back_length _ _ c.args.memory.now.own.draft.items c.args.memory.now.own.draft.ok.0) c.requires

pub returns-in-true-false : goal.returns-in-true-false
returns-in-true-false c = still_fits _ _ c.args.memory.now.own.cells.items c.args.memory.now.own.draft.items _ _ (kept c.args.ask (standing c.args.stage) _ _ _ _ _ c.ask_of-in-true-false.ensures) (back_length _ _ c.args.memory.now.own.cells.items c.args.memory.now.own.cells.ok.0) refl c.requires

pub returns-in-false-true : goal.returns-in-false-true
returns-in-false-true c = still_fits _ _ c.args.memory.now.own.cells.items c.args.memory.now.own.draft.items _ _ (kept c.args.ask (standing c.args.stage) _ _ _ _ _ c.ask_of-in-false-true.ensures) refl (back_length _ _ c.args.memory.now.own.draft.items c.args.memory.now.own.draft.ok.0) c.requires

pub returns-in-false-false : goal.returns-in-false-false
returns-in-false-false c = still_fits _ _ c.args.memory.now.own.cells.items c.args.memory.now.own.draft.items _ _ (kept c.args.ask (standing c.args.stage) _ _ _ _ _ c.ask_of-in-false-false.ensures) refl refl c.requires
