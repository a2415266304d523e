-- The sheet of a replay, in whatever state it is, in the words of the sheet's model, and the memory that fits it.
use Rattle.std.specs.Prelude.{◌≡◌, true, List, Option, Some, None}
use Rattle.cells.specs.declared.cell.Record.{Record}
use Rattle.replay.specs.declared.stage.Free.TheVariants.{Closed, Filling, Working}
use Rattle.replay.specs.declared.stage.Stage.{Stage}
use Rattle.replay.specs.declared.stage.Stage.TheVariants.{Free, Drafted}
use Rattle.sheet.specs.declared.shape.Shape.{Shape}
use Rattle.sheet.specs.Answers.{Stage as SheetStage, filling, working, drafted}
use Rattle.sheet.specs.Memory.{has_both}

-- the stage and the shape of a sheet
pub record Standing : Type 0 where
  pub stage : SheetStage
  pub shape : Shape

-- none while no sheet was opened
abbrev pub standing : Stage → Option Standing
standing (Free Closed) = None
standing (Free (Filling f)) = Some (record { stage = filling; shape = f.shape })
standing (Free (Working w)) = Some (record { stage = working; shape = w.shape })
standing (Drafted d) = Some (record { stage = drafted d.column; shape = d.shape })

abbrev pub shape_of : Option Standing → Option Shape
shape_of None = None
shape_of (Some s) = Some s.shape

-- the cells and the draft are as many as a sheet of this shape has
abbrev pub FitsShape : Option Shape → (cells draft : List Record) → Type 0
FitsShape None cells draft = Unit {0}
FitsShape (Some s) cells draft = has_both s cells draft ≡ true

abbrev pub Fits : Stage → (cells draft : List Record) → Type 0
Fits stage = FitsShape (shape_of (standing stage))
