-- A layout that owns its run: what it means, and the side that it is known to have.
use Rattle.std.specs.Prelude.{Option}
use Rattle.layouts.specs.declared.side.Side.{Side}
use Rattle.layouts.specs.Matrix.{Matrix}
use Rattle.stacks.specs.declared.shared_stack.SharedStack.{SharedStack}
use Rattle.stacks.specs.Stacks.{read_by, stacked}

-- what its layers mean over what its scheme reads of the run
abbrev pub meaning_of : SharedStack → Matrix
meaning_of s = stacked s.layers (read_by s.scheme s.run.value.items)

abbrev pub side_of : SharedStack → Option Side
side_of s = s.side
