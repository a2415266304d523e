-- What layer upon layer keeps: a matrix, and all of it where the lowest layer is plain.
use Rattle.std.proofs.Common.{◌≡◌, List, [], ◌∷◌, length, get_or, ap, ◌∙◌, refl, arith}
use Rattle.cells.specs.declared.cell.Record.{Record}
use Rattle.layouts.specs.Matrix.{Matrix, Sound}
use Rattle.layouts.specs.Stored.{dense_sound, band_sound, packed_sound}
use Rattle.stacks.specs.declared.layered.Layer.{Layer}
use Rattle.stacks.specs.declared.layered.Layer.TheVariants as layer
use Rattle.stacks.specs.declared.shared_stack.SharedStack.{SharedStack}
use Rattle.stacks.specs.declared.storage.Scheme.{Scheme}
use Rattle.stacks.specs.declared.storage.Scheme.TheVariants as scheme
use Rattle.stacks.specs.Shared.{meaning_of}
use Rattle.stacks.specs.Stacks.{read_by, layered, layered_sound, stacked}

scheme_sound : (k : Scheme) (run : List Record) → Sound (read_by k run)
scheme_sound (scheme.Dense rows columns stride) run = dense_sound run rows columns stride
scheme_sound (scheme.Band rows columns below above stride) run = band_sound run rows columns below above stride
scheme_sound (scheme.Packed side n) run = packed_sound run side n

stacked_sound : (ls : List Layer) (m : Matrix) → Sound m → Sound (stacked ls m)
stacked_sound [] m s = s
stacked_sound (l ∷ ls) m s = stacked_sound ls (layered l m) (layered_sound l m s)

pub meaning_sound : (s : SharedStack) → Sound (meaning_of s)
meaning_sound s = stacked_sound s.layers (read_by s.scheme s.run.value.items) (scheme_sound s.scheme s.run.value.items)

-- four layers, one by one
four_layers : (ls : List Layer) (m : Matrix) → length ls ≡ 4 → layered (get_or ls 3 layer.Plain) (layered (get_or ls 2 layer.Plain) (layered (get_or ls 1 layer.Plain) (layered (get_or ls 0 layer.Plain) m))) ≡ stacked ls m
four_layers (a ∷ b ∷ c ∷ d ∷ []) m e = refl
four_layers [] m e = absurd (omega arith)
four_layers (a ∷ []) m e = absurd (omega arith)
four_layers (a ∷ b ∷ []) m e = absurd (omega arith)
four_layers (a ∷ b ∷ c ∷ []) m e = absurd (omega arith)
four_layers (a ∷ b ∷ c ∷ d ∷ e ∷ ls) m h = absurd (omega arith)

-- a lowest layer that is plain does nothing
pub lowest_plain : (ls : List Layer) (m n : Matrix) → length ls ≡ 4 → get_or ls 0 layer.Plain ≡ layer.Plain → n ≡ m
    → layered (get_or ls 3 layer.Plain) (layered (get_or ls 2 layer.Plain) (layered (get_or ls 1 layer.Plain) n)) ≡ stacked ls m
lowest_plain ls m n four low same = let e = four_layers ls n four in rw low at e ∙ ap (stacked ls) same
