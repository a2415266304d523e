-- What the layouts that are chosen while a program runs mean: what the storage and the layers mean that were chosen.
use Rattle.std.specs.Prelude.{◌≡◌, Bool, false, List, [], ◌∷◌, Option, Some, None}
use Rattle.std.specs.Option.{option_map, ForSome}
use Rattle.cells.specs.declared.cell.Record.{Record}
use Rattle.layouts.specs.Layers.{transposed, transposed_sound, symmetric, symmetric_sound, triangle, triangle_sound, unit_diagonal, unit_sound}
use Rattle.layouts.specs.declared.side.Side.{Side}
use Rattle.layouts.specs.Matrix.{Matrix, Sound, nothing}
use Rattle.layouts.specs.Sides.{opposite, IsTriangle}
use Rattle.layouts.specs.Stored.{dense, dense_sound, dense_fit, dense_unfit, band, band_sound, band_fit, band_unfit, packed, packed_sound, packed_fit, packed_unfit}
use Rattle.stacks.specs.declared.layered.Layer.{Layer}
use Rattle.stacks.specs.declared.layered.Layer.TheVariants as layer
use Rattle.stacks.specs.declared.storage.Scheme.{Scheme}
use Rattle.stacks.specs.declared.storage.Scheme.TheVariants as scheme
use Rattle.stacks.specs.declared.storage.Storage.{Storage}
use Rattle.stacks.specs.declared.storage.Storage.TheVariants.{Dense, Band, Packed}

-- ---- the storage

abbrev pub stored : Storage → Matrix
stored (Dense d) = dense d.run.now d.rows d.columns d.stride
stored (Band d) = band d.run.now d.rows d.columns d.below d.above d.stride
stored (Packed d) = packed d.run.now d.side d.n

abbrev pub stored_fit : Storage → Bool
stored_fit (Dense d) = dense_fit d.run.now d.rows d.columns d.stride
stored_fit (Band d) = band_fit d.run.now d.rows d.columns d.below d.above d.stride
stored_fit (Packed d) = packed_fit d.run.now d.n

pub stored_sound : (s : Storage) → Sound (stored s)
stored_sound (Dense d) = dense_sound d.run.now d.rows d.columns d.stride
stored_sound (Band d) = band_sound d.run.now d.rows d.columns d.below d.above d.stride
stored_sound (Packed d) = packed_sound d.run.now d.side d.n

pub stored_unfit : (s : Storage) → stored_fit s ≡ false → stored s ≡ nothing
stored_unfit (Dense d) e = dense_unfit d.run.now d.rows d.columns d.stride e
stored_unfit (Band d) e = band_unfit d.run.now d.rows d.columns d.below d.above d.stride e
stored_unfit (Packed d) e = packed_unfit d.run.now d.side d.n e

abbrev pub read_by : Scheme → List Record → Matrix
read_by (scheme.Dense rows columns stride) run = dense run rows columns stride
read_by (scheme.Band rows columns below above stride) run = band run rows columns below above stride
read_by (scheme.Packed side n) run = packed run side n

-- ---- the layers

abbrev pub layered : Layer → Matrix → Matrix
layered layer.Plain m = m
layered layer.Transposed m = transposed m
layered (layer.Symmetric side) m = symmetric side m
layered (layer.Triangle side) m = triangle side m
layered (layer.Unit ones) m = unit_diagonal ones.unit (triangle ones.side m)

pub layered_sound : (l : Layer) (m : Matrix) → Sound m → Sound (layered l m)
layered_sound layer.Plain m s = s
layered_sound layer.Transposed m s = transposed_sound m s
layered_sound (layer.Symmetric side) m s = symmetric_sound side m s
layered_sound (layer.Triangle side) m s = triangle_sound side m s
layered_sound (layer.Unit ones) m s = unit_sound ones.unit (triangle ones.side m) (triangle_sound ones.side m s)

-- layer upon layer, the first lowest
abbrev pub stacked : List Layer → Matrix → Matrix
stacked [] m = m
stacked (l ∷ ls) m = stacked ls (layered l m)

-- ---- the side that is named for a layout which is known to be triangular

abbrev pub stored_side : Scheme → Option Side
stored_side (scheme.Dense rows columns stride) = None
stored_side (scheme.Band rows columns below above stride) = None
stored_side (scheme.Packed side n) = Some side

-- by the layer and the side that is named for what lies below it
abbrev pub layered_side : Layer → Option Side → Option Side
layered_side layer.Plain below = below
layered_side layer.Transposed below = option_map opposite below
layered_side (layer.Symmetric side) below = None
layered_side (layer.Triangle side) below = Some side
layered_side (layer.Unit ones) below = Some ones.side

-- where a side is named, the matrix is that triangle
abbrev pub IsAsNamed : Option Side → Matrix → Type 0
IsAsNamed named m = ForSome named (λ side. IsTriangle side m)
