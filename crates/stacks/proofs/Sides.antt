-- What each layer makes of a triangle, and so that the side which is named for a layer is the right one.
use Rattle.std.proofs.Common.{◌≡◌, ℕ, false, ◌==◌, Option, Some, None, ℤ, sym, subst, refl, arith}
use Rattle.std.proofs.lemmas.Bool.{cond_both}
use Rattle.std.proofs.lemmas.Bool.Decides.{nat_tests}
use Rattle.layouts.specs.declared.side.Side.{Side}
use Rattle.layouts.specs.declared.side.Side.TheVariants.{Lower, Upper}
use Rattle.layouts.specs.Layers.{transposed, triangle, unit_entry, unit_fit, unit_diagonal}
use Rattle.layouts.specs.Matrix.{Matrix, shaped, nothing}
use Rattle.layouts.specs.Sides.{on_side, opposite, IsTriangle}
use Rattle.stacks.specs.declared.layered.Layer.{Layer}
use Rattle.stacks.specs.declared.layered.Layer.TheVariants as layer
use Rattle.stacks.specs.Stacks.{layered, layered_side, IsAsNamed}

-- the transpose of a triangle is one of the opposite side
turned : (side : Side) (m : Matrix) → IsTriangle side m → IsTriangle (opposite side) (transposed m)
turned Lower m t = record { square = sym t.square; zero_beyond = λ i j h k e. t.zero_beyond j i k h e }
turned Upper m t = record { square = sym t.square; zero_beyond = λ i j h k e. t.zero_beyond j i k h e }

-- what the triangle layer leaves is a triangle
cut : (side : Side) (m : Matrix) → IsTriangle side (triangle side m)
cut side m = record { square = refl; zero_beyond = λ i j h k e. grind (arith, nat_tests) }

-- a place on the other side is not on the diagonal
apart : (side : Side) (i j : ℕ) → on_side side i j ≡ false → (i == j) ≡ false
apart Lower i j e = grind (arith, nat_tests)
apart Upper i j e = grind (arith, nat_tests)

-- ones on its diagonal leave a triangle one
with_ones : (side : Side) (u : ℤ) (m : Matrix) → IsTriangle side m → IsTriangle side (unit_diagonal u m)
with_ones side u m t = cond_both (unit_fit u) (shaped m.rows m.columns (unit_entry u m.entry)) nothing (IsTriangle side)
    (λ f. record {
      square = t.square;
      zero_beyond = λ i j h k e. grind (arith, nat_tests, apart side i j e, t.zero_beyond i j h k e);
    })
    (λ f. record { square = refl; zero_beyond = λ i j h k e. absurd (omega arith) })

-- what is so of one side is so of the side that is named
one : (m : Matrix) (side : Side) → IsTriangle side m → IsAsNamed (Some side) m
one m side t x e = let P : Side → Type 0 = λ s. IsTriangle s m in let same : side ≡ x = cc in subst P same t

-- the side that is named for a layer is the right one
named : (l : Layer) (below : Option Side) (m : Matrix) → IsAsNamed below m → IsAsNamed (layered_side l below) (layered l m)
named layer.Plain below m h = h
named layer.Transposed None m h = λ x e. cc
named layer.Transposed (Some side) m h = one (transposed m) (opposite side) (turned side m (h side refl))
named (layer.Symmetric side) below m h = λ x e. cc
named (layer.Triangle side) below m h = one (triangle side m) side (cut side m)
named (layer.Unit ones) below m h = one (unit_diagonal ones.unit (triangle ones.side m)) ones.side (with_ones ones.side ones.unit (triangle ones.side m) (cut ones.side m))

-- and so it is over a matrix n that is shown to be the same as m
pub named_over : (l : Layer) (below side : Option Side) (m n : Matrix) → side ≡ layered_side l below → IsAsNamed below m → n ≡ m → IsAsNamed side (layered l n)
named_over l below side m n e h same =
    let P : Option Side → Type 0 = λ s. IsAsNamed s (layered l n) in let Q : Matrix → Type 0 = λ k. IsAsNamed (layered_side l below) (layered l k) in
    subst P (sym e) (subst Q (sym same) (named l below m h))
