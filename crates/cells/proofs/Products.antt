-- The least and the greatest of four products, once they are told as numbers, are no larger than the bounds allow. Assumes nothing.
use Rattle.std.proofs.Common.{◌≡◌, ℕ, ◌*◌, ℤ, sym, ap, ◌∙◌, subst}
use Rattle.arithmetic.specs.Four.{least, greatest, products}
use Rattle.arithmetic.specs.Values.{Value, bounds, times, Small}
use Rattle.arithmetic.proofs.Sizes.{small_times}

module _ (a b c d l g : ℤ) (el : l ≡ least (products a b c d)) (eg : g ≡ greatest (products a b c d)) where
  told : bounds l g ≡ times (bounds a b) (bounds c d)
  told = ap (λ (z : ℤ). bounds z g) el ∙ ap (bounds (least (products a b c d))) eg

  pub product_small : (m n : ℕ) → Small m (bounds a b) → Small n (bounds c d) → Small (m * n) (bounds l g)
  product_small m n h k = let P : Value → Type 0 = Small (m * n) in subst P (sym told) (small_times m n (bounds a b) (bounds c d) h k)
