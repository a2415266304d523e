-- The rows in working order, one step at a time. Assumes nothing.
use Rattle.std.proofs.Common.{◌≡◌, ℕ, ◌+◌, ◌-◌, ◌<◌, ◌≤◌, [], ◌∷◌, map, drop, refl, ap, ◌∙◌, arith}
use Rattle.std.specs.List.{range_with_len}
use Rattle.std.proofs.lemmas.List.FromFn.{length-map-range_with_len, get_or-map-range_with_len}
use Rattle.std.proofs.lemmas.List.{drop_more, drop_all}
use Rattle.layouts.specs.declared.side.Side.{Side}
use Rattle.layouts.specs.declared.side.Side.TheVariants.{Lower, Upper}
use Rattle.layouts.specs.Laws.{SolvedBefore}
use Rattle.layouts.specs.Orders.{row_at, rows_in_order}

pub rows_more : (side : Side) (n s : ℕ) → s < n → drop s (rows_in_order side n) ≡ row_at side n s ∷ drop (s + 1) (rows_in_order side n)
unfolding rows_in_order
rows_more side n s h =
    drop_more (map (row_at side n) (range_with_len 0 n)) s 0 (omega (arith, length-map-range_with_len (row_at side n) 0 n))
    ∙ ap (λ (i : ℕ). i ∷ drop (s + 1) (map (row_at side n) (range_with_len 0 n))) (get_or-map-range_with_len (row_at side n) 0 n s s 0 h (omega arith))

pub rows_done : (side : Side) (n s : ℕ) → n ≤ s → drop s (rows_in_order side n) ≡ []
unfolding rows_in_order
rows_done side n s h = drop_all s (map (row_at side n) (range_with_len 0 n)) (omega (arith, length-map-range_with_len (row_at side n) 0 n))

pub row_below : (side : Side) (n s : ℕ) → s < n → row_at side n s < n
row_below Lower n s h = h
row_below Upper n s h = omega arith

-- the rows that are solved before the row of a step are those of the steps before it
pub solved_earlier : (side : Side) (n s j : ℕ) → s < n → SolvedBefore side n (row_at side n s) j → (q : ℕ) × (q < s) × (row_at side n q ≡ j)
solved_earlier Lower n s j h b = (j, omega (arith, b.most), refl)
solved_earlier Upper n s j h b = (n - 1 - j, omega (arith, b.least, b.most), omega (arith, b.least, b.most))

pub earlier_solved : (side : Side) (n s q : ℕ) → s < n → q < s → SolvedBefore side n (row_at side n s) (row_at side n q)
earlier_solved Lower n s q h k = record { least = omega arith; most = omega arith }
earlier_solved Upper n s q h k = record { least = omega arith; most = omega arith }
