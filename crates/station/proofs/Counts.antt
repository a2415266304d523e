-- How often the sheet is asked, where a box is stopped and where it is not. Assumes nothing.
use Rattle.std.proofs.Common.{◌≡◌, ℕ, suc, ◌+◌, List, Some, None, Option, refl, ap, ◌∙◌, arith}
use Rattle.std.specs.Prelude.{slice_index_or}
use Rattle.arithmetic.specs.Values.{Value}
use Rattle.cells.specs.Cells.{cell_at}
use Rattle.account.specs.declared.tally.Tally.{Tally}
use Rattle.station.specs.declared.stop.Stop.{Stop}
use Rattle.station.specs.declared.line.Junction.{Junction}
use Rattle.station.specs.Boxes.{dip_at}
use Rattle.station.specs.Counts.{set_call, tip_sets, tips_sets, no_box, of_boxes, posted_call, call_then, no_others}
use Rattle.station.specs.Stops.{or_else}

pub calls_to_the_end : (a b : Option Stop) (others : Tally → Tally) (t : Tally) → or_else a b ≡ None → call_then a (call_then b others) t ≡ others (posted_call (posted_call t))
calls_to_the_end None None others t e = refl
calls_to_the_end None (Some s) others t e = cc
calls_to_the_end (Some s) b others t e = cc

pub calls_to_the_stop : (a b : Option Stop) (s : Stop) (others : Tally → Tally) (t : Tally) → or_else a b ≡ Some s → call_then a (call_then b no_others) t ≡ call_then a (call_then b others) t
calls_to_the_stop None None s others t e = cc
calls_to_the_stop None (Some r) s others t e = refl
calls_to_the_stop (Some r) b s others t e = refl

-- the sets of a tip, by the cells that are set
pub sets_same : (reading offset dip : Value) (j : Junction) (row : ℕ) (t : Tally) → reading ≡ cell_at j.readings row → offset ≡ cell_at j.offsets row → dip ≡ dip_at j.dips row → set_call dip (set_call offset (set_call reading t)) ≡ tip_sets j row t
sets_same reading offset dip j row t a b c = rw (a, b, c) refl

-- none yet, one more tip, and one more box

pub no_tips : (j : Junction) (t : Tally) → tips_sets j 0 t ≡ t
unfolding tips_sets
no_tips j t = refl

pub no_boxes : (of_box : Junction → Tally → Tally) (dam : List Junction) (t : Tally) → of_boxes of_box dam 0 t ≡ t
unfolding of_boxes
no_boxes of_box dam t = refl

pub tips_more : (j : Junction) (n : ℕ) (t : Tally) → tips_sets j (n + 1) t ≡ tip_sets j n (tips_sets j n t)
unfolding tips_sets
tips_more j n t = let e : n + 1 ≡ suc n = omega arith in ap (λ k. tips_sets j k t) e

pub boxes_more : (of_box : Junction → Tally → Tally) (dam : List Junction) (n : ℕ) (here : Junction) (t : Tally) → ((j : Junction) → slice_index_or dam n j ≡ here) → of_boxes of_box dam (n + 1) t ≡ of_box here (of_boxes of_box dam n t)
unfolding of_boxes
boxes_more of_box dam n here t same =
    let e : n + 1 ≡ suc n = omega arith in ap (λ k. of_boxes of_box dam k t) e ∙ ap (λ b. of_box b (of_boxes of_box dam n t)) (same no_box)
