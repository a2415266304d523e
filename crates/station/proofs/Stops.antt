-- What it tells that a box is stopped, or that it is not. Assumes the laws of cells, where they are named.
use Rattle.std.proofs.Common.{◌≡◌, ℕ, zero, suc, ◌<◌, Bool, true, false, [], ◌∷◌, Some, None, Ok, Err, Option, Result, ◌⊎◌, inl, inr, sym, refl, ap, subst, ◌∙◌, arith}
use Rattle.std.specs.Prelude.{IfErr}
use Rattle.arithmetic.specs.Values.{Value, Ordered}
use Rattle.rounding.specs.declared.fault.RoundingFault.{RoundingFault}
use Rattle.cells.specs.declared.cell.Record.{Record}
use Rattle.cells.specs.declared.fault.CellFault.{CellFault}
use Rattle.cells.specs.Cells.{IsCell}
use Rattle.cells.specs.Faults.{kept, in_row}
use Rattle.cells.specs.Laws as cells
use Rattle.cells.specs.Quotients.{zero_in}
use Rattle.layouts.specs.declared.side.Side.TheVariants.{Lower}
use Rattle.layouts.specs.Matrix.{Matrix}
use Rattle.layouts.specs.Orders.{rows_in_order, first_zero}
use Rattle.station.specs.declared.line.Junction.{Junction}
use Rattle.station.specs.declared.stop.Stop.{Stop}
use Rattle.station.specs.declared.stop.Stop.TheVariants as stop
use Rattle.station.specs.Pressures.{calibrated, factors, pressure}
use Rattle.station.specs.Stops.{fault_of, or_else, first_past, stops_at_bound, stops_at_zero, solve_stop, box_stop, left_by, stop_row}
use Rattle.station.proofs.Calls.{rising}

-- ---- nothing is told where each of the parts tells nothing, and nowhere else

pub or_else_none : {T : Type 0} (a b : Option T) → or_else a b ≡ None → (a ≡ None) × (b ≡ None)
or_else_none None b e = (refl, e)
or_else_none (Some x) b e = cc

pub none_of_three : (v : ℕ → Value) → first_past v ≡ None → (row : ℕ) → row < 3 → fault_of (in_row row (kept (v row))) ≡ None
none_of_three v e zero h = (or_else_none (fault_of (in_row 0 (kept (v 0)))) (or_else (fault_of (in_row 1 (kept (v 1)))) (fault_of (in_row 2 (kept (v 2))))) e).0
none_of_three v e (suc zero) h =
    let rest = (or_else_none (fault_of (in_row 0 (kept (v 0)))) (or_else (fault_of (in_row 1 (kept (v 1)))) (fault_of (in_row 2 (kept (v 2))))) e).1 in
    (or_else_none (fault_of (in_row 1 (kept (v 1)))) (fault_of (in_row 2 (kept (v 2)))) rest).0
none_of_three v e (suc (suc zero)) h =
    let rest = (or_else_none (fault_of (in_row 0 (kept (v 0)))) (or_else (fault_of (in_row 1 (kept (v 1)))) (fault_of (in_row 2 (kept (v 2))))) e).1 in
    (or_else_none (fault_of (in_row 1 (kept (v 1)))) (fault_of (in_row 2 (kept (v 2)))) rest).1
none_of_three v e (suc (suc (suc row))) h = absurd (omega (arith, h))

pub unfaulted : (laws : cells.Laws) (row : ℕ) (v : Value) → Ordered v → fault_of (in_row row (kept v)) ≡ None → IsCell v
unfaulted laws row v o = go (kept v) refl
  where
    go : (q : Result Record RoundingFault) → kept v ≡ q → fault_of (in_row row q) ≡ None → IsCell v
    go (Ok r) e h = (laws.kept_is v r o e).0
    go (Err f) e h = cc

pub all_cells : (laws : cells.Laws) (v : ℕ → Value) → ((row : ℕ) → row < 3 → Ordered (v row)) → first_past v ≡ None → (row : ℕ) → row < 3 → IsCell (v row)
all_cells laws v o e row h = unfaulted laws row (v row) (o row h) (none_of_three v e row h)

-- cells are kept, so none of them has a bound past the limit
pub none_past : (laws : cells.Laws) (v : ℕ → Value) → ((row : ℕ) → row < 3 → IsCell (v row)) → first_past v ≡ None
none_past laws v c = rw (laws.kept_cell (v 0) (c 0 (omega arith)), laws.kept_cell (v 1) (c 1 (omega arith)), laws.kept_cell (v 2) (c 2 (omega arith))) refl

pub first_past_same : (v w : ℕ → Value) → ((row : ℕ) → row < 3 → v row ≡ w row) → first_past v ≡ first_past w
first_past_same v w same = rw (same 0 (omega arith), same 1 (omega arith), same 2 (omega arith)) refl

-- ---- the diagonal

some_none : (row : ℕ) → ◌≡◌ {A = Option ℕ} (Some row) None → ⊥
some_none row e = cc

three_zeros : (m : Matrix) → first_zero m (rows_in_order Lower 3) ≡ first_zero m (0 ∷ (1 ∷ (2 ∷ [])))
three_zeros m = ap (first_zero m) rising

pub none_zero : (m : Matrix) → first_zero m (rows_in_order Lower 3) ≡ None → (row : ℕ) → row < 3 → zero_in (m.entry row row) ≡ false
none_zero m e = go (zero_in (m.entry 0 0)) (zero_in (m.entry 1 1)) (zero_in (m.entry 2 2)) refl refl refl (sym (three_zeros m) ∙ e)
  where
    go : (a b c : Bool) → zero_in (m.entry 0 0) ≡ a → zero_in (m.entry 1 1) ≡ b → zero_in (m.entry 2 2) ≡ c → first_zero m (0 ∷ (1 ∷ (2 ∷ []))) ≡ None → (row : ℕ) → row < 3 → zero_in (m.entry row row) ≡ false
    go true b c p q r f row h = absurd (some_none 0 (rw p at f))
    go false true c p q r f row h = absurd (some_none 1 (rw (p, q) at f))
    go false false true p q r f row h = absurd (some_none 2 (rw (p, q, r) at f))
    go false false false p q r f zero h = p
    go false false false p q r f (suc zero) h = q
    go false false false p q r f (suc (suc zero)) h = r
    go false false false p q r f (suc (suc (suc row))) h = absurd (omega (arith, h))

pub no_zeros : (m : Matrix) → ((row : ℕ) → row < 3 → zero_in (m.entry row row) ≡ false) → first_zero m (rows_in_order Lower 3) ≡ None
no_zeros m z = three_zeros m ∙ rw (z 0 (omega arith), z 1 (omega arith), z 2 (omega arith)) refl

-- ---- where a box is stopped, the row is one of its three

fault_row : (row : ℕ) (v : Value) → row < 3 → stop_row (stops_at_bound (fault_of (in_row row (kept v)))) < 3
fault_row row v h = go (kept v)
  where
    go : (q : Result Record RoundingFault) → stop_row (stops_at_bound (fault_of (in_row row q))) < 3
    go (Ok r) = omega arith
    go (Err f) = h

either_row : (a b : Option CellFault) → stop_row (stops_at_bound a) < 3 → stop_row (stops_at_bound b) < 3 → stop_row (stops_at_bound (or_else a b)) < 3
either_row None b x y = y
either_row (Some f) b x y = x

past_row : (v : ℕ → Value) → stop_row (stops_at_bound (first_past v)) < 3
past_row v =
    either_row (fault_of (in_row 0 (kept (v 0)))) (or_else (fault_of (in_row 1 (kept (v 1)))) (fault_of (in_row 2 (kept (v 2))))) (fault_row 0 (v 0) (omega arith))
    (either_row (fault_of (in_row 1 (kept (v 1)))) (fault_of (in_row 2 (kept (v 2)))) (fault_row 1 (v 1) (omega arith)) (fault_row 2 (v 2) (omega arith)))

zero_row : (m : Matrix) → stop_row (stops_at_zero (first_zero m (rows_in_order Lower 3))) < 3
zero_row m = rw (three_zeros m) (go (zero_in (m.entry 0 0)) (zero_in (m.entry 1 1)) (zero_in (m.entry 2 2)) refl refl refl)
  where
    go : (a b c : Bool) → zero_in (m.entry 0 0) ≡ a → zero_in (m.entry 1 1) ≡ b → zero_in (m.entry 2 2) ≡ c → stop_row (stops_at_zero (first_zero m (0 ∷ (1 ∷ (2 ∷ []))))) < 3
    go true b c p q r = rw p (omega arith)
    go false true c p q r = rw (p, q) (omega arith)
    go false false true p q r = rw (p, q, r) (omega arith)
    go false false false p q r = rw (p, q, r) (omega arith)

either_stop : (a b : Option Stop) → stop_row a < 3 → stop_row b < 3 → stop_row (or_else a b) < 3
either_stop None b x y = y
either_stop (Some f) b x y = x

pub row_of_box : (j : Junction) → stop_row (box_stop j) < 3
row_of_box j =
    either_stop (stops_at_bound (first_past (calibrated j))) (solve_stop j) (past_row (calibrated j))
    (either_stop (stops_at_zero (first_zero (factors j) (rows_in_order Lower 3))) (stops_at_bound (first_past (pressure j))) (zero_row (factors j)) (past_row (pressure j)))

-- ---- a box that is not stopped

pub zero_none : (o : Option ℕ) → stops_at_zero o ≡ None → o ≡ None
zero_none None e = refl
zero_none (Some row) e = cc

-- ---- what is left in the column of a stopped box

pub left_offset : (o : Option CellFault) (s : Stop) (offset shown : Value) → Some s ≡ stops_at_bound o → left_by o offset shown ≡ offset
left_offset None s offset shown e = cc
left_offset (Some f) s offset shown e = refl

pub left_shown : (o : Option CellFault) (offset shown : Value) → None ≡ stops_at_bound o → left_by o offset shown ≡ shown
left_shown None offset shown e = refl
left_shown (Some f) offset shown e = cc

pub where_err : {T E : Type 0} (P Q : Type 0) (r : Result T E) → (P → Q) → IfErr r (λ e. P) → IfErr r (λ e. Q)
where_err P Q (Ok t) f p = p
where_err P Q (Err e) f p = f p

pub on_err : {T E : Type 0} (P : Type 0) (r : Result T E) → P → IfErr r (λ e. P)
on_err P (Ok t) p = tt
on_err P (Err e) p = p

-- ---- a box that is stopped at a bound: no cell holds what is worked out at that row

some_of : {T : Type 0} (a b : Option T) (x : T) → or_else a b ≡ Some x → (a ≡ Some x) ⊎ (b ≡ Some x)
some_of None b x e = inr e
some_of (Some y) b x e = inl e

fault_here : (laws : cells.Laws) (row : ℕ) (v : Value) (f : CellFault) → fault_of (in_row row (kept v)) ≡ Some f → (f.row ≡ row) × (IsCell v → ⊥)
fault_here laws row v f = go (kept v) refl
  where
    go : (q : Result Record RoundingFault) → kept v ≡ q → fault_of (in_row row q) ≡ Some f → (f.row ≡ row) × (IsCell v → ⊥)
    go (Ok r) e h = cc
    go (Err g) e h =
        let same : ◌≡◌ {A = CellFault} (record { row = row; rounding = g }) f = cc in
        (sym (ap (λ (x : CellFault). x.row) same), λ c. let k = laws.kept_cell v c in let z : ◌≡◌ {A = ℕ} 0 1 = cc in absurd (omega arith))

pub past_here : (laws : cells.Laws) (v : ℕ → Value) (f : CellFault) → first_past v ≡ Some f → IsCell (v f.row) → ⊥
past_here laws v f e c = by (some_of (fault_of (in_row 0 (kept (v 0)))) (or_else (fault_of (in_row 1 (kept (v 1)))) (fault_of (in_row 2 (kept (v 2))))) f e)
  where
    at : (row : ℕ) → fault_of (in_row row (kept (v row))) ≡ Some f → ⊥
    at row h = let here = fault_here laws row (v row) f h in let P : ℕ → Type 0 = λ k. IsCell (v k) in here.1 (subst P here.0 c)

    by : (fault_of (in_row 0 (kept (v 0))) ≡ Some f) ⊎ (or_else (fault_of (in_row 1 (kept (v 1)))) (fault_of (in_row 2 (kept (v 2)))) ≡ Some f) → ⊥
    by (inl h) = at 0 h
    by (inr h) = rest (some_of (fault_of (in_row 1 (kept (v 1)))) (fault_of (in_row 2 (kept (v 2)))) f h)
      where
        rest : (fault_of (in_row 1 (kept (v 1))) ≡ Some f) ⊎ (fault_of (in_row 2 (kept (v 2))) ≡ Some f) → ⊥
        rest (inl g) = at 1 g
        rest (inr g) = at 2 g

bound_some : (o : Option CellFault) (f : CellFault) → stops_at_bound o ≡ Some (stop.BeyondLimit f) → o ≡ Some f
bound_some None f e = cc
bound_some (Some g) f e = cc

zero_no_bound : (z : Option ℕ) (f : CellFault) → stops_at_zero z ≡ Some (stop.BeyondLimit f) → ⊥
zero_no_bound None f e = cc
zero_no_bound (Some row) f e = cc

pub box_bound : (j : Junction) (f : CellFault) → box_stop j ≡ Some (stop.BeyondLimit f) → (first_past (calibrated j) ≡ Some f) ⊎ (first_past (pressure j) ≡ Some f)
box_bound j f e = by (some_of (stops_at_bound (first_past (calibrated j))) (solve_stop j) (stop.BeyondLimit f) e)
  where
    by : (stops_at_bound (first_past (calibrated j)) ≡ Some (stop.BeyondLimit f)) ⊎ (solve_stop j ≡ Some (stop.BeyondLimit f)) → (first_past (calibrated j) ≡ Some f) ⊎ (first_past (pressure j) ≡ Some f)
    by (inl h) = inl (bound_some (first_past (calibrated j)) f h)
    by (inr h) = rest (some_of (stops_at_zero (first_zero (factors j) (rows_in_order Lower 3))) (stops_at_bound (first_past (pressure j))) (stop.BeyondLimit f) h)
      where
        rest : (stops_at_zero (first_zero (factors j) (rows_in_order Lower 3)) ≡ Some (stop.BeyondLimit f)) ⊎ (stops_at_bound (first_past (pressure j)) ≡ Some (stop.BeyondLimit f))
            → (first_past (calibrated j) ≡ Some f) ⊎ (first_past (pressure j) ≡ Some f)
        rest (inl g) = absurd (zero_no_bound (first_zero (factors j) (rows_in_order Lower 3)) f g)
        rest (inr g) = inr (bound_some (first_past (pressure j)) f g)

pub not_held : (laws : cells.Laws) (j : Junction) (f : CellFault) → box_stop j ≡ Some (stop.BeyondLimit f) → IsCell (calibrated j f.row) × IsCell (pressure j f.row) → ⊥
not_held laws j f e held = by (box_bound j f e)
  where
    by : (first_past (calibrated j) ≡ Some f) ⊎ (first_past (pressure j) ≡ Some f) → ⊥
    by (inl h) = past_here laws (calibrated j) f h held.0
    by (inr h) = past_here laws (pressure j) f h held.1
