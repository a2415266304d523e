use Rattle.std.proofs.Common.{rules, sym, ap, ◌∙◌, subst, length, ℕ, ◌≤◌}
use Rattle.sheet.specs.Calls.{Meaning, product}
use Rattle.sheet.proofs.Drafting.{turned_away, worked_out, column_rows, column_size, rising, product_new}
use Rattle.sheet.proofs.states.Working.product_rows.Goals as goal

pub returns-in_err-check_product : goal.returns-in_err-check_product
returns-in_err-check_product g c =
    let a = c.args in let t = a.layout.now in let l : Meaning = record { matrix = g.L.Layout.meaning t; sound = g.met.L.Layout.sound t } in
    let e = turned_away a.self.now.shape (product a.k a.x l a.alpha a.beta) a.cells.now a.draft.now c.in_err-check_product.field-0.0 (c.in_err-check_product.ensures.answer l.sound a.alpha a.beta) in
    record { sound = l.sound; drafts = search rules }

pub invariant_of-multiplied : goal.invariant_of-multiplied
invariant_of-multiplied g c =
    let a = c.args in let t = a.layout.now in let l : Meaning = record { matrix = g.L.Layout.meaning t; sound = g.met.L.Layout.sound t } in
    let rows = ap length c.column.ensures ∙ column_rows a.self.now.shape (product a.k a.x l a.alpha a.beta) a.cells.now a.draft.now a.k (c.in_ok-check_product.ensures.answer l.sound a.alpha a.beta) c.in_ok-check_product.ensures.passed.1 in
    record { room = subst (λ (n : ℕ). l.matrix.rows ≤ n) (sym rows) c.in_ok-check_product.ensures.passed.3 }

pub work-requires : goal.work-requires
work-requires g c =
    let a = c.args in let t = a.layout.now in let l : Meaning = record { matrix = g.L.Layout.meaning t; sound = g.met.L.Layout.sound t } in
    column_size a.self.now.shape (product a.k a.x l a.alpha a.beta) a.cells.now a.draft.now a.k (c.in_ok-check_product.ensures.answer l.sound a.alpha a.beta) c.in_ok-check_product.ensures.passed.1 ∙ ap length (sym c.column.ensures)

pub returns : goal.returns
returns g c =
    let a = c.args in let s = a.self.now.shape in let t = a.layout.now in let l : Meaning = record { matrix = g.L.Layout.meaning t; sound = g.met.L.Layout.sound t } in
    record {
      sound = l.sound;
      drafts = worked_out s (product a.k a.x l a.alpha a.beta) a.cells.now a.draft.now _ _ c.work.result c.work.new.draft (c.in_ok-check_product.ensures.answer l.sound a.alpha a.beta)
          (product_new s a.k a.x l a.alpha a.beta a.cells.now c.column.result.now c.of.result.run.now c.factors.ensures.scale c.factors.ensures.alpha c.factors.ensures.beta c.column.ensures (c.of.ensures ∙ c.column-2.ensures)) (rising l.matrix.rows) c.work.ensures.answer c.work.ensures.left;
    }
