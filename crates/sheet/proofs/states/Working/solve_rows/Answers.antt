use Rattle.std.proofs.Common.{rules, sym, refl, ap, ◌∙◌, subst, length, ℕ, ◌≤◌}
use Rattle.sheet.specs.Calls.{Meaning, solve}
use Rattle.sheet.proofs.Drafting.{turned_away, worked_out, column_rows, column_size, solve_new}
use Rattle.sheet.proofs.states.Working.solve_rows.Goals as goal

pub returns-in_err-check_solve : goal.returns-in_err-check_solve
returns-in_err-check_solve g c =
    let a = c.args in let t = a.layout.now in let l : Meaning = record { matrix = g.T.Layout.meaning t; sound = g.met.T.Layout.sound t } in
    let e = turned_away a.self.now.shape (solve a.k (g.T.Triangular.half t) l a.alpha) a.cells.now a.draft.now c.in_err-check_solve.field-0.0 (c.in_err-check_solve.ensures.answer l.sound a.alpha) in
    record { sound = l.sound; drafts = search rules }

pub invariant_of-solved : goal.invariant_of-solved
invariant_of-solved g c =
    let a = c.args in let t = a.layout.now in let l : Meaning = record { matrix = g.T.Layout.meaning t; sound = g.met.T.Layout.sound t } in
    let rows = ap length c.column.ensures ∙ column_rows a.self.now.shape (solve a.k (g.T.Triangular.half t) l a.alpha) a.cells.now a.draft.now a.k (c.in_ok-check_solve.ensures.answer l.sound a.alpha) c.in_ok-check_solve.ensures.passed.1 in
    record { room = subst (λ (n : ℕ). l.matrix.rows ≤ n) (sym rows) c.in_ok-check_solve.ensures.passed.2 }

pub work-requires : goal.work-requires
work-requires g c =
    let a = c.args in let t = a.layout.now in let l : Meaning = record { matrix = g.T.Layout.meaning t; sound = g.met.T.Layout.sound t } in
    column_size a.self.now.shape (solve a.k (g.T.Triangular.half t) l a.alpha) a.cells.now a.draft.now a.k (c.in_ok-check_solve.ensures.answer l.sound a.alpha) c.in_ok-check_solve.ensures.passed.1 ∙ ap length (sym c.column.ensures)

pub returns : goal.returns
returns g c =
    let a = c.args in let s = a.self.now.shape in let t = a.layout.now in let l : Meaning = record { matrix = g.T.Layout.meaning t; sound = g.met.T.Layout.sound t } in
    record {
      sound = l.sound;
      drafts = worked_out s (solve a.k (g.T.Triangular.half t) l a.alpha) a.cells.now a.draft.now _ _ c.work.result c.work.new.draft (c.in_ok-check_solve.ensures.answer l.sound a.alpha)
          (solve_new s a.k (g.T.Triangular.half t) l a.alpha a.cells.now c.column.result.now c.read.ensures c.column.ensures) refl c.work.ensures.answer c.work.ensures.left;
    }
