use mathlib.Core.Path.{sym, ap₂, ◌∙◌, subst}
use mathlib.Core.Bool.{Bool, ◌||◌, cond}
use mathlib.Core.List.{[], ◌∷◌}
use Prim.Native.Nat.{ℕ}
use Rattle.checker_account.specs.Tables.{◌by◌by◌with◌}
use Rattle.checker_tables.proofs.EnterLaws.{enters-both, enters-as}
use Rattle.checker_account.specs.Tables.{fresh_arrivals}
use Rattle.checker_account.specs.Tables.{forgotten_in, first_named_lem, second_named_lem, over, row_on, rows_in, first_created_lem}
use Rattle.checker_account.specs.Account.{others, watched_too}
use Rattle.checker_tables.specs.Search.{first_arrivals, Enters}
use Rattle.checker_tables.proofs.arrivals.pass_fresh.Goals as goal

pub returns-then-waits : goal.returns-then-waits
unfolding fresh_arrivals
returns-then-waits c =
    let a = c.args in
    let g = a.from in
    let s = c.enter_fresh-new in
    let t = c.enter-more in
    let rows = rows_in a.s.rows.now in
    let gs = first_arrivals rows a.s.resources a.s.node a.n a.b g.opened g.meaning g.states in
    let second = a.b by g.opened by second_named_lem g.meaning a.n with over (row_on rows a.s.resources a.s.node watched_too) g.states in
    subst (λ (w : Bool). Enters
    ((a.b by g.opened by forgotten_in g.meaning a.n with over (row_on rows a.s.resources a.s.node others) g.states)
    ∷ (a.b by g.opened by first_named_lem g.meaning a.n with first_created_lem rows a.s.resources a.s.node g.meaning g.states)
    ∷ cond w (second ∷ []) []) a.u.now t.new.u (s.result || t.result)) (sym c.if-waits.true ∙ c.waits.ensures)
    (enters-both gs (second ∷ []) a.u.now s.new.u t.new.u s.result t.result s.ensures
    (enters-as (a.b by g.opened by c.second_named.result with c.moved_set.result) second s.new.u t.new.u t.result
    (ap₂ (λ (m v : ℕ). a.b by g.opened by m with v) c.second_named.ensures.value c.moved_set.ensures) t.ensures))

pub returns : goal.returns
unfolding fresh_arrivals
returns c =
    let a = c.args in
    let g = a.from in
    let s = c.enter_fresh-new in
    let rows = rows_in a.s.rows.now in
    let second = a.b by g.opened by second_named_lem g.meaning a.n with over (row_on rows a.s.resources a.s.node watched_too) g.states in
    subst (λ (w : Bool). Enters
    ((a.b by g.opened by forgotten_in g.meaning a.n with over (row_on rows a.s.resources a.s.node others) g.states)
    ∷ (a.b by g.opened by first_named_lem g.meaning a.n with first_created_lem rows a.s.resources a.s.node g.meaning g.states)
    ∷ cond w (second ∷ []) []) a.u.now s.new.u s.result) (sym c.if-waits.false ∙ c.waits.ensures) s.ensures
