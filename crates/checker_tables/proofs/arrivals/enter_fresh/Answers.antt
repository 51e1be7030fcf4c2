use mathlib.Core.Path.{ap₂}
use mathlib.Core.List.{[], ◌∷◌}
use Prim.Native.Nat.{ℕ}
use Rattle.checker_account.specs.Tables.{◌by◌by◌with◌}
use Rattle.checker_tables.proofs.EnterLaws.{enters-both, enters-as}
use Rattle.checker_account.specs.Tables.{forgotten_in, first_named_lem, over, row_on, rows_in, first_created_lem}
use Rattle.checker_account.specs.Account.{others}
use Rattle.checker_tables.proofs.arrivals.enter_fresh.Goals as goal

pub returns : goal.returns
returns c =
    let a = c.args in
    let g = a.from in
    let s = c.enter-one in
    let t = c.enter-two in
    let rows = rows_in a.s.rows.now in
    let other = a.b by g.opened by forgotten_in g.meaning a.n with over (row_on rows a.s.resources a.s.node others) g.states in
    let own = a.b by g.opened by first_named_lem g.meaning a.n with first_created_lem rows a.s.resources a.s.node g.meaning g.states in
    enters-both (other ∷ []) (own ∷ []) a.u.now s.new.u t.new.u s.result t.result
    (enters-as (a.b by g.opened by c.forgotten.result with c.moved_set.result) other a.u.now s.new.u s.result
    (ap₂ (λ (m v : ℕ). a.b by g.opened by m with v) c.forgotten.ensures.value c.moved_set.ensures) s.ensures)
    (enters-as (a.b by g.opened by c.first_named.result with c.first_created.result) own s.new.u t.new.u t.result
    (ap₂ (λ (m v : ℕ). a.b by g.opened by m with v) c.first_named.ensures.value c.first_created.ensures) t.ensures)
