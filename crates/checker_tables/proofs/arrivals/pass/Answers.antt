use mathlib.Core.Path.{sym}
use Rattle.outline_nodes.specs.Said.{said_by}
use Rattle.checker_account.specs.Tables.{rows_in}
use Rattle.checker_account.specs.Filling.{by_open}
use Rattle.checker_account.proofs.GrowsLaws.{grown-self}
use Rattle.checker_account.proofs.PassLaws.{pass-none}
use Rattle.checker_tables.proofs.arrivals.pass.Goals as goal

pub returns-then-from-eq0 : goal.returns-then-from-eq0
returns-then-from-eq0 c =
    let a = c.args in
    let g = a.from in
    let none =
    pass-none a.w.local (rows_in a.s.rows.now) a.w.policy a.s.resources (by_open a.ends.opened.now a.ends.shut.now g.opened) a.s.node
    (said_by a.s.form) g.opened g.meaning g.states a.u.now c.if-from-eq0.true in
    (sym none, (sym (grown-self a.u.now), λ w. w))
