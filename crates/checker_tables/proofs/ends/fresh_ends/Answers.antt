use mathlib.Core.Path.{sym, ◌∙◌}
use Rattle.checker_account.specs.Tables.{rows_in}
use Rattle.checker_tables.proofs.RuleLaws.{fresh-late, fresh-else}
use Rattle.checker_tables.proofs.ends.fresh_ends.Goals as goal

pub returns-then-is_late : goal.returns-then-is_late
returns-then-is_late c =
    let a = c.args in
    let g = c.second_named-g in
    let o = c.first_ends-first in
    let h = c.created_ends-second in
    fresh-late a.t.now (rows_in a.s.rows.now) a.s.resources a.s.node a.n a.b a.e g.result o.result h.result c.join_each.result
    g.ensures.value o.ensures h.ensures c.join_each.ensures (sym c.is_late.ensures ∙ c.if-is_late.true)

pub returns : goal.returns
returns c =
    let a = c.args in
    let o = c.first_ends-first in
    fresh-else a.t.now (rows_in a.s.rows.now) a.s.resources a.s.node a.n a.b a.e o.result o.ensures
    (sym c.is_late.ensures ∙ c.if-is_late.false)
