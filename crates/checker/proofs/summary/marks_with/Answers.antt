use mathlib.Core.Path.{sym, ◌∙◌}
use Rattle.checker.proofs.SummaryLaws.{with-room, with_none}
use Rattle.checker.proofs.summary.marks_with.Goals as goal

pub returns-then-worth : goal.returns-then-worth
returns-then-worth c =
    let a = c.args in
    with-room a.nodes.now a.w.local a.rows.now a.w.policy a.w.resources c.marks_of.result c.requires
    c.marks_of.ensures

pub returns-else-worth : goal.returns-else-worth
returns-else-worth c =
    let a = c.args in
    let t = c.worth in
    with_none a.nodes.now a.w.local a.rows.now a.w.policy a.w.resources (sym t.ensures ∙ c.if-worth.false)
