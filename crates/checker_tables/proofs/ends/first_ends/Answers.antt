use mathlib.Core.Path.{◌∙◌}
use Rattle.checker_account.specs.Tables.{rows_in}
use Rattle.checker_tables.proofs.RuleLaws.{first_made}
use Rattle.checker_tables.proofs.ends.first_ends.Goals as goal

pub returns : goal.returns
returns c =
    let a = c.args in
    let f = c.forgotten-f in
    let o = c.created_ends-other in
    first_made a.t.now (rows_in a.s.rows.now) a.s.resources a.s.node a.n a.b a.e f.result o.result f.ensures.value o.ensures
    (λ z. c.if-meaning-eq0.false (c.meaning-meaning.ensures ∙ z))
