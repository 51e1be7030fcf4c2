use Rattle.usage.specs.Tests.{is_some}
use Rattle.sheet_rules.proofs.NodeLaws.{name-at, other-kind, this-kind}
use mathlib.Core.Path.{sym, ap, ◌∙◌}
use Rattle.sheet_rules.proofs.node_rules.gives_name.Goals as goal

pub returns-then-nodes-j-ne7 : goal.returns-then-nodes-j-ne7
returns-then-nodes-j-ne7 c =
    let a = c.args in
    sym (name-at a.nodes.now a.j c.requires a.x ∙ ap (λ o. is_some o a.x)
    (other-kind a.nodes.now a.j 7 1 c.if-nodes-j-ne7.true))

pub returns : goal.returns
returns c =
    let a = c.args in
    sym (name-at a.nodes.now a.j c.requires a.x ∙ ap (λ o. is_some o a.x)
    (this-kind a.nodes.now a.j 7 1 c.if-nodes-j-ne7.false))
