use lib.Dec.{ltb}
use Rattle.sheet_rules.proofs.NodeLaws.{child-at}
use mathlib.Core.Path.{sym, ap, ◌∙◌}
use Rattle.sheet_rules.proofs.tree.is_child.Goals as goal

pub returns : goal.returns
returns c =
    let a = c.args in
    ap (ltb 0) c.names_child-times.ensures.value ∙ sym (child-at a.nodes.now a.p c.requires a.c)
