use Rattle.sheet_grammar.specs.Nodes.{tree_size, nodes_from}
use Rattle.sheet_expression.proofs.GrowingLaws.{grown-one}
use mathlib.Core.Path.{refl, ◌∙◌}
use Rattle.sheet_expression.proofs.phrases.leaf_node.Goals as goal

pub returns-in-End : goal.returns-in-End
unfolding tree_size nodes_from
returns-in-End c = rw c.in-End.is (grown-one refl c.push.ensures.count_value c.push.ensures.result_value)

pub returns-in-Static : goal.returns-in-Static
unfolding tree_size nodes_from
returns-in-Static c = rw c.in-Static.is (grown-one refl c.push-in-Static.ensures.count_value c.push-in-Static.ensures.result_value)

pub returns-in-Name : goal.returns-in-Name
unfolding tree_size nodes_from
returns-in-Name c = rw c.in-Name.is (grown-one refl c.push-in-Name.ensures.count_value c.push-in-Name.ensures.result_value)

pub returns-in-Back : goal.returns-in-Back
unfolding tree_size nodes_from
returns-in-Back c =
    rw c.in-Back.is
    (grown-one refl c.push-in-Back.ensures.count_value (λ l. c.push-in-Back.ensures.result_value l ∙ rw (c.meant.ensures l)))
