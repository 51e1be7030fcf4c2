use mathlib.Core.Path.{sym, ◌∙◌}
use Rattle.outline_nodes.proofs.SaidLaws.{form-at, form-past}
use Rattle.outline_nodes.proofs.form.Goals as goal

pub returns-then-nodes-k : goal.returns-then-nodes-k
returns-then-nodes-k c = let a = c.args in sym (form-past a.nodes.now a.k c.if-nodes-k.true)

pub returns : goal.returns
returns c = let a = c.args in c.form_of.ensures ∙ sym (form-at a.nodes.now
    a.k c.if-nodes-k.false)
