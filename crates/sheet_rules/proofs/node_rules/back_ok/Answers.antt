use Rattle.sheet_rules.proofs.RuleLaws.{back-none, back-some}
use mathlib.Core.Path.{sym, ◌∙◌}
use Rattle.sheet_rules.proofs.node_rules.back_ok.Goals as goal

pub returns-then-table-k-ne6 : goal.returns-then-table-k-ne6
returns-then-table-k-ne6 c = sym (back-none c.args.table.now c.args.k c.requires c.if-table-k-ne6.true)

pub returns : goal.returns
returns c = c.inside.ensures ∙ sym (back-some c.args.table.now c.args.k c.requires c.if-table-k-ne6.false)
