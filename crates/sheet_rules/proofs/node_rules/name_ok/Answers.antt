use Rattle.sheet_rules.proofs.RuleLaws.{name-used, name-given, no-name}
use mathlib.Core.Path.{sym, ap, ◌∙◌}
use mathlib.Core.Bool.{not}
use borrow.Author.Rules.{rules}
use Rattle.sheet_rules.proofs.node_rules.name_ok.Goals as goal

pub returns-in-2 : goal.returns-in-2
returns-in-2 c = c.inside.ensures ∙ sym (name-used c.args.table.now c.args.k c.requires c.in-2.is)

pub returns-in-7 : goal.returns-in-7
returns-in-7 c = ap not c.given_below.ensures ∙ sym (name-given c.args.table.now c.args.k c.requires c.in-7.is)

pub returns-in_default : goal.returns-in_default
returns-in_default c = sym (no-name c.args.table.now c.args.k c.requires (search rules) (search rules))
