use Rattle.usage.specs.Outline.{node_kinds}
use mathlib.Core.Path.{refl}
use borrow.Author.Rules.{rules}
use Rattle.sheet_fields.proofs.RangeLaws.{kind-spans, no_kind}
use Rattle.sheet_fields.proofs.node_spans.Goals as goal

pub returns-in-0 : goal.returns-in-0
returns-in-0 c = kind-spans node_kinds _ _ 0 c.in-0.is c.both.ensures

pub returns-in-1 : goal.returns-in-1
returns-in-1 c = kind-spans node_kinds _ _ 1 c.in-1.is c.both-in-1.ensures

pub returns-in-2 : goal.returns-in-2
returns-in-2 c = kind-spans node_kinds _ _ 2 c.in-2.is c.both-in-2.ensures

pub returns-in-3 : goal.returns-in-3
returns-in-3 c = kind-spans node_kinds _ _ 3 c.in-3.is c.both-in-3.ensures

pub returns-in-4 : goal.returns-in-4
returns-in-4 c = kind-spans node_kinds _ _ 4 c.in-4.is c.both-in-4.ensures

pub returns-in-5 : goal.returns-in-5
returns-in-5 c = kind-spans node_kinds _ _ 5 c.in-5.is c.both-in-5.ensures

pub returns-in-6 : goal.returns-in-6
returns-in-6 c = kind-spans node_kinds _ _ 6 c.in-6.is c.both-in-6.ensures

pub returns-in-7 : goal.returns-in-7
returns-in-7 c = kind-spans node_kinds _ _ 7 c.in-7.is c.both-in-7.ensures

pub returns-in-8 : goal.returns-in-8
returns-in-8 c = kind-spans node_kinds _ _ 8 c.in-8.is c.both-in-8.ensures

pub returns-in_default : goal.returns-in_default
returns-in_default c = no_kind node_kinds _ _ (search rules) refl
