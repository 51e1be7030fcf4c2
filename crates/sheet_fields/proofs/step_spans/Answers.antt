use Rattle.usage.specs.Judge.{step_kinds}
use mathlib.Core.Path.{refl}
use borrow.Author.Rules.{rules}
use Rattle.sheet_fields.proofs.RangeLaws.{kind-spans, no_kind}
use Rattle.sheet_fields.proofs.step_spans.Goals as goal

pub returns-in-0 : goal.returns-in-0
returns-in-0 c = kind-spans step_kinds _ _ 0 c.in-0.is c.both.ensures

pub returns-in-1 : goal.returns-in-1
returns-in-1 c = kind-spans step_kinds _ _ 1 c.in-1.is c.both-in-1.ensures

pub returns-in-2 : goal.returns-in-2
returns-in-2 c = kind-spans step_kinds _ _ 2 c.in-2.is c.both-in-2.ensures

pub returns-in-3 : goal.returns-in-3
returns-in-3 c = kind-spans step_kinds _ _ 3 c.in-3.is c.both-in-3.ensures

pub returns-in_default : goal.returns-in_default
returns-in_default c = no_kind step_kinds _ _ (search rules) refl
