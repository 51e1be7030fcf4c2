use Rattle.usage.specs.Outline.{form_of}
use Rattle.sheet_rules.proofs.NodeLaws.{no-children}
use mathlib.Core.Path.{refl}
use Rattle.sheet_rules.proofs.tree.child_fields.Goals as goal

pub returns-in-3 : goal.returns-in-3
unfolding form_of
returns-in-3 c = λ a b. rw c.in-3.is refl

pub returns-in-4 : goal.returns-in-4
unfolding form_of
returns-in-4 c = λ a b. rw c.in-4.is refl

pub returns-in-5 : goal.returns-in-5
unfolding form_of
returns-in-5 c = λ a b. rw c.in-5.is refl

pub returns-in-7 : goal.returns-in-7
unfolding form_of
returns-in-7 c = λ a b. rw c.in-7.is refl

pub returns-in-8 : goal.returns-in-8
unfolding form_of
returns-in-8 c = λ a b. rw c.in-8.is refl

pub returns-in_default : goal.returns-in_default
returns-in_default c =
    λ a b. no-children a b c.args.kind c.in_default.in_default-own.rest.0.0.0.0.1 c.in_default.in_default-own.rest.0.0.0.1 c.in_default.in_default-own.rest.0.0.1
    c.in_default.in_default-own.rest.0.1 c.in_default.in_default-own.rest.1
