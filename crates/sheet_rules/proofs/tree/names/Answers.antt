use Rattle.usage.specs.Valid.{times}
use borrow.Author.Tests.{eq-eqb, ne_eqb}
use borrow.Author.Rules.{rules}
use Rattle.sheet_rules.proofs.tree.names.Goals as goal

pub returns-then-x-c : goal.returns-then-x-c
unfolding times
returns-then-x-c c = record { value = simp (c.if-child.true, eq-eqb _ _ c.if-x-c.true); upper_bound = search rules }

pub returns-else-x-c : goal.returns-else-x-c
unfolding times
returns-else-x-c c = record { value = simp (c.if-child.true, ne_eqb _ _ c.if-x-c.false); upper_bound = search rules }

pub returns-else-child : goal.returns-else-child
unfolding times
returns-else-child c = record { value = simp c.if-child.false; upper_bound = search rules }
