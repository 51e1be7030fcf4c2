use lib.Dec.{ltb}
use mathlib.Core.Bool.{and-true}
use Rattle.usage.specs.Tests.{between, every}
use borrow.Author.Tests.{lt-ltb, le-ltb, not-true, not-false}
use mathlib.Core.Path.{sym}
use Rattle.sheet_rules.proofs.tree.lies_between.Goals as goal

pub returns-then-not-child : goal.returns-then-not-child
unfolding between every
returns-then-not-child c = simp (not-true c.args.child c.if-not-child.true-raw)

pub returns-then-c-k : goal.returns-then-c-k
unfolding between every
returns-then-c-k c = simp (not-false c.args.child c.if-not-child.false-raw, le-ltb _ _ c.if-c-k.true)

pub returns : goal.returns
unfolding between every
returns c =
    sym (simp (not-false c.args.child c.if-not-child.false-raw, lt-ltb _ _ c.if-c-k.false)
    (and-true (ltb c.args.x c.args.n)))
