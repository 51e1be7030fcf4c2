use mathlib.Core.Path.{sym, ◌∙◌}
use borrow.Author.Tests.{lt-ltb, le-ltb}
use Rattle.usage.specs.Limits.{policies}
use Rattle.monitor_pairs.specs.Blocks.{of_policy}
use Rattle.monitor_pairs.proofs.blocks.retire_policy.Goals as goal

pub returns-then-p-lt8 : goal.returns-then-p-lt8
unfolding of_policy
returns-then-p-lt8 c = c.retire.ensures ∙ sym (simp (lt-ltb _ policies c.if-p-lt8.true))

pub returns-else-p-lt8 : goal.returns-else-p-lt8
unfolding of_policy
returns-else-p-lt8 c = simp (le-ltb _ policies c.if-p-lt8.false)
