use mathlib.Core.Path.{sym, ◌∙◌}
use borrow.Author.Tests.{eq-eqb, ne_eqb, lt-ltb, le-ltb}
use Rattle.usage.specs.Limits.{policies}
use Rattle.monitor_pairs.specs.Blocks.{of_policy}
use Rattle.monitor_pairs.proofs.blocks.reset_policy.Goals as goal
use Rattle.monitor_pairs.proofs.blocks.reset_policy.Goals.{else-p-lt8-via-then-p-lt8+else-p-s, else-p-lt8-via-else-p-lt8}

pub returns-then-p-s : goal.returns-then-p-s
unfolding of_policy
returns-then-p-s c = c.reset.ensures ∙ sym (simp (lt-ltb _ policies c.if-p-lt8.true, eq-eqb _ _ c.if-p-s.true))

pub returns-else-p-lt8 : goal.returns-else-p-lt8
unfolding of_policy
returns-else-p-lt8 c =
    elim c.else-p-lt8.branch [
      | else-p-lt8-via-then-p-lt8+else-p-s w ↦ simp (lt-ltb _ policies w.if-p-lt8.true, ne_eqb _ _ w.if-p-s.false)
      | else-p-lt8-via-else-p-lt8 w ↦ simp (le-ltb _ policies w.if-p-lt8.false)
    ]
