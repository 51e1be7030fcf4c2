-- `tally` meets its contract. The invariant: the entries so far are policies, and they are counted.
use mathlib.Core.Bool.{true}
use mathlib.Core.Path.{◌≡◌}
use lib.ListN.{length}
use Rattle.usage.specs.Limits.{policies}
use Rattle.usage.specs.Tests.{every}
use Rattle.monitor_sets.specs.Order.{stack_in, is_policy}
use Rattle.monitor_sets.proofs.OrderLaws.{Counts}
use Rattle.monitor_sets.proofs.order.tally.Given as goal

abbrev pub invariant-loop-policy : goal.invariant-loop-policy
invariant-loop-policy l =
    (every is_policy (stack_in l.policy-index l.order) ≡ true) × ((length l.counts ≡ policies) × Counts l.order l.policy-index l.counts)
