-- `close_up` meets its contract. The invariant: the places from i to below k have what stood behind them.
use mathlib.Core.Path.{◌≡◌}
use lib.ListN.{length}
use Rattle.usage.specs.Limits.{most_created}
use Rattle.usage.specs.Tables.{from}
use Rattle.monitor_sets.proofs.ClosingLaws.{closed_to}
use Rattle.monitor_sets.proofs.retiring.close_up.Given as goal

abbrev pub invariant-loop-k : goal.invariant-loop-k
invariant-loop-k l =
    (length l.created ≡ most_created) × (l.created ≡ from (closed_to most_created l.i l.initial.created l.k) 0 most_created)
