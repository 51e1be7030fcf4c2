-- `rising` meets its contract. The invariant: whether the first i numbers rise.
use Prim.Native.Nat.{◌+◌, ◌-◌, ◌≤◌}
use mathlib.Core.Bool.{not}
use mathlib.Core.Path.{◌≡◌}
use lib.ListN.{length}
use Rattle.monitor_sets.specs.Code.{rises}
use Rattle.monitor_sets.proofs.created.rising.Given as goal

abbrev pub invariant-loop-i : goal.invariant-loop-i
invariant-loop-i l = (l.i ≤ 1 + (length l.live - 1)) × (l.falls ≡ not (rises l.live (l.i - 1)))
