use Prim.Native.Nat.{◌-◌}
use mathlib.Core.Path.{◌≡◌}
use lib.ListN.{length, get_or}
use Rattle.monitor_pairs.specs.Pairs.{pair_places}
use Rattle.monitor_pairs.proofs.RunLaws.{span}
use Rattle.monitor_pairs.proofs.events.put_row.Given as goal

abbrev pub invariant-loop-j : goal.invariant-loop-j
invariant-loop-j l =
    ((length l.sets ≡ pair_places) × (l.sets ≡ span l.k (λ x. get_or l.row (x - l.k) 0) (λ x. get_or l.initial.sets x 0) pair_places l.j))
