-- `join_lanes` meets its contract. The invariant: the places below i are joined.
use Prim.Native.Nat.{◌+◌}
use lib.ListN.{get_or}
use Rattle.monitor_sets.proofs.LaneLaws.{Joining}
use Rattle.monitor_sets.proofs.unions.join_lanes.Given as goal

abbrev pub invariant-loop-i : goal.invariant-loop-i
invariant-loop-i l = Joining l.initial.all (λ j. get_or l.sets (l.k + j) 0) l.all l.i
