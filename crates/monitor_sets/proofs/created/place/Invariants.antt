-- `place` meets its contract. The invariant: the place is that of a search from number i on.
use Prim.Native.Nat.{◌+◌}
use mathlib.Core.Path.{◌≡◌}
use lib.ListN.{drop}
use Rattle.monitor_sets.specs.Instances.{first_created_lem}
use Rattle.monitor_sets.specs.Created.{place_from}
use Rattle.monitor_sets.proofs.created.place.Given as goal

abbrev pub invariant-loop-i : goal.invariant-loop-i
invariant-loop-i l = place_from l.x (first_created_lem + l.i) (drop l.i l.live) ≡ place_from l.x first_created_lem l.live
