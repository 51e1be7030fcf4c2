use Prim.Native.Nat.{◌+◌}
use mathlib.Core.Path.{◌≡◌}
use lib.ListN.{length, get_or}
use Rattle.monitor_pairs.specs.Pairs.{pair_places}
use Rattle.monitor_pairs.proofs.RunLaws.{span}
use Rattle.monitor_pairs.proofs.retiring.move_up.Given as goal

abbrev pub invariant-loop-i : goal.invariant-loop-i
invariant-loop-i l =
    ((length l.sets ≡ pair_places) × (l.sets ≡ span l.s (λ k. get_or l.initial.sets (k + l.by) 0) (λ k. get_or l.initial.sets k 0) pair_places l.i))
