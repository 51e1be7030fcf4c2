use Prim.Native.Nat.{◌+◌}
use mathlib.Core.Path.{◌≡◌}
use lib.Bits.{bit_or}
use lib.ListN.{length, get_or}
use Rattle.monitor_sets.specs.Instances.{instances}
use Rattle.monitor_pairs.proofs.RunLaws.{filled}
use Rattle.monitor_pairs.proofs.gathering.join_row.Given as goal

abbrev pub invariant-loop-j : goal.invariant-loop-j
invariant-loop-j l =
    ((length l.line ≡ instances)
    × (l.line ≡ filled (λ i. bit_or (get_or l.initial.line i 0) (get_or l.sets (l.k + i) 0)) (λ i. get_or l.initial.line i 0) instances l.j))
