-- `union_all` meets its contract. The invariant: the first sets, sixteen for each turn, are joined.
use Prim.Native.Nat.{◌*◌}
use mathlib.Core.Path.{◌≡◌}
use lib.ListN.{length, get_or}
use Rattle.automaton.specs.Mask.{union}
use Rattle.monitor_sets.specs.Code.{lanes}
use Rattle.monitor_sets.proofs.unions.union_all.Given as goal

abbrev pub invariant-loop-i : goal.invariant-loop-i
invariant-loop-i l =
    (length l.all ≡ lanes) × (union lanes (λ j. get_or l.all j 0) ≡ union (lanes * l.i) (λ j. get_or l.sets j 0))
