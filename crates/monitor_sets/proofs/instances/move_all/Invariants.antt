use mathlib.Core.Path.{◌≡◌}
use mathlib.Core.Bool.{cond}
use lib.Dec.{ltb}
use Rattle.usage.specs.Limits.{policies}
use Rattle.usage.specs.Tables.{from}
use Rattle.monitor_sets.specs.Sets.{gathered_at}
use Rattle.monitor_sets.specs.Code.{all_moved}
use Rattle.monitor_sets.proofs.instances.move_all.Given as goal

abbrev pub invariant-loop-p : goal.invariant-loop-p
invariant-loop-p l =
    ((l.sets ≡ all_moved l.own l.other l.n l.at l.p l.initial.sets)
    × (l.possible ≡ from (λ q. cond (ltb q l.p) (gathered_at l.n (all_moved l.own l.other l.n l.at policies l.initial.sets) q) 0) 0 policies))
