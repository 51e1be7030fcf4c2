use Rattle.monitor_pairs.proofs.RetireLaws.{line-retired}
use Prim.Native.Nat.{ℕ, ◌+◌, ◌-◌}
use mathlib.Core.Path.{ap, ◌∙◌}
use mathlib.Core.List.{List}
use native.Mathlib.Omega.{arith}
use lib.ListN.{get_or, set}
use Rattle.monitor_sets.specs.Instances.{instances, unseen}
use Rattle.monitor_pairs.proofs.retiring.retire_line.Goals as goal

pub returns : goal.returns
returns c =
    let a = c.args in
    let l = a.sets.now in
    let last = a.k + (instances - 1) in
    let same = ap (λ (u : List ℕ). set u last (get_or l (a.k + unseen) 0)) c.move_up.ensures
    ∙ line-retired a.k a.at l c.told-sets (omega arith) (omega arith) (omega arith) in
    same
