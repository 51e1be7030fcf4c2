use mathlib.Core.Path.{◌≡◌, refl}
use native.Mathlib.Omega.{arith}
use lib.ListN.{length, get_or}
use Rattle.automaton.specs.Mask.{union}
use Rattle.monitor_sets.proofs.SetLaws.{union_more}
use Rattle.monitor_sets.proofs.unions.union_few.Goals as goal

pub loop-set-init : goal.loop-set-init
unfolding union
loop-set-init c = refl

pub loop-set-preserved : goal.loop-set-preserved
loop-set-preserved c =
    let t = c.loop-set in
    rw t.invariant (union_more t.set-index (λ j. get_or c.args.sets.now j 0))

pub returns : goal.returns
returns c =
    let e : c.loop-set.set-index ≡ length c.args.sets.now = omega arith in
    rw (← e) c.loop-set.invariant
