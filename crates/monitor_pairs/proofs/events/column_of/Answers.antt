use mathlib.Core.Path.{◌≡◌, refl}
use native.Mathlib.Omega.{arith}
use Rattle.monitor_sets.specs.Instances.{instances}
use Rattle.monitor_pairs.specs.Pairs.{pair_at}
use Rattle.monitor_pairs.specs.Code.{column_of_lem}
use Rattle.monitor_pairs.proofs.RunLaws.{filled-zeros, filled_more}
use Rattle.monitor_pairs.proofs.events.column_of.Goals as goal

pub loop-i-init : goal.loop-i-init
loop-i-init c = (filled-zeros (λ i. pair_at c.args.sets.now i c.args.at) (λ i. 0) instances (λ k. refl))

pub loop-i-preserved : goal.loop-i-preserved
loop-i-preserved c =
    let a = c.args in
    let t = c.loop-i in
    (rw t.invariant (filled_more (λ i. pair_at a.sets.now i a.at) (λ i. 0) instances t.i _ (omega arith) refl))

pub returns : goal.returns
unfolding column_of_lem
returns c =
    let a = c.args in
    let t = c.loop-i in
    let e : t.i ≡ a.n = omega arith in
    rw (← e) t.invariant
