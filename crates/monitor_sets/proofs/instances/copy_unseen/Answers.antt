use mathlib.Core.Path.{◌≡◌, ◌∙◌}
use native.Mathlib.Omega.{arith}
use Rattle.usage.specs.Limits.{policies}
use Rattle.monitor_sets.proofs.PlaceLaws.{copied_none, copied_all, copied_source, copied_more}
use Rattle.monitor_sets.proofs.instances.copy_unseen.Goals as goal

pub loop-p-init : goal.loop-p-init
loop-p-init c = (copied_none c.args.sets.now c.args.i c.told-sets)

pub loop-p-preserved : goal.loop-p-preserved
loop-p-preserved c =
    let a = c.args in
    let t = c.loop-p in (rw (t.invariant, copied_source a.sets.now a.i t.p (omega arith))
    (copied_more a.sets.now a.i t.p (omega arith) (omega arith)))

pub returns : goal.returns
returns c =
    let a = c.args in
    let t = c.loop-p in
    let e : t.p ≡ policies = omega arith in
    rw e at t.invariant ∙ copied_all a.sets.now a.i
