use mathlib.Core.Path.{◌≡◌, ◌∙◌}
use native.Mathlib.Omega.{arith}
use Rattle.usage.specs.Limits.{policies}
use Rattle.monitor_sets.proofs.MovedLaws.{all_none, all_more, gathered_none, gathered-more, gathered-all}
use Rattle.monitor_sets.proofs.instances.move_all.Goals as goal

pub loop-p-init : goal.loop-p-init
loop-p-init c = let a = c.args in (
  all_none a.own.now a.other.now a.n a.at a.sets.now c.told-sets,
  gathered_none a.own.now a.other.now a.n
      a.at a.sets.now (omega arith),
)

pub loop-p-preserved : goal.loop-p-preserved
loop-p-preserved c =
    let a = c.args in
    let t = c.loop-p in (
      rw (c.move_policy.ensures.sets_after, t.invariant.0) (all_more a.own.now a.other.now a.n a.at a.sets.now t.p),
      rw t.invariant.1
          (gathered-more a.own.now a.other.now a.n a.at a.sets.now (omega arith) t.p c.move_policy.result
          (omega arith)
          (rw t.invariant.0 at c.move_policy.ensures.value)),
    )

pub returns : goal.returns
returns c =
    let e : c.loop-p.p ≡ policies = omega arith in
    let a = c.args in record { sets_after = rw e at c.loop-p.invariant.0; value = rw e at c.loop-p.invariant.1 ∙ gathered-all a.own.now a.other.now a.n a.at a.sets.now (omega arith) }
