use Prim.Native.Nat.{◌*◌}
use mathlib.Core.Path.{ap, ◌∙◌}
use Rattle.monitor_sets.specs.Instances.{instances}
use Rattle.monitor_pairs.specs.Code.{row_joined}
use Rattle.monitor_pairs.proofs.GatherLaws.{beside_none, beside-row, beside-own}
use Rattle.monitor_pairs.proofs.gathering.columns_beside.Goals as goal
use Rattle.monitor_pairs.proofs.gathering.columns_beside.Goals.{else-i-at, then-i-at}

pub loop-i-init : goal.loop-i-init
loop-i-init c = (beside_none c.args.at c.args.sets.now)

pub loop-i-preserved : goal.loop-i-preserved
loop-i-preserved c =
    let a = c.args in
    let t = c.loop-i in (elim c.if-i-at.branch [
      | then-i-at w ↦ w.line-is ∙ w.join_row.ensures ∙ ap (row_joined (t.i * instances) a.sets.now) t.invariant
          ∙ beside-row a.at a.sets.now t.i w.if-i-at.true
      | else-i-at w ↦ w.line-is ∙ t.invariant ∙ beside-own a.at a.sets.now t.i w.if-i-at.false
    ])
