use mathlib.Core.Bool.{◌||◌}
use mathlib.Core.Path.{refl, sym, ap, ◌∙◌}
use native.Mathlib.Omega.{arith}
use Rattle.usage.proofs.Logic.{or_right}
use Rattle.monitor_sets.proofs.CreatedLaws.{or-false, listed_here, listed_more, listed-end}
use Rattle.monitor_sets.proofs.created.listed_in.Goals as goal
use Rattle.monitor_sets.proofs.created.listed_in.Goals.{else-y-x, then-y-x}

pub loop-y-init : goal.loop-y-init
loop-y-init c = refl

pub loop-y-preserved : goal.loop-y-preserved
loop-y-preserved c =
    let a = c.args in
    let t = c.loop-y in
    elim c.if-y-x.branch [
      | then-y-x w ↦ rw w.found-is
          (sym (or_right t.found _ (listed_here a.live.now a.x t.y-index (omega arith) w.if-y-x.true)) ∙ t.invariant)
      | else-y-x w ↦ rw w.found-is
          (ap (λ b. t.found || b) (sym (listed_more a.live.now a.x t.y-index (omega arith) w.if-y-x.false)) ∙ t.invariant)
    ]

pub returns : goal.returns
returns c =
    let a = c.args in
    let t = c.loop-y in
    sym (or-false t.found _ (listed-end a.live.now a.x t.y-index (omega arith))) ∙ t.invariant
