use mathlib.Core.Bool.{Bool, true, false, not}
use mathlib.Core.Path.{◌≡◌, refl, sym, ap, ◌∙◌}
use native.Mathlib.Omega.{arith}
use lib.ListN.{length}
use Rattle.monitor_sets.specs.Created.{highest_ok}
use Rattle.monitor_sets.proofs.HighestLaws.{highest-none, highest-above, highest-below}
use Rattle.monitor_sets.proofs.created.none_above.Goals as goal
use Rattle.monitor_sets.proofs.created.none_above.Goals.{else-highest-y, then-highest-y}

twice : (b : Bool) → not (not b) ≡ b
twice true = refl
twice false = refl

pub loop-y-init : goal.loop-y-init
loop-y-init c = ap not (highest-none c.args.highest c.args.live.now)

pub loop-y-preserved : goal.loop-y-preserved
loop-y-preserved c =
    let a = c.args in
    let t = c.loop-y in
    let l = a.live.now in
    elim c.if-highest-y.branch [
      | then-highest-y w ↦ w.above-is ∙ sym (ap not (highest-above a.highest l t.y-index (omega arith) w.if-highest-y.true))
      | else-highest-y w ↦ w.above-is ∙ t.invariant ∙ sym (ap not (highest-below a.highest l t.y-index (omega arith) w.if-highest-y.false))
    ]

pub returns : goal.returns
returns c =
    let t = c.loop-y in
    let a = c.args in
    let k : t.y-index ≡ length a.live.now = omega arith in
    ap not t.invariant ∙ twice (highest_ok a.highest t.y-index a.live.now) ∙ ap (λ n. highest_ok a.highest n a.live.now) k
