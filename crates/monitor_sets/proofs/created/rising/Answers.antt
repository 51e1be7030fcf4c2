use Prim.Native.Nat.{◌+◌, ◌-◌}
use mathlib.Core.Bool.{Bool, true, false, not}
use mathlib.Core.Path.{◌≡◌, refl, sym, ap, ◌∙◌}
use native.Mathlib.Omega.{arith}
use lib.ListN.{length}
use Rattle.monitor_sets.specs.Code.{rises}
use Rattle.monitor_sets.proofs.CreatedLaws.{rises-less, rises-more}
use borrow.Author.Rules.{rules}
use Rattle.monitor_sets.proofs.created.rising.Goals as goal
use Rattle.monitor_sets.proofs.created.rising.Goals.{else-live-i, then-live-i}

twice : (b : Bool) → not (not b) ≡ b
twice true = refl
twice false = refl

pub loop-i-init : goal.loop-i-init
unfolding rises
loop-i-init c = (search rules, refl)

pub loop-i-preserved : goal.loop-i-preserved
loop-i-preserved c =
    let t = c.loop-i in
    let l = c.args.live.now in
    let k : t.i + 1 - 1 ≡ t.i = omega arith in (
      omega arith,
      rw k (elim c.if-live-i.branch [
        | then-live-i w ↦ w.falls-is ∙ sym (ap not (rises-less l t.i (omega arith) w.if-live-i.true))
        | else-live-i w ↦ w.falls-is ∙ t.invariant.1 ∙ sym (ap not (rises-more l t.i (omega arith) w.if-live-i.false))
      ]),
    )

pub returns : goal.returns
returns c =
    let t = c.loop-i in
    let l = c.args.live.now in
    let k : t.i - 1 ≡ length l - 1 = omega arith in
    ap not t.invariant.1 ∙ twice (rises l (t.i - 1)) ∙ ap (rises l) k
