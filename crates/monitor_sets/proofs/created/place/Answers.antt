use Prim.Native.Nat.{◌+◌}
use mathlib.Core.Path.{refl, sym, ◌∙◌}
use native.Mathlib.Omega.{arith}
use Rattle.monitor_sets.specs.Instances.{first_created_lem}
use Rattle.monitor_sets.proofs.CreatedLaws.{place_here, place-more, place_end}
use Rattle.monitor_sets.proofs.created.place.Goals as goal

pub loop-i-init : goal.loop-i-init
loop-i-init c = refl

pub returns-then-live-i : goal.returns-then-live-i
returns-then-live-i c =
    let a = c.args in
    let t = c.loop-i in
    sym (place_here a.live.now a.x (first_created_lem + t.i) t.i (omega arith) c.if-live-i.true) ∙ t.invariant

pub loop-i-preserved : goal.loop-i-preserved
loop-i-preserved c =
    let a = c.args in
    let t = c.loop-i in
    sym (place-more a.live.now a.x first_created_lem t.i (omega arith) c.if-live-i.false) ∙ t.invariant

pub returns : goal.returns
returns c =
    let a = c.args in
    let t = c.loop-i in
    sym (place_end a.live.now a.x (first_created_lem + t.i) t.i (omega arith)) ∙ t.invariant
