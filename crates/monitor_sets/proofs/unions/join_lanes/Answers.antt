use Prim.Native.Nat.{◌+◌}
use mathlib.Core.Path.{◌≡◌}
use native.Mathlib.Omega.{arith}
use lib.ListN.{get_or}
use Rattle.monitor_sets.specs.Code.{lanes}
use Rattle.monitor_sets.proofs.LaneLaws.{Joining, joining-none, joining-more, joined-all}
use Rattle.monitor_sets.proofs.unions.join_lanes.Goals as goal

pub loop-i-init : goal.loop-i-init
loop-i-init c = (joining-none _ _)

pub loop-i-preserved : goal.loop-i-preserved
loop-i-preserved c =
    let a = c.args in
    let t = c.loop-i in
    (joining-more a.all.now (λ j. get_or a.sets.now (a.k + j) 0) t.all t.i t.invariant (omega arith))

pub returns : goal.returns
returns c =
    let a = c.args in
    let t = c.loop-i in
    let e : t.i ≡ lanes = omega arith in
    let h : Joining a.all.now (λ j. get_or a.sets.now (a.k + j) 0) t.all lanes = rw e at t.invariant in
    joined-all a.all.now (λ j. get_or a.sets.now (a.k + j) 0) t.all h
