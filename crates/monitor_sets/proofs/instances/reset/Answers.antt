use Prim.Native.Nat.{ℕ, ◌+◌, ◌*◌}
use mathlib.Core.Path.{◌≡◌, refl, ap, ◌∙◌}
use mathlib.Core.List.{List}
use native.Mathlib.Omega.{arith}
use borrow.Author.Tests.{le-leb, lt-ltb}
use lib.ListN.{set, length-set}
use Rattle.monitor_sets.specs.Instances.{instances}
use Rattle.monitor_sets.specs.Sets.{start_set}
use Rattle.monitor_sets.proofs.PlaceLaws.{reset-none, reset-more}
use Rattle.monitor_sets.proofs.instances.reset.Goals as goal

pub loop-i-init : goal.loop-i-init
loop-i-init c = (refl, c.told-sets, reset-none c.args.sets.now c.args.p c.told-sets)

pub loop-i-preserved : goal.loop-i-preserved
loop-i-preserved c =
    let a = c.args in
    let t = c.loop-i in (
      refl,
      length-set t.sets (a.p * instances + t.i) start_set ∙ t.invariant.1,
      ap (λ (l : List ℕ). set l (a.p * instances + t.i) start_set) t.invariant.2
          ∙ reset-more a.sets.now a.p t.i (omega arith) (omega arith),
    )

pub returns : goal.returns
returns c =
    let t = c.loop-i in
    let a = c.args in
    let e : t.i ≡ a.n = omega arith in
    rw (le-leb _ _ c.if-n-gt-INSTANCES.false, lt-ltb _ _ c.if-p-ge-POLICIES.false) (rw (← e) t.invariant.2)
