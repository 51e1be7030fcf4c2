use Prim.Native.Nat.{ℕ, ◌*◌, ◌/◌}
use mathlib.Core.Path.{◌≡◌, refl, ap, ◌∙◌}
use mathlib.Core.Bool.{Bool, cond}
use mathlib.Core.List.{List}
use native.Mathlib.Omega.{arith}
use lib.Dec.{ltb}
use lib.ListN.{get_or, set, length-set}
use Rattle.monitor_sets.specs.Instances.{instances}
use Rattle.monitor_pairs.specs.Pairs.{pair_places, reset_pairs}
use Rattle.monitor_pairs.proofs.RunLaws.{filled_none, filled_more, same_from, rows-places}
use Rattle.monitor_sets.specs.Sets.{start_set}
use Rattle.monitor_pairs.proofs.places.reset.Goals as goal

pub loop-k-init : goal.loop-k-init
loop-k-init c =
    let l = c.args.sets.now in
    (c.told-sets, filled_none (λ k. start_set) (λ k. get_or l k 0) pair_places l c.told-sets (λ k b. refl))

pub loop-k-preserved : goal.loop-k-preserved
loop-k-preserved c =
    let t = c.loop-k in
    let l = c.args.sets.now in (
      length-set t.sets _ _ ∙ t.invariant.0,
      ap (λ (u : List ℕ). set u t.k start_set) t.invariant.1
          ∙ filled_more (λ k. start_set) (λ k. get_or l k 0) pair_places t.k start_set (omega arith) refl,
    )

pub returns : goal.returns
unfolding reset_pairs
returns c =
    let t = c.loop-k in
    let a = c.args in
    let l = a.sets.now in
    let e : t.k ≡ a.n * instances = omega arith in
    rw e at t.invariant.1 ∙ same_from (λ k. cond (ltb k (a.n * instances)) start_set (get_or l k 0)) (λ k. cond (ltb (k / instances) a.n) start_set (get_or l k 0)) pair_places
    (λ k b. ap (λ (u : Bool). cond u start_set (get_or l k 0)) (rows-places k a.n))
