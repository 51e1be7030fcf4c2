use Prim.Native.Nat.{ℕ, ◌+◌, ◌*◌, ◌/◌}
use mathlib.Core.Path.{◌≡◌, refl, sym, ap, ◌∙◌}
use mathlib.Core.List.{List}
use native.Mathlib.Omega.{arith}
use lib.ListN.{get_or, set, length-set}
use Rattle.monitor_sets.specs.Instances.{instances}
use Rattle.monitor_pairs.specs.Code.{column_put}
use Rattle.monitor_pairs.proofs.RunLaws.{column-none, column-more}
use Rattle.monitor_pairs.proofs.events.put_column.Goals as goal

pub loop-i-init : goal.loop-i-init
loop-i-init c = (
  c.told-sets,
  column-none c.args.at (λ k. get_or c.args.column.now (k / instances) 0) (λ k. get_or c.args.sets.now k 0) _ c.told-sets (λ l b. refl),
)

pub loop-i-preserved : goal.loop-i-preserved
loop-i-preserved c =
    let a = c.args in
    let t = c.loop-i in
    let z : (t.i * instances + a.at) / instances ≡ t.i = omega arith in (
      length-set t.sets _ _ ∙ t.invariant.0,
      ap (λ (l : List ℕ). set l (t.i * instances + a.at) (get_or a.column.now t.i 0)) t.invariant.1
          ∙ column-more a.at (λ k. get_or a.column.now (k / instances) 0) (λ k. get_or a.sets.now k 0) t.i _ (omega arith)
          (omega arith) (ap (λ (i : ℕ). get_or a.column.now i 0) (sym z)),
    )

pub returns : goal.returns
unfolding column_put
returns c =
    let a = c.args in
    let t = c.loop-i in
    let e : t.i ≡ a.n = omega arith in
    rw e at t.invariant.1
