use Prim.Native.Nat.{ℕ, ◌+◌, ◌-◌}
use mathlib.Core.Path.{◌≡◌, refl, sym, ap, ◌∙◌}
use mathlib.Core.List.{List}
use native.Mathlib.Omega.{arith}
use lib.ListN.{get_or, set, length-set}
use Rattle.monitor_sets.specs.Instances.{instances}
use Rattle.monitor_pairs.specs.Pairs.{pair_places}
use Rattle.monitor_pairs.specs.Code.{row_put}
use Rattle.monitor_pairs.proofs.RunLaws.{span_none, span_more}
use Rattle.monitor_pairs.proofs.events.put_row.Goals as goal

pub loop-j-init : goal.loop-j-init
loop-j-init c = (
  c.told-sets,
  span_none c.args.k (λ l. get_or c.args.row.now (l - c.args.k) 0) (λ l. get_or c.args.sets.now l 0) pair_places _ c.told-sets (λ l b. refl),
)

pub loop-j-preserved : goal.loop-j-preserved
loop-j-preserved c =
    let a = c.args in
    let t = c.loop-j in
    let z : a.k + t.j - a.k ≡ t.j = omega arith in (
      length-set t.sets _ _ ∙ t.invariant.0,
      ap (λ (l : List ℕ). set l (a.k + t.j) (get_or a.row.now t.j 0)) t.invariant.1
          ∙ span_more a.k (λ l. get_or a.row.now (l - a.k) 0) (λ l. get_or a.sets.now l 0) pair_places t.j _ (omega arith)
          (ap (λ (i : ℕ). get_or a.row.now i 0) (sym z)),
    )

pub returns : goal.returns
unfolding row_put
returns c =
    let a = c.args in
    let t = c.loop-j in
    let e : t.j ≡ instances = omega arith in
    rw e at t.invariant.1
