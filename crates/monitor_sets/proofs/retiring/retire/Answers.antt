use Prim.Native.Nat.{ℕ, ◌+◌, ◌*◌, ◌<◌}
use mathlib.Core.Path.{◌≡◌, ap, ap₂, ◌∙◌}
use mathlib.Core.List.{List}
use native.Mathlib.Omega.{arith}
use borrow.Author.Tests.{le-leb, lt-ltb}
use lib.Bits.{bit_or}
use lib.Dec.{lit<}
use lib.ListN.{set, get_or}
use Rattle.usage.specs.Limits.{policies}
use Rattle.monitor_sets.specs.Instances.{retirees, instances}
use Rattle.monitor_sets.specs.Code.{row_closed, retired_below}
use Rattle.monitor_sets.proofs.ClosingLaws.{below_none, below_all, below_at, below_more}
use Rattle.monitor_sets.proofs.retiring.retire.Goals as goal

pub loop-p-init : goal.loop-p-init
loop-p-init c = (c.told-sets, below_none c.args.at c.args.n c.args.sets.now c.told-sets)

pub loop-p-preserved : goal.loop-p-preserved
loop-p-preserved c =
    let t = c.loop-p in
    let a = c.args in
    let all : List ℕ = retired_below a.at a.n t.p a.sets.now in
    let k : ℕ = t.p * instances in
    let l : t.p < policies = omega arith in (
      c.close_row.array_long,
      c.close_row.ensures
          ∙ ap (λ (s : List ℕ). row_closed k a.at a.n (set s (k + retirees) (bit_or (get_or s (k + retirees) 0) (get_or s (k + a.at) 0))))
          t.invariant.1
          ∙ ap₂ (λ (u v : ℕ). row_closed k a.at a.n (set all (k + retirees) (bit_or u v)))
          (below_at a.at a.n a.sets.now t.p retirees l (lit< tt))
          (below_at a.at a.n a.sets.now t.p a.at l (omega arith))
          ∙ below_more a.at a.n a.sets.now t.p l (omega arith) (omega arith) (omega arith),
    )

pub returns : goal.returns
returns c =
    let a = c.args in
    let t = c.loop-p in
    let e : t.p ≡ policies = omega arith in
    rw (le-leb _ _ c.if-n-gt-INSTANCES.false, lt-ltb _ _ c.if-n-at.false, le-leb _ _ c.if-at-lt-FIRST_CREATED.false)
    (rw e at t.invariant.1 ∙ below_all a.at a.n a.sets.now)
