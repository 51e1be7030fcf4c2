use Prim.Native.Nat.{ℕ, ◌+◌}
use mathlib.Core.Path.{ap, ◌∙◌}
use mathlib.Core.List.{List}
use native.Mathlib.Omega.{arith}
use borrow.Author.Tests.{le-leb, lt-ltb}
use lib.ListN.{set, length-set, get_or}
use Rattle.usage.specs.Limits.{most_created}
use Rattle.usage.specs.Tables.{from}
use Rattle.monitor_sets.specs.Created.{closed_up}
use Rattle.monitor_sets.proofs.ClosingLaws.{closed_to, closed_none, closed-source, closed-more, closed_all}
use Rattle.monitor_sets.proofs.retiring.close_up.Goals as goal

pub loop-k-init : goal.loop-k-init
loop-k-init c = (c.told-created, closed_none most_created c.args.i c.args.created.now c.told-created)

pub loop-k-preserved : goal.loop-k-preserved
loop-k-preserved c =
    let a = c.args in
    let t = c.loop-k in
    let all : List ℕ = from (closed_to most_created a.i a.created.now t.k) 0 most_created in (
      length-set t.created t.k (get_or t.created (t.k + 1) 0) ∙ t.invariant.0,
      ap (λ (l : List ℕ). set l t.k (get_or l (t.k + 1) 0)) t.invariant.1
          ∙ ap (λ (v : ℕ). set all t.k v) (closed-source most_created a.i a.created.now t.k (omega arith))
          ∙ closed-more most_created a.i a.created.now t.k (omega arith) (omega arith),
    )

pub returns : goal.returns
unfolding closed_up
returns c =
    let a = c.args in
    let t = c.loop-k in
    rw (le-leb _ _ c.if-count-gt-MOST_CREATED.false, lt-ltb _ _ c.if-count-i.false)
    (t.invariant.1 ∙ closed_all most_created a.i a.created.now a.count t.k (omega arith))
