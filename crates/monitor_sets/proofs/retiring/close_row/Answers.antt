use Prim.Native.Nat.{ℕ, ◌+◌}
use mathlib.Core.Path.{ap, ◌∙◌}
use mathlib.Core.List.{List}
use native.Mathlib.Omega.{arith}
use lib.ListN.{set, length-set, get_or}
use Rattle.usage.specs.Tables.{from}
use Rattle.monitor_sets.specs.Instances.{set_places}
use Rattle.monitor_sets.specs.Code.{row_closed}
use Rattle.monitor_sets.proofs.ClosingLaws.{closed_to, closed_none, closed-source, closed-more, closed_all}
use Rattle.monitor_sets.proofs.retiring.close_row.Goals as goal

pub loop-j-init : goal.loop-j-init
loop-j-init c = let a = c.args in (c.told-sets, closed_none set_places (a.k + a.at) a.sets.now c.told-sets)

pub loop-j-preserved : goal.loop-j-preserved
loop-j-preserved c =
    let a = c.args in
    let t = c.loop-j in
    let i : ℕ = a.k + a.at in
    let all : List ℕ = from (closed_to set_places i a.sets.now t.j) 0 set_places in (
      length-set t.sets t.j (get_or t.sets (t.j + 1) 0) ∙ t.invariant.0,
      ap (λ (l : List ℕ). set l t.j (get_or l (t.j + 1) 0)) t.invariant.1
          ∙ ap (λ (v : ℕ). set all t.j v) (closed-source set_places i a.sets.now t.j (omega arith))
          ∙ closed-more set_places i a.sets.now t.j (omega arith) (omega arith),
    )

pub returns : goal.returns
unfolding row_closed
returns c =
    let a = c.args in
    let t = c.loop-j in
    t.invariant.1 ∙ closed_all set_places (a.k + a.at) a.sets.now (a.k + a.n) t.j (omega arith)
