use Prim.Native.Nat.{ℕ, ◌+◌, ◌-◌, ◌*◌}
use mathlib.Core.Path.{refl, ap, ◌∙◌}
use native.Mathlib.Omega.{arith}
use lib.Bits.{bit_or}
use lib.ListN.{length, get_or}
use Rattle.automaton.specs.Mask.{union}
use Rattle.monitor_sets.specs.Code.{lanes}
use Rattle.monitor_sets.proofs.LaneLaws.{union-next, union-back}
use Rattle.monitor_sets.proofs.unions.union_all.Goals as goal

pub loop-i-init : goal.loop-i-init
unfolding union
loop-i-init c = (refl, refl)

pub loop-i-preserved : goal.loop-i-preserved
loop-i-preserved c =
    let t = c.loop-i in (
      c.join_lanes.array_long,
      c.join_lanes.ensures ∙ ap (λ (u : ℕ). bit_or u (union lanes (λ j. get_or c.args.sets.now (lanes * t.i + j) 0))) t.invariant.1
          ∙ union-next (λ j. get_or c.args.sets.now j 0) t.i,
    )

pub returns : goal.returns
returns c =
    let l = c.args.sets.now in
    let t = c.loop-i in
    let f : ℕ → ℕ = λ j. get_or l j 0 in
    let all = c.join_lanes-2.new.all in
    c.union_few-2.ensures
    ∙ ap (λ (n : ℕ). union n (λ j. get_or all j 0)) c.join_lanes-2.array_long
    ∙ c.join_lanes-2.ensures
    ∙ ap (λ (u : ℕ). bit_or u (union lanes (λ j. get_or l (length l - lanes + j) 0))) t.invariant.1
    ∙ union-back f (lanes * t.i) (length l) (omega arith) (omega arith) (omega arith)
