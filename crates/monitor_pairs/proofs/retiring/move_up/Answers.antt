use Prim.Native.Nat.{ℕ, ◌+◌}
use mathlib.Core.Path.{◌≡◌, refl, ap, ◌∙◌}
use mathlib.Core.List.{List}
use native.Mathlib.Omega.{arith}
use lib.ListN.{get_or, set, length-set}
use Rattle.monitor_pairs.specs.Pairs.{pair_places}
use Rattle.monitor_pairs.specs.Code.{moved_up}
use Rattle.monitor_pairs.proofs.RunLaws.{span_none, span-ahead, span_more}
use Rattle.monitor_pairs.proofs.retiring.move_up.Goals as goal

pub loop-i-init : goal.loop-i-init
loop-i-init c =
    let a = c.args in
    let l = a.sets.now in
    (c.told-sets, span_none a.s (λ k. get_or l (k + a.by) 0) (λ k. get_or l k 0) pair_places l c.told-sets (λ k b. refl))

pub loop-i-preserved : goal.loop-i-preserved
loop-i-preserved c =
    let a = c.args in
    let t = c.loop-i in
    let l = a.sets.now in
    let f : ℕ → ℕ = λ k. get_or l (k + a.by) 0 in
    let g : ℕ → ℕ = λ k. get_or l k 0 in
    let e : get_or t.sets (a.s + t.i + a.by) 0 ≡ f (a.s + t.i) = ap (λ (u : List ℕ). get_or u (a.s + t.i + a.by) 0) t.invariant.1
    ∙ span-ahead a.s f g pair_places t.i (a.s + t.i + a.by) (omega arith) (omega arith) in (
      length-set t.sets _ _ ∙ t.invariant.0,
      ap (λ (u : List ℕ). set u (a.s + t.i) (get_or t.sets (a.s + t.i + a.by) 0)) t.invariant.1
          ∙ span_more a.s f g pair_places t.i _ (omega arith) e,
    )

pub returns : goal.returns
unfolding moved_up
returns c =
    let a = c.args in
    let t = c.loop-i in
    let e : t.i ≡ a.n = omega arith in
    rw e at t.invariant.1
