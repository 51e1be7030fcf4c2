use Prim.Native.Nat.{ℕ, ◌<◌}
use mathlib.Core.Path.{◌≡◌, refl, ap, ◌∙◌}
use mathlib.Core.List.{List}
use native.Mathlib.Omega.{arith}
use lib.ListN.{get_or, set, length-set}
use Rattle.automaton.specs.Move.{move_by}
use Rattle.monitor_pairs.specs.Pairs.{pair_places}
use Rattle.monitor_pairs.specs.Code.{run_moved}
use Rattle.monitor_pairs.proofs.RunLaws.{filled_none, filled_next, filled_more}
use Rattle.monitor_pairs.proofs.runs.move_eight.Goals as goal

pub loop-k-init : goal.loop-k-init
loop-k-init c =
    let rows = c.args.rows in
    let l = c.args.sets.now in
    (c.told-sets, filled_none (λ k. move_by rows 0 (get_or l k 0)) (λ k. get_or l k 0) pair_places l c.told-sets (λ k b. refl))

pub loop-k-preserved : goal.loop-k-preserved
loop-k-preserved c =
    let rows = c.args.rows in
    let l = c.args.sets.now in
    let t = c.loop-k in
    let f : ℕ → ℕ = λ k. move_by rows 0 (get_or l k 0) in
    let g : ℕ → ℕ = λ k. get_or l k 0 in
    let h : t.k < pair_places = omega arith in
    let e : get_or t.sets t.k 0 ≡ get_or l t.k 0 = ap (λ (u : List ℕ). get_or u t.k 0) t.invariant.1
    ∙ filled_next f g pair_places t.k h in (
      length-set t.sets _ _ ∙ t.invariant.0,
      ap (λ (u : List ℕ). set u t.k c.move_by_rows.result) t.invariant.1
          ∙ filled_more f g pair_places t.k _ h (c.move_by_rows.ensures ∙ ap (move_by rows 0) e),
    )

pub returns : goal.returns
unfolding run_moved
returns c =
    let t = c.loop-k in
    let e : t.k ≡ c.args.n = omega arith in rw e at t.invariant.1
