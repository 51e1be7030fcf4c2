use Prim.Native.Nat.{ℕ, ◌+◌, ◌<◌}
use mathlib.Core.Path.{◌≡◌, refl, ap, ◌∙◌}
use mathlib.Core.List.{List}
use native.Mathlib.Omega.{arith}
use lib.Bits.{bit_or}
use lib.ListN.{get_or, set, length-set}
use Rattle.monitor_sets.specs.Instances.{instances}
use Rattle.monitor_pairs.specs.Code.{row_joined}
use Rattle.monitor_pairs.proofs.RunLaws.{filled_none, filled_next, filled_more, filled-all}
use Rattle.monitor_pairs.proofs.gathering.join_row.Goals as goal

pub loop-j-init : goal.loop-j-init
loop-j-init c =
    let l = c.args.line.now in
    let s = c.args.sets.now in
    let k = c.args.k in (
      c.told-line,
      filled_none (λ j. bit_or (get_or l j 0) (get_or s (k + j) 0)) (λ j. get_or l j 0) instances l c.told-line (λ j
          b. refl),
    )

pub loop-j-preserved : goal.loop-j-preserved
loop-j-preserved c =
    let a = c.args in
    let t = c.loop-j in
    let l = a.line.now in
    let s = a.sets.now in
    let k = a.k in
    let f : ℕ → ℕ = λ j. bit_or (get_or l j 0) (get_or s (k + j) 0) in
    let g : ℕ → ℕ = λ j. get_or l j 0 in
    let h : t.j < instances = omega arith in
    let e : get_or t.line t.j 0 ≡ g t.j = ap (λ (u : List ℕ). get_or u t.j 0) t.invariant.1
    ∙ filled_next f g instances t.j h in (
      length-set t.line _ _ ∙ t.invariant.0,
      ap (λ (u : List ℕ). set u t.j (bit_or (get_or t.line t.j 0) (get_or s (k + t.j) 0))) t.invariant.1
          ∙ filled_more f g instances t.j _ h (ap (λ (u : ℕ). bit_or u (get_or s (k + t.j) 0)) e),
    )

pub returns : goal.returns
unfolding row_joined
returns c =
    let a = c.args in
    let t = c.loop-j in
    let l = a.line.now in
    let s = a.sets.now in
    let k = a.k in t.invariant.1 ∙ filled-all (λ j. bit_or (get_or l j 0) (get_or s (k + j) 0)) (λ j. get_or l j 0) instances t.j (omega
    arith)
