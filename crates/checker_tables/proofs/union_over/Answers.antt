use lib.Bits.{bit_or, or_zero_r}
use Rattle.usage.specs.Limits.{states}
use Rattle.automaton.specs.Mask.{union}
use Rattle.checker_account.proofs.MaskLaws.{over-in, over-out}
use native.Mathlib.Omega.{arith}
use mathlib.Core.Path.{◌≡◌, refl, ap₂, ◌∙◌}
use Prim.Native.Nat.{ℕ, ◌+◌}
use lib.ListN.{get_or}
use Rattle.checker_account.specs.Tables.{over}
use Rattle.checker_tables.proofs.union_over.Goals as goal
use Rattle.checker_tables.proofs.union_over.Goals.{else-v-q-eq1, then-v-q-eq1}

pub loop-q-init : goal.loop-q-init
unfolding union
loop-q-init c = refl

pub loop-q-preserved : goal.loop-q-preserved
loop-q-preserved c =
    let a = c.args in
    let l = c.loop-q in
    let f : ℕ → ℕ = λ (j : ℕ). get_or a.t.now (a.i + j) 0 in
    elim c.if-v-q-eq1.branch [
      | then-v-q-eq1 w ↦ ap₂ (λ (n m : ℕ). bit_or n m) l.invariant w.more-is ∙ over-in f a.v l.q w.if-v-q-eq1.true
      | else-v-q-eq1 w ↦ ap₂ (λ (n m : ℕ). bit_or n m) l.invariant w.more-is ∙ or_zero_r _ ∙ over-out f a.v l.q w.if-v-q-eq1.false
    ]

pub returns : goal.returns
unfolding over
returns c =
    let e : c.loop-q.q ≡ states = omega arith in
    rw e at c.loop-q.invariant
