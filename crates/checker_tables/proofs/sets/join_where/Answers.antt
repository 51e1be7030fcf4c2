use native.Mathlib.Omega.{arith}
use mathlib.Core.Path.{◌≡◌, sym, ap, ap₂, ◌∙◌}
use Prim.Native.Nat.{ℕ}
use lib.ListN.{get_or}
use mathlib.Core.Bool.{Bool, cond}
use lib.Bits.{bit_or}
use Rattle.automaton.specs.Mask.{has}
use Rattle.checker_account.proofs.MaskLaws.{test_in, test-out}
use Rattle.checker_tables.proofs.ByStateLaws.{place-more}
use Rattle.checker_tables.proofs.sets.join_where.Goals as goal
use Rattle.checker_tables.proofs.sets.join_where.Goals.{else-v-q-eq1, then-v-q-eq1}
use Rattle.checker_tables.proofs.sets.join_where.Invariants.{each}

pub loop-q-preserved : goal.loop-q-preserved
loop-q-preserved c =
    let a = c.args in
    let l = c.loop-q in
    let h = c.loop-q-test.true in
    let v = get_or a.v l.q 0 in
    let more : c.if-v-q-eq1.more ≡ cond (has v a.s) a.e 0 =
    elim c.if-v-q-eq1.branch [ then-v-q-eq1 w ↦ w.more-is ∙ ap (λ (b : Bool). cond b a.e 0) (sym (test_in (λ j. 0) v a.s w.if-v-q-eq1.true)) | else-v-q-eq1 w ↦ w.more-is ∙ ap (λ (b : Bool). cond b a.e 0) (sym (test-out (λ j. 0) v a.s w.if-v-q-eq1.false)) ] in
    let still = l.invariant.left l.q (omega arith) in place-more (each a.s a.e a.w a.v) a.w l.q l.w _ (omega arith) (ap₂ (λ (x y : ℕ). bit_or x y) still more)
    l.invariant
