use lib.Dec.{eqb}
use mathlib.Core.Bool.{Bool, ◌&&◌}
use mathlib.Core.Path.{◌≡◌, refl, sym, ap}
use Prim.Native.Nat.{◌*◌, ◌/◌, ◌+◌}
use native.Mathlib.Omega.{arith}
use lib.ListN.{length, get_or}
use borrow.Author.Tests.{eq-eqb, ne_eqb}
use Rattle.usage.specs.Tests.{some_below}
use Rattle.usage.proofs.Logic.{and_both, and-false}
use Rattle.automaton.proofs.MaskLaws.{some_at}
use Rattle.checker_account.proofs.CodeLaws.{none_more}
use Rattle.checker.specs.Code.{pair_in}
use Rattle.checker.proofs.is_pair.Goals as goal
use Rattle.checker.proofs.is_pair.Goals.{else-edges-k-via-then-edges-k+else-edges-k-eq-ON_SECOND as other-resource}
use Rattle.checker.proofs.is_pair.Goals.{else-edges-k-via-else-edges-k as other-policy}
use Rattle.checker.proofs.is_pair.Invariants.{test}

pub loop-i-init : goal.loop-i-init
unfolding some_below
loop-i-init c = refl

pub returns-then-edges-k-eq-ON_SECOND : goal.returns-then-edges-k-eq-ON_SECOND
unfolding pair_in
returns-then-edges-k-eq-ON_SECOND c =
    let a = c.args in
    let i = c.loop-i.i in
    sym (some_at (length a.edges.now / 6) (test a.edges.now a.p) i c.loop-i-test.true
    (and_both (eqb (get_or a.edges.now (6 * i) 0) a.p) (eqb (get_or a.edges.now (6 * i + 3) 0) 3)
    (eq-eqb (get_or a.edges.now (6 * i) 0) a.p c.if-edges-k.true)
    (eq-eqb (get_or a.edges.now (6 * i + 3) 0) 3 c.if-edges-k-eq-ON_SECOND.true)))

pub loop-i-preserved : goal.loop-i-preserved
loop-i-preserved c =
    let a = c.args in
    let l = c.loop-i in
    let x = get_or a.edges.now (6 * l.i) 0 in
    let y = get_or a.edges.now (6 * l.i + 3) 0 in
    none_more (test a.edges.now a.p) l.i l.invariant
    (elim c.else-edges-k.branch [
      | other-resource w ↦ and-false (eqb x a.p) (eqb y 3) (ne_eqb y 3 w.if-edges-k-eq-ON_SECOND.false)
      | other-policy w ↦ ap (λ (b : Bool). b && eqb y 3) (ne_eqb x a.p w.if-edges-k.false)
    ])

pub returns : goal.returns
unfolding pair_in
returns c =
    let l = c.loop-i in
    let e : l.i ≡ length c.args.edges.now / 6 = omega arith in
    sym (rw e at l.invariant)
