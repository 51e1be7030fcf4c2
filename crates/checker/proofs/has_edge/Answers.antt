use Prim.Native.Nat.{◌*◌, ◌/◌}
use borrow.Author.Tests.{eq-eqb, ne_eqb}
use Rattle.usage.specs.Tests.{some_below}
use Rattle.automaton.proofs.MaskLaws.{some_at}
use Rattle.checker.specs.Code.{has_edge_lem}
use Rattle.checker_account.proofs.CodeLaws.{none_more}
use native.Mathlib.Omega.{arith}
use mathlib.Core.Path.{◌≡◌, refl, sym}
use lib.ListN.{length, get_or}
use Rattle.checker.proofs.has_edge.Goals as goal
use Rattle.checker.proofs.has_edge.Invariants.{test}

pub loop-i-init : goal.loop-i-init
unfolding some_below
loop-i-init c = refl

pub returns-then-edges-i : goal.returns-then-edges-i
unfolding has_edge_lem
returns-then-edges-i c =
    let a = c.args in
    let i = c.loop-i.i in
    sym (some_at (length a.edges.now / 6) (test a.edges.now a.p) i c.loop-i-test.true
    (eq-eqb (get_or a.edges.now (6 * i) 0) a.p c.if-edges-i.true))

pub loop-i-preserved : goal.loop-i-preserved
loop-i-preserved c =
    let a = c.args in
    let l = c.loop-i in
    none_more (test a.edges.now a.p) l.i l.invariant (ne_eqb (get_or a.edges.now (6 * l.i) 0) a.p c.if-edges-i.false)

pub returns : goal.returns
unfolding has_edge_lem
returns c =
    let l = c.loop-i in
    let e : l.i ≡ length c.args.edges.now / 6 = omega arith in
    sym (rw e at l.invariant)
