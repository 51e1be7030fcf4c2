use Rattle.usage.specs.Limits.{node_fields}
use Rattle.checker_trace.proofs.BitLaws as laws
use mathlib.Core.Path.{subst}
use Prim.Native.Nat.{◌/◌}
use mir.Val.{Fits}
use mir.Syntax.{w64}
use Rattle.checker_trace.specs.Code.{Spreads, begins, further}
use native.Mathlib.Omega.{arith}
use mathlib.Core.Path.{sym}
use lib.ListN.{length}
use borrow.Author.Rules.{rules}
use Rattle.checker_trace.proofs.find.closure.Goals as goal

pub loop-s-init : goal.loop-s-init
loop-s-init c = subst (Spreads c.args.t.now c.args.nodes.now c.args.e)
    (sym c.bit-s.ensures) begins

pub loop-s-smaller : goal.loop-s-smaller
loop-s-smaller c =
    let a = c.args in
    let h : Fits w64 c.spread-r.result = search rules in
    let g = laws.spread-ge a.t.now a.nodes.now a.e (length a.nodes.now / node_fields) c.loop-s.s in
    omega (arith, h.fits, c.spread-r.ensures, c.if-r-s.false)

pub loop-s-preserved : goal.loop-s-preserved
loop-s-preserved c = subst (Spreads c.args.t.now
    c.args.nodes.now c.args.e)
    (sym c.spread-r.ensures) (further c.loop-s.invariant)
