use Prim.Native.Nat.{◌^◌}
use mathlib.Core.Path.{◌≡◌, refl}
use mathlib.Core.Bool.{cond}
use native.Mathlib.Omega.{arith}
use Rattle.usage.specs.Limits.{policies}
use Rattle.automaton.specs.Mask.{union}
use Rattle.monitor_sets.proofs.SetLaws.{union_more}
use Rattle.monitor_lean.specs.Lean.{mark_at}
use borrow.Author.Rules.{rules}
use Rattle.monitor_lean.proofs.marked_at.Goals as goal

pub loop-p-init : goal.loop-p-init
unfolding union
loop-p-init c = (search rules, refl)

pub loop-p-preserved : goal.loop-p-preserved
loop-p-preserved c =
    let a = c.args in
    let t = c.loop-p in (
      search rules,
      rw (t.invariant.1, c.mark_bit-s.ensures)
          (union_more t.p (λ q. cond (mark_at a.marks.now q a.i) (2 ^ q) 0)),
    )

pub returns : goal.returns
returns c =
    let e : c.loop-p.p ≡ policies = omega arith in
    rw e at c.loop-p.invariant.1
