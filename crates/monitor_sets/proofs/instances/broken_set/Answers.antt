use mathlib.Core.Path.{◌≡◌, refl, sym}
use native.Mathlib.Omega.{arith}
use lib.ListN.{get_or}
use Rattle.usage.specs.Limits.{policies}
use Rattle.automaton.specs.Mask.{union}
use Rattle.monitor_sets.specs.Code.{broken_bit_lem, broken_in}
use Rattle.monitor_sets.proofs.SetLaws.{union_more, none-looked}
use Rattle.monitor_sets.proofs.instances.broken_set.Goals as goal

pub returns-then-looked-eq0 : goal.returns-then-looked-eq0
returns-then-looked-eq0 c = let a = c.args in rw c.if-looked-eq0.true (sym (none-looked a.possible.now a.unclosed.now))

pub loop-p-init : goal.loop-p-init
unfolding union
loop-p-init c = (refl)

pub loop-p-preserved : goal.loop-p-preserved
loop-p-preserved c =
    let a = c.args in
    let t = c.loop-p in (rw (t.invariant, c.broken_bit-bad.ensures)
    (union_more t.p (λ q. broken_bit_lem a.looked (get_or a.possible.now q 0) (get_or a.unclosed.now q 0) q)))

pub returns : goal.returns
unfolding broken_in
returns c =
    let e : c.loop-p.p ≡ policies = omega arith in
    rw e at c.loop-p.invariant
