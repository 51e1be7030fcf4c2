use native.Mathlib.Omega.{arith}
use mathlib.Core.Path.{◌≡◌, refl, ap, ◌∙◌, subst}
use Prim.Native.Nat.{ℕ, ◌+◌}
use lib.Bits.{bit_or}
use lib.ListN.{get_or}
use Rattle.usage.specs.Limits.{states}
use Rattle.automaton.specs.Mask.{union}
use Rattle.checker_account.specs.Tables.{over}
use Rattle.checker_account.proofs.JoinLaws.{zeros}
use Rattle.checker_tables.specs.ByState.{ByState}
use Rattle.checker_tables.proofs.ByStateLaws.{by_as, union_more}
use Rattle.checker_tables.proofs.sets.union_each.Goals as goal
use Rattle.checker_tables.proofs.sets.union_each.Invariants.{part}

pub loop-s-init : goal.loop-s-init
unfolding union
loop-s-init c = record { len = refl; held = λ q l. zeros states q }

pub loop-s-preserved : goal.loop-s-preserved
loop-s-preserved c =
    let a = c.args in
    let l = c.loop-s in
    let t = a.t.now in
    let j = c.join_where-next in
    let f = part t a.i a.v in by_as (λ q. union (l.s + 1) (f q)) (λ q. bit_or (get_or l.r q 0) (f q l.s)) j.result j.ensures
    (λ q b. ap (λ (n : ℕ). bit_or n (f q l.s)) (l.invariant.held q b) ∙ union_more (f q) l.s)

pub returns : goal.returns
unfolding over
returns c =
    let a = c.args in
    let l = c.loop-s in
    let e : l.s ≡ states = omega arith in
    subst (λ (n : ℕ). ByState states (λ q. union n (part a.t.now a.i a.v q)) l.r) e l.invariant
