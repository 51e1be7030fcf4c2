use Prim.Native.Nat.{◌+◌, ◌<◌}
use mathlib.Core.Path.{◌≡◌, refl, sym, ◌∙◌}
use native.Mathlib.Omega.{arith}
use lib.ListN.{length, get_or, length-set}
use Rattle.std.proofs.lemmas.Option.{none-some, same_Some}
use Rattle.usage.specs.Limits.{policies}
use Rattle.usage.specs.Tests.{every}
use Rattle.monitor_sets.specs.Order.{stack_in}
use Rattle.monitor_sets.proofs.OrderLaws.{counts-none, counts-more, entry-fails, more-pass, stack-most}
use Rattle.monitor_sets.proofs.order.tally.Goals as goal

pub loop-policy-init : goal.loop-policy-init
unfolding stack_in every
loop-policy-init c = (refl, (refl, counts-none c.args.order.now _ refl))

pub returns-then-p-ge-POLICIES-clause-none : goal.returns-then-p-ge-POLICIES-clause-none
returns-then-p-ge-POLICIES-clause-none c =
    let o = c.args.order.now in
    λ e. entry-fails (length o) o c.loop-policy.policy-index (omega arith) c.if-p-ge-POLICIES.true

pub overflow_add-counts : goal.overflow_add-counts
overflow_add-counts c =
    let o = c.args.order.now in
    let t = c.loop-policy in
    let p = get_or o t.policy-index 0 in
    record { fits = omega (arith, t.invariant.1.1 p c.if-p-ge-POLICIES.false, stack-most p t.policy-index o) }

pub loop-policy-preserved : goal.loop-policy-preserved
loop-policy-preserved c =
    let o = c.args.order.now in
    let t = c.loop-policy in
    let p = get_or o t.policy-index 0 in
    let l : p < policies = c.if-p-ge-POLICIES.false in (
      more-pass t.policy-index o t.invariant.0 l,
      (
        length-set t.counts p (get_or t.counts p 0 + 1) ∙ t.invariant.1.0,
        counts-more o t.policy-index t.counts t.invariant.1.0 l t.invariant.1.1,
      ),
    )

pub returns : goal.returns
returns c =
    let o = c.args.order.now in
    let t = c.loop-policy in
    let e : t.policy-index ≡ length o = omega arith in
    rw (← e) (record { none = λ n. absurd (none-some _ (sym n)); some = λ counts s. rw (← same_Some _ _ s) (t.invariant.0, t.invariant.1.0, t.invariant.1.1) })
