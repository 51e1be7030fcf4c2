use Prim.Native.Nat.{ℕ, ◌<◌, ◌≤◌}
use mathlib.Core.Path.{◌≡◌, refl, sym, ◌∙◌}
use mathlib.Core.Bool.{true}
use mathlib.Core.List.{List}
use native.Mathlib.Omega.{arith}
use lib.ListN.{get_or}
use Rattle.usage.specs.Limits.{policies, most_unclosed}
use Rattle.usage.specs.Past.{closing}
use Rattle.usage.specs.declared.Reason.TheVariants.{NotOpen, NotNewest}
use Rattle.monitor_sets.specs.Order.{order_ok_lem}
use Rattle.monitor_sets.proofs.SetLaws.{pos}
use Rattle.monitor_sets.proofs.OrderLaws.{order-parts, order-some}
use Rattle.monitor_state.specs.Judge.{with_closing, leaving, after}
use Rattle.monitor_state.specs.Code.{state_of}
use Rattle.monitor.specs.Loans.{held}
use Rattle.monitor.proofs.JudgeLaws.{closing-closed, closing-not-last, closing-free}
use Rattle.monitor.proofs.LentLaws.{refused-step, settled-step, kept}
use Rattle.monitor.proofs.sandboxes.leave.Goals as goal

-- where p is open the order has a last entry
range : (depth : ℕ) (order unclosed : List ℕ) (p : ℕ) → order_ok_lem depth order unclosed ≡ true → p < policies → (get_or unclosed p 0 ≡ 0 → ⊥)
    → (0 < depth) × (depth ≤ most_unclosed)
range depth order unclosed p e l n =
    let w = order-parts depth order unclosed e in
    (order-some depth order unclosed w p l (pos _ n), w.few)

pub returns-then-n-eq0-clause-judged : goal.returns-then-n-eq0-clause-judged
returns-then-n-eq0-clause-judged c =
    let a = c.args in
    let l = held a.lent.now in
    refused-step a.by.now l a.sizes (closing a.p) NotOpen c.refused.result c.refused.ensures (closing-closed (state_of l a.sizes) a.p c.if-n-eq0.true)

pub overflow_sub-depth : goal.overflow_sub-depth
overflow_sub-depth c =
    let a = c.args in
    let pre = c.requires in
    omega (arith, (range a.sizes.depth a.lent.now.order.now a.lent.now.unclosed.now a.p pre.unclosed_value pre.p_lt_policies c.if-n-eq0.false).0)

pub bounds-lent-depth : goal.bounds-lent-depth
bounds-lent-depth c =
    let a = c.args in
    let pre = c.requires in
    let r = range a.sizes.depth a.lent.now.order.now a.lent.now.unclosed.now a.p pre.unclosed_value pre.p_lt_policies c.if-n-eq0.false in
    omega (arith, r.0, r.1)

pub returns-then-from-p-clause-judged : goal.returns-then-from-p-clause-judged
returns-then-from-p-clause-judged c =
    let a = c.args in
    let l = held a.lent.now in
    let told = c.refused-then-from-p in
    refused-step a.by.now l a.sizes (closing a.p) NotNewest told.result told.ensures
    (closing-not-last (state_of l a.sizes) a.p (pos _ c.if-n-eq0.false) (λ e. c.if-from-p.true (c.from.ensures ∙ e)))

pub overflow_sub-left : goal.overflow_sub-left
overflow_sub-left c =
    let a = c.args in
    let pre = c.requires in
    omega (arith, (range a.sizes.depth a.lent.now.order.now a.lent.now.unclosed.now a.p pre.unclosed_value pre.p_lt_policies c.if-n-eq0.false).0)

pub returns-clause-judged : goal.returns-clause-judged
unfolding leaving with_closing after
returns-clause-judged c =
    let a = c.args in
    let l = held a.lent.now in
    let s = state_of l a.sizes in
    let e = c.recount-bad in
    let bad = e.result in
    let t = leaving s a.p in
    settled-step s t bad a.by.now (closing a.p) c.settled.result e.ensures.value
    (closing-free s a.p (pos _ c.if-n-eq0.false) (sym c.from.ensures ∙ c.if-from-p.false)) refl c.settled.ensures
    (kept s t bad l.sets) (kept s t bad l.pairs) (kept s t bad l.possible) (kept s t bad l.numbers) e.ensures.unclosed_after
    (kept s t bad l.order)
