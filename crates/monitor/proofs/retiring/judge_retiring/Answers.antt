use Prim.Native.Nat.{ℕ, ◌+◌, ◌-◌}
use mathlib.Core.Path.{◌≡◌, refl, sym, ap, ◌∙◌, ap₂}
use mathlib.Core.Bool.{Bool, true, false, cond}
use native.Mathlib.Omega.{arith}
use borrow.Author.Tests.{eq-eqb, ne_eqb}
use lib.Dec.{eqb}
use lib.ListN.{length}
use Rattle.usage.specs.Past.{retiring}
use Rattle.usage.specs.Tables.{edges_of}
use Rattle.usage.specs.Limits.{most_created}
use Rattle.usage.proofs.TableLaws.{length_from}
use Rattle.usage.specs.declared.Reason.TheVariants.{RetireNotLive}
use Rattle.monitor_sets.specs.Instances.{first_created_lem}
use Rattle.monitor_sets.specs.Created.{closed_up}
use Rattle.monitor_sets.specs.Sets.{retired_sets}
use Rattle.monitor_state.specs.Judge.{place_of, retired_in, with_retired, releasing, after}
use Rattle.monitor_state.specs.Code.{state_of}
use Rattle.monitor.specs.Loans.{held}
use Rattle.monitor.proofs.LentLaws.{refused-step, parts-place, retiring-low, retiring-taken, retiring-used, settled-step, kept, retire-done, close-done}
use Rattle.monitor_pairs.specs.declared.which.Blocks.{Blocks}
use Rattle.monitor_pairs.specs.Pairs.{retire_pairs}
use Rattle.monitor_pairs.specs.Blocks.{each_block}
use Rattle.monitor.proofs.EventLaws.{blocks-retired}
use Rattle.monitor.proofs.retiring.judge_retiring.Goals as goal

pub returns-then-at-lt-FIRST_CREATED-clause-judged : goal.returns-then-at-lt-FIRST_CREATED-clause-judged
returns-then-at-lt-FIRST_CREATED-clause-judged c =
    let a = c.args in
    let l = held a.lent.now in
    let place = c.place_of-at in
    refused-step a.by.now l a.sizes (retiring a.r) RetireNotLive c.refused.result c.refused.ensures
    (retiring-low (state_of l a.sizes) a.r place.result place.ensures c.if-at-lt-FIRST_CREATED.true)

pub overflow_sub-after : goal.overflow_sub-after
overflow_sub-after c =
    let a = c.args in
    let place = c.place_of-at in
    let s = state_of (held a.lent.now) a.sizes in
    omega (arith, c.if-at-lt-FIRST_CREATED.false, retiring-used s a.r place.result place.ensures)

pub returns-then-bad-ne0-clause-judged : goal.returns-then-bad-ne0-clause-judged
unfolding releasing retired_in with_retired after
returns-then-bad-ne0-clause-judged c =
    let a = c.args in
    let l = held a.lent.now in
    let s = state_of l a.sizes in
    let place = c.place_of-at in
    let e = c.broken_set-bad in
    let bad = e.result in
    let off : eqb bad 0 ≡ false = ne_eqb bad 0 c.if-bad-ne0.true in
    let t = releasing (edges_of a.by.now.edges.now) s a.r in
    settled-step s t bad a.by.now (retiring a.r) c.settled.result e.ensures
    (retiring-taken s a.r place.result place.ensures c.if-at-lt-FIRST_CREATED.false) refl c.settled.ensures
    (sym (ap (λ (b : Bool). cond b t.tracked.sets l.sets) off)) (sym (ap (λ (b : Bool). cond b t.tracked.pairs l.pairs) off)) (kept s t bad l.possible)
    (sym (ap (λ (b : Bool). cond b t.created.numbers l.numbers) off)) (kept s t bad l.counts) (kept s t bad l.order)

pub returns-clause-judged : goal.returns-clause-judged
unfolding releasing retired_in with_retired after
returns-clause-judged c =
    let a = c.args in
    let l = held a.lent.now in
    let s = state_of l a.sizes in
    let few = c.requires in
    let place = c.place_of-at in
    let at = place.result in
    let low = c.if-at-lt-FIRST_CREATED.false in
    let e = c.broken_set-bad in
    let bad = e.result in
    let on : eqb bad 0 ≡ true = eq-eqb bad 0 c.if-bad-ne0.false in
    let n = first_created_lem + a.sizes.count in
    let used = retiring-used s a.r at place.ensures in
    let is : at ≡ place_of s.created a.r = place.ensures ∙ sym (parts-place s.created a.r) in
    let t = releasing (edges_of a.by.now.edges.now) s a.r in
    let sets = c.retire.ensures
    ∙ retire-done n at _ _ (omega (arith, few)) used low ∙ ap (λ (i : ℕ). retired_sets i n l.sets) is in
    let pairs = c.retire-2.ensures
    ∙ blocks-retired l.pairs n at _ _ a.lent.now.whole.0 (omega (arith, few)) used low
    ∙ ap₂ (λ (b : Blocks) (i : ℕ). each_block b (λ p. retire_pairs i n) l.pairs) a.by.now.of_edges is in
    let created = c.close_up.ensures
    ∙ close-done a.sizes.count (at - first_created_lem) _ _ few (omega (arith, low, used))
    ∙ ap (λ (i : ℕ). closed_up (i - first_created_lem) a.sizes.count l.numbers) is in
    settled-step s t bad a.by.now (retiring a.r) c.settled-2.result e.ensures
    (retiring-taken s a.r at place.ensures low) refl c.settled-2.ensures
    (sets ∙ sym (ap (λ (b : Bool). cond b t.tracked.sets l.sets) on)) (pairs ∙ sym (ap (λ (b : Bool). cond b t.tracked.pairs l.pairs) on)) (kept s t bad l.possible)
    (created ∙ sym (ap (λ (b : Bool). cond b t.created.numbers l.numbers) on)) (kept s t bad l.counts) (kept s t bad l.order)

pub invariant_of-lent-3 : goal.invariant_of-lent-3
unfolding closed_up
invariant_of-lent-3 c =
    let a = c.args in
    let w = a.lent.now.whole in
    let place = c.place_of-at in
    let at = place.result in
    let used = retiring-used (state_of (held a.lent.now) a.sizes) a.r at place.ensures in
    let low = c.if-at-lt-FIRST_CREATED.false in
    let created : length c.close_up.new.created ≡ most_created =
    ap length (c.close_up.ensures ∙ close-done a.sizes.count (at - first_created_lem) _ _ c.requires (omega (arith, low, used)))
    ∙ length_from _ 0 most_created in
    record { whole = (c.retire-2.auto.pairs ∙ w.0, created, w.2) }
