use Prim.Native.Nat.{◌+◌}
use mathlib.Core.Path.{sym, ◌∙◌}
use native.Mathlib.Omega.{arith}
use Rattle.usage.specs.Past.{event}
use Rattle.usage.specs.Tables.{edges_of}
use Rattle.usage.specs.declared.Reason.TheVariants.{NotLive}
use Rattle.monitor_sets.specs.Instances.{first_created_lem}
use Rattle.monitor_sets.specs.Code.{event_sets}
use Rattle.monitor_state.specs.Code.{state_of, event_blocks, event_possible}
use Rattle.monitor_state.proofs.Places.{not_known, place-lt}
use Rattle.monitor.specs.Loans.{held}
use Rattle.monitor.proofs.JudgeLaws.{use-unknown}
use Rattle.monitor.proofs.LentLaws.{refused-step, parts-place, moved_to, event-after, event-free}
use Rattle.monitor.proofs.LentLaws.{settled-step, kept}
use Rattle.monitor.proofs.judge_event.Goals as goal

pub returns-then-at-eq-UNSEEN-clause-judged : goal.returns-then-at-eq-UNSEEN-clause-judged
returns-then-at-eq-UNSEEN-clause-judged c =
    let a = c.args in
    let l = held a.lent.now in
    let s = state_of l a.sizes in
    refused-step a.by.now l a.sizes (event a.action a.r) NotLive c.refused.result c.refused.ensures
    (use-unknown s a.r a.action c.if-action-eq0.false
    (not_known s.created a.r (parts-place s.created a.r ∙ sym c.place_of-at.ensures ∙ c.if-at-eq-UNSEEN.true)))

pub take_event-bad-requires-clause-at_lt_n : goal.take_event-bad-requires-clause-at_lt_n
take_event-bad-requires-clause-at_lt_n c =
    let a = c.args in
    let s = state_of (held a.lent.now) a.sizes in
    omega (arith, c.place_of-at.ensures, parts-place s.created a.r, place-lt s.created a.r)

pub returns-clause-judged : goal.returns-clause-judged
returns-clause-judged c =
    let a = c.args in
    let l = held a.lent.now in
    let s = state_of l a.sizes in
    let place = c.place_of-at in
    let e = c.take_event-bad in
    let bad = e.result in
    let at = place.result in
    let n = first_created_lem + a.sizes.count in
    let es = edges_of a.by.now.edges.now in
    let other = c.if-action-eq0.false in
    let t = moved_to s (event_sets es a.action a.r at n l.sets) (event_blocks es a.action a.r at n l.pairs)
    (event_possible es a.action a.r at n l.sets l.pairs) s.created in
    settled-step s t bad a.by.now (event a.action a.r) c.settled.result e.ensures.value
    (event-free a.by.now.local es s a.r a.action at other place.ensures c.if-at-eq-UNSEEN.false)
    (event-after a.by.now.local es s a.r a.action at other place.ensures) c.settled.ensures
    e.ensures.sets_after e.ensures.pairs_after e.ensures.possible_after
    (kept s t bad l.numbers) (kept s t bad l.counts) (kept s t bad l.order)
