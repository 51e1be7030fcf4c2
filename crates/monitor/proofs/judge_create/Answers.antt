use Prim.Native.Nat.{ℕ, ◌+◌, ◌<◌}
use mathlib.Core.Path.{◌≡◌, refl, sym, ap, ◌∙◌}
use mathlib.Core.Bool.{Bool, cond}
use mathlib.Core.List.{List}
use native.Mathlib.Omega.{arith}
use borrow.Author.Tests.{eq-eqb, ne_eqb}
use lib.Dec.{eqb}
use lib.ListN.{length, set}
use Rattle.usage.specs.Limits.{most_created}
use Rattle.usage.specs.Past.{event}
use Rattle.usage.specs.Tables.{edges_of}
use Rattle.usage.specs.declared.Reason.TheVariants.{CreateStatic, NotAbove, TooManyLive}
use Rattle.monitor_sets.specs.Instances.{first_created_lem}
use Rattle.monitor_sets.specs.Code.{event_sets}
use Rattle.monitor_state.specs.Created.{with_new}
use Rattle.monitor_state.specs.Code.{Lent, lent_of, state_of, judgement_of, event_blocks, event_possible}
use Rattle.monitor.specs.Loans.{held}
use Rattle.monitor.proofs.JudgeLaws.{create-static, create-low, create-full, create-free}
use Rattle.monitor.proofs.LentLaws.{refused-step, new-above, moved_to, create-after, settled-step, kept}
use Rattle.monitor.proofs.judge_create.Goals as goal
use Rattle.monitor.proofs.judge_create.Goals.{else-bad-eq0, then-bad-eq0}

pub returns-then-r-lt-STATICS-clause-judged : goal.returns-then-r-lt-STATICS-clause-judged
returns-then-r-lt-STATICS-clause-judged c =
    let a = c.args in
    let l = held a.lent.now in
    refused-step a.by.now l a.sizes (event 0 a.r) CreateStatic c.refused.result c.refused.ensures
    (create-static (state_of l a.sizes) a.r c.if-r-lt-STATICS.true)

pub returns-then-r-sizes-clause-judged : goal.returns-then-r-sizes-clause-judged
returns-then-r-sizes-clause-judged c =
    let a = c.args in
    let l = held a.lent.now in
    let told = c.refused-then-r-sizes in
    refused-step a.by.now l a.sizes (event 0 a.r) NotAbove told.result told.ensures
    (create-low (state_of l a.sizes) a.r c.if-r-lt-STATICS.false c.if-r-sizes.true)

pub returns-then-count-ge-MOST_CREATED-clause-judged : goal.returns-then-count-ge-MOST_CREATED-clause-judged
returns-then-count-ge-MOST_CREATED-clause-judged c =
    let a = c.args in
    let l = held a.lent.now in
    let told = c.refused-then-count-ge-MOST_CREATED in
    refused-step a.by.now l a.sizes (event 0 a.r) TooManyLive told.result told.ensures
    (create-full (state_of l a.sizes) a.r c.if-r-lt-STATICS.false c.if-r-sizes.false c.if-count-ge-MOST_CREATED.true)

pub returns-clause-judged : goal.returns-clause-judged
unfolding with_new
returns-clause-judged c =
    let a = c.args in
    let l = held a.lent.now in
    let s = state_of l a.sizes in
    let e = c.take_event-bad in
    let bad = e.result in
    let room : a.sizes.count < most_created = c.if-count-ge-MOST_CREATED.false in
    let above : a.sizes.highest < a.r = c.if-r-sizes.false in
    let inside : a.sizes.count < length l.numbers = omega (arith, room, a.lent.now.whole) in
    let at = first_created_lem + a.sizes.count in
    let dyn = c.if-r-lt-STATICS.false in
    let es = edges_of a.by.now.edges.now in
    let new = set l.numbers a.sizes.count a.r in
    let left : List ℕ → Lent = λ n. lent_of e.new.sets e.new.pairs e.new.possible n l.counts l.order in
    let pick : Bool → Lent = λ b. left (cond b new l.numbers) in
    let made : held c.if-bad-eq0.lent ≡ pick (eqb bad 0) =
    elim c.if-bad-eq0.branch [ then-bad-eq0 w ↦ ap held w.lent-is ∙ sym (ap pick (eq-eqb _ _ w.if-bad-eq0.true)) | else-bad-eq0 w ↦ ap held w.lent-is ∙ sym (ap pick (ne_eqb _ _ w.if-bad-eq0.false)) ] in
    let t = moved_to s (event_sets es 0 a.r at (at + 1) l.sets) (event_blocks es 0 a.r at (at + 1) l.pairs)
    (event_possible es 0 a.r at (at + 1) l.sets l.pairs) (with_new s.created a.r) in
    ap (judgement_of c.settled.result) made
    ∙ settled-step s t bad a.by.now (event 0 a.r) c.settled.result e.ensures.value
    (create-free s a.r dyn above room)
    (create-after a.by.now.local es s a.r inside dyn (new-above s.created a.r c.requires.created_value above)) c.settled.ensures
    e.ensures.sets_after e.ensures.pairs_after e.ensures.possible_after refl
    (kept s t bad l.counts) (kept s t bad l.order)
