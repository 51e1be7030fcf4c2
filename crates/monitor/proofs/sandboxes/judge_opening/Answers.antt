use Prim.Native.Nat.{◌+◌}
use mathlib.Core.Path.{sym, ap, ◌∙◌}
use mathlib.Core.Bool.{Bool, true, false, cond}
use lib.Dec.{eqb}
use Rattle.usage.specs.Past.{opening}
use Rattle.usage.specs.Tables.{edges_of}
use Rattle.usage.specs.declared.Reason.TheVariants.{TooManyOpen}
use Rattle.monitor_sets.specs.Instances.{first_created_lem}
use Rattle.monitor_pairs.specs.declared.which.Blocks.{Blocks}
use Rattle.monitor_pairs.specs.Pairs.{reset_pairs}
use Rattle.monitor_pairs.specs.Blocks.{each_block}
use Rattle.monitor_state.specs.Judge.{reset_in, with_opening, entering, after}
use Rattle.monitor_state.specs.Code.{state_of}
use Rattle.monitor.specs.Loans.{held}
use Rattle.monitor.proofs.JudgeLaws.{opening-deep, opening-free}
use Rattle.monitor.proofs.LentLaws.{refused-step, settled-step, kept}
use Rattle.monitor.proofs.sandboxes.judge_opening.Goals as goal

pub returns-then-depth-ge-MOST_UNCLOSED-clause-judged : goal.returns-then-depth-ge-MOST_UNCLOSED-clause-judged
returns-then-depth-ge-MOST_UNCLOSED-clause-judged c =
    let a = c.args in
    let l = held a.lent.now in
    refused-step a.by.now l a.sizes (opening a.p) TooManyOpen c.refused.result
    c.refused.ensures (opening-deep (state_of l a.sizes) a.p c.if-depth-ge-MOST_UNCLOSED.true)

pub returns-then-is_anew-clause-judged : goal.returns-then-is_anew-clause-judged
unfolding entering reset_in with_opening after
returns-then-is_anew-clause-judged c =
    let a = c.args in
    let l = held a.lent.now in
    let s = state_of l a.sizes in
    let es = edges_of a.by.now.edges.now in
    let e = c.enter_anew-broken in
    let bad = e.result in
    let t = entering es true s a.p in
    settled-step s t bad a.by.now (opening a.p) c.settled.result e.ensures.value
    (opening-free s a.p c.if-depth-ge-MOST_UNCLOSED.false)
    (ap (λ (b : Bool). entering es b s a.p) (sym c.if-is_anew.true ∙ c.is_anew.ensures)) c.settled.ensures
    e.ensures.sets_after
    (c.put_back.ensures ∙ ap (λ (b : Blocks). cond (eqb bad 0) (each_block b (λ q sets. cond (eqb q a.p) (reset_pairs (first_created_lem + a.sizes.count) sets) sets) l.pairs) l.pairs) a.by.now.of_edges)
    e.ensures.possible_after (kept s t bad l.numbers) e.ensures.unclosed_after e.ensures.order_after

pub returns-clause-judged : goal.returns-clause-judged
unfolding entering reset_in with_opening after
returns-clause-judged c =
    let a = c.args in
    let l = held a.lent.now in
    let s = state_of l a.sizes in
    let es = edges_of a.by.now.edges.now in
    let e = c.enter-broken in
    let bad = e.result in
    let t = entering es false s a.p in
    settled-step s t bad a.by.now (opening a.p) c.settled-2.result e.ensures.value
    (opening-free s a.p c.if-depth-ge-MOST_UNCLOSED.false)
    (ap (λ (b : Bool). entering es b s a.p) (sym c.if-is_anew.false ∙ c.is_anew.ensures)) c.settled-2.ensures
    (kept s t bad l.sets) (kept s t bad l.pairs) (kept s t bad l.possible) (kept s t bad l.numbers) e.ensures.unclosed_after e.ensures.order_after
