use mathlib.Core.Bool.{◌&&◌}
use Rattle.usage.proofs.Logic.{not-true, not-false}
use Rattle.monitor_state.specs.Judge.{state_ok_lem, order_ok_lem}
use Rattle.monitor_state.specs.Lent.{state_of}
use Rattle.desk.specs.JudgeBytes.{pairs_in, lent_by}
use Rattle.desk.proofs.JudgeByteLaws.{judge-is}
use Rattle.desk.proofs.LoadLaws.{state-parts}
use mathlib.Core.Path.{refl, sym, ap, ◌∙◌}
use Rattle.desk.proofs.judge.state_ok.Goals as goal

pub returns-then-not-live_ok : goal.returns-then-not-live_ok
returns-then-not-live_ok c =
    let a = c.args in
    let x = c.live_ok in
    let s = state_of (lent_by c.held_in-k.result (pairs_in a.b.now)) c.sizes_in-z.result in
    sym (ap (λ y. y && order_ok_lem s.unclosed.depth s.unclosed.order s.unclosed.counts) (not-true x.result c.if-not-live_ok.true-raw))
    ∙ state-parts s x.result (order_ok_lem s.unclosed.depth s.unclosed.order s.unclosed.counts) x.ensures.value refl
    ∙ ap state_ok_lem (judge-is a.b.now a.h _ _ c.held_in-k.ensures c.sizes_in-z.ensures)

pub returns : goal.returns
returns c =
    let a = c.args in
    let x = c.live_ok in
    let s = state_of (lent_by c.held_in-k.result (pairs_in a.b.now)) c.sizes_in-z.result in
    sym (ap (λ y. y && c.order_ok.result) (not-false x.result c.if-not-live_ok.false-raw))
    ∙ state-parts s x.result c.order_ok.result x.ensures.value c.order_ok.ensures.value
    ∙ ap state_ok_lem (judge-is a.b.now a.h _ _ c.held_in-k.ensures c.sizes_in-z.ensures)
