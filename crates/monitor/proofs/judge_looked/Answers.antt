use Rattle.usage.specs.declared.Reason.TheVariants.{Halted, Table, State as Unfit}
use mathlib.Core.Path.{refl, sym, ◌∙◌}
use borrow.Author.Tests.{not-true, not-false, ne_eqb}
use Rattle.sheet_fields.proofs.EdgeLaws.{no-table, some-table}
use Rattle.monitor_state.specs.Looked.{looked_at, judge_sized}
use Rattle.monitor_state.specs.Code.{lent_of, state_of}
use Rattle.monitor_state.proofs.LookedLaws.{sized-by}
use Rattle.monitor.proofs.JudgeLaws.{table-refused, state-refused, halted-refused, judged}
use Rattle.monitor.proofs.LentLaws.{pairs-told, parts-ok, live-bad, order-bad, refused-parts, live-few, live-highest}
use borrow.Author.Rules.{rules}
use Rattle.monitor.proofs.judge_looked.Goals as goal

pub returns-then-pairs-ne-PAIR_SETS : goal.returns-then-pairs-ne-PAIR_SETS
unfolding judge_sized
returns-then-pairs-ne-PAIR_SETS c =
    let a = c.args in
    let l = lent_of a.sets.now a.pairs.now a.possible.now a.created.now a.unclosed.now a.order.now in
    record { order_after = refused-parts l a.sizes Unfit c.refused.result c.refused.ensures ∙ simp (ne_eqb _ _ c.if-pairs-ne-PAIR_SETS.true); pairs_len_unchanged = refl }

pub returns-in_default : goal.returns-in_default
returns-in_default c =
    let a = c.args in
    let l = lent_of a.sets.now a.pairs.now a.possible.now a.created.now a.unclosed.now a.order.now in
    let s = state_of l a.sizes in
    record {
      order_after = refused-parts l a.sizes Table c.refused-in_default.result c.refused-in_default.ensures
          ∙ sym (table-refused a.looked a.edges.now a.local s a.step (no-table a.edges.now (sym c.edge_table.ensures ∙ c.in_default.is)))
          ∙ sym (sized-by (looked_at a.looked) a.edges.now a.local s a.step c.if-pairs-ne-PAIR_SETS.false);
      pairs_len_unchanged = refl;
    }

pub returns-then-not-live_ok : goal.returns-then-not-live_ok
returns-then-not-live_ok c =
    let a = c.args in
    let l = lent_of a.sets.now a.pairs.now a.possible.now a.created.now a.unclosed.now a.order.now in
    let s = state_of l a.sizes in
    let made = c.live_ok in record {
      order_after = refused-parts l a.sizes Unfit c.refused-then-not-live_ok.result c.refused-then-not-live_ok.ensures
          ∙ sym (state-refused a.looked a.edges.now a.local s a.step
          (some-table a.edges.now c.in-Some.paired (sym c.edge_table.ensures ∙ c.in-Some.is)).0
          (live-bad l a.sizes (sym made.ensures.value ∙ not-true made.result c.if-not-live_ok.true-raw)))
          ∙ sym (sized-by (looked_at a.looked) a.edges.now a.local s a.step c.if-pairs-ne-PAIR_SETS.false);
      pairs_len_unchanged = refl;
    }

pub returns-then-not-order_ok : goal.returns-then-not-order_ok
returns-then-not-order_ok c =
    let a = c.args in
    let l = lent_of a.sets.now a.pairs.now a.possible.now a.created.now a.unclosed.now a.order.now in
    let s = state_of l a.sizes in
    let made = c.live_ok in
    let order = c.order_ok in record {
      order_after = refused-parts l a.sizes Unfit c.refused-then-not-order_ok.result c.refused-then-not-order_ok.ensures
          ∙ sym (state-refused a.looked a.edges.now a.local s a.step
          (some-table a.edges.now c.in-Some.paired (sym c.edge_table.ensures ∙ c.in-Some.is)).0
          (order-bad l a.sizes (sym made.ensures.value ∙ not-false made.result c.if-not-live_ok.false-raw)
          (sym order.ensures.value ∙ not-true order.result c.if-not-order_ok.true-raw)))
          ∙ sym (sized-by (looked_at a.looked) a.edges.now a.local s a.step c.if-pairs-ne-PAIR_SETS.false);
      pairs_len_unchanged = refl;
    }

pub returns-then-sizes : goal.returns-then-sizes
returns-then-sizes c =
    let a = c.args in
    let l = lent_of a.sets.now a.pairs.now a.possible.now a.created.now a.unclosed.now a.order.now in
    let s = state_of l a.sizes in
    let made = c.live_ok in
    let order = c.order_ok in record {
      order_after = refused-parts l a.sizes Halted c.refused-then-sizes.result c.refused-then-sizes.ensures
          ∙ sym (halted-refused a.looked a.edges.now a.local s a.step
          (some-table a.edges.now c.in-Some.paired (sym c.edge_table.ensures ∙ c.in-Some.is)).0
          (parts-ok l a.sizes (sym made.ensures.value ∙ not-false made.result c.if-not-live_ok.false-raw)
          (sym order.ensures.value ∙ not-false order.result c.if-not-order_ok.false-raw))
          c.if-sizes.true)
          ∙ sym (sized-by (looked_at a.looked) a.edges.now a.local s a.step c.if-pairs-ne-PAIR_SETS.false);
      pairs_len_unchanged = refl;
    }

pub invariant_of-by : goal.invariant_of-by
invariant_of-by c =
    let a = c.args in
    record { of_edges = c.lowest_two.ensures ∙ pairs-told a.edges.now c.in-Some.paired (sym c.edge_table.ensures ∙ c.in-Some.is) }

pub judge_read-requires : goal.judge_read-requires
judge_read-requires c =
    let a = c.args in
    let made = c.live_ok in
    let order = c.order_ok in
    let l = lent_of a.sets.now a.pairs.now a.possible.now a.created.now a.unclosed.now a.order.now in
    let live = sym made.ensures.value ∙ not-false made.result c.if-not-live_ok.false-raw in
    record {
      count_le_most_created = live-few l a.sizes live;
      created_value = live-highest l a.sizes live;
      unclosed_value = sym order.ensures.value ∙ not-false order.result c.if-not-order_ok.false-raw;
    }

pub returns-clause-order_after : goal.returns-clause-order_after
returns-clause-order_after c =
    let a = c.args in
    let l = lent_of a.sets.now a.pairs.now a.possible.now a.created.now a.unclosed.now a.order.now in
    let s = state_of l a.sizes in
    let made = c.live_ok in
    let order = c.order_ok in
    let e = c.judge_read.ensures.judged
    ∙ sym (judged a.looked a.edges.now a.local s a.step
    (some-table a.edges.now c.in-Some.paired (sym c.edge_table.ensures ∙ c.in-Some.is)).0
    (parts-ok l a.sizes (sym made.ensures.value ∙ not-false made.result c.if-not-live_ok.false-raw)
    (sym order.ensures.value ∙ not-false order.result c.if-not-order_ok.false-raw))
    c.if-sizes.false)
    ∙ sym (sized-by (looked_at a.looked) a.edges.now a.local s a.step c.if-pairs-ne-PAIR_SETS.false) in
    search (rules, e)
