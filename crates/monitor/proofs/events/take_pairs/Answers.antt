use mathlib.Core.List.{List}
use mathlib.Core.Bool.{Bool, true, false, cond}
use lib.Dec.{eqb}
use borrow.Author.Tests.{eq-eqb, ne_eqb}
use Rattle.usage.specs.Tables.{edges_of}
use Rattle.monitor_sets.specs.Sets.{gathered}
use Rattle.monitor_sets.specs.Code.{broken_in, event_sets}
use Rattle.monitor_pairs.specs.Code.{turned_blocks, led_blocks, takes_turn}
use Rattle.monitor_state.specs.Code.{event_blocks, event_possible}
use Rattle.monitor.proofs.LentLaws.{taken}
use Rattle.monitor.proofs.EventLaws.{gathered-length, turn-taken, blocks-led, blocks-turned}
use mathlib.Core.Path.{◌≡◌, refl, sym, ap, ◌∙◌}
use Prim.Native.Nat.{ℕ}
use Rattle.monitor.proofs.events.take_pairs.Goals as goal

pub returns-then-bad-ne0 : goal.returns-then-bad-ne0
unfolding event_possible
returns-then-bad-ne0 c =
    let a = c.args in
    let pre = c.requires in
    let es = edges_of a.by.now.edges.now in
    let t = a.turn in
    let ways = c.ways_of-ways.ensures in
    let lower = c.ways_of-ways.result.lower in
    let upper = c.ways_of-ways.result.upper in
    let all : List ℕ = gathered t.n (event_sets es t.action t.resource t.at t.n a.sets.now) in
    let moved = c.move_event-moved.ensures.value ∙ taken t.n t.at _ _ pre.n_le_instances pre.at_lt_n in
    let after = c.lead_event-after.ensures.value ∙ turn-taken t a.pairs.now _ _ pre.pairs_len pre.n_le_instances pre.at_lt_n
    ∙ ap (λ (l : List ℕ). led_blocks a.by.now.which t lower upper a.pairs.now l) moved
    ∙ blocks-led es t.action t.resource t refl a.pairs.now pre.pairs_len a.by.now.which a.by.now.of_edges lower upper ways.lower_value ways.upper_value all (gathered-length t.n _) in
    let bad = c.broken_set-bad.result in
    let off : eqb bad 0 ≡ false = ne_eqb bad 0 c.if-bad-ne0.true in record { value = c.broken_set-bad.ensures ∙ ap (λ (l : List ℕ). broken_in a.by.now.looked l a.unclosed.now) after; sets_after = sym (ap (λ (b : Bool). cond b (event_sets es t.action t.resource t.at t.n a.sets.now) a.sets.now) off); pairs_after = c.lead_event-after.ensures.pairs_unchanged ∙ sym (ap (λ (b : Bool). cond b (event_blocks es t.action t.resource t.at t.n a.pairs.now) a.pairs.now) off); possible_after = sym (ap (λ (b : Bool). cond b (event_possible es t.action t.resource t.at t.n a.sets.now a.pairs.now) a.possible.now) off) }

pub returns : goal.returns
unfolding event_possible
returns c =
    let a = c.args in
    let pre = c.requires in
    let es = edges_of a.by.now.edges.now in
    let t = a.turn in
    let ways = c.ways_of-ways.ensures in
    let lower = c.ways_of-ways.result.lower in
    let upper = c.ways_of-ways.result.upper in
    let all : List ℕ = gathered t.n (event_sets es t.action t.resource t.at t.n a.sets.now) in
    let moved = c.move_event-moved.ensures.value ∙ taken t.n t.at _ _ pre.n_le_instances pre.at_lt_n in
    let after = c.lead_event-after.ensures.value ∙ turn-taken t a.pairs.now _ _ pre.pairs_len pre.n_le_instances pre.at_lt_n
    ∙ ap (λ (l : List ℕ). led_blocks a.by.now.which t lower upper a.pairs.now l) moved
    ∙ blocks-led es t.action t.resource t refl a.pairs.now pre.pairs_len a.by.now.which a.by.now.of_edges lower upper ways.lower_value ways.upper_value all (gathered-length t.n _) in
    let bad = c.broken_set-bad.result in
    let on : eqb bad 0 ≡ true = eq-eqb bad 0 c.if-bad-ne0.false in record {
      value = c.broken_set-bad.ensures ∙ ap (λ (l : List ℕ). broken_in a.by.now.looked l a.unclosed.now) after;
      sets_after = c.move_event-moved.ensures.sets_after ∙ taken t.n t.at _ _ pre.n_le_instances pre.at_lt_n ∙ sym (ap (λ (b : Bool). cond b (event_sets es t.action t.resource t.at t.n a.sets.now) a.sets.now) on);
      pairs_after = c.take_event.ensures
          ∙ ap (λ (l : List ℕ). cond (takes_turn t l) (turned_blocks a.by.now.which t lower upper l) l) c.lead_event-after.ensures.pairs_unchanged
          ∙ turn-taken t a.pairs.now _ _ pre.pairs_len pre.n_le_instances pre.at_lt_n
          ∙ blocks-turned es t.action t.resource t refl a.pairs.now pre.pairs_len a.by.now.which a.by.now.of_edges lower upper ways.lower_value ways.upper_value
          ∙ sym (ap (λ (b : Bool). cond b (event_blocks es t.action t.resource t.at t.n a.pairs.now) a.pairs.now) on);
      possible_after = after ∙ sym (ap (λ (b : Bool). cond b (event_possible es t.action t.resource t.at t.n a.sets.now a.pairs.now) a.possible.now) on);
    }
