use Prim.Native.Nat.{ℕ, ◌*◌}
use mathlib.Core.Bool.{Bool, cond}
use mathlib.Core.List.{List}
use mathlib.Core.Path.{sym, ap, ap₂, ◌∙◌}
use borrow.Author.Tests.{eq-eqb, ne_eqb}
use Rattle.monitor_sets.specs.Instances.{instances}
use Rattle.monitor_pairs.specs.Pairs.{event_pairs, gather_pairs, create_pairs}
use Rattle.monitor_pairs.specs.Code.{row_put, turned}
use Rattle.monitor_pairs.proofs.BlockLaws.{row_back}
use Rattle.monitor_pairs.proofs.blocks.lead.Goals as goal

pub returns-then-turn-eq0 : goal.returns-then-turn-eq0
unfolding turned
returns-then-turn-eq0 c =
    let a = c.args in
    let made = c.create.ensures in record {
      sets_unchanged = c.put_row.ensures
          ∙ ap₂ (λ (u v : List ℕ). row_put (a.turn.at * instances) u instances v) c.row_of-row.ensures made
          ∙ row_back a.turn.at a.sets.now c.told-sets;
      value = c.after_event-m.ensures
          ∙ ap (λ (u : List ℕ). gather_pairs a.turn.n (event_pairs a.ways a.turn.at a.turn.n u))
          (made ∙ ap (λ (b : Bool). cond b (create_pairs a.turn.at a.sets.now) a.sets.now) (sym (eq-eqb _ _ c.if-turn-eq0.true)));
    }

pub returns-clause-value : goal.returns-clause-value
unfolding turned
returns-clause-value c =
    let a = c.args in
    c.after_event.ensures
    ∙ ap (λ (b : Bool). gather_pairs a.turn.n (event_pairs a.ways a.turn.at a.turn.n
    (cond b (create_pairs a.turn.at a.sets.now) a.sets.now))) (sym (ne_eqb _ _ c.if-turn-eq0.false))
