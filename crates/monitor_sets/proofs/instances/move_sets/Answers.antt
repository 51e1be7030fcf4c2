use mathlib.Core.Path.{◌≡◌, sym, ap, ◌∙◌}
use mathlib.Core.Bool.{Bool}
use borrow.Author.Tests.{eq-eqb, ne_eqb}
use lib.Dec.{eqb}
use Rattle.usage.specs.Tables.{edges_of}
use Rattle.monitor_sets.specs.Sets.{gathered}
use Rattle.monitor_sets.specs.Code.{event_sets}
use Rattle.monitor_sets.proofs.MovedLaws.{all_moved_lem}
use Rattle.monitor_sets.proofs.EventLaws.{begun}
use Rattle.monitor_sets.proofs.instances.move_sets.Goals as goal
use Rattle.monitor_sets.proofs.instances.move_sets.Goals.{else-turn-eq0, then-turn-eq0}

pub returns : goal.returns
unfolding event_sets
returns c =
    let a = c.args in
    let rows = c.rows in
    let e : c.if-turn-eq0.sets ≡ begun (eqb a.turn.action 0) a.sets.now a.turn.at =
    elim c.if-turn-eq0.branch [ then-turn-eq0 w ↦ w.sets-is ∙ w.copy_unseen.ensures ∙ sym (ap (λ (b : Bool). begun b a.sets.now a.turn.at) (eq-eqb _ _ w.if-turn-eq0.true)) | else-turn-eq0 w ↦ w.sets-is ∙ sym (ap (λ (b : Bool). begun b a.sets.now a.turn.at) (ne_eqb _ _ w.if-turn-eq0.false)) ] in record {
      sets_after = c.move_all.ensures.sets_after ∙ rw (rows.ensures.own_after, rows.ensures.other_after, e)
          (all_moved_lem (edges_of a.edges.now) a.turn.action a.turn.resource a.turn.n a.turn.at _);
      value = c.move_all.ensures.value
          ∙ ap (gathered a.turn.n) (rw (rows.ensures.own_after, rows.ensures.other_after, e)
          (all_moved_lem (edges_of a.edges.now) a.turn.action a.turn.resource a.turn.n a.turn.at _));
    }
