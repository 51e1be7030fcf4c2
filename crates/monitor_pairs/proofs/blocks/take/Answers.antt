use mathlib.Core.Bool.{Bool, cond}
use mathlib.Core.Path.{◌≡◌, sym, ap, ◌∙◌}
use borrow.Author.Tests.{eq-eqb, ne_eqb, lt-ltb, le-ltb}
use lib.Dec.{eqb}
use Rattle.usage.specs.Limits.{policies}
use Rattle.monitor_pairs.specs.Pairs.{event_pairs, create_pairs}
use Rattle.monitor_pairs.specs.Blocks.{of_policy}
use Rattle.monitor_pairs.specs.Code.{turned}
use Rattle.monitor_pairs.proofs.blocks.take.Goals as goal
use Rattle.monitor_pairs.proofs.blocks.take.Goals.{then-turn-eq0, else-turn-eq0}

pub returns-then-p-ge8 : goal.returns-then-p-ge8
unfolding of_policy
returns-then-p-ge8 c = simp (le-ltb _ policies c.if-p-ge8.true)

pub returns : goal.returns
unfolding of_policy turned
returns c =
    let a = c.args in
    let made : c.if-turn-eq0.sets ≡ cond (eqb a.turn.action 0) (create_pairs a.turn.at a.sets.now) a.sets.now =
    elim c.if-turn-eq0.branch [
      | then-turn-eq0 w ↦ w.sets-is ∙ w.create.ensures ∙ ap (λ (b : Bool). cond b (create_pairs a.turn.at a.sets.now) a.sets.now) (sym (eq-eqb _ _ w.if-turn-eq0.true))
      | else-turn-eq0 w ↦ w.sets-is ∙ ap (λ (b : Bool). cond b (create_pairs a.turn.at a.sets.now) a.sets.now) (sym (ne_eqb _ _ w.if-turn-eq0.false))
    ] in
    rw (lt-ltb _ policies c.if-p-ge8.false) (c.take_event.ensures ∙ ap (event_pairs a.ways a.turn.at a.turn.n) made)
