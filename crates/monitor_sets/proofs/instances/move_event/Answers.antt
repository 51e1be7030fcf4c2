use mathlib.Core.Path.{sym, ◌∙◌}
use borrow.Author.Tests.{le-leb, lt-ltb}
use Rattle.monitor_sets.proofs.instances.move_event.Goals as goal

pub returns : goal.returns
returns c = record {
  sets_after = c.move_sets.ensures.sets_after
      ∙ sym (simp (le-leb _ _ c.if-turn-gt-INSTANCES.false, lt-ltb _ _ c.if-turn.false));
  value = c.move_sets.ensures.value
      ∙ sym (simp (le-leb _ _ c.if-turn-gt-INSTANCES.false, lt-ltb _ _ c.if-turn.false));
}
