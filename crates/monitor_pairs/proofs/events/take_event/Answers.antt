use mathlib.Core.Path.{sym, ◌∙◌}
use Rattle.monitor_pairs.proofs.GatherLaws.{stays-event}
use Rattle.monitor_pairs.proofs.events.take_event.Goals as goal

pub returns-else-not-all_stay : goal.returns-else-not-all_stay
returns-else-not-all_stay c =
    let a = c.args in
    stays-event a.ways (sym c.all_stay.ensures ∙ c.if-not-all_stay.false) a.at a.n a.sets.now c.told-sets c.fits-sets
