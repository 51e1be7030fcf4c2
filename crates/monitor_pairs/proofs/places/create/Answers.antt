use Rattle.monitor_pairs.specs.Pairs.{create_pairs}
use Rattle.monitor_pairs.proofs.places.create.Goals as goal

pub returns : goal.returns
unfolding create_pairs
returns c = c.copy_row.ensures
