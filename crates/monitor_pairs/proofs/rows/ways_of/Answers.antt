use Rattle.monitor_pairs.specs.Code.{ways_in}
use Rattle.monitor_pairs.proofs.rows.ways_of.Goals as goal

pub returns : goal.returns
unfolding ways_in
returns c = rw (c.policy_rows.ensures, c.policy_rows-2.ensures, c.policy_rows-3.ensures, c.policy_rows-4.ensures)
