use mathlib.Core.Path.{sym, ◌∙◌}
use Rattle.automaton.proofs.RowLaws.{stays_moved}
use Rattle.monitor_pairs.proofs.TwoLaws.{two_run, stays-run}
use Rattle.monitor_pairs.proofs.runs.move_run.Goals as goal

pub returns-then-stays : goal.returns-then-stays
returns-then-stays c =
    let rows = c.args.rows in
    let same = stays_moved rows (sym c.stays.ensures ∙ c.if-stays.true) in
    stays-run rows same c.args.n c.args.sets.now c.told-sets c.fits-sets

pub returns-then-agrees : goal.returns-then-agrees
returns-then-agrees c =
    let a = c.args in
    let agree = c.agrees.ensures c.if-agrees.true in c.move_two.ensures ∙ two_run _ _ _ _ _ a.rows agree a.n a.sets.now c.fits-sets
