use mathlib.Core.Path.{refl, ◌∙◌}
use native.Mathlib.Omega.{arith}
use lib.ListN.{get_or}
use Rattle.automaton.specs.Move.{move_by}
use Rattle.monitor_sets.specs.Instances.{instances}
use Rattle.monitor_pairs.specs.Code.{line_moved}
use Rattle.monitor_pairs.proofs.RunLaws.{filled-zeros, filled_more, filled-all}
use Rattle.monitor_pairs.proofs.events.move_line.Goals as goal

pub loop-i-init : goal.loop-i-init
loop-i-init c =
    let rows = c.args.rows in
    (filled-zeros (λ j. move_by rows 0 (get_or c.args.line j 0)) (λ j. 0) instances (λ k. refl))

pub loop-i-preserved : goal.loop-i-preserved
loop-i-preserved c =
    let rows = c.args.rows in
    let t = c.loop-i in (rw t.invariant (filled_more (λ j. move_by rows 0 (get_or c.args.line j 0)) (λ j. 0) instances t.i _ (omega arith)
    c.move_by_rows.ensures))

pub returns : goal.returns
unfolding line_moved
returns c =
    let rows = c.args.rows in
    let t = c.loop-i in
    t.invariant ∙ filled-all (λ j. move_by rows 0 (get_or c.args.line j 0)) (λ j. 0) instances t.i (omega arith)
