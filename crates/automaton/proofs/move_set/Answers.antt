-- `move_set` meets its contract: the rows that it is handed move the set as the policy does.
use mathlib.Core.Path.{sym, ap, ◌∙◌}
use Rattle.automaton.specs.Move.{move_by}
use Rattle.automaton.proofs.RowLaws.{stays_moved, rows-move}
use Rattle.automaton.proofs.move_set.Goals as goal

pub returns-then-stays : goal.returns-then-stays
returns-then-stays c =
    let a = c.args in
    sym (stays_moved c.policy_rows-held.result (sym c.stays.ensures ∙ c.if-stays.true) a.x c.ranges.x.fits)
    ∙ ap (λ rows. move_by rows 0 a.x) c.policy_rows-held.ensures
    ∙ rows-move a.rows.now a.policy a.x c.ranges.x.fits

pub returns : goal.returns
returns c =
    let a = c.args in
    c.move_by_rows.ensures ∙ ap (λ rows. move_by rows 0 a.x) c.policy_rows-held.ensures ∙ rows-move a.rows.now a.policy a.x c.ranges.x.fits
