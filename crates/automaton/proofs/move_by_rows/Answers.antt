-- `move_by_rows` meets its contract. The eight parts are those of the definition, in its order.
use Rattle.automaton.proofs.RowLaws.{move_by-parts}
use Rattle.automaton.proofs.move_by_rows.Goals as goal

pub returns : goal.returns
returns c =
    let a = c.args in
    move_by-parts a.x a.rows _ _ _ _ _ _ _ _
    c.pick.ensures
    c.pick-2.ensures c.pick-3.ensures
    c.pick-4.ensures c.pick-5.ensures c.pick-6.ensures
    c.pick-7.ensures c.pick-8.ensures
