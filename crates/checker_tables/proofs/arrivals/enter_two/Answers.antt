use mathlib.Core.List.{[], ◌∷◌}
use Rattle.checker_account.specs.Tables.{◌by◌by◌with◌}
use Rattle.checker_tables.proofs.EnterLaws.{enters-both, enters-as}
use Rattle.checker_tables.proofs.arrivals.enter_two.Goals as goal

pub returns : goal.returns
returns c =
    let a = c.args in
    let s = c.enter-first in
    let t = c.enter-second in
    let g = c.onto in
    let h = c.onto-2 in
    let first = a.a by a.from.opened by a.from.meaning with a.from.states in
    let second = a.b by a.from.opened by a.from.meaning with a.from.states in
    enters-both (first ∷ []) (second ∷ []) a.u.now s.new.u t.new.u s.result t.result
    (enters-as g.result first a.u.now s.new.u s.result g.ensures s.ensures)
    (enters-as h.result second s.new.u t.new.u t.result h.ensures t.ensures)
