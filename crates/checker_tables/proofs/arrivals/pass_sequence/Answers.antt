use mathlib.Core.List.{[], ◌∷◌}
use Rattle.checker_account.specs.Tables.{◌by◌by◌with◌}
use Rattle.checker_tables.proofs.EnterLaws.{enters-both, enters-as}
use Rattle.checker_account.specs.Tables.{second_arrivals}
use Rattle.checker_tables.proofs.arrivals.pass_sequence.Goals as goal

pub returns : goal.returns
returns c =
    let a = c.args in
    let s = c.enter-first in
    let t = c.enter_second-second in
    let g = c.onto in
    let first = a.a by a.from.opened by a.from.meaning with a.from.states in
    enters-both (first ∷ []) (second_arrivals a.t.now a.a a.b a.from.opened a.from.meaning a.from.states) a.u.now
    s.new.u t.new.u s.result t.result
    (enters-as g.result first a.u.now s.new.u s.result g.ensures s.ensures) t.ensures
