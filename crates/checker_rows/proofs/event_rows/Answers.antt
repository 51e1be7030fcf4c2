use Rattle.usage.specs.Tables.{edges_of}
use Rattle.checker_rows.proofs.SideLaws.{first-side, second-side, one_side, both-sides}
use Rattle.checker_rows.proofs.event_rows.Goals as goal

pub returns-then-s : goal.returns-then-s
returns-then-s c =
    let a = c.args in
    let es = edges_of a.edges.now in
    let st = c.store in
    let e = c.rows.ensures in
    let f = c.rows_second.ensures in
    both-sides es a.action a.resource a.s.pair a.s.policy a.s.node a.rows.now _ _ c.if-s.true
    (first-side es a.action a.resource a.s.policy a.s.node _ _ a.rows.now _ e.own_after e.other_after st.ensures)
    (second-side es a.action a.resource a.s.policy a.s.node _ _ _ _ f.both_after f.second_after c.store-then-s.ensures)

pub returns-else-s : goal.returns-else-s
returns-else-s c =
    let a = c.args in
    let es = edges_of a.edges.now in
    let e = c.rows.ensures in
    one_side es a.action a.resource a.s.pair a.s.policy a.s.node a.rows.now _ c.if-s.false
    (first-side es a.action a.resource a.s.policy a.s.node _ _ a.rows.now _ e.own_after e.other_after c.store.ensures)
