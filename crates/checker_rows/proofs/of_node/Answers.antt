use Rattle.usage.specs.Tables.{edges_of}
use Rattle.automaton.specs.Move.{rows_at}
use Rattle.checker_account.specs.RowTable.{node_rows}
use Rattle.checker_rows.proofs.OtherLaws.{no_rows}
use Rattle.checker_rows.proofs.of_node.Goals as goal

pub returns-in-OnStatic : goal.returns-in-OnStatic
unfolding node_rows
returns-in-OnStatic c = rw c.in-OnStatic.is c.event_rows.ensures

pub returns-in-OnName : goal.returns-in-OnName
unfolding node_rows
returns-in-OnName c = rw c.in-OnName.is c.event_rows-in-OnName.ensures

pub returns-in-Fresh : goal.returns-in-Fresh
unfolding node_rows
returns-in-Fresh c = rw c.in-Fresh.is c.event_rows-in-Fresh.ensures

pub returns-in_default : goal.returns-in_default
returns-in_default c =
    let a = c.args in
    let d = c.in_default in
    no_rows (rows_at (edges_of a.edges.now)) a.s.pair a.s.policy a.s.node a.rows.now a.f d.not-OnStatic d.not-OnName d.not-Fresh
