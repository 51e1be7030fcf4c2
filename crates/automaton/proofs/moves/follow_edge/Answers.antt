-- `follow_edge` meets its contract: the edge has the action, or it has not.
use mathlib.Core.Bool.{true, false}
use mathlib.Core.Path.{sym, ◌∙◌}
use Rattle.usage.specs.Tables.{edge_at}
use Rattle.automaton.proofs.RowLaws.{followed-met, followed-unmet}
use Rattle.automaton.proofs.moves.follow_edge.Goals as goal

pub returns-then-edges-k : goal.returns-then-edges-k
returns-then-edges-k c =
    let a = c.args in
    let m = c.if-edges-k.true in
    let e = edge_at a.edges.now a.i in record { own_after = c.follow.ensures.own_after ∙ sym (followed-met a.own.now e a.a a.seen.resource true a.seen.second m); other_after = c.follow.ensures.other_after ∙ sym (followed-met a.other.now e a.a a.seen.resource false a.seen.second m) }

pub returns-else-edges-k : goal.returns-else-edges-k
returns-else-edges-k c =
    let a = c.args in
    let m = c.if-edges-k.false in
    let e = edge_at a.edges.now a.i in record { own_after = sym (followed-unmet a.own.now e a.a a.seen.resource true a.seen.second m); other_after = sym (followed-unmet a.other.now e a.a a.seen.resource false a.seen.second m) }
