use mathlib.Core.Bool.{true, false}
use Rattle.usage.specs.Tables.{edges_of}
use Rattle.automaton.proofs.PlaceLaws.{rows-one}
use Rattle.monitor.proofs.EventLaws.{ways-same}
use mathlib.Core.Path.{sym, ◌∙◌}
use Rattle.monitor.proofs.events.ways_of.Goals as goal

pub returns : goal.returns
returns c =
    let a = c.args in
    let es = edges_of a.by.now.edges.now in
    let n = c.rows.ensures.other_after ∙ sym (rows-one es a.action a.r false) in
    let f = c.rows.ensures.own_after ∙ sym (rows-one es a.action a.r true) in
    let s = c.rows_second.ensures.second_after in
    let b = c.rows_second.ensures.both_after in record { lower_value = c.ways_of-lower.ensures ∙ ways-same a.by.now.which.first n f s b; upper_value = c.ways_of-upper.ensures ∙ ways-same a.by.now.which.second n f s b }
