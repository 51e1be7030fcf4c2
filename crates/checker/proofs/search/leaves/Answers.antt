use mathlib.Core.Path.{◌∙◌, subst}
use Rattle.usage.specs.Tables.{edges_of}
use Rattle.automaton.specs.Move.{rows_at}
use Rattle.checker.specs.Code.{SoughtOf}
use Rattle.checker.proofs.PolicyLaws.{few_nodes, unmoved, looked-by}
use Rattle.checker_rows.proofs.WholeLaws.{whole_in}
use Rattle.checker.proofs.search.leaves.Goals as goal

pub returns-in-Some : goal.returns-in-Some
returns-in-Some c =
    let a = c.args in
    let p = c.requires in
    let h = subst (SoughtOf a.edges.now a.nodes.now a.p) c.in-Some.is c.sought.ensures in
    let pair = c.in-Some.pair in
    looked-by a.local a.edges.now a.nodes.now p.edges_ok p.outline_ok a.p p.p_lt_policies pair h c.fill.new.rows
    (c.fill.ensures ∙ whole_in (rows_at (edges_of a.edges.now)) pair a.p a.nodes.now p.p_lt_policies
    (few_nodes a.local a.edges.now a.nodes.now p.edges_ok p.outline_ok)) c.broken.result
    c.broken.ensures

pub returns-in-None : goal.returns-in-None
returns-in-None c =
    let a = c.args in
    let p = c.requires in
    unmoved a.local a.edges.now a.nodes.now p.edges_ok p.outline_ok a.p
    (subst (SoughtOf a.edges.now a.nodes.now a.p) c.in-None.is c.sought.ensures)
