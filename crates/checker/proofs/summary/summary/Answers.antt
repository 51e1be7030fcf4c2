use mathlib.Core.Path.{◌≡◌, sym, ◌∙◌}
use mathlib.Core.Bool.{false}
use Rattle.usage.specs.Tables.{is_edge_table, is_node_table}
use Rattle.usage.proofs.Logic.{not-true, not-false, not-both}
use Rattle.usage.proofs.TableLaws.{decides-edge-table, decides-node-table}
use Rattle.checker.specs.Summary.{too_small, no_edges, no_nodes}
use Rattle.checker.proofs.SummaryLaws.{marks-told}
use Rattle.checker.proofs.summary.summary.Goals as goal

pub returns-then-marks-lt-POLICIES : goal.returns-then-marks-lt-POLICIES
returns-then-marks-lt-POLICIES c = too_small c.if-marks-lt-POLICIES.true

pub returns-then-not-edge_table_ok : goal.returns-then-not-edge_table_ok
returns-then-not-edge_table_ok c =
    let a = c.args in
    let k = c.edge_table_ok in
    let e : is_edge_table a.edges.now ≡ false = sym k.ensures ∙ not-true k.result c.if-not-edge_table_ok.true-raw in
    no_edges c.if-marks-lt-POLICIES.false (λ t. not-both (is_edge_table a.edges.now) ((decides-edge-table a.edges.now).1 t) e)

pub returns-then-not-node_table_ok : goal.returns-then-not-node_table_ok
returns-then-not-node_table_ok c =
    let a = c.args in
    let k = c.node_table_ok in
    let e : is_node_table a.nodes.now ≡ false = sym k.ensures ∙ not-true k.result c.if-not-node_table_ok.true-raw in
    no_nodes c.if-marks-lt-POLICIES.false
    (λ t. not-both (is_node_table a.nodes.now) ((decides-node-table a.nodes.now).1 t) e)

pub write-requires : goal.write-requires
write-requires c =
    let a = c.args in
    let e = c.edge_table_ok in
    let n = c.node_table_ok in record { edges_ok = ((decides-edge-table a.edges.now).0 (sym e.ensures ∙ not-false e.result c.if-not-edge_table_ok.false-raw)).edges; outline_ok = ((decides-node-table a.nodes.now).0 (sym n.ensures ∙ not-false n.result c.if-not-node_table_ok.false-raw)).outline; policies_in_bounds = c.if-marks-lt-POLICIES.false }

pub returns : goal.returns
returns c =
    let a = c.args in
    let e = c.edge_table_ok in
    let n = c.node_table_ok in
    marks-told a.local a.edges.now a.nodes.now a.marks.now c.write.new.marks
    c.if-marks-lt-POLICIES.false
    ((decides-edge-table a.edges.now).0 (sym e.ensures
    ∙ not-false e.result c.if-not-edge_table_ok.false-raw))
    ((decides-node-table a.nodes.now).0 (sym n.ensures ∙ not-false n.result c.if-not-node_table_ok.false-raw))
    c.write.ensures
