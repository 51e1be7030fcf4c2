-- The two tables are tested, and then the search answers.
use mathlib.Core.Path.{sym, ◌∙◌, subst}
use Prim.Native.Nat.{ℕ}
use Rattle.std.specs.Prelude.{Option as Maybe}
use Rattle.usage.specs.Check.{Checked}
use Rattle.usage.specs.Tables.{edges_of, nodes_of}
use Rattle.usage.proofs.TableLaws.{decides-edge-table, decides-node-table}
use Rattle.checker.specs.Code.{policy_verdict}
use Rattle.checker.proofs.PromiseLaws.{edges-refused, nodes-refused, answered}
use Rattle.checker.proofs.search.checked.Goals as goal

pub returns-then-not-edge_table_ok : goal.returns-then-not-edge_table_ok
returns-then-not-edge_table_ok c =
    let a = c.args in edges-refused a.local a.edges.now a.nodes.now (sym c.edge_table_ok.ensures ∙ c.if-not-edge_table_ok.true)

pub returns-then-not-node_table_ok : goal.returns-then-not-node_table_ok
returns-then-not-node_table_ok c =
    let a = c.args in nodes-refused a.local a.edges.now a.nodes.now (sym c.node_table_ok.ensures ∙ c.if-not-node_table_ok.true)

pub lowest-requires : goal.lowest-requires
lowest-requires c =
    let a = c.args in record {
      edges_ok = ((decides-edge-table a.edges.now).0 (sym c.edge_table_ok.ensures ∙ c.if-not-edge_table_ok.false)).edges;
      outline_ok = ((decides-node-table a.nodes.now).0 (sym c.node_table_ok.ensures ∙ c.if-not-node_table_ok.false)).outline;
    }

pub returns-in-Some : goal.returns-in-Some
returns-in-Some c =
    let a = c.args in
    answered a.local a.edges.now a.nodes.now (sym c.edge_table_ok.ensures ∙ c.if-not-edge_table_ok.false)
    (sym c.node_table_ok.ensures ∙ c.if-not-node_table_ok.false)
    (subst (λ (q : Maybe ℕ). Checked a.local (edges_of a.edges.now) (nodes_of a.nodes.now) (policy_verdict q)) c.in-Some.is c.lowest.ensures)

pub returns-in-None : goal.returns-in-None
returns-in-None c =
    let a = c.args in
    answered a.local a.edges.now a.nodes.now (sym c.edge_table_ok.ensures ∙ c.if-not-edge_table_ok.false)
    (sym c.node_table_ok.ensures ∙ c.if-not-node_table_ok.false)
    (subst (λ (q : Maybe ℕ). Checked a.local (edges_of a.edges.now) (nodes_of a.nodes.now) (policy_verdict q)) c.in-None.is c.lowest.ensures)
