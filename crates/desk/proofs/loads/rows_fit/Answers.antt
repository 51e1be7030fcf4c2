use mathlib.Core.Bool.{◌&&◌}
use Rattle.usage.specs.Tables.{is_node_table}
use Rattle.usage.proofs.Logic.{not-true, not-false}
use Rattle.desk_positions.specs.Reading.{rows_ok_lem}
use Rattle.desk.specs.State.{table_in}
use Rattle.desk.proofs.StateLaws.{nodes-lent}
use mathlib.Core.List.{List}
use Rattle.desk.proofs.OutlineLaws.{table-lent, table-long}
use mathlib.Core.Path.{sym, ap, ◌∙◌}
use Prim.Native.Nat.{ℕ}
use lib.ListN.{length}
use Rattle.desk.proofs.loads.rows_fit.Goals as goal

-- src/loads.rt:43:9
pub returns-then-not-node_table_ok : goal.returns-then-not-node_table_ok
returns-then-not-node_table_ok c =
    let a = c.args in
    let p = c.requires in
    let t = c.node_table_ok in
    let n = nodes-lent a.b.now a.h p.desk_bytes_in_bounds p.nodes_le_most_nodes in
    sym (ap (λ x. x && rows_ok_lem (table_in a.b.now) a.h.positions) (ap is_node_table (sym n) ∙ sym t.ensures ∙ not-true t.result c.if-not-node_table_ok.true-raw))

-- src/loads.rt:35:1
pub returns : goal.returns
returns c =
    let a = c.args in
    let p = c.requires in
    let t = c.node_table_ok in
    let n = nodes-lent a.b.now a.h p.desk_bytes_in_bounds p.nodes_le_most_nodes in
    let r = table-lent a.b.now p.desk_bytes_in_bounds in
    c.rows_ok.ensures.value (ap length r ∙ table-long a.b.now) p.positions_le_most_positions ∙ ap (λ (x : List ℕ). rows_ok_lem x a.h.positions) r
    ∙ sym (ap (λ x. x && rows_ok_lem (table_in a.b.now) a.h.positions) (ap is_node_table (sym n) ∙ sym t.ensures ∙ not-false t.result c.if-not-node_table_ok.false-raw))
