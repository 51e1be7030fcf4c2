use mathlib.Core.Bool.{◌&&◌}
use Rattle.usage.specs.Tables.{is_edge_table}
use Rattle.usage.proofs.Logic.{not-true, not-false}
use Rattle.monitor_state.specs.Judge.{state_ok_lem}
use Rattle.desk.specs.JudgeBytes.{judge_in}
use Rattle.desk.proofs.StateLaws.{edges_lent}
use mathlib.Core.Path.{sym, ap, ◌∙◌}
use Rattle.desk.proofs.loads.is_sound.Goals as goal

-- src/loads.rt:55:9
pub returns-then-not-edge_table_ok : goal.returns-then-not-edge_table_ok
returns-then-not-edge_table_ok c =
    let a = c.args in
    let p = c.requires in
    let t = c.edge_table_ok in
    let n = edges_lent a.b.now a.h p.desk_bytes_in_bounds p.edges_le_most_edges in
    sym (ap (λ x. x && state_ok_lem (judge_in a.b.now a.h)) (ap is_edge_table (sym n) ∙ sym t.ensures ∙ not-true t.result c.if-not-edge_table_ok.true-raw))

-- src/loads.rt:48:1
pub returns : goal.returns
returns c =
    let a = c.args in
    let p = c.requires in
    let t = c.edge_table_ok in
    let n = edges_lent a.b.now a.h p.desk_bytes_in_bounds p.edges_le_most_edges in
    c.state_ok.ensures
    ∙ sym (ap (λ x. x && state_ok_lem (judge_in a.b.now a.h)) (ap is_edge_table (sym n) ∙ sym t.ensures ∙ not-false t.result c.if-not-edge_table_ok.false-raw))
