use native.Mathlib.Omega.{arith}
use Rattle.usage.specs.Tables.{nodes_of}
use Rattle.report_lines.specs.Lines.{node_names_line}
use Rattle.report_lines.proofs.RowLaws.{length-node-names}
use Rattle.report.specs.Expression.{numbered_nodes, outline_text}
use Rattle.report.proofs.OutputLaws.{first-end, first-length, then-stored}
use Rattle.report.proofs.expression.sheet.Goals as goal

pub rows-requires : goal.rows-requires
rows-requires c =
    let a = c.args in
    let w = c.node_names-at in
    let l = length-node-names in
    let e = first-end a.out.now node_names_line w.result w.new.out w.ensures.value w.ensures.out_after (omega arith) in
    let m = first-length a.out.now node_names_line w.result w.new.out w.ensures.value w.ensures.out_after (omega arith) in
    omega arith

pub returns : goal.returns
unfolding outline_text
returns c =
    let a = c.args in
    let w = c.node_names-at in
    let r = c.rows in
    let l = length-node-names in
    let y = then-stored a.out.now node_names_line w.result w.new.out w.ensures.value w.ensures.out_after (omega arith)
    (numbered_nodes 0 (nodes_of a.nodes.now)) (omega arith) r.ensures.value r.ensures.out_after in
    record { value = y.0; out_after = y.1 }
