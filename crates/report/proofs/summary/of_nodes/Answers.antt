use native.Mathlib.Omega.{arith}
use Rattle.report_lines.specs.Lines.{mark_names_line}
use Rattle.report_lines.proofs.RowLaws.{length-mark-names}
use Rattle.report.specs.Summary.{marks_text}
use Rattle.report.proofs.OutputLaws.{first-end, first-length, then-stored}
use Rattle.report.proofs.SummaryLaws.{marks-short, summarized-exact}
use Rattle.report.proofs.summary.of_nodes.Goals as goal

pub all_rows-requires : goal.all_rows-requires
all_rows-requires c =
    let a = c.args in
    let k = c.summary in
    let w = c.mark_names-at in
    let l = length-mark-names in
    let e = first-end a.out.now mark_names_line w.result w.new.out w.ensures.value w.ensures.out_after (omega arith) in
    let m = first-length a.out.now mark_names_line w.result w.new.out w.ensures.value w.ensures.out_after (omega arith) in
    let short = marks-short k.new.marks in
    omega arith

pub returns : goal.returns
returns c =
    let a = c.args in
    let k = c.summary in
    let w = c.mark_names-at in
    let t = c.all_rows in
    let l = length-mark-names in
    let short = marks-short k.new.marks in
    let z = then-stored a.out.now mark_names_line w.result w.new.out w.ensures.value w.ensures.out_after (omega arith)
    (marks_text k.new.marks) (omega arith) t.ensures.value t.ensures.out_after in
    let p = c.requires in
    record { summary = k.new.marks; right = summarized-exact p.edge_table p.node_table k.ensures; told = z.0; holds = z.1 }
