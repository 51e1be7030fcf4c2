-- A policy sheet that is written again has the verdicts of the sheet that it was.
use Prim.Native.Nat.{ℕ}
use mathlib.Core.Path.{◌≡◌, ap}
use mathlib.Core.Bool.{Bool}
use mathlib.Core.List.{List, flatten}
use Rattle.usage.specs.Answers.{Verdict}
use Rattle.usage.specs.Policy.{SameEdges}
use Rattle.usage.specs.Tables.{edges_of, nodes_of, EdgeTable}
use Rattle.usage.proofs.EdgeSetLaws.{same-edges-sym, checked-same}
use Rattle.sheet_lines.specs.Sheet.{accepted}
use Rattle.sheet_lines.specs.Sheets.{is_local}
use Rattle.sheet_reader.specs.Readers.{policies_read}
use Rattle.sheet_reader.proofs.AnswerLaws.{accepted-edges}
use Rattle.monitor_state.proofs.EdgeSetLaws.{judge-set}
use Rattle.checker.specs.Promise.{RightVerdict, no_edges, no_nodes, checked}
use Rattle.sheet_writer.specs.Writer.{is_written, written_again, result_edges, edges_in}
use Rattle.sheet_writer.proofs.WriterLaws.{tidied, one-writing, one_way}
use Rattle.promises.specs.Demands.{Verdicts, Rewritten}

-- the right verdict goes by the edges as a set
right-to : {local : Bool} {t u nodes : List ℕ} {v : Verdict} → EdgeTable t → EdgeTable u → SameEdges (edges_of t) (edges_of u)
    → RightVerdict local t nodes v → RightVerdict local u nodes v
right-to valid fine h (no_edges n) = absurd (n valid)
right-to valid fine h (no_nodes n) = no_nodes n
right-to {local} {nodes = nodes} {v = v} valid fine h (checked e n c) = checked fine n ((checked-same h local (nodes_of nodes) v).0 c)

table-edges : (text : List ℕ) (rows : List (List ℕ)) → policies_read text ≡ accepted rows → edges_in text ≡ edges_of (flatten rows)
unfolding result_edges
table-edges text rows e = ap result_edges e

verdicts-same : (text t : List ℕ) → written_again text ≡ is_written t → Verdicts text t
verdicts-same text t e =
    let w = one-writing text t e in
    let a = tidied text t e in
    let b = tidied t t w.twice in
    let valid = accepted-edges text a.rows a.result in
    let fine = accepted-edges t b.rows b.result in
    let same : SameEdges (edges_of (flatten b.rows)) (edges_of (flatten a.rows)) =
    rw (table-edges t b.rows b.result, table-edges text a.rows a.result) at w.same_edges in
    record {
      was = a.rows;
      is = b.rows;
      was_read = a.result;
      is_read = b.result;
      judged = λ s raw. rw w.same_past (judge-set (flatten b.rows) (flatten a.rows) fine valid same (is_local text) s raw);
      checked = λ nodes v. rw w.same_past (right-to fine valid same, right-to valid fine (same-edges-sym same));
    }

pub rewritten : Rewritten
rewritten = record { way = one_way; verdicts = verdicts-same }
