-- What is printed for two accepted sheets is right: the answers are those that the definitions over the past give.
use Prim.Native.Nat.{ℕ}
use mathlib.Core.Path.{◌≡◌}
use mathlib.Core.Bool.{Bool, false}
use mathlib.Core.List.{List, [], ◌++◌, map, flatten}
use Rattle.usage.specs.declared.Edge.{Edge}
use Rattle.usage.specs.declared.RawStep.{RawStep}
use Rattle.usage.specs.Answers.{Verdict}
use Rattle.usage.specs.Judge.{JudgedAll}
use Rattle.usage.specs.Tables.{edges_of, steps_of}
use Rattle.usage.proofs.TableLaws.{decides-edge-table}
use Rattle.sheet_lines.specs.Sheet.{accepted, sheet}
use Rattle.sheet_lines.specs.Sheets.{trace_sheet, is_local}
use Rattle.sheet_reader.specs.Readers.{policies_read}
use Rattle.monitor_state.specs.Judge.{verdict_of, start_state, answers_of}
use Rattle.monitor_state.proofs.Verdict.{all-judged-begin}
use Rattle.report_lines.specs.Lines.{names_line, rows}
use Rattle.sheet_reader.proofs.AnswerLaws.{accepted-edges}
use Rattle.report.specs.Output.{printed}
use Rattle.report.specs.Trace.{judged_rows, trace_rows, trace_printed}

-- the names, and a row for each step from line 2 on, with the right answers
pub record Right (local : Bool) (edges : List Edge) (steps : List RawStep) (output : List ℕ) : Type 0 where
  pub verdicts : List Verdict
  pub judged : JudgedAll local edges [] false steps verdicts
  pub printed : output ≡ names_line ++ rows 2 verdicts

pub trace-right : (policies-text trace-text : List ℕ) (edges steps : List (List ℕ))
    → policies_read policies-text ≡ accepted edges → sheet trace_sheet trace-text ≡ accepted steps
    → Right (is_local policies-text) (edges_of (flatten edges)) (steps_of (flatten steps)) (trace_printed policies-text trace-text)
unfolding printed trace_printed trace_rows judged_rows
trace-right policies-text trace-text edges steps p t = record {
  verdicts = map verdict_of (answers_of (flatten edges) (is_local policies-text) start_state (steps_of (flatten steps)));
  judged = all-judged-begin (flatten edges) ((decides-edge-table (flatten edges)).1 (accepted-edges policies-text edges p))
      (is_local policies-text)
      (steps_of (flatten steps));
  printed = rw (p, t);
}
