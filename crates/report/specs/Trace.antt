-- What the first program prints.
use Rattle.std.specs.Prelude.{ℕ, Bool}
use mathlib.Core.List.{List, map, flatten}
use Rattle.usage.specs.declared.RawStep.{RawStep}
use Rattle.usage.specs.Tables.{steps_of}
use Rattle.sheet_lines.specs.Sheet.{Result, accepted, refused, sheet}
use Rattle.sheet_lines.specs.Sheets.{trace_sheet, is_local}
use Rattle.sheet_reader.specs.Readers.{policies_read}
use Rattle.monitor_state.specs.declared.State.{State}
use Rattle.monitor_state.specs.Judge.{verdict_of, start_state, answers_of}
use Rattle.report_lines.specs.Lines.{rows, refusal_row}
use Rattle.report.specs.Output.{printed}

-- the rows of steps that are judged from a state on, the first on line `line`
unfoldable pub judged_rows : List ℕ → Bool → State → ℕ → List RawStep → List ℕ
judged_rows edges local s line steps = rows line (map verdict_of (answers_of edges local s steps))

-- Each step is judged with the state that the last one returned. Line 1 is that of the names, so the first step stands on line 2.
-- "line, .. 4 (trace), number"
unfoldable pub trace_rows : List ℕ → Bool → Result → List ℕ
trace_rows edges local (accepted steps) = judged_rows edges local start_state 2 (steps_of (flatten steps))
trace_rows edges local (refused r) = refusal_row 4 r

-- the whole output; the names line of the policies says which past counts; from the bytes of `policies.txt` and `trace.txt`
unfoldable pub trace_printed : List ℕ → List ℕ → List ℕ
trace_printed policies-text trace-text = printed (policies_read policies-text)
    (λ edges. trace_rows edges (is_local policies-text) (sheet trace_sheet trace-text))
