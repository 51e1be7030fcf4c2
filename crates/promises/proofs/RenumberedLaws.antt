-- No answer, and no byte that is printed, depends on how the dynamic resources are numbered.
use Prim.Native.Nat.{ℕ}
use mathlib.Core.Path.{◌≡◌, refl, ap}
use mathlib.Core.Bool.{Bool}
use mathlib.Core.List.{List, ◌++◌, map, flatten}
use Rattle.usage.specs.declared.RawStep.{RawStep}
use Rattle.usage.specs.Tables.{steps_of}
use Rattle.usage.specs.declared.Reason.{Reason}
use Rattle.sheet_lines.specs.Sheet.{Result, accepted, refused, sheet}
use Rattle.sheet_lines.specs.Sheets.{is_local, trace_sheet}
use Rattle.sheet_reader.specs.Readers.{policies_read}
use Rattle.monitor_state.specs.declared.Answer.{Answer}
use Rattle.monitor_state.specs.Judge.{verdict_of, start_state}
use Rattle.monitor_state.specs.Renamed.{Renaming, renamed_step}
use Rattle.monitor_state.proofs.AlikeLaws.{start-same}
use Rattle.report_lines.specs.Lines.{names_line, rows}
use Rattle.report.specs.Output.{printed}
use Rattle.report.specs.Trace.{judged_rows, trace_rows, trace_printed}
use Rattle.promises.specs.Demands.{Renumbered}

rows_same : (edges : List ℕ) (local : Bool) (f : ℕ → ℕ) (line : ℕ) (steps : List RawStep) → Renaming f steps
    → judged_rows edges local start_state line (map (renamed_step f) steps) ≡ judged_rows edges local start_state line steps
unfolding judged_rows
rows_same edges local f line steps R = ap (λ (l : List (Answer Reason)). rows line (map verdict_of l)) (start-same edges local f steps R)

printed-same : (policies-text trace-text renamed-text : List ℕ) (rows renamed_rows : List (List ℕ)) (f : ℕ → ℕ)
    → Renaming f (steps_of (flatten rows)) → sheet trace_sheet trace-text ≡ accepted rows
    → sheet trace_sheet renamed-text ≡ accepted renamed_rows
    → steps_of (flatten renamed_rows) ≡ map (renamed_step f) (steps_of (flatten rows))
    → trace_printed policies-text renamed-text ≡ trace_printed policies-text trace-text
unfolding trace_printed printed trace_rows
printed-same policies-text trace-text renamed-text rows renamed_rows f R p q e = rw (p, q, e) (go (policies_read policies-text))
  where
    go : (r : Result)
        → printed r (λ edges. judged_rows edges (is_local policies-text) start_state 2 (map (renamed_step f) (steps_of (flatten rows))))
        ≡ printed r (λ edges. judged_rows edges (is_local policies-text) start_state 2 (steps_of (flatten rows)))
    go (accepted edges) =
        ap (λ (l : List ℕ). names_line ++ l) (rows_same (flatten edges) (is_local policies-text) f 2 (steps_of (flatten rows)) R)
    go (refused r) = refl

pub renumbered : Renumbered
renumbered = record { answers = start-same; printed = printed-same }
