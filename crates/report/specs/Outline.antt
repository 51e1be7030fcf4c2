-- What the second program prints, by the verdict that is right of its two sheets.
use Rattle.std.specs.Prelude.{ℕ, Bool}
use mathlib.Core.List.{List, flatten}
use Rattle.usage.specs.Answers.{Verdict}
use Rattle.sheet_lines.specs.Sheet.{Result, accepted, refused, sheet}
use Rattle.sheet_lines.specs.Sheets.{outline_sheet, is_local}
use Rattle.sheet_reader.specs.Readers.{policies_read, ruled_result}
use Rattle.checker.specs.Promise.{RightVerdict}
use Rattle.report_lines.specs.Lines.{verdict_row, refusal_row}
use Rattle.report.specs.Output.{printed}

-- ── Which verdict is right ──

-- under a table of edges; of a refused outline no verdict is told, so any will do
unfoldable pub RightNodes : Bool → List ℕ → Result → Verdict → Type 0
RightNodes local edges (accepted nodes) v = RightVerdict local edges (flatten nodes) v
RightNodes local edges (refused r) v = Unit {0}

-- under a sheet of policies, and again any will do where it is refused
unfoldable pub RightSheets : Bool → Result → Result → Verdict → Type 0
RightSheets local (accepted edges) nodes v = RightNodes local (flatten edges) nodes v
RightSheets local (refused r) nodes v = Unit {0}

-- of the bytes of `policies.txt` and `outline.txt`
abbrev pub RightTexts : List ℕ → List ℕ → Verdict → Type 0
RightTexts policies-text outline-text v =
    RightSheets (is_local policies-text) (policies_read policies-text) (ruled_result (sheet outline_sheet outline-text)) v

-- ── What is printed of it ──

-- "`0 0 0` when accepted, `0 1` and the policy when refused, or a sheet's line, .. 5 (outline), number"
unfoldable pub nodes_row : Result → Verdict → List ℕ
nodes_row (accepted nodes) v = verdict_row 0 v
nodes_row (refused r) v = refusal_row 5 r

-- the whole output
unfoldable pub outline_printed : List ℕ → List ℕ → Verdict → List ℕ
outline_printed policies-text outline-text v =
    printed (policies_read policies-text) (λ edges. nodes_row (ruled_result (sheet outline_sheet outline-text)) v)
