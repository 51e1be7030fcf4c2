-- What the third program prints: a shortest counterexample as a trace sheet, so that it can be handed to the first program at once.
use Rattle.std.specs.Prelude.{ℕ, Result as Returned, ◌+◌, ◌*◌, Bool, ◌≡◌, length, replicate}
use mathlib.Core.List.{List, [], ◌∷◌, ◌++◌, flatten}
use Rattle.usage.specs.declared.RawStep.{RawStep}
use Rattle.usage.specs.declared.Reason.{Reason}
use Rattle.usage.specs.Limits.{most_shown}
use Rattle.usage.specs.Tables.{from, step_at_lem}
use Rattle.sheet_lines.specs.Sheet.{Result, accepted, refused, sheet}
use Rattle.sheet_lines.specs.Sheets.{outline_sheet, is_local}
use Rattle.sheet_reader.specs.Readers.{policies_read, ruled_result}
use Rattle.checker_trace.specs.Answer.{most_numbers}
use Rattle.checker_counterexample.specs.declared.Explanation.{Explanation}
use Rattle.checker_counterexample.specs.Explained.{Explained, steps_written_lem}
use Rattle.report_lines.specs.Lines.{names_line, trace_names_line, trace_names_room, row, refusal_row}
use Rattle.report.specs.Output.{fronted}

-- ── Which explanation and which trace are right ──

-- the table that the check is lent
abbrev pub no_steps : List ℕ
no_steps = replicate most_numbers 0

-- Under a table of edges: what the check with a counterexample promises of the outline. Of several shortest traces any will do. Of a
-- refused outline nothing is told, so there any explanation will do.
unfoldable pub RightTrace : Bool → List ℕ → Result → Returned Explanation Reason → List ℕ → Type 0
RightTrace local edges (accepted nodes) e t = Explained local edges (flatten nodes) no_steps e t
RightTrace local edges (refused r) e t = Unit {0}

-- under a sheet of policies, and again any will do where it is refused
unfoldable pub RightTraceOf : Bool → Result → Result → Returned Explanation Reason → List ℕ → Type 0
RightTraceOf local (accepted edges) nodes e t = RightTrace local (flatten edges) nodes e t
RightTraceOf local (refused r) nodes e t = Unit {0}

-- of the bytes of `policies.txt` and `outline.txt`
abbrev pub RightExplanation : List ℕ → List ℕ → Returned Explanation Reason → List ℕ → Type 0
RightExplanation policies-text outline-text =
    RightTraceOf (is_local policies-text) (policies_read policies-text) (ruled_result (sheet outline_sheet outline-text))

-- ── What is printed of it ──

-- a step as a line of a trace sheet: `kind a b`
abbrev pub step_row : RawStep → List ℕ
step_row s = row s.kind s.a s.b

unfoldable pub step_rows : List RawStep → List ℕ
step_rows [] = []
step_rows (s ∷ steps) = step_row s ++ step_rows steps

-- the trace sheet of the steps that were written into a table, the oldest first: the names line alone where the outline is accepted or
-- every counterexample is longer than 200 steps
abbrev pub shown_sheet : Returned Explanation Reason → List ℕ → List ℕ
shown_sheet e t = trace_names_line ++ step_rows (from (step_at_lem t) 0 (steps_written_lem e))

-- "or a sheet's line, .. 5 (outline), number": a refused sheet is printed as the second program prints it
unfoldable pub nodes_sheet : Result → Returned Explanation Reason → List ℕ → List ℕ
nodes_sheet (accepted nodes) e t = shown_sheet e t
nodes_sheet (refused r) e t = names_line ++ refusal_row 5 r

unfoldable pub sheets_sheet : Result → Result → Returned Explanation Reason → List ℕ → List ℕ
sheets_sheet (accepted edges) nodes e t = nodes_sheet nodes e t
sheets_sheet (refused r) nodes e t = names_line ++ refusal_row 3 r

-- the whole output
abbrev pub counterexample_printed : List ℕ → List ℕ → Returned Explanation Reason → List ℕ → List ℕ
counterexample_printed policies-text outline-text =
    sheets_sheet (policies_read policies-text) (ruled_result (sheet outline_sheet outline-text))

-- ── The lent buffer ──

-- the bytes of a step's line at most, as `0 31 215` and its line feed: fresh resources are numbered 16, 17 and on, one a step at most
abbrev pub longest_shown_row : ℕ
longest_shown_row = 9

-- the buffer must have room for the longest output
abbrev pub counterexample_room : ℕ
counterexample_room = trace_names_room + most_shown * longest_shown_row

-- What is answered, r, and what the buffer then holds: there is an explanation with its trace that is right, and the buffer begins with
-- the text of these two, of length r, and keeps its contents after it.
pub record Prints (Right : Returned Explanation Reason → List ℕ → Type 0) (text : Returned Explanation Reason → List ℕ → List ℕ) (buffer : List ℕ) (r : ℕ)
    (after : List ℕ) : Type 0 where
  pub explanation : Returned Explanation Reason
  pub trace : List ℕ
  pub right : Right explanation trace
  pub told : r ≡ length (text explanation trace)
  pub holds : after ≡ fronted buffer (text explanation trace)
