-- What the program that prints a summary prints (02, L11): one line for each mark of the exact summary.
use Rattle.std.specs.Prelude.{ℕ, ◌+◌, ◌*◌, ◌≡◌, Bool, true, false, length, get_or}
use mathlib.Core.List.{List, [], ◌++◌, flatten}
use Rattle.usage.specs.Limits.{policies}
use Rattle.usage.specs.Tables.{from, edges_of, nodes_of}
use Rattle.automaton.specs.Mask.{has}
use Rattle.sheet_lines.specs.Sheet.{Result, accepted, refused, sheet}
use Rattle.sheet_lines.specs.Sheets.{outline_sheet, is_local}
use Rattle.sheet_reader.specs.Readers.{policies_read, ruled_result}
use Rattle.checker.specs.Summary.{Summary, Exact, mark_bits}
use Rattle.report_lines.specs.Lines.{names_line, mark_names_line, mark_names_room, mark_row_lem, refusal_row}
use Rattle.report.specs.Output.{fronted}

-- ── Which summary is right ──

-- "the exact summary" of an accepted outline under a table of edges. Of a refused one nothing is told, so there any will do.
unfoldable pub RightMarks : Bool → List ℕ → Result → Summary → Type 0
RightMarks local edges (accepted nodes) m = Exact local (edges_of edges) (nodes_of (flatten nodes)) m
RightMarks local edges (refused r) m = Unit {0}

-- under a sheet of policies, and again any will do where it is refused
unfoldable pub RightMarksOf : Bool → Result → Result → Summary → Type 0
RightMarksOf local (accepted edges) nodes m = RightMarks local (flatten edges) nodes m
RightMarksOf local (refused r) nodes m = Unit {0}

-- of the bytes of `policies.txt` and `outline.txt`
abbrev pub RightSummary : List ℕ → List ℕ → Summary → Type 0
RightSummary policies-text outline-text =
    RightMarksOf (is_local policies-text) (policies_read policies-text) (ruled_result (sheet outline_sheet outline-text))

-- ── What is printed of it ──

-- a text, or nothing
abbrev pub text_if : Bool → List ℕ → List ℕ
text_if true t = t
text_if false t = []

-- the line of bit i of policy p's number n, where it is set; bit 32 is the opening's
unfoldable pub bit_text : ℕ → ℕ → ℕ → List ℕ
bit_text n p i = text_if (has n i) (mark_row_lem p i)

-- the lines of a policy's number, in rising order
unfoldable pub policy_text : ℕ → ℕ → List ℕ
policy_text n p = flatten (from (bit_text n p) 0 mark_bits)

-- those of all policies
unfoldable pub marks_text : Summary → List ℕ
marks_text m = flatten (from (λ p. policy_text (get_or m p 0) p) 0 policies)

abbrev pub summary_text : Summary → List ℕ
summary_text m = mark_names_line ++ marks_text m

-- "or a sheet's line, .. 5 (outline), number": a refused sheet is printed as the second program prints it
unfoldable pub nodes_summary : Result → Summary → List ℕ
nodes_summary (accepted nodes) m = summary_text m
nodes_summary (refused r) m = names_line ++ refusal_row 5 r

unfoldable pub sheets_summary : Result → Result → Summary → List ℕ
sheets_summary (accepted edges) nodes m = nodes_summary nodes m
sheets_summary (refused r) nodes m = names_line ++ refusal_row 3 r

-- the whole output
abbrev pub summary_printed : List ℕ → List ℕ → Summary → List ℕ
summary_printed policies-text outline-text = sheets_summary (policies_read policies-text) (ruled_result (sheet outline_sheet outline-text))

-- ── The lent buffer ──

-- the bytes of a mark's line at most, as `7 32` and its line feed
abbrev pub longest_mark_row : ℕ
longest_mark_row = 5

-- the buffer must have room for the lines of all marks
abbrev pub summary_room : ℕ
summary_room = mark_names_room + policies * (mark_bits * longest_mark_row)

-- What is answered, r, and what the buffer then holds: there is a summary that is right, and the buffer begins with its text, of length r,
-- and keeps its contents after it.
pub record PrintsMarks (Right : Summary → Type 0) (text : Summary → List ℕ) (buffer : List ℕ) (r : ℕ) (after : List ℕ) : Type 0 where
  pub summary : Summary
  pub right : Right summary
  pub told : r ≡ length (text summary)
  pub holds : after ≡ fronted buffer (text summary)
