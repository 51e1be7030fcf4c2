-- "Write any accepted policy sheet again" (02, L12): what is answered, and what the lent sheet holds.
use Rattle.std.specs.Prelude.{ℕ, Bool, Result as Returned, Ok, Err, cond, ltb, length, drop}
use mathlib.Core.List.{List, [], ◌++◌, flatten}
use Rattle.usage.specs.declared.Edge.{Edge}
use Rattle.usage.specs.Limits.{longest_sheet}
use Rattle.usage.specs.Answers.{Refusal}
use Rattle.usage.specs.declared.SheetRefusal.{SheetRefusal}
use Rattle.usage.specs.Reasons.{refusal_of}
use Rattle.usage.specs.Tables.{edges_of}
use Rattle.sheet_lines.specs.Sheet.{Result, accepted, refused}
use Rattle.sheet_lines.specs.Sheets.{is_local}
use Rattle.sheet_reader.specs.Readers.{policies_read}
use Rattle.sheet_writer.specs.Text.{sheet_text}

-- the sheet written again; or the refusal of one that is not accepted
pub data Rewriting : Type 0 where
  is_written : List ℕ → Rewriting
  not_written : Refusal → Rewriting

unfoldable pub rewriting : Bool → Result → Rewriting
rewriting local (accepted rows) = is_written (sheet_text local (edges_of (flatten rows)))
rewriting local (refused r) = not_written r

-- "with its own names line"
unfoldable pub written_again : List ℕ → Rewriting
written_again text = rewriting (is_local text) (policies_read text)

-- "40 also covers a lent sheet below 32,768 bytes", before all others
unfoldable pub written_into : ℕ → List ℕ → Rewriting
written_into places text = cond (ltb places longest_sheet) (not_written record { line = 0; number = 40 }) (written_again text)

-- ── The answer ──

-- "The answer is the length"; or the refusal's line and number
pub data WritingAnswer : Type 0 where
  has_length : ℕ → WritingAnswer
  has_none : Refusal → WritingAnswer

abbrev pub writing_answer : Returned ℕ SheetRefusal → WritingAnswer
writing_answer (Ok n) = has_length n
writing_answer (Err r) = has_none (refusal_of r)

unfoldable pub rewriting_answer : Rewriting → WritingAnswer
rewriting_answer (is_written t) = has_length (length t)
rewriting_answer (not_written r) = has_none r

-- "bytes after it keep their contents"; a refusal "stores and changes nothing"
unfoldable pub rewritten_in : Rewriting → List ℕ → List ℕ
rewritten_in (is_written t) out = t ++ drop (length t) out
rewritten_in (not_written r) out = out

-- ── The edges of a sheet ──

-- those of an accepted sheet; a refused one has none
unfoldable pub result_edges : Result → List Edge
result_edges (accepted rows) = edges_of (flatten rows)
result_edges (refused r) = []

abbrev pub edges_in : List ℕ → List Edge
edges_in text = result_edges (policies_read text)
