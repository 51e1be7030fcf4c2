-- What the fourth program prints: a policy sheet written again (02, L12).
use Rattle.std.specs.Prelude.{ℕ, List, ◌++◌}
use Rattle.usage.specs.Limits.{longest_sheet}
use Rattle.report_lines.specs.Lines.{names_line, refusal_row}
use Rattle.sheet_writer.specs.Writer.{Rewriting, is_written, not_written, written_again}

-- the sheet; or "A refused sheet prints, after the names, only one line: line, 3 (policies) .. number"
unfoldable pub rewriting_printed : Rewriting → List ℕ
rewriting_printed (is_written t) = t
rewriting_printed (not_written r) = names_line ++ refusal_row 3 r

-- from the bytes of `policies.txt`
abbrev pub policies_printed : List ℕ → List ℕ
policies_printed text = rewriting_printed (written_again text)

-- the lent buffer has room for the longest sheet
abbrev pub policies_room : ℕ
policies_room = longest_sheet
