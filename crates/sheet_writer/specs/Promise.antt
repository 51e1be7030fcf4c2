-- What the request promises of the sheets that are written (02, L12). That the verdicts are the same is in `promises`.
use Rattle.std.specs.Prelude.{ℕ, ◌≤◌, ◌≡◌, List, ◌↔◌, length}
use Rattle.usage.specs.Limits.{longest_sheet}
use Rattle.usage.specs.Answers.{Refusal}
use Rattle.usage.specs.Policy.{SameEdges}
use Rattle.sheet_lines.specs.Sheet.{refused}
use Rattle.sheet_lines.specs.Sheets.{is_local}
use Rattle.sheet_reader.specs.Readers.{policies_read}
use Rattle.sheet_writer.specs.Writer.{is_written, not_written, written_again, edges_in}

-- of a sheet `text`, written again as t
pub record OneWriting (text t : List ℕ) : Type 0 where
  -- "Reading the result gives the same edges as a set"
  pub same_edges : SameEdges (edges_in t) (edges_in text)
  -- "its own names line"
  pub same_past : is_local t ≡ is_local text
  -- "Writing a second time changes no byte"; so the result is accepted
  pub twice : written_again t ≡ is_written t
  -- it is no longer than a sheet may be
  pub short : length t ≤ longest_sheet

pub record OneWay : Type 0 where
  pub writing : (text t : List ℕ) → written_again text ≡ is_written t → OneWriting text t
  -- "two sheets with the same names line give equal bytes exactly when their edge sets are equal"
  pub exactly : (a b s t : List ℕ) → written_again a ≡ is_written s → written_again b ≡ is_written t → is_local a ≡ is_local b
      → (s ≡ t) ↔ SameEdges (edges_in a) (edges_in b)
  -- "any accepted policy sheet": what is refused is what reading refuses
  pub refuses : (text : List ℕ) (r : Refusal) → (written_again text ≡ not_written r) ↔ (policies_read text ≡ refused r)
