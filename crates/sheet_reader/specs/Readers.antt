-- What the three readers answer and store.
use Rattle.std.specs.Prelude.{Result as Returned, Ok, Err, ℕ, Bool, cond, ltb, length, get_or, drop}
use Rattle.std.proofs.Math.Option.{Option, none, some}
use mathlib.Core.List.{List, ◌++◌, map, tail, flatten}
use Rattle.usage.specs.Limits.{edge_places, node_places, step_places}
use Rattle.usage.specs.Answers.{Refusal}
use Rattle.usage.specs.declared.SheetRefusal.{SheetRefusal}
use Rattle.usage.specs.Reasons.{refusal_of}
use Rattle.usage.specs.Tests.{ruled_sheet}
use Rattle.usage.specs.Tables.{nodes_of}
use Rattle.sheet_lines.specs.Sheet.{Result, accepted, refused, refuse_at, sheet}
use Rattle.sheet_lines.specs.Sheets.{policy_sheet, is_local, trace_sheet, outline_sheet}
use Rattle.sheet_reader.specs.declared.PolicySheet.{PolicySheet}

-- A text is read as a sheet of local policies where it has their names line, else as one of policies that see the whole past: "Refusal
-- 1 now means neither names line" (02, L7). Which one it is, `is_local` says.
abbrev pub policies_read : List ℕ → Result
policies_read text = sheet (policy_sheet (is_local text)) text

-- "then 9, 6, 7, 8, each over all nodes": of the lines' node numbers and the nodes themselves. The number of an accepted node
-- is its place, so the table leaves it out.
abbrev pub ruled_rows : Option Refusal → List (List ℕ) → Result
ruled_rows none rows = accepted (map tail rows)
ruled_rows (some r) rows = refused r

unfoldable pub ruled_result : Result → Result
ruled_result (accepted rows) = ruled_rows (ruled_sheet (map (λ vs. get_or vs 0 0) rows) (nodes_of (flatten (map tail rows)))) rows
ruled_result (refused r) = refused r

-- ── Reading into a table of so many places ──

-- "40 a table lent to be filled that is smaller than its sheet's largest count", before all others
abbrev pub roomy : ℕ → ℕ → Result → Result
roomy places needed r = cond (ltb places needed) (refuse_at 0 40) r

unfoldable pub policies_into : ℕ → List ℕ → Result
policies_into places text = roomy places edge_places (policies_read text)

unfoldable pub trace_into : ℕ → List ℕ → Result
trace_into places text = roomy places step_places (sheet trace_sheet text)

unfoldable pub outline_into : ℕ → List ℕ → Result
outline_into places text = roomy places node_places (ruled_result (sheet outline_sheet text))

-- ── What is answered of policies ──

-- how many edges were stored and whether they are local, or the refusal's line and number
pub data PolicyAnswer : Type 0 where
  has_edges : ℕ → Bool → PolicyAnswer
  has_refusal : Refusal → PolicyAnswer

abbrev pub policy_answer : Returned PolicySheet SheetRefusal → PolicyAnswer
policy_answer (Ok s) = has_edges s.edges s.local
policy_answer (Err r) = has_refusal (refusal_of r)

unfoldable pub policies_answered : Bool → Result → PolicyAnswer
policies_answered local (accepted rows) = has_edges (length rows) local
policies_answered local (refused r) = has_refusal r

-- ── What is stored ──

-- "Reading answers how many value lines it stored in the lent table; places after these keep their contents." A refusal "stores
-- nothing".
unfoldable pub stored : Result → List ℕ → List ℕ
stored (accepted rows) table = flatten rows ++ drop (length (flatten rows)) table
stored (refused r) table = table
