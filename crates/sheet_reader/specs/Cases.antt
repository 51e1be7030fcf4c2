-- The stated case of each number with which a reader refuses a text, as rules to read.
use Rattle.std.specs.Prelude.{ℕ, ◌<◌, ◌≤◌, ◌≡◌, get_or}
use Rattle.std.proofs.Math.Option.{some}
use mathlib.Core.List.{List, map, tail, flatten}
use Rattle.usage.specs.Limits.{edge_places, node_places, step_places}
use Rattle.usage.specs.Answers.{Refusal}
use Rattle.usage.specs.Valid.{TreeOk, PlaceOk, Ruled}
use Rattle.usage.specs.Tables.{nodes_of}
use Rattle.sheet_lines.specs.Sheet.{Sheet, accepted, sheet}
use Rattle.sheet_lines.specs.Sheets.{policy_sheet, is_local, trace_sheet, outline_sheet}
use Rattle.sheet_lines.specs.Cases.{SheetRefuses}

-- A text read as a sheet into a lent table of so many places, of which the largest sheet needs `needed`. `Rule` is what is asked of the
-- lines of an accepted sheet besides.
pub data ReaderCase (needed : ℕ) (s : Sheet) (Rule : List (List ℕ) → Refusal → Type 0) (places : ℕ) (text : List ℕ) (r : Refusal) : Type 0
  where
    -- "40 a table lent to be filled that is smaller than its sheet's largest count", before all others
    no_room : places < needed → r ≡ record { line = 0; number = 40 } → ReaderCase needed s Rule places text r
    -- "5, 1, then line by line 4, 2, 3"
    in_sheet : needed ≤ places → SheetRefuses s text r → ReaderCase needed s Rule places text r
    by_rule : {rows : List (List ℕ)} → needed ≤ places → sheet s text ≡ accepted rows → Rule rows r → ReaderCase needed s Rule places text r

abbrev pub no_rule : List (List ℕ) → Refusal → Type 0
no_rule rows r = ⊥

-- "then 9, 6, 7, 8, each over all nodes"
abbrev pub OutlineRule : List (List ℕ) → Refusal → Type 0
OutlineRule rows r =
    Ruled (nodes_of (flatten (map tail rows)))
    (λ k. PlaceOk (map (λ vs. get_or vs 0 0) rows) k × TreeOk (nodes_of (flatten (map tail rows))) k) (some r)

-- a sheet of policies is read by the names line that it has: "Refusal 1 now means neither names line" (02, L7)
abbrev pub PoliciesCase : ℕ → List ℕ → Refusal → Type 0
PoliciesCase places text = ReaderCase edge_places (policy_sheet (is_local text)) no_rule places text

abbrev pub TraceCase : ℕ → List ℕ → Refusal → Type 0
TraceCase = ReaderCase step_places trace_sheet no_rule

abbrev pub OutlineCase : ℕ → List ℕ → Refusal → Type 0
OutlineCase = ReaderCase node_places outline_sheet OutlineRule
