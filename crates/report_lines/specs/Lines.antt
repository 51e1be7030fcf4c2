-- The lines that are printed.
use Rattle.std.specs.Prelude.{ℕ, suc, List, [], ◌∷◌, ◌++◌}
use Rattle.usage.specs.Answers.{Verdict, answer, detail, Refusal}
use Rattle.sheet_lines.specs.Bytes.{bytes}
use Rattle.sheet_lines.specs.Sheets.{trace_sheet, outline_sheet}
use Rattle.report_lines.specs.Decimal.{decimal}

-- "It prints `line answer detail`"
unfoldable pub names_line : List ℕ
names_line = bytes "line answer detail\n"

-- its bytes (`length-names` of proofs/RowLaws)
abbrev pub names_room : ℕ
names_room = 19

-- the names line of a trace sheet, where steps are printed, and its bytes (`length-trace-names` of proofs/RowLaws)
unfoldable pub trace_names_line : List ℕ
trace_names_line = trace_sheet.names

abbrev pub trace_names_room : ℕ
trace_names_room = 9

-- that of an outline sheet, where nodes are printed (`length-node-names` of proofs/RowLaws)
unfoldable pub node_names_line : List ℕ
node_names_line = outline_sheet.names

abbrev pub node_names_room : ℕ
node_names_room = 14

-- 02, L11: "which actions, and whether its opening" of each policy; where marks are printed (`length-mark-names` of proofs/RowLaws)
unfoldable pub mark_names_line : List ℕ
mark_names_line = bytes "policy action\n"

abbrev pub mark_names_room : ℕ
mark_names_room = 14

-- 02, L14: "An answer to a step, if no refusal, tells which judge gave it" (`length-desk-names` of proofs/RowLaws)
unfoldable pub desk_names_line : List ℕ
desk_names_line = bytes "line answer detail lean\n"

abbrev pub desk_names_room : ℕ
desk_names_room = 24

-- a number and the byte after it
unfoldable pub field : ℕ → ℕ → List ℕ
field n end = decimal n ++ (end ∷ [])

-- three numbers with single spaces (byte 32) between them, and the byte after them
unfoldable pub three : ℕ → ℕ → ℕ → ℕ → List ℕ
three a b c end = field a 32 ++ (field b 32 ++ field c end)

-- a printed line: one line feed (byte 10) at the end
unfoldable pub row : ℕ → ℕ → ℕ → List ℕ
row line answer detail = three line answer detail 10

-- a line of values of a sheet, with single spaces too
unfoldable pub values_text : ℕ → List ℕ → List ℕ
values_text v [] = field v 10
values_text v (w ∷ vs) = field v 32 ++ values_text w vs

abbrev pub values_line : List ℕ → List ℕ
values_line [] = 10 ∷ []
values_line (v ∷ vs) = values_text v vs

-- the bytes of one with six values of 32 bits, at most (`three-fits` of proofs/RowLaws)
abbrev pub values_room : ℕ
values_room = 66

-- a line of an outline sheet: the node's number before its three
unfoldable pub numbered_row_lem : ℕ → ℕ → ℕ → ℕ → List ℕ
numbered_row_lem number kind a b = field number 32 ++ row kind a b

-- a line of a summary: a policy and the action that is marked for it
unfoldable pub mark_row_lem : ℕ → ℕ → List ℕ
mark_row_lem policy action = field policy 32 ++ field action 10

-- "0 allowed, 1 violated or 2 refused, and the policy, the number, or 0"
abbrev pub verdict_row : ℕ → Verdict → List ℕ
verdict_row line v = row line (answer v) (detail v)

-- "then for each value line its line number", the answer and the detail
unfoldable pub rows : ℕ → List Verdict → List ℕ
rows line [] = []
rows line (v ∷ vs) = verdict_row line v ++ rows (suc line) vs

-- "A refused sheet prints, after the names, only one line: line, 3 (policies) or 4 (trace), number"; "5 (outline)"
abbrev pub refusal_row : ℕ → Refusal → List ℕ
refusal_row sheet r = row r.line sheet r.number
