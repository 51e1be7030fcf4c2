-- What the programs print, and what is done with a lent buffer ("The two programs").
use Rattle.std.specs.Prelude.{ℕ, suc, ◌+◌, ◌*◌, cond, ltb, length, drop}
use mathlib.Core.List.{List, ◌++◌, flatten}
use Rattle.usage.specs.Limits.{most_steps, longest_sheet}
use Rattle.sheet_lines.specs.Sheet.{Result, accepted, refused}
use Rattle.report_lines.specs.Lines.{names_line, names_room, refusal_row}

-- "A refused sheet prints, after the names, only one line: line, 3 (policies) .. number; policies come first". With the edges of an
-- accepted one the rest is printed.
abbrev pub after_policies : Result → (List ℕ → List ℕ) → List ℕ
after_policies (accepted edges) rest = rest (flatten edges)
after_policies (refused r) rest = refusal_row 3 r

-- "It prints `line answer detail`, then .."
unfoldable pub printed : Result → (List ℕ → List ℕ) → List ℕ
printed policies rest = names_line ++ after_policies policies rest

-- ── What is read ──

-- a program reads so many bytes of a sheet at most: one more than the longest has, which tells a longer one
abbrev pub sheet_room : ℕ
sheet_room = suc longest_sheet

-- ── The lent buffer ──

-- The bytes of a line at most: of a step's, as `2001 2 42` and its line feed; of an outline's, as `65 5 12`, or `257 3 12` for policies.
abbrev pub longest_step_row : ℕ
longest_step_row = 10

abbrev pub longest_outline_row : ℕ
longest_outline_row = 9

-- what follows the names of a trace
abbrev pub steps_room : ℕ
steps_room = most_steps * longest_step_row

-- The buffer must have room for the longest output of its program.
abbrev pub trace_room : ℕ
trace_room = names_room + steps_room

abbrev pub outline_room : ℕ
outline_room = names_room + longest_outline_row

-- the length of the output; 0, which no output has, where the buffer lacks the room
unfoldable pub length_put : ℕ → List ℕ → List ℕ → ℕ
length_put room buffer output = cond (ltb (length buffer) room) 0 (length output)

-- the buffer begins with the output, and keeps its contents after it
abbrev pub fronted : List ℕ → List ℕ → List ℕ
fronted buffer output = output ++ drop (length output) buffer

-- where it lacks the room it keeps all
unfoldable pub put : ℕ → List ℕ → List ℕ → List ℕ
put room buffer output = cond (ltb (length buffer) room) buffer (fronted buffer output)
