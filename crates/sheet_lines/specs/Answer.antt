-- Document 01's numbers for an answer, and what the buffer holds.
use Rattle.std.specs.Prelude.{ℕ, Result as Returned, Ok, Err, length, drop, replicate}
use mathlib.Core.List.{List, ◌++◌, flatten}
use Rattle.usage.specs.Limits.{step_places}
use Rattle.usage.specs.Answers.{Refusal}
use Rattle.usage.specs.declared.SheetRefusal.{SheetRefusal}
use Rattle.usage.specs.Reasons.{refusal_of}
use Rattle.sheet_lines.specs.Sheet.{Result, accepted, refused}

-- how many value lines were stored, or the refusal's line and number
pub data Answer : Type 0 where
  count : ℕ → Answer
  refusal : Refusal → Answer

abbrev pub reading_answer : Returned ℕ SheetRefusal → Answer
reading_answer (Ok n) = count n
reading_answer (Err r) = refusal (refusal_of r)

unfoldable pub answered : Result → Answer
answered (accepted rows) = count (length rows)
answered (refused r) = refusal r

-- the values of the largest sheet: a trace has the most
abbrev pub most_values : ℕ
most_values = step_places

-- a buffer of so many places: the values, and 0 in the places after them; a refusal leaves it as it was
unfoldable pub filled : Result → List ℕ → List ℕ
filled (accepted rows) buffer = flatten rows ++ drop (length (flatten rows)) (replicate most_values 0)
filled (refused r) buffer = buffer
