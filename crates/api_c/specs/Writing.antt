-- The answer of the sheet writer as numbers.
use Rattle.std.specs.Prelude.{ℕ, List, length, set}
use Rattle.sheet_writer.specs.Writer.{Rewriting, is_written, not_written}

-- "The answer is the length" (02, L12), which is not 0: every sheet has its names line
unfoldable pub length_in : Rewriting → ℕ
length_in (is_written t) = length t
length_in (not_written r) = 0

-- where the line and the number of a refusal are told; a sheet that is written tells none
unfoldable pub told_in : Rewriting → List ℕ → List ℕ
told_in (is_written t) told = told
told_in (not_written r) told = set (set told 0 r.line) 1 r.number
