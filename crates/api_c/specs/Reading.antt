-- A reader's answer as one number.
use Rattle.std.specs.Prelude.{ℕ, ◌+◌, cond, eqb}
use Rattle.usage.specs.Answers.{refused}
use Rattle.sheet_lines.specs.Answer.{Answer, count, refusal}
use Rattle.api_c.specs.Codes.{code_of}

-- how many were stored, which is below 512; or the number of a refusal as the judge's are told, and 65,536 more where it has a line
abbrev pub read_code : Answer → ℕ
read_code (count n) = n
read_code (refusal r) = cond (eqb r.line 0) 0 65536 + code_of (refused r.number)
