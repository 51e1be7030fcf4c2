-- An answer as one number.
use Rattle.std.specs.Prelude.{ℕ, ◌+◌, ◌*◌, Result}
use Rattle.usage.specs.declared.Reason.{Reason}
use Rattle.usage.specs.Answers.{Verdict, answer, detail}
use Rattle.checker_counterexample.specs.declared.Explanation.{Explanation}
use Rattle.checker_counterexample.specs.Explained.{explanation_verdict, steps_written_lem}

-- document 01's answer and its detail, which is below 256
abbrev pub code_of : Verdict → ℕ
code_of v = 256 * answer v + detail v

-- the same, and how many steps of a trace were written
abbrev pub explanation_code_lem : Result Explanation Reason → ℕ
explanation_code_lem e = 65536 * steps_written_lem e + code_of (explanation_verdict e)
