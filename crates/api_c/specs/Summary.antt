-- What is told of the exact summary (02, L11).
use Rattle.std.specs.Prelude.{ℕ, ◌+◌, ◌≡◌, cond, List, eqb, ltb, length}
use Rattle.usage.specs.Limits.{policies}
use Rattle.checker.specs.Summary.{Summarized}
use Rattle.api_c.specs.Check.{Chosen}

-- 0, or the number of a refusal as the check's is answered
unfoldable pub summary_code_lem : ℕ → ℕ
summary_code_lem n = cond (eqb n 0) 0 (512 + n)

-- a number that is no choice of past: the lent table is looked at first, 40, then 41
unfoldable pub number_without_choice : List ℕ → ℕ
number_without_choice t = cond (ltb (length t) policies) 40 41

-- The number that is answered, and what the lent table then holds.
pub record Summarizes (choice : ℕ) (edges nodes t : List ℕ) (r : ℕ) (t' : List ℕ) : Type 0 where
  pub number : ℕ
  pub summarized : Chosen choice (number_without_choice t, t) (λ local (n, u). Summarized local edges nodes t n u) (number, t')
  pub told : r ≡ summary_code_lem number
