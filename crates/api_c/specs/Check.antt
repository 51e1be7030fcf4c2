-- What is told of the check.
use Rattle.std.specs.Prelude.{ℕ, ◌<◌, ◌≤◌, ◌≡◌, Bool, cond, List, ltb, length}
use Rattle.usage.specs.Answers.{Verdict, refused}
use Rattle.checker_trace.specs.Answer.{most_numbers}
use Rattle.checker.specs.Promise.{RightVerdict, CheckPromise}
use Rattle.checker_counterexample.specs.declared.Explanation.{Explanation}
use Rattle.std.specs.Prelude.{Result, Err}
use Rattle.usage.specs.declared.Reason.{Reason}
use Rattle.usage.specs.declared.Reason.TheVariants.{Room, Table}
use Rattle.checker_counterexample.specs.Explained.{Explained}
use Rattle.api_c.specs.Choice.{choice_of}
use Rattle.api_c.specs.Codes.{code_of, explanation_code_lem}

-- What is right where the choice of past is handed over as a number: `other` where it stands for none, else what is right with that choice.
pub data Chosen {A : Type 0} (choice : ℕ) (other : A) (Right : Bool → A → Type 0) : A → Type 0 where
  no_choice : 1 < choice → Chosen choice other Right other
  chosen : {a : A} → choice ≤ 1 → Right (choice_of choice) a → Chosen choice other Right a

-- ── The check ──

-- The right verdict of two lent tables; and the check's promise of it.
abbrev pub RightFor : ℕ → List ℕ → List ℕ → Verdict → Type 0
RightFor choice edges nodes = Chosen choice (refused 41) (λ local v. RightVerdict local edges nodes v)

abbrev pub PromisedFor : ℕ → List ℕ → List ℕ → Verdict → Type 0
PromisedFor choice edges nodes = Chosen choice (refused 41) (λ local v. CheckPromise local edges nodes v)

-- The number that is answered is that of the verdict that is right, whichever that is; and of one verdict the check's promise holds, so
-- that one is right.
pub record Answers (choice : ℕ) (edges nodes : List ℕ) (r : ℕ) : Type 0 where
  pub told : (v : Verdict) → RightFor choice edges nodes v → r ≡ code_of v
  pub verdict : Verdict
  pub promised : PromisedFor choice edges nodes verdict

-- ── With a counterexample ──

-- its table is looked at first: 40, then 41
unfoldable pub refusal_without_choice : List ℕ → Result Explanation Reason
refusal_without_choice t = Err (cond (ltb (length t) most_numbers) Room Table)

-- the explanation, and what the lent table then holds
abbrev pub ExplainedFor : ℕ → List ℕ → List ℕ → List ℕ → Result Explanation Reason × List ℕ → Type 0
ExplainedFor choice edges nodes t =
    Chosen choice (refusal_without_choice t, t) (λ local (x, t'). Explained local edges nodes t x t')

-- The number that is answered where a trace is asked for too: that of an explanation that the check with a counterexample promises, with
-- what the lent table then holds. Which of several shortest traces is written is left free, and nothing else.
pub record Explains (choice : ℕ) (edges nodes t : List ℕ) (r : ℕ) (t' : List ℕ) : Type 0 where
  pub explanation : Result Explanation Reason
  pub explained : ExplainedFor choice edges nodes t (explanation, t')
  pub told : r ≡ explanation_code_lem explanation
