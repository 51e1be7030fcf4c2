-- The judge's cases of the local meaning (02, L7), as one list: the edges are those of a sheet whose names line is
-- `local from action on who to`. Beside it, the same steps where the whole past counts.
use Rattle.std.specs.Prelude.{true, false}
use mathlib.Core.List.{List, [], ◌∷◌, Memᴰ}
use Rattle.usage.specs.Answers.{Verdict, allowed, violated}
use Rattle.test_cases.specs.JudgeCases.{JudgeCase, JudgedRight, step, P, case_c, case_e}

-- Case C: read 3, then open 0. What was read before the opening does not count: "At an opening of a policy that is not open, all its
-- instances go back to state 0."
abbrev pub read_before : JudgeCase
read_before = record { edges = P; steps = case_c.steps; answers = allowed ∷ allowed ∷ [] }

-- Action 1 on 3, open 0, read 3: action 1 had led the instance of 3 out of state 0, from which reading offends, and the opening leads
-- it back.
abbrev pub back_to_start : JudgeCase
back_to_start = record {
  edges = P;
  steps = step 0 1 3 ∷ step 1 0 0 ∷ step 0 2 3 ∷ [];
  answers = allowed ∷ allowed ∷ violated 0 ∷ [];
}

-- Open 0, action 1 on 3, open 0, read 3: "A further opening of a policy already open resets nothing."
abbrev pub nested_keeps : JudgeCase
nested_keeps = record {
  edges = P;
  steps = step 1 0 0 ∷ step 0 1 3 ∷ step 1 0 0 ∷ step 0 2 3 ∷ [];
  answers = allowed ∷ allowed ∷ allowed ∷ allowed ∷ [];
}

-- Open 0, action 1 on 3, close 0, open 0, read 3: the second opening, of a policy that is not open any more, resets again.
abbrev pub opened_again : JudgeCase
opened_again = record {
  edges = P;
  steps = step 1 0 0 ∷ step 0 1 3 ∷ step 2 0 0 ∷ step 1 0 0 ∷ step 0 2 3 ∷ [];
  answers = allowed ∷ allowed ∷ allowed ∷ allowed ∷ violated 0 ∷ [];
}

-- Case E: an inner closing does not end the outer sandbox.
abbrev pub inner_closed : JudgeCase
inner_closed = record { edges = P; steps = case_e.steps; answers = case_e.answers }

abbrev pub cases_local : List JudgeCase
cases_local = read_before ∷ back_to_start ∷ nested_keeps ∷ opened_again ∷ inner_closed ∷ []

-- all are right under the local meaning
abbrev pub LocalRight : Type 0
LocalRight = (c : JudgeCase) → Memᴰ c cases_local → JudgedRight true c

-- ── The same steps where the whole past counts ──

abbrev pub answering : JudgeCase → List Verdict → JudgeCase
answering c answers = record { edges = c.edges; steps = c.steps; answers = answers }

abbrev pub cases_whole : List JudgeCase
cases_whole =
    answering read_before (allowed ∷ violated 0 ∷ [])
    ∷ answering back_to_start (allowed ∷ allowed ∷ allowed ∷ [])
    ∷ nested_keeps
    ∷ answering opened_again (allowed ∷ allowed ∷ allowed ∷ allowed ∷ allowed ∷ [])
    ∷ inner_closed
    ∷ []

abbrev pub WholeRight : Type 0
WholeRight = (c : JudgeCase) → Memᴰ c cases_whole → JudgedRight false c
