-- The judge's cases: document 01's A to H ("Cases by letter"), and its limits and the other refusals of a running routine, in
-- document 01's own numbers.
use Rattle.std.specs.Prelude.{ℕ, Bool, false, List, [], ◌∷◌, ◌++◌, replicate}
use Rattle.usage.specs.declared.RawStep.{RawStep}
use Rattle.usage.specs.Answers.{Verdict, allowed, violated, refused}
use Rattle.usage.specs.Judge.{JudgedAll}
use Rattle.usage.specs.Tables.{from, edges_of, EdgeTable}

-- One case: the flat table of edges, the steps from the start on, and the answers to them.
pub record JudgeCase : Type 0 where
  pub edges : List ℕ
  pub steps : List RawStep
  pub answers : List Verdict

-- the table is one that an accepted sheet gives (not 41), and the answers are the right ones, from the empty past on, by the choice of past
pub record JudgedRight (local : Bool) (c : JudgeCase) : Type 0 where
  pub table : EdgeTable c.edges
  pub judged : JudgedAll local (edges_of c.edges) [] false c.steps c.answers

-- ── The cases ──

abbrev pub step : ℕ → ℕ → ℕ → RawStep
step k a b = record { kind = k; a = a; b = b }

-- "Policies P"
abbrev pub P : List ℕ
P =
    0 ∷ 0 ∷ 1 ∷ 1 ∷ 0 ∷ 1
    ∷ 0 ∷ 1 ∷ 3 ∷ 1 ∷ 0 ∷ 0
    ∷ 0 ∷ 0 ∷ 2 ∷ 1 ∷ 0 ∷ 6 ∷ []

-- "A: empty trace, valid."
abbrev pub case_a : JudgeCase
case_a = record { edges = P; steps = []; answers = [] }

-- "B: the trace above, line 7."
abbrev pub case_b : JudgeCase
case_b = record {
  edges = P;
  steps = step 1 0 0 ∷ step 0 0 16 ∷ step 0 1 16 ∷ step 0 2 16 ∷ step 0 0 17 ∷ step 0 2 17 ∷ step 0 3 16 ∷ [];
  answers = allowed ∷ allowed ∷ allowed ∷ allowed ∷ allowed ∷ violated 0 ∷ refused 20 ∷ [];
}

-- "C: P; read 3 (action 2), then open 0: violated at the opening."
abbrev pub case_c : JudgeCase
case_c = record { edges = P; steps = step 0 2 3 ∷ step 1 0 0 ∷ []; answers = allowed ∷ violated 0 ∷ [] }

-- "D: P and an edge 0 6 3 1 0 0; read 3, action 3 on 3, open 0: allowed."
abbrev pub case_d : JudgeCase
case_d = record {
  edges = P ++ (0 ∷ 6 ∷ 3 ∷ 1 ∷ 0 ∷ 0 ∷ []);
  steps = step 0 2 3 ∷ step 0 3 3 ∷ step 1 0 0 ∷ [];
  answers = allowed ∷ allowed ∷ allowed ∷ [];
}

-- "E: P; open 0, open 0, close 0, read 3: violated."
abbrev pub case_e : JudgeCase
case_e = record {
  edges = P;
  steps = step 1 0 0 ∷ step 1 0 0 ∷ step 2 0 0 ∷ step 0 2 3 ∷ [];
  answers = allowed ∷ allowed ∷ allowed ∷ violated 0 ∷ [];
}

-- "F: edge 0 0 4 2 0 6 only; open 0, action 4 on 3: violated, by an instance other than 3's."
abbrev pub case_f : JudgeCase
case_f = record { edges = 0 ∷ 0 ∷ 4 ∷ 2 ∷ 0 ∷ 6 ∷ []; steps = step 1 0 0 ∷ step 0 4 3 ∷ []; answers = allowed ∷ violated 0 ∷ [] }

-- "G: edges 0 0 2 1 0 1 and 0 0 2 1 0 6; open 0, read 3: violated."
abbrev pub case_g : JudgeCase
case_g = record {
  edges = 0 ∷ 0 ∷ 2 ∷ 1 ∷ 0 ∷ 1 ∷ 0 ∷ 0 ∷ 2 ∷ 1 ∷ 0 ∷ 6 ∷ [];
  steps = step 1 0 0 ∷ step 0 2 3 ∷ [];
  answers = allowed ∷ violated 0 ∷ [];
}

-- "H: create 15 gives 22; create 16 twice gives 23; read 16 uncreated gives 24.", with 27 for 23 ("27 .. in the place of 23, which then
-- never occurs, also in H", 02, L8)
abbrev pub case_h : JudgeCase
case_h = record {
  edges = P;
  steps = step 0 0 15 ∷ step 0 2 16 ∷ step 0 0 16 ∷ step 0 0 16 ∷ [];
  answers = refused 22 ∷ refused 24 ∷ allowed ∷ refused 27 ∷ [];
}

-- ── Limits and refusals ──

-- "The 64th create passes and the 65th gives 30"
abbrev pub creates65 : JudgeCase
creates65 = record {
  edges = [];
  steps = from (λ r. step 0 0 r) 16 65;
  answers = replicate 64 allowed ++ (refused 30 ∷ []);
}

-- "the case of the 256th opening becomes the 65th, with 32" (02, L6): of one policy, and of two in turn
abbrev pub openings65 : JudgeCase
openings65 = record {
  edges = [];
  steps = replicate 65 (step 1 0 0);
  answers = replicate 64 allowed ++ (refused 32 ∷ []);
}

abbrev pub openings_in_all : JudgeCase
openings_in_all = record {
  edges = [];
  steps = replicate 32 (step 1 0 0) ++ replicate 32 (step 1 7 0) ++ (step 1 3 0 ∷ step 2 0 0 ∷ step 2 7 0 ∷ step 1 3 0 ∷ []);
  answers = replicate 64 allowed ++ (refused 32 ∷ refused 26 ∷ allowed ∷ allowed ∷ []);
}

-- "only the policy opened last, among those not yet closed, can be closed": the outer sandbox before the inner one, which is then closed;
-- "26 closing an open policy that is not the last opened, after 25"
abbrev pub outer_first : JudgeCase
outer_first = record {
  edges = P;
  steps = step 1 0 0 ∷ step 1 1 0 ∷ step 2 0 0 ∷ step 2 2 0 ∷ step 2 1 0 ∷ step 2 0 0 ∷ step 2 0 0 ∷ [];
  answers = allowed ∷ allowed ∷ refused 26 ∷ refused 25 ∷ allowed ∷ allowed ∷ refused 25 ∷ [];
}

-- "21 now means a kind above 3 or the same faults in a retiring", beside a value out of range and b not 0 in an opening or closing; "25
-- closing a policy that is not open"
abbrev pub no_steps : JudgeCase
no_steps = record {
  edges = P;
  steps = step 4 0 0 ∷ step 0 32 0 ∷ step 0 1 4294967296 ∷ step 1 8 0 ∷ step 1 0 1 ∷ step 2 8 0 ∷ step 2 0 1 ∷ step 3 4294967296 0 ∷ step 3 16 1
      ∷ step 2 7 0 ∷ [];
  answers = refused 21 ∷ refused 21 ∷ refused 21 ∷ refused 21 ∷ refused 21 ∷ refused 21 ∷ refused 21 ∷ refused 21 ∷ refused 21 ∷ refused 25 ∷ [];
}

-- "Let .. a resource go to 4,294,967,295" (02, L9): numbers that agree in their last 16 bits are different resources, and after a create of
-- the last one every create is 27
abbrev pub last_resource : JudgeCase
last_resource = record {
  edges = P;
  steps = step 1 0 0 ∷ step 0 0 16 ∷ step 0 1 16 ∷ step 0 0 65552 ∷ step 0 2 16 ∷ step 0 0 4294967295 ∷ step 3 4294967295 0
      ∷ step 0 0 4294967295 ∷ step 0 0 16 ∷ step 0 0 65553 ∷ step 0 2 65552 ∷ [];
  answers = allowed ∷ allowed ∷ allowed ∷ allowed ∷ allowed ∷ allowed ∷ allowed ∷ refused 27 ∷ refused 27 ∷ refused 27 ∷ violated 0 ∷ [];
}

-- ── Retirings (02, L8) ──

-- "27 create with a number not above all earlier ones", of retired ones too; "28 retiring a static resource or one not live"; "retired
-- resources give 24"
abbrev pub retirings : JudgeCase
retirings = record {
  edges = P;
  steps = step 3 3 0 ∷ step 3 17 0 ∷ step 0 0 17 ∷ step 0 0 16 ∷ step 3 17 0 ∷ step 0 1 17 ∷ step 3 17 0 ∷ step 0 0 17 ∷ step 0 0 18 ∷ [];
  answers = refused 28 ∷ refused 28 ∷ allowed ∷ refused 27 ∷ allowed ∷ refused 24 ∷ refused 28 ∷ refused 27 ∷ allowed ∷ [];
}

-- "The retired resource's instance may still break a policy": creating x leads to state 1, and from there action 4 on another to 6. The next
-- one that is created has not the retired one's states.
abbrev pub retired_breaks : JudgeCase
retired_breaks = record {
  edges = 0 ∷ 0 ∷ 0 ∷ 1 ∷ 0 ∷ 1 ∷ 0 ∷ 1 ∷ 4 ∷ 2 ∷ 0 ∷ 6 ∷ [];
  steps = step 1 0 0 ∷ step 0 0 16 ∷ step 3 16 0 ∷ step 0 4 3 ∷ step 3 16 0 ∷ [];
  answers = allowed ∷ allowed ∷ allowed ∷ violated 0 ∷ refused 20 ∷ [];
}

abbrev pub retired_apart : JudgeCase
retired_apart = record {
  edges = 0 ∷ 0 ∷ 5 ∷ 1 ∷ 0 ∷ 1 ∷ 0 ∷ 1 ∷ 4 ∷ 1 ∷ 0 ∷ 6 ∷ [];
  steps = step 1 0 0 ∷ step 0 0 16 ∷ step 0 0 17 ∷ step 0 5 16 ∷ step 0 5 17 ∷ step 3 16 0 ∷ step 0 0 18 ∷ step 0 4 18 ∷ step 0 4 17 ∷ [];
  answers = allowed ∷ allowed ∷ allowed ∷ allowed ∷ allowed ∷ allowed ∷ allowed ∷ allowed ∷ violated 0 ∷ [];
}

-- "The limit of 64 counts live resources": the 65th create is refused, and passes once one is retired
abbrev pub creates66 : JudgeCase
creates66 = record {
  edges = [];
  steps = from (λ r. step 0 0 r) 16 65 ++ (step 3 16 0 ∷ step 0 0 80 ∷ step 0 0 81 ∷ []);
  answers = replicate 64 allowed ++ (refused 30 ∷ allowed ∷ allowed ∷ refused 30 ∷ []);
}

abbrev pub cases_limits : List JudgeCase
cases_limits =
    creates65 ∷ openings65 ∷ openings_in_all ∷ outer_first ∷ no_steps ∷ last_resource ∷ retirings ∷ retired_breaks ∷ retired_apart ∷ creates66 ∷ []
