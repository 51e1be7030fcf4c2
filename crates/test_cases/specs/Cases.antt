-- Document 01's "Cases by letter", A to L, as one list: what each case says, and what makes it right.
use Rattle.std.specs.Prelude.{ℕ, ◌≡◌, Bool, false, List, [], ◌∷◌, ◌↔◌}
use Rattle.usage.specs.declared.RawStep.{RawStep}
use Rattle.usage.specs.Policy.{Sees, Offending}
use Rattle.usage.specs.Past.{Past, May, Valid}
use Rattle.usage.specs.Answers.{Verdict, allowed, violated}
use Rattle.usage.specs.Judge.{step_of, then}
use Rattle.usage.specs.Outline.{IsTrace}
use Rattle.usage.specs.Check.{Checked}
use Rattle.usage.specs.Tables.{edges_of, nodes_of, EdgeTable, NodeTable}
use Rattle.test_cases.specs.JudgeCases.{JudgeCase, P, case_a, case_b, case_c, case_d, case_e, case_f, case_g, case_h}

-- ── Which instances break a policy ──

-- the steps of a case, which are all read, as a past
abbrev pub past_of : Past → List RawStep → Past
past_of past [] = past
past_of past (raw ∷ raws) = past_of (then (step_of raw) past) raws

-- after all steps of a case, the instance of x may be in an offending state of policy p
abbrev pub BrokenBy : JudgeCase → ℕ → ℕ → Type 0
BrokenBy c p x = (q : ℕ) × May false (edges_of c.edges) p (Sees (x ∷ [])) (past_of [] c.steps) q × Offending q

-- policy p is broken by all instances but that of one resource
pub record OtherCase : Type 0 where
  pub about : JudgeCase
  pub policy : ℕ
  pub spared : ℕ

-- ── The check ──

-- the choice of past, the flat tables of edges and of nodes that the check is lent, and its verdict
pub record CheckCase : Type 0 where
  pub local : Bool
  pub edges : List ℕ
  pub nodes : List ℕ
  pub verdict : Verdict

-- the tables are ones that accepted sheets give (not 41), and the verdict is the right one
pub record CheckRight (c : CheckCase) : Type 0 where
  pub edges_table : EdgeTable c.edges
  pub nodes_table : NodeTable c.nodes
  pub checked : Checked c.local (edges_of c.edges) (nodes_of c.nodes) c.verdict

-- ── What a case says, and what makes it right, from the definitions of crate usage ──

-- The judge's answers to a list of steps; which instances break a policy; that a past is valid; the check's verdict; that an outline
-- has no trace but the empty one.
pub data LetterCase : Type 0 where
  judged : JudgeCase → LetterCase
  by_others : OtherCase → LetterCase
  valid : List ℕ → Past → LetterCase
  checked : CheckCase → LetterCase
  only_empty : List ℕ → LetterCase

abbrev pub Right : LetterCase → Type 0
Right (judged c) = Rattle.test_cases.specs.JudgeCases.JudgedRight false c
Right (by_others c) = (x : ℕ) → BrokenBy c.about c.policy x ↔ (x ≡ c.spared → ⊥)
Right (valid t past) = EdgeTable t × Valid false (edges_of t) past
Right (checked c) = CheckRight c
Right (only_empty t) = NodeTable t × ((past : Past) → IsTrace (nodes_of t) past ↔ (past ≡ []))

-- ── The cases of the check, and F's instances ──

-- "violated, by an instance other than 3's"
abbrev pub others_f : OtherCase
others_f = record { about = case_f; policy = 0; spared = 3 }

-- "sandbox 0 around a loop: end, or fresh n, action 1 on n, action 2 on n, back"
abbrev pub nodes_i : List ℕ
nodes_i =
    8 ∷ 0 ∷ 1
    ∷ 5 ∷ 2 ∷ 0
    ∷ 4 ∷ 3 ∷ 4
    ∷ 0 ∷ 0 ∷ 0
    ∷ 7 ∷ 0 ∷ 5
    ∷ 3 ∷ 6 ∷ 7
    ∷ 2 ∷ 1 ∷ 0
    ∷ 3 ∷ 8 ∷ 9
    ∷ 2 ∷ 2 ∷ 0
    ∷ 6 ∷ 1 ∷ 0 ∷ []

-- "I: P, sandbox 0 around a loop: .. Accepted."
abbrev pub case_i : CheckCase
case_i = record { local = false; edges = P; nodes = nodes_i; verdict = allowed }

-- "edges 0 0 5 1 0 1 and 0 1 5 1 0 6"
abbrev pub edges_j : List ℕ
edges_j =
    0 ∷ 0 ∷ 5 ∷ 1 ∷ 0 ∷ 1
    ∷ 0 ∷ 1 ∷ 5 ∷ 1 ∷ 0 ∷ 6 ∷ []

-- "sandbox 0 around a loop: end, or fresh n, action 5 on n, back"
abbrev pub nodes_j : List ℕ
nodes_j =
    8 ∷ 0 ∷ 1
    ∷ 5 ∷ 2 ∷ 0
    ∷ 4 ∷ 3 ∷ 4
    ∷ 0 ∷ 0 ∷ 0
    ∷ 7 ∷ 0 ∷ 5
    ∷ 3 ∷ 6 ∷ 7
    ∷ 2 ∷ 5 ∷ 0
    ∷ 6 ∷ 1 ∷ 0 ∷ []

-- "J: edges ..; sandbox 0 around a loop: .. Accepted."
abbrev pub case_j : CheckCase
case_j = record { local = false; edges = edges_j; nodes = nodes_j; verdict = allowed }

-- "creates counted with on 1 and on 2, from 0 to 1 to 2 to 6"
abbrev pub edges_k : List ℕ
edges_k =
    0 ∷ 0 ∷ 0 ∷ 1 ∷ 0 ∷ 1
    ∷ 0 ∷ 0 ∷ 0 ∷ 2 ∷ 0 ∷ 1
    ∷ 0 ∷ 1 ∷ 0 ∷ 1 ∷ 0 ∷ 2
    ∷ 0 ∷ 1 ∷ 0 ∷ 2 ∷ 0 ∷ 2
    ∷ 0 ∷ 2 ∷ 0 ∷ 1 ∷ 0 ∷ 6
    ∷ 0 ∷ 2 ∷ 0 ∷ 2 ∷ 0 ∷ 6 ∷ []

-- "K: ..; the outline of I: refused, policy 0."
abbrev pub case_k : CheckCase
case_k = record { local = false; edges = edges_k; nodes = nodes_i; verdict = violated 0 }

-- "a loop whose body is its own back"
abbrev pub nodes_l : List ℕ
nodes_l =
    5 ∷ 1 ∷ 0
    ∷ 6 ∷ 0 ∷ 0 ∷ []

-- "L: ..: accepted"
abbrev pub case_l : CheckCase
case_l = record { local = false; edges = P; nodes = nodes_l; verdict = allowed }

-- ── All cases ──

-- "A: empty trace, valid", "F: .. by an instance other than 3's" and "L: .. no trace but the empty one" beside the answers
abbrev pub cases : List LetterCase
cases =
    valid P []
    ∷ judged case_a
    ∷ judged case_b
    ∷ judged case_c
    ∷ judged case_d
    ∷ judged case_e
    ∷ judged case_f
    ∷ by_others others_f
    ∷ judged case_g
    ∷ judged case_h
    ∷ checked case_i
    ∷ checked case_j
    ∷ checked case_k
    ∷ checked case_l
    ∷ only_empty nodes_l
    ∷ []
