-- The judge over a state that lies in the arrays that a caller lends.
use Rattle.std.specs.Prelude.{ℕ, Bool, not, ◌&&◌, cond, List, [], ◌∷◌, eqb, leb, get_or, Option, Some, None}
use Rattle.usage.specs.declared.RawStep.{RawStep}
use Rattle.usage.specs.Answers.{Verdict, refused}
use Rattle.usage.specs.Reasons.{number_of}
use Rattle.usage.specs.Tables.{is_edge_table}
use Rattle.usage.specs.declared.Reason.{Reason}
use Rattle.monitor_state.specs.declared.State.{State}
use Rattle.monitor_state.specs.declared.Sizes.{Sizes}
use Rattle.monitor_state.specs.declared.Answer.{Answer}
use Rattle.monitor_state.specs.declared.Answer.TheVariants.{Allowed, Violated, Refused}
use Rattle.monitor_state.specs.declared.Judgement.{Judgement}
use Rattle.monitor_state.specs.Judge.{verdict_of, judge_of}
use Rattle.monitor_state.specs.Lent.{lent_of, state_of}
use Rattle.monitor_lean.specs.Lean.{Summary, lean_of}
use Rattle.api_c.specs.Choice.{is_choice, choice_of}

-- the arrays; `numbers` holds how many resources are live, a flag, which is 1 where the state is halted and 0 where it is not, how many
-- openings are not closed, and the highest number that was created
pub record Parts : Type 0 where
  pub sets : List ℕ
  pub pairs : List ℕ
  pub possible : List ℕ
  pub created : List ℕ
  pub unclosed : List ℕ
  pub order : List ℕ
  pub numbers : List ℕ

abbrev pub parts_of : List ℕ → List ℕ → List ℕ → List ℕ → List ℕ → List ℕ → List ℕ → Parts
parts_of sets pairs possible created unclosed order numbers =
    record { sets = sets; pairs = pairs; possible = possible; created = created; unclosed = unclosed; order = order; numbers = numbers }

abbrev pub flag : Parts → ℕ
flag p = get_or p.numbers 1 0

abbrev pub highest_in : Parts → ℕ
highest_in p = get_or p.numbers 3 0

-- the greatest number of 32 bits
abbrev pub most_number : ℕ
most_number = 4294967295

-- the arrays hold a state: the flag is one, and the highest number is of 32 bits
unfoldable pub is_held : Parts → Bool
is_held p = leb (flag p) 1 && leb (highest_in p) most_number

-- that state
abbrev pub sizes_by : List ℕ → Sizes
sizes_by l = record { count = get_or l 0 0; highest = get_or l 3 0; depth = get_or l 2 0; halted = eqb (get_or l 1 0) 1 }

unfoldable pub held_in_lem : Parts → State
held_in_lem p = state_of (lent_of p.sets p.pairs p.possible p.created p.unclosed p.order) (sizes_by p.numbers)

-- its numbers, where the lent ones are a state's
abbrev pub sizes_held : List ℕ → Option Sizes
sizes_held l = cond (leb (get_or l 1 0) 1 && leb (get_or l 3 0) most_number) (Some (sizes_by l)) None

abbrev pub numbers_told : Sizes → List ℕ
numbers_told z = z.count ∷ cond z.halted 1 0 ∷ z.depth ∷ z.highest ∷ []

-- the arrays that hold a state
unfoldable pub holding : State → Parts
holding s =
    parts_of s.tracked.sets s.tracked.pairs s.tracked.possible s.created.numbers s.unclosed.counts s.unclosed.order
    (s.created.count ∷ cond s.halted 1 0 ∷ s.unclosed.depth ∷ s.created.highest ∷ [])

-- what is answered, and what the arrays then hold
pub record Answered : Type 0 where
  pub verdict : Verdict
  pub parts : Parts

-- A refusal "stores nothing": the arrays are as they were lent.
abbrev pub refuse_parts : ℕ → Parts → Answered
refuse_parts n p = record { verdict = refused n; parts = p }

-- Otherwise they hold the state that the judge returns.
abbrev pub answered_in : Parts → Answer Reason → State → Answered
answered_in p Allowed s = record { verdict = verdict_of Allowed; parts = holding s }
answered_in p (Violated q) s = record { verdict = verdict_of (Violated q); parts = holding s }
answered_in p (Refused r) s = refuse_parts (number_of r) p

-- A judge, over the arrays. A number that is no choice of past is 41. A flag that is neither 0 nor 1 is that of no state, and so is a
-- highest number of more than 32 bits: 42, after 41 and before 20.
abbrev pub Judges : Type 0
Judges = List ℕ → Bool → State → RawStep → Judgement

unfoldable pub parts_by : Judges → List ℕ → ℕ → Parts → RawStep → Answered
parts_by judge edges choice p raw =
    cond (not (is_choice choice && is_edge_table edges)) (refuse_parts 41 p)
    (cond (not (is_held p)) (refuse_parts 42 p)
    (answered_in p (judge edges (choice_of choice) (held_in_lem p) raw).answer (judge edges (choice_of choice) (held_in_lem p) raw).state))

-- the full judge, and the lean one, lent any summary (02, L11)
abbrev pub judge_parts : List ℕ → ℕ → Parts → RawStep → Answered
judge_parts = parts_by judge_of

abbrev pub lean_parts : Summary → List ℕ → ℕ → Parts → RawStep → Answered
lean_parts m = parts_by (lean_of m)
