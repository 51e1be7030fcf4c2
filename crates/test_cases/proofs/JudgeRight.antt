-- The judge's cases are right, from the definitions of policies and pasts. They are found by computing the judge's definition, which
-- answers as the past says.
use Prim.Native.Nat.{ℕ}
use mathlib.Core.Path.{◌≡◌, refl, sym, subst}
use mathlib.Core.Bool.{Bool, true, false}
use mathlib.Core.List.Memᴰ
use mathlib.Core.List.{List, [], ◌∷◌, map, Memᴰ}
use lib.Count.{count_trailing_zeros}
use Rattle.usage.specs.declared.RawStep.{RawStep}
use Rattle.usage.specs.Answers.{Verdict}
use Rattle.usage.specs.Past.{Valid, empty, occurrences}
use Rattle.usage.specs.Judge.{step_of, JudgedAll}
use Rattle.usage.specs.Tables.{from, edges_of, EdgeTable, is_edge_table}
use Rattle.usage.specs.Tests.{every, some_of, some_below, edge_ok, is_pair, three_pairs, edges_ok}
use Rattle.usage.proofs.Logic.{by_cases, and_left, and_right}
use Rattle.usage.proofs.TableLaws.{decides-edge-table}
use Rattle.automaton.specs.Mask.{has, single, union}
use Rattle.automaton.specs.Move.{targets, image, move, move_mask}
use Rattle.automaton.specs.PairSet.{pair_set}
use Rattle.monitor_pairs.specs.Which.{blocks_of}
use Rattle.monitor_pairs.specs.Blocks.{of_policy, each_block, with_gathered}
use Rattle.monitor_state.specs.Tracked.{start_tracked, copied, copied_in, retired_sets, retired_in, moved_sets, gathered, moved_in, reset_sets, reset_in}
use Rattle.monitor_state.specs.Created.{start_created, listed, distinct, created_ok, highest_ok, live_ok, place_from, place_in, place_of}
use Rattle.monitor_state.specs.Created.{closed_up, with_new, with_retired}
use Rattle.monitor_state.specs.Unclosed.{start_unclosed, stack_in, agree_below, order_ok_lem, unclosed_ok, with_opening, with_closing}
use Rattle.monitor_state.specs.Judge.{verdict_of, start_state, state_ok_lem, with_tracked, creating, moving, entering, leaving, releasing, after}
use Rattle.monitor_state.specs.Judge.{broken, refusal}
use Rattle.monitor_state.specs.Judge.{refuse, halt, settle, judge_step, judge_read, judge_of, answers_of}
use Rattle.monitor_state.proofs.Verdict.{all-judged-begin}
use Rattle.test_cases.specs.JudgeCases.{JudgeCase, JudgedRight, P, case_a, case_b, case_c, case_d}
use Rattle.test_cases.specs.JudgeCases.{case_e, case_f, case_g, case_h, cases_limits}

-- the judge's definition, computed
unfoldable pub run : List ℕ → Bool → List RawStep → List Verdict
unfolding step_of from edges_of is_edge_table every some_of some_below edge_ok is_pair three_pairs edges_ok has
    single union targets image move move_mask start_tracked start_created start_unclosed start_state listed distinct
    created_ok highest_ok live_ok occurrences stack_in agree_below order_ok_lem unclosed_ok state_ok_lem place_from place_in place_of closed_up
    copied copied_in with_new creating moved_sets gathered moved_in with_tracked moving reset_sets reset_in with_opening entering
    with_closing leaving retired_sets retired_in with_retired releasing after pair_set blocks_of of_policy each_block with_gathered
    broken refusal refuse halt settle judge_step judge_read judge_of answers_of count_trailing_zeros
run t local raws = map verdict_of (answers_of t local start_state raws)

unfoldable pub possible : List ℕ → Bool
unfolding from edges_of is_edge_table every some_of some_below edge_ok is_pair three_pairs edges_ok
possible t = is_edge_table t

-- What it gives for each case of a list, where all tables are possible, is right.

abbrev pub Each : {A : Type 0} → (A → Type 0) → List A → Type 0
Each P [] = Unit {0}
Each P (x ∷ xs) = P x × Each P xs

pub among : {A : Type 0} (F : A → Type 0) (cs : List A) → Each F cs → (c : A) → Memᴰ c cs → F c
among F [] h c m = absurd (Memᴰ.not-nil m)
among F (d ∷ cs) h c m = by_cases (Memᴰ.cases_cons m) (λ e. subst F (sym e) h.0) (λ i. among F cs h.1 c i)

right-one : (local : Bool) (c : JudgeCase) → possible c.edges ≡ true
    → run c.edges local c.steps ≡ c.answers → JudgedRight local c
unfolding run possible
right-one local c table gives = record {
  table = (decides-edge-table c.edges).0 table;
  judged = subst (JudgedAll local (edges_of c.edges) [] false c.steps) gives (all-judged-begin c.edges table local c.steps);
}

pub right-each : (local : Bool) (cs : List JudgeCase) → every (λ c. possible c.edges) cs ≡ true
    → map (λ c. run c.edges local c.steps) cs ≡ map (λ c. c.answers) cs → Each (JudgedRight local) cs
unfolding every
right-each local [] tables gives = tt
right-each local (c ∷ cs) tables gives =
    (right-one local c (and_left (possible c.edges) _ tables) first, right-each local cs (and_right (possible c.edges) _ tables) rest)
  where
    first : run c.edges local c.steps ≡ c.answers
    first = cc

    rest : map (λ c. run c.edges local c.steps) cs ≡ map (λ c. c.answers) cs
    rest = cc

-- ── The cases ──

abbrev pub cases-AH : List JudgeCase
cases-AH = case_a ∷ case_b ∷ case_c ∷ case_d ∷ case_e ∷ case_f ∷ case_g ∷ case_h ∷ []

tables-AH : every (λ c. possible c.edges) cases-AH ≡ true
unfolding possible
tables-AH = refl

computed-AH : map (λ c. run c.edges false c.steps) cases-AH ≡ map (λ c. c.answers) cases-AH
unfolding run
computed-AH = refl

pub right-AH : Each (JudgedRight false) cases-AH
right-AH = right-each false cases-AH tables-AH computed-AH

-- "A: empty trace, valid."
pub valid-A : EdgeTable P × Valid false (edges_of P) []
valid-A = (right-AH.0.table, empty)

-- ── Limits and refusals ──

tables-limits : every (λ c. possible c.edges) cases_limits ≡ true
unfolding possible
tables-limits = refl

computed-limits : map (λ c. run c.edges false c.steps) cases_limits ≡ map (λ c. c.answers) cases_limits
unfolding run
computed-limits = refl

pub right-limits : Each (JudgedRight false) cases_limits
right-limits = right-each false cases_limits tables-limits computed-limits
