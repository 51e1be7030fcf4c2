-- The judge as a definition that computes, over every state at all. The state's parts have files of their own.
use Rattle.std.specs.Prelude.{ℕ, zero, suc, ◌^◌, Bool, false, true, not, ◌&&◌, ◌||◌, cond, List, [], ◌∷◌, eqb, leb, ltb}
use Rattle.std.proofs.Math.Option.{Option, none, some}
use Rattle.usage.specs.declared.Edge.{Edge}
use Rattle.usage.specs.declared.RawStep.{RawStep}
use Rattle.usage.specs.Limits.{statics, policies, most_created, most_unclosed}
use Rattle.usage.specs.Past.{Step, event, opening, closing, retiring}
use Rattle.usage.specs.Answers.{Verdict, allowed, violated, refused}
use Rattle.usage.specs.Judge.{step_of}
use Rattle.usage.specs.Tables.{edges_of, is_edge_table}
use Rattle.usage.specs.Reasons.{number_of}
use Rattle.usage.specs.declared.Reason.{Reason}
use Rattle.usage.specs.declared.Reason.TheVariants.{Halted, NoStep, CreateStatic, NotLive, NotOpen, NotNewest, NotAbove, RetireNotLive, TooManyLive, TooManyOpen, Table, State as Unfit}
use Rattle.automaton.specs.Mask.{union, offends, lowest_in}
unfoldable pub use Rattle.monitor_state.specs.Tracked.{copied, retired_sets, moved_sets, reset_sets, gathered, start_tracked, copied_in, moved_in, retired_in, reset_in}
pub use Rattle.monitor_state.specs.Tracked.{start_set, pair_sets, set_at, possible_in}
unfoldable pub use Rattle.monitor_state.specs.Created.{listed, distinct, place_from, place_in, created_ok, highest_ok, closed_up}
unfoldable pub use Rattle.monitor_state.specs.Created.{start_created, live_ok, place_of, with_new, with_retired}
pub use Rattle.monitor_state.specs.Created.{dynamic, live, used}
unfoldable pub use Rattle.monitor_state.specs.Unclosed.{stack_in, agree_below, order_ok_lem, start_unclosed, unclosed_ok, with_opening, with_closing}
pub use Rattle.monitor_state.specs.Unclosed.{openings_of, remembered, last_opened, anew}
use Rattle.monitor_state.specs.declared.Tracked.{Tracked}
use Rattle.monitor_state.specs.declared.State.{State}
use Rattle.monitor_state.specs.declared.Answer.{Answer}
use Rattle.monitor_state.specs.declared.Answer.TheVariants.{Allowed, Violated, Refused}
use Rattle.monitor_state.specs.declared.Judgement.{Judgement}

-- document 01's numbers for each answer
abbrev pub verdict_of : Answer Reason → Verdict
verdict_of Allowed = allowed
verdict_of (Violated p) = violated p
verdict_of (Refused r) = refused (number_of r)

-- "The state starts with each instance in state 0, nothing created and nothing open."
unfoldable pub start_state : State
start_state = record { tracked = start_tracked; created = start_created; unclosed = start_unclosed; halted = false }

-- 42, part by part
unfoldable pub state_ok_lem : State → Bool
state_ok_lem s = live_ok s.created && unclosed_ok s.unclosed

-- ── The state after a step ──

unfoldable pub with_tracked : State → Tracked → State
with_tracked s t = record { tracked = t; created = s.created; unclosed = s.unclosed; halted = s.halted }

-- r is created; its instance has moved as one that never occurs
unfoldable pub creating : List Edge → State → ℕ → State
creating es s r = record {
  tracked = copied_in es s.tracked (used s.created);
  created = with_new s.created r;
  unclosed = s.unclosed;
  halted = s.halted;
}

unfoldable pub moving : List Edge → ℕ → ℕ → State → State
moving es a r s = with_tracked s (moved_in es a r (place_of s.created r) (used s.created) s.tracked)

unfoldable pub entering : List Edge → Bool → State → ℕ → State
entering es b s p = record {
  tracked = reset_in es b (used s.created) p s.tracked;
  created = s.created;
  unclosed = with_opening s.unclosed p;
  halted = s.halted;
}

unfoldable pub leaving : State → ℕ → State
leaving s p = record { tracked = s.tracked; created = s.created; unclosed = with_closing s.unclosed p; halted = s.halted }

unfoldable pub releasing : List Edge → State → ℕ → State
releasing es s r = record {
  tracked = retired_in es (place_of s.created r) (used s.created) s.tracked;
  created = with_retired s.created r;
  unclosed = s.unclosed;
  halted = s.halted;
}

unfoldable pub after : Bool → List Edge → State → Step → State
after local es s (event zero r) = moving es 0 r (creating es s r)
after local es s (event (suc a) r) = moving es (suc a) r s
after local es s (opening p) = entering es (anew local s.unclosed p) s p
after local es s (closing p) = leaving s p
after local es s (retiring r) = releasing es s r

-- ── The answer ──

-- "the judge looks only at it": the open policies with an offending state among their possible ones, as a bit set
unfoldable pub broken : State → ℕ
broken s = union policies (λ p. cond (ltb 0 (openings_of s.unclosed p) && offends (possible_in s.tracked p)) (2 ^ p) 0)

-- The number that refuses a step, if any. In a state that passes 42 no live number is above the highest one, so a create that is not refused
-- with 27 is of a resource that is not live.
unfoldable pub refusal : State → Step → Option Reason
refusal s (event zero r) =
    cond (ltb r statics) (some CreateStatic)
    (cond (leb r s.created.highest) (some NotAbove) (cond (leb most_created s.created.count) (some TooManyLive) none))
refusal s (event (suc a) r) = cond (ltb r statics || listed r (live s.created)) none (some NotLive)
refusal s (opening p) = cond (leb most_unclosed s.unclosed.depth) (some TooManyOpen) none
refusal s (closing p) =
    cond (ltb 0 (openings_of s.unclosed p)) (cond (eqb (last_opened s.unclosed) p) none (some NotNewest)) (some NotOpen)
refusal s (retiring r) = cond (not (ltb r statics) && listed r (live s.created)) none (some RetireNotLive)

unfoldable pub refuse : Reason → State → Judgement
refuse n s = record { answer = Refused n; state = s }

-- "a halted state that is otherwise the one before the step"
unfoldable pub halt : State → State
halt s = record { tracked = s.tracked; created = s.created; unclosed = s.unclosed; halted = true }

-- the answer, by the broken policies after the step, from the states before and after it
unfoldable pub settle : ℕ → State → State → Judgement
settle bad s t = cond (eqb bad 0) (record { answer = Allowed; state = t }) (record { answer = Violated (lowest_in bad); state = halt s })

unfoldable pub judge_step : Bool → List Edge → State → Step → Option Reason → Judgement
judge_step local es s step (some n) = refuse n s
judge_step local es s step none = settle (broken (after local es s step)) s (after local es s step)

unfoldable pub judge_read : Bool → List Edge → State → Option Step → Judgement
judge_read local es s none = refuse NoStep s
judge_read local es s (some step) = judge_step local es s step (refusal s step)

-- "The calling program, before all others, in this order": 41, 42; then 20, 21 and the rest. The choice of past goes with the edges.
unfoldable pub judge_of : List ℕ → Bool → State → RawStep → Judgement
judge_of t local s raw =
    cond (not (is_edge_table t)) (refuse Table s)
    (cond (not (state_ok_lem s)) (refuse Unfit s)
    (cond s.halted (refuse Halted s)
    (judge_read local (edges_of t) s (step_of raw))))

-- a list of steps, each with the state that the last one returned
unfoldable pub answers_of : List ℕ → Bool → State → List RawStep → List (Answer Reason)
answers_of t local s [] = []
answers_of t local s (raw ∷ raws) = let j = judge_of t local s raw in j.answer ∷ answers_of t local j.state raws
