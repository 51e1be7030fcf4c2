-- Every number that the judge answers has at most two digits.
use Prim.Native.Nat.{ℕ, zero, suc, ◌<◌}
use mathlib.Core.Bool.{Bool, true, false, not, cond, ◌&&◌, ◌||◌}
use mathlib.Core.List.{List}
use mathlib.Core.Option.{Option, none, some}
use native.Mathlib.Omega.{arith}
use lib.Dec.{eqb, ltb, leb}
use lib.Count.{count_trailing_zeros, trailing_le}
use Rattle.usage.specs.declared.Edge.{Edge}
use Rattle.usage.specs.declared.RawStep.{RawStep}
use Rattle.usage.specs.declared.Reason.{Reason}
use Rattle.usage.specs.declared.Reason.TheVariants.{Halted, NoStep, CreateStatic, NotLive, NotOpen, NotNewest, NotAbove, RetireNotLive, TooManyLive, TooManyOpen, Table, State as Unfit}
use Rattle.usage.specs.Reasons.{number_of}
use Rattle.usage.specs.Limits.{statics, most_created, most_unclosed}
use Rattle.usage.specs.Past.{Step, event, opening, closing, retiring}
use Rattle.usage.specs.Answers.{detail}
use Rattle.usage.specs.Judge.{step_of}
use Rattle.usage.specs.Tables.{edges_of, is_edge_table}
use Rattle.monitor_state.specs.declared.State.{State}
use Rattle.monitor_state.specs.declared.Answer.TheVariants.{Allowed, Violated}
use Rattle.monitor_state.specs.declared.Judgement.{Judgement}
use Rattle.monitor_state.specs.Judge.{verdict_of, listed, live, state_ok_lem, after, broken, refusal, refuse, halt, settle, judge_step, judge_read}
use Rattle.monitor_state.specs.Judge.{openings_of, last_opened, judge_of}

abbrev Short : Judgement → Type 0
Short j = detail (verdict_of j.answer) < 100

either : (b : Bool) (x y : Judgement) → Short x → Short y → Short (cond b x y)
either true x y h k = h
either false x y h k = k

refuse-short : (n : Reason) (s : State) → number_of n < 100 → Short (refuse n s)
unfolding refuse
refuse-short n s h = h

settle-short : (bad : ℕ) (s t : State) → Short (settle bad s t)
unfolding settle
settle-short bad s t =
    let h = trailing_le 8 bad in
    either (eqb bad 0) (record { answer = Allowed; state = t }) (record { answer = Violated (count_trailing_zeros 8 bad); state = halt s })
    (omega arith) (omega arith)

-- ── The numbers of the refusals ──

abbrev Number : Option Reason → Type 0
Number none = Unit {0}
Number (some n) = number_of n < 100

number : (b : Bool) (x y : Option Reason) → Number x → Number y → Number (cond b x y)
number true x y h k = h
number false x y h k = k

refusal-number : (s : State) (step : Step) → Number (refusal s step)
unfolding refusal
refusal-number s (event zero r) =
    number (ltb r statics) (some CreateStatic) (cond (leb r s.created.highest) (some NotAbove) (cond (leb most_created s.created.count) (some TooManyLive) none)) (omega arith)
    (number (leb r s.created.highest) (some NotAbove) (cond (leb most_created s.created.count) (some TooManyLive) none) (omega arith)
    (number (leb most_created s.created.count) (some TooManyLive) none (omega arith) tt))
refusal-number s (event (suc a) r) = number (ltb r statics || listed r (live s.created)) none (some NotLive) tt (omega arith)
refusal-number s (opening p) = number (leb most_unclosed s.unclosed.depth) (some TooManyOpen) none (omega arith) tt
refusal-number s (closing p) =
    number (ltb 0 (openings_of s.unclosed p)) (cond (eqb (last_opened s.unclosed) p) none (some NotNewest)) (some NotOpen)
    (number (eqb (last_opened s.unclosed) p) none (some NotNewest) tt (omega arith)) (omega arith)
refusal-number s (retiring r) = number (not (ltb r statics) && listed r (live s.created)) none (some RetireNotLive) tt (omega arith)

step-short : (local : Bool) (es : List Edge) (s : State) (step : Step) (o : Option Reason) → Number o → Short (judge_step local es s step o)
unfolding judge_step
step-short local es s step none h = settle-short (broken (after local es s step)) s (after local es s step)
step-short local es s step (some n) h = refuse-short n s h

read_short : (local : Bool) (es : List Edge) (s : State) (o : Option Step) → Short (judge_read local es s o)
unfolding judge_read
read_short local es s none = refuse-short NoStep s (omega arith)
read_short local es s (some step) = step-short local es s step (refusal s step) (refusal-number s step)

pub detail-small : (t : List ℕ) (local : Bool) (s : State) (raw : RawStep) → detail (verdict_of (judge_of t local s raw).answer) < 100
unfolding judge_of
detail-small t local s raw =
    let read = judge_read local (edges_of t) s (step_of raw) in
    let going = cond s.halted (refuse Halted s) read in
    let known = cond (not (state_ok_lem s)) (refuse Unfit s) going in
    either (not (is_edge_table t)) (refuse Table s) known (refuse-short Table s (omega arith))
    (either (not (state_ok_lem s)) (refuse Unfit s) going (refuse-short Unfit s (omega arith))
    (either s.halted (refuse Halted s) read (refuse-short Halted s (omega arith)) (read_short local (edges_of t) s (step_of raw))))
