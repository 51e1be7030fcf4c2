-- A step that is not allowed leaves the state as it was, a violated one but for the halt: from every state at all, reached or not.
use Prim.Native.Nat.{ℕ}
use mathlib.Core.Path.{◌≡◌, refl, subst}
use mathlib.Core.Bool.{Bool, true, false, not, cond}
use mathlib.Core.List.{List}
use mathlib.Core.Option.{Option, none, some}
use lib.Dec.{eqb}
use Rattle.usage.specs.declared.Edge.{Edge}
use Rattle.usage.specs.declared.RawStep.{RawStep}
use Rattle.usage.specs.Past.{Step}
use Rattle.usage.specs.Judge.{step_of}
use Rattle.usage.specs.Tables.{edges_of, is_edge_table}
use Rattle.usage.specs.declared.Reason.{Reason}
use Rattle.usage.specs.declared.Reason.TheVariants.{Halted, NoStep, Table, State as Unfit}
use Rattle.automaton.specs.Mask.{lowest_in}
use Rattle.monitor_state.specs.declared.State.{State}
use Rattle.monitor_state.specs.declared.Answer.{Answer}
use Rattle.monitor_state.specs.declared.Answer.TheVariants.{Allowed, Violated, Refused}
use Rattle.monitor_state.specs.declared.Judgement.{Judgement}
use Rattle.monitor_state.specs.Judge.{state_ok_lem, halt, after, broken, refusal, refuse, settle, judge_step, judge_read, judge_of}
use Rattle.monitor_state.specs.Promise.{Kept}

abbrev KeptBy : State → Judgement → Type 0
KeptBy s j = Kept s j.answer j.state

either-kept : (s : State) (b : Bool) (j k : Judgement) → KeptBy s j → KeptBy s k → KeptBy s (cond b j k)
either-kept s true j k x y = x
either-kept s false j k x y = y

refuse-kept : (n : Reason) (s : State) → KeptBy s (refuse n s)
unfolding refuse
refuse-kept n s = refl

settle-kept : (bad : ℕ) (s t : State) → KeptBy s (settle bad s t)
unfolding settle
settle-kept bad s t =
    either-kept s (eqb bad 0) (record { answer = Allowed; state = t }) (record { answer = Violated (lowest_in bad); state = halt s }) tt refl

step_kept : (local : Bool) (es : List Edge) (s : State) (step : Step) (o : Option Reason) → KeptBy s (judge_step local es s step o)
unfolding judge_step
step_kept local es s step none = settle-kept (broken (after local es s step)) s (after local es s step)
step_kept local es s step (some n) = refuse-kept n s

read_kept : (local : Bool) (es : List Edge) (s : State) (o : Option Step) → KeptBy s (judge_read local es s o)
unfolding judge_read
read_kept local es s none = refuse-kept NoStep s
read_kept local es s (some step) = step_kept local es s step (refusal s step)

judge-kept : (t : List ℕ) (local : Bool) (s : State) (raw : RawStep) → KeptBy s (judge_of t local s raw)
unfolding judge_of
judge-kept t local s raw =
    either-kept s (not (is_edge_table t)) (refuse Table s) (cond (not (state_ok_lem s)) (refuse Unfit s) rest) (refuse-kept Table s)
    (either-kept s (not (state_ok_lem s)) (refuse Unfit s) rest (refuse-kept Unfit s)
    (either-kept s s.halted (refuse Halted s) (judge_read local (edges_of t) s (step_of raw)) (refuse-kept Halted s)
    (read_kept local (edges_of t) s (step_of raw))))
  where
    rest : Judgement
    rest = cond s.halted (refuse Halted s) (judge_read local (edges_of t) s (step_of raw))

-- a refusal leaves the state as it was
pub refused-kept : (t : List ℕ) (local : Bool) (s : State) (raw : RawStep) (n : Reason)
    → (judge_of t local s raw).answer ≡ Refused n → (judge_of t local s raw).state ≡ s
refused-kept t local s raw n e = subst (λ (a : Answer Reason). Kept s a (judge_of t local s raw).state) e (judge-kept t local s raw)
