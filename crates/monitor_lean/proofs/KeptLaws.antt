-- A step that is refused leaves the state as it was, whichever policies are looked at: from every state at all, with any marks.
use Prim.Native.Nat.{ℕ}
use mathlib.Core.Path.{◌≡◌, refl, subst}
use mathlib.Core.Bool.{Bool, true, false, not, cond}
use mathlib.Core.List.{List}
use mathlib.Core.Option.{Option, none, some}
use lib.Dec.{eqb}
use Rattle.usage.specs.declared.RawStep.{RawStep}
use Rattle.usage.specs.Past.{Step}
use Rattle.usage.specs.Judge.{step_of}
use Rattle.usage.specs.Tables.{edges_of, is_edge_table}
use Rattle.usage.specs.declared.Reason.{Reason}
use Rattle.usage.specs.declared.Reason.TheVariants.{Halted, NoStep, Table, State as Unfit}
use Rattle.automaton.specs.Mask.{lowest_in}
use Rattle.monitor_state.specs.declared.State.{State}
use Rattle.monitor_state.specs.declared.Answer.{Answer}
use Rattle.monitor_state.specs.declared.Answer.TheVariants.{Allowed, Violated, Refused}
use Rattle.monitor_state.specs.declared.Judgement.{Judgement}
use Rattle.monitor_state.specs.Judge.{state_ok_lem, halt, after, refusal, refuse, settle}
use Rattle.monitor_state.specs.Looked.{Looks, broken_among, judge_step_by, judge_read_by, judge_by}
use Rattle.monitor_state.specs.Promise.{Kept}

abbrev KeptBy : State → Judgement → Type 0
KeptBy s j = Kept s j.answer j.state

either-kept : (s : State) (b : Bool) (j k : Judgement) → KeptBy s j → KeptBy s k → KeptBy s (cond b j k)
either-kept s true j k x y = x
either-kept s false j k x y = y

refuse-kept : (n : Reason) (s : State) → KeptBy s (refuse n s)
unfolding refuse
refuse-kept n s = refl

settle-kept : (bad : ℕ) (s t : State) → KeptBy s (settle bad s t)
unfolding settle
settle-kept bad s t =
    either-kept s (eqb bad 0) (record { answer = Allowed; state = t }) (record { answer = Violated (lowest_in bad); state = halt s }) tt refl

module _ (looks : Looks) (t : List ℕ) (local : Bool) (s : State) (raw : RawStep) where
  step_kept : (step : Step) (o : Option Reason) → KeptBy s (judge_step_by looks local (edges_of t) s step o)
  unfolding judge_step_by
  step_kept step none =
      settle-kept (broken_among (looks step) (after local (edges_of t) s step)) s (after local (edges_of t) s step)
  step_kept step (some n) = refuse-kept n s

  read_kept : (o : Option Step) → KeptBy s (judge_read_by looks local (edges_of t) s o)
  unfolding judge_read_by
  read_kept none = refuse-kept NoStep s
  read_kept (some step) = step_kept step (refusal s step)

  abbrev rest : Judgement
  rest = cond s.halted (refuse Halted s) (judge_read_by looks local (edges_of t) s (step_of raw))

  judge-kept : KeptBy s (judge_by looks t local s raw)
  unfolding judge_by
  judge-kept =
      either-kept s (not (is_edge_table t)) (refuse Table s) (cond (not (state_ok_lem s)) (refuse Unfit s) rest) (refuse-kept Table s)
      (either-kept s (not (state_ok_lem s)) (refuse Unfit s) rest (refuse-kept Unfit s)
      (either-kept s s.halted (refuse Halted s) (judge_read_by looks local (edges_of t) s (step_of raw)) (refuse-kept Halted s)
      (read_kept (step_of raw))))

  pub by-refused-kept : (n : Reason) → (judge_by looks t local s raw).answer ≡ Refused n → (judge_by looks t local s raw).state ≡ s
  by-refused-kept n e = subst (λ (a : Answer Reason). Kept s a (judge_by looks t local s raw).state) e judge-kept

  pub by-table-refused : is_edge_table t ≡ false → judge_by looks t local s raw ≡ refuse Table s
  unfolding judge_by
  by-table-refused e = simp e
