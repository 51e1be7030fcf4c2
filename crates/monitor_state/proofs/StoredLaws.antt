-- At a step that is no event the answer does not depend on the instances' sets.
use Prim.Native.Nat.{ℕ}
use mathlib.Core.Path.{◌≡◌, refl}
use mathlib.Core.Bool.{Bool, true, false, not, cond}
use mathlib.Core.Option.{Option, none, some}
use mathlib.Core.List.{List}
use lib.Dec.{eqb}
use Rattle.usage.specs.declared.Edge.{Edge}
use Rattle.usage.specs.Past.{Step, event, opening, closing, retiring}
use Rattle.usage.specs.Tables.{edges_of, is_edge_table}
use Rattle.usage.specs.declared.Reason.{Reason}
use Rattle.automaton.specs.Mask.{lowest_in}
use Rattle.monitor_state.specs.declared.State.{State}
use Rattle.monitor_state.specs.declared.Judgement.{Judgement}
use Rattle.monitor_state.specs.declared.Answer.TheVariants.{Allowed, Violated}
use Rattle.monitor_state.specs.Judge.{state_ok_lem, halt, with_tracked, reset_in, retired_in, entering, leaving, releasing, after, broken, refusal, refuse, settle}
use Rattle.monitor_state.specs.Judge.{judge_step, judge_read, judge_of}
use Rattle.monitor_state.specs.Stored.{NoEvent, JudgedByStored}

either_same : (b : Bool) (j k m n : Judgement) → j.answer ≡ m.answer → k.answer ≡ n.answer → (cond b j k).answer ≡ (cond b m n).answer
either_same true j k m n e f = e
either_same false j k m n e f = f

-- the answer, by the broken policies alone
settle-same : (bad : ℕ) (s t u v : State) → (settle bad s t).answer ≡ (settle bad u v).answer
unfolding settle
settle-same bad s t u v =
    either_same (eqb bad 0) (record { answer = Allowed; state = t }) (record { answer = Violated (lowest_in bad); state = halt s })
    (record { answer = Allowed; state = v }) (record { answer = Violated (lowest_in bad); state = halt u }) refl refl

module _ (s : State) (sets pairs : List ℕ) where
  abbrev other : State
  other = with_tracked s (record { sets = sets; pairs = pairs; possible = s.tracked.possible })

  step_same : (local : Bool) (es : List Edge) (step : Step) → broken (after local es other step) ≡ broken (after local es s step)
      → (o : Option Reason) → (judge_step local es other step o).answer ≡ (judge_step local es s step o).answer
  unfolding judge_step refuse
  step_same local es step e (some n) = refl
  step_same local es step e none =
      rw e (settle-same (broken (after local es s step)) other (after local es other step) s (after local es s step))

  read_same : (local : Bool) (es : List Edge) (step : Step) → NoEvent step
      → (judge_read local es other (some step)).answer ≡ (judge_read local es s (some step)).answer
  unfolding judge_read with_tracked reset_in retired_in entering leaving releasing after broken refusal
  read_same local es (event a r) h = absurd h
  read_same local es (opening p) h = step_same local es (opening p) refl (refusal s (opening p))
  read_same local es (closing p) h = step_same local es (closing p) refl (refusal s (closing p))
  read_same local es (retiring r) h = step_same local es (retiring r) refl (refusal s (retiring r))

pub judged-by-stored : JudgedByStored
unfolding judge_of state_ok_lem with_tracked refuse
judged-by-stored t local s raw step e h sets pairs =
    rw e (either_same (not (is_edge_table t)) _ _ _ _ refl (either_same (not (state_ok_lem s)) _ _ _ _ refl (either_same s.halted _ _ _ _ refl
    (read_same s sets pairs local (edges_of t) step h))))
