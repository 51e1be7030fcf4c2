-- The judge's definition answers as the whole past says.
use Prim.Native.Nat.{ℕ}
use mathlib.Core.Path.{◌≡◌, refl, sym, subst}
use mathlib.Core.Bool.{Bool, true, false, cond}
use mathlib.Core.List.{List, [], ◌∷◌, map}
use mathlib.Core.Option.{Option, none, some}
use lib.Dec.{eqb}
use Rattle.usage.specs.declared.Edge.{Edge}
use Rattle.usage.specs.declared.RawStep.{RawStep}
use Rattle.usage.specs.Policy.{EdgesOk}
use Rattle.usage.specs.Past.{Step, Past, Violates}
use Rattle.usage.specs.Answers.{Verdict, allowed}
use Rattle.usage.specs.Judge.{step_of, Taken, Judged, is_refused_with, is_violated, is_allowed, then, past_after, halted_after}
use Rattle.usage.specs.Judge.{JudgedAll, done, next}
use Rattle.usage.specs.Tables.{edges_of, is_edge_table}
use Rattle.usage.proofs.Logic.{and_both}
use Rattle.usage.proofs.TableLaws.{decides-edge-table}
use Rattle.usage.proofs.JudgeLaws.{step_fits, judged-unique}
use Rattle.usage.specs.declared.Reason.{Reason}
use Rattle.usage.specs.declared.Reason.TheVariants.{Halted}
use Rattle.automaton.specs.Mask.{lowest_in}
use Rattle.monitor_state.specs.declared.State.{State}
use Rattle.monitor_state.specs.declared.Answer.{Answer}
use Rattle.monitor_state.specs.declared.Answer.TheVariants.{Allowed, Violated, Refused}
use Rattle.monitor_state.specs.Judge.{verdict_of, live_ok, unclosed_ok, state_ok_lem, halt, after, broken, refusal, refuse, settle, judge_step, judge_read}
use Rattle.monitor_state.specs.Judge.{judge_of, answers_of, start_state}
use Rattle.monitor_state.specs.Represents.{Represents}
use Rattle.monitor_state.specs.Promise.{Promised}
use Rattle.monitor_state.proofs.StartLaws.{begin-represents}
use Rattle.monitor_state.proofs.Preserve.{after-represents}
use Rattle.monitor_state.proofs.BrokenLaws.{none-violated, first-violated}
use Rattle.monitor_state.proofs.Refusals.{refuses-halted, refuses-unread, Settled, refuses, takes, settled}

-- ── One step ──

halt-represents : (local : Bool) (es : List Edge) (past : Past) (h : Bool) (s : State) → Represents local es past h s
    → Represents local es past true (halt s)
unfolding halt
halt-represents local es past h s R = record { halted = refl; tracked = R.tracked; created = R.created; unclosed = R.unclosed }

-- such a state passes 42
pub state-well : {local : Bool} {es : List Edge} {past : Past} {h : Bool} {s : State} → Represents local es past h s → state_ok_lem s ≡ true
unfolding state_ok_lem
state-well {s = s} R = and_both (live_ok s.created) (unclosed_ok s.unclosed) R.created.well R.unclosed.well

module _ (local : Bool) (es : List Edge) (v : EdgesOk es) (past : Past)
    (s : State) (R : Represents local es past false s) (raw : RawStep) where
  settle-promised : (step : Step) (t : State) → step_of raw ≡ some step → Taken past false raw → Represents local es (step ∷ past) false t
      → Promised local es past false s raw (settle (broken t) s t)
  unfolding settle
  settle-promised step t e k T = go (eqb (broken t) 0) refl
    where
      go : (b : Bool) → eqb (broken t) 0 ≡ b
          → Promised local es past false s raw
          (cond b (record { answer = Allowed; state = t }) (record { answer = Violated (lowest_in (broken t)); state = halt s }))
      go true b = record {
        answer = is_allowed k e (none-violated local es (step ∷ past) false t T v b);
        state = subst (λ (o : Option Step). Represents local es (then o past) false t) (sym e) T;
        kept = tt;
      }
      go false b =
          let x = first-violated local es (step ∷ past) false t T v b in
          record { answer = is_violated k e x.is x.least; state = halt-represents local es past false s R; kept = refl }

  step-promised : (step : Step) → step_of raw ≡ some step → (o : Option Reason) → Settled past s raw step o
      → Promised local es past false s raw (judge_step local es s step o)
  unfolding judge_step refuse
  step-promised step e _ (refuses r) = record { answer = is_refused_with r; state = R; kept = refl }
  step-promised step e _ (takes k ready) =
      settle-promised step (after local es s step) e k
      (after-represents local es v past false s R step (step_fits raw step e) ready)

  read-promised : (o : Option Step) → step_of raw ≡ o → Promised local es past false s raw (judge_read local es s o)
  unfolding judge_read refuse
  read-promised none e = record { answer = is_refused_with (refuses-unread past raw e); state = R; kept = refl }
  read-promised (some step) e = step-promised step e (refusal s step) (settled local es past false s R raw step e)

-- where the calling program lent a table and a state as they should be, the tests before the step's own pass
judge-is : (t : List ℕ) (local : Bool) (s : State) (raw : RawStep) → is_edge_table t ≡ true → state_ok_lem s ≡ true
    → judge_of t local s raw ≡ cond s.halted (refuse Halted s) (judge_read local (edges_of t) s (step_of raw))
unfolding judge_of
judge-is t local s raw p q = rw (p, q)

-- From every state that stands for a past: the answer is right, and the state that is returned stands for the past with the step,
-- if it was allowed, and for the same past if not.
pub judge-promised : (t : List ℕ) → is_edge_table t ≡ true
    → (local : Bool) (past : Past) (h : Bool) (s : State) → Represents local (edges_of t) past h s
    → (raw : RawStep) → Promised local (edges_of t) past h s raw (judge_of t local s raw)
unfolding refuse
judge-promised t p local past h s R raw = subst (Promised local (edges_of t) past h s raw)
    (sym (judge-is t local s raw p (state-well R))) (go h R)
  where
    go : (h : Bool) → Represents local (edges_of t) past h s
        → Promised local (edges_of t) past h s raw (cond s.halted (refuse Halted s) (judge_read local (edges_of t) s (step_of raw)))
    go true R =
        subst (λ (b : Bool). Promised local (edges_of t) past true s raw (cond b (refuse Halted s) (judge_read local (edges_of t) s (step_of raw))))
        (sym R.halted)
        (record { answer = is_refused_with (refuses-halted past raw); state = R; kept = refl })
    go false R =
        subst (λ (b : Bool). Promised local (edges_of t) past false s raw
        (cond b (refuse Halted s) (judge_read local (edges_of t) s (step_of raw))))
        (sym R.halted)
        (read-promised local (edges_of t) ((decides-edge-table t).0 p).edges past s R raw (step_of raw) refl)

-- ── Conversely, and over many steps ──

-- The right answer is the judge's.
pub judged-is : (t : List ℕ) → is_edge_table t ≡ true
    → (local : Bool) (past : Past) (h : Bool) (s : State) → Represents local (edges_of t) past h s
    → (raw : RawStep) {v : Verdict}
    → Judged local (edges_of t) past h raw v → verdict_of (judge_of t local s raw).answer ≡ v
judged-is t p local past h s R raw k = judged-unique (judge-promised t p local past h s R raw).answer k

allowed-is : (a : Answer Reason) → verdict_of a ≡ allowed → a ≡ Allowed
allowed-is Allowed e = refl
allowed-is (Violated p) e = cc
allowed-is (Refused n) e = cc

-- A step that nothing refuses and that breaks no open policy is allowed, and the state that is returned stands for the past with
-- it.
pub allowed-next : (t : List ℕ) → is_edge_table t ≡ true
    → (local : Bool) (past : Past) (h : Bool) (s : State) → Represents local (edges_of t) past h s
    → (raw : RawStep) (step : Step) → step_of raw ≡ some step → Taken past h raw → ((p : ℕ) → Violates local (edges_of t) p (step ∷ past) → ⊥)
    → ((judge_of t local s raw).answer ≡ Allowed) × Represents local (edges_of t) (step ∷ past) h (judge_of t local s raw).state
allowed-next t p local past h s R raw step e k x =
    let a : verdict_of (judge_of t local s raw).answer ≡ allowed = judged-is t p local past h s R raw (is_allowed k e x) in (
      allowed-is (judge_of t local s raw).answer a,
      subst (λ (o : Option Step). Represents local (edges_of t) (then o past) h (judge_of t local s raw).state) e
          (subst (λ (v : Verdict). Represents local (edges_of t) (past_after past raw v) (halted_after h v) (judge_of t local s raw).state) a
          (judge-promised t p local past h s R raw).state),
    )

-- Every answer to a list of steps is the one that the whole past says, each step judged after those before it.
all-judged : (t : List ℕ) → is_edge_table t ≡ true → (local : Bool) (past : Past) (h : Bool) (s : State) → Represents local (edges_of t) past h s
    → (raws : List RawStep) → JudgedAll local (edges_of t) past h raws (map verdict_of (answers_of t local s raws))
unfolding answers_of
all-judged t p local past h s R [] = done
all-judged t p local past h s R (raw ∷ raws) =
    let k = judge-promised t p local past h s R raw in
    let v = verdict_of (judge_of t local s raw).answer in
    next k.answer (all-judged t p local (past_after past raw v) (halted_after h v) (judge_of t local s raw).state k.state raws)

-- in particular from the start
pub all-judged-begin : (t : List ℕ) → is_edge_table t ≡ true → (local : Bool) (raws : List RawStep)
    → JudgedAll local (edges_of t) [] false raws (map verdict_of (answers_of t local start_state raws))
all-judged-begin t p local raws = all-judged t p local [] false start_state (begin-represents local (edges_of t)) raws
