-- What any judge answers from any state at all: the numbers that the head must hold, and which number refuses.
use Prim.Native.Nat.{ℕ, zero, suc, ◌≤◌}
use mathlib.Core.Path.{◌≡◌, refl, sym, ap, ◌∙◌, subst}
use mathlib.Core.Bool.{Bool, true, false, not, ◌&&◌, ◌||◌, cond}
use mathlib.Core.Option.{Option, none, some}
use mathlib.Core.List.{List}
use native.Mathlib.Omega.{arith}
use lib.Dec.{eqb, leb, ltb}
use borrow.Author.Tests.{leb-true}
use Rattle.usage.specs.declared.Edge.{Edge}
use Rattle.usage.specs.declared.RawStep.{RawStep}
use Rattle.usage.specs.Limits.{statics, most_created, most_unclosed}
use Rattle.usage.specs.Past.{Step, event, opening, closing, retiring}
use Rattle.usage.specs.Judge.{step_of}
use Rattle.usage.specs.Tables.{edges_of, is_edge_table}
use Rattle.usage.proofs.Logic.{and_left, and_right, false-true}
use Rattle.usage.specs.declared.Reason.{Reason}
use Rattle.usage.specs.declared.Reason.TheVariants.{Halted, NoStep, CreateStatic, NotLive, NotOpen, NotNewest, NotAbove, RetireNotLive, TooManyLive, TooManyOpen, Table, State as Unfit}
use Rattle.usage.specs.Reasons.{number_of}
use Rattle.monitor_state.specs.declared.State.{State}
use Rattle.monitor_state.specs.declared.Answer.{Answer}
use Rattle.monitor_state.specs.declared.Answer.TheVariants.{Allowed, Violated, Refused}
use Rattle.monitor_state.specs.declared.Judgement.{Judgement}
use Rattle.monitor_state.specs.Judge.{state_ok_lem, live_ok, unclosed_ok, created_ok, order_ok_lem, with_new, with_retired, with_opening, with_closing, with_tracked, creating, moving, entering, leaving, releasing, after}
use Rattle.monitor_state.specs.Judge.{listed, live, openings_of, last_opened, refusal, refuse, halt, settle}
use Rattle.monitor_lean.specs.Lean.{Looks, judge_step_by, judge_read_by, judge_by}
use Rattle.desk.specs.Promise.{is_refusal_lem}
use Rattle.desk.specs.JudgeBytes.{Small}

-- ── A step that is not refused ──

-- at most one resource and one opening more
abbrev Near : State → State → Type 0
Near s t = (t.created.count ≤ suc s.created.count) × (t.unclosed.depth ≤ suc s.unclosed.depth)

after-near : (local : Bool) (es : List Edge) (s : State) (step : Step) → Near s (after local es s step)
unfolding after moving creating entering leaving releasing with_tracked with_new with_retired with_opening with_closing
after-near local es s (event zero r) = (omega arith, omega arith)
after-near local es s (event (suc a) r) = (omega arith, omega arith)
after-near local es s (opening p) = (omega arith, omega arith)
after-near local es s (closing p) = (omega arith, omega arith)
after-near local es s (retiring r) = (omega arith, omega arith)

-- what is asked of a judgement: of a refusal, that its number is not 41
unfoldable GoodFor : State → Answer Reason → State → Type 0
GoodFor s Allowed t = Near s t
GoodFor s (Violated p) t = Near s t
GoodFor s (Refused n) t = number_of n ≡ 41 → ⊥

unfoldable Good : State → Judgement → Type 0
Good s j = GoodFor s j.answer j.state

either-good : (s : State) (b : Bool) (j k : Judgement) → Good s j → Good s k → Good s (cond b j k)
either-good s true j k x y = x
either-good s false j k x y = y

refuse-good : (n : Reason) (s : State) → (number_of n ≡ 41 → ⊥) → Good s (refuse n s)
unfolding refuse Good GoodFor
refuse-good n s h = h

settle-good : (bad : ℕ) (s t : State) → Near s t → Good s (settle bad s t)
unfolding settle halt Good GoodFor
settle-good bad s t h =
    either-good s (eqb bad 0) (record { answer = Allowed; state = t }) _ h (omega arith, omega arith)

-- ── The numbers of a step that was read ──

unfoldable NotTable : Option Reason → Type 0
NotTable none = Unit {0}
NotTable (some n) = number_of n ≡ 41 → ⊥

either-not : (b : Bool) (x y : Option Reason) → NotTable x → NotTable y → NotTable (cond b x y)
either-not true x y f g = f
either-not false x y f g = g

refusal-not : (s : State) (step : Step) → NotTable (refusal s step)
unfolding refusal NotTable
refusal-not s (event zero r) =
    either-not (ltb r statics) (some CreateStatic) (cond (leb r s.created.highest) (some NotAbove) (cond (leb most_created s.created.count) (some TooManyLive) none)) (λ e. omega arith)
    (either-not (leb r s.created.highest) (some NotAbove) (cond (leb most_created s.created.count) (some TooManyLive) none) (λ e. omega arith) (either-not (leb most_created s.created.count) (some TooManyLive) none (λ e. omega arith) tt))
refusal-not s (event (suc a) r) = either-not (ltb r statics || listed r (live s.created)) none (some NotLive) tt (λ e. omega arith)
refusal-not s (opening p) = either-not (leb most_unclosed s.unclosed.depth) (some TooManyOpen) none (λ e. omega arith) tt
refusal-not s (closing p) =
    either-not (ltb 0 (openings_of s.unclosed p)) (cond (eqb (last_opened s.unclosed) p) none (some NotNewest)) (some NotOpen)
    (either-not (eqb (last_opened s.unclosed) p) none (some NotNewest) tt (λ e. omega arith)) (λ e. omega arith)
refusal-not s (retiring r) = either-not (not (ltb r statics) && listed r (live s.created)) none (some RetireNotLive) tt (λ e. omega arith)

step-good : (looks : Looks) (local : Bool) (es : List Edge) (s : State) (step : Step) (o : Option Reason) → NotTable o
    → Good s (judge_step_by looks local es s step o)
unfolding judge_step_by NotTable
step-good looks local es s step none h = settle-good _ s (after local es s step) (after-near local es s step)
step-good looks local es s step (some n) h = refuse-good n s h

read-good : (looks : Looks) (local : Bool) (es : List Edge) (s : State) (o : Option Step) → Good s (judge_read_by looks local es s o)
unfolding judge_read_by
read-good looks local es s none = refuse-good NoStep s (λ e. omega arith)
read-good looks local es s (some step) = step-good looks local es s step (refusal s step) (refusal-not s step)

-- ── The judge ──

module _ (looks : Looks) (t : List ℕ) (local : Bool) (s : State) (raw : RawStep) where
  pub judge-41 : is_edge_table t ≡ false → judge_by looks t local s raw ≡ refuse Table s
  unfolding judge_by
  judge-41 p = rw p

  pub judge-42 : is_edge_table t ≡ true → state_ok_lem s ≡ false → judge_by looks t local s raw ≡ refuse Unfit s
  unfolding judge_by
  judge-42 p q = rw (p, q)

  judge-good : is_edge_table t ≡ true → state_ok_lem s ≡ true → Good s (judge_by looks t local s raw)
  unfolding judge_by
  judge-good p q =
      rw (p, q) (either-good s s.halted (refuse Halted s) _ (refuse-good Halted s (λ e. omega arith)) (read-good looks local (edges_of t) s (step_of raw)))

  -- a step that is not refused had a good table and a good state
  pub taken-ok : is_refusal_lem (judge_by looks t local s raw).answer ≡ false → (is_edge_table t ≡ true) × (state_ok_lem s ≡ true)
  unfolding refuse
  taken-ok e = go (is_edge_table t) refl (state_ok_lem s) refl
    where
      go : (x : Bool) → is_edge_table t ≡ x → (y : Bool) → state_ok_lem s ≡ y → (is_edge_table t ≡ true) × (state_ok_lem s ≡ true)
      go false p y q = false-true (sym e ∙ ap (λ (j : Judgement). is_refusal_lem j.answer) (judge-41 p))
      go true p false q = false-true (sym e ∙ ap (λ (j : Judgement). is_refusal_lem j.answer) (judge-42 p q))
      go true p true q = (p, q)

  pub not-41 : is_edge_table t ≡ true → state_ok_lem s ≡ true → (n : Reason) → (judge_by looks t local s raw).answer ≡ Refused n → number_of n ≡ 41 → ⊥
  unfolding Good GoodFor
  not-41 p q n e = subst (λ (a : Answer Reason). GoodFor s a (judge_by looks t local s raw).state) e (judge-good p q)

  pub taken-small : is_refusal_lem (judge_by looks t local s raw).answer ≡ false → Small (judge_by looks t local s raw).state
  unfolding state_ok_lem live_ok unclosed_ok created_ok order_ok_lem Good GoodFor
  taken-small e = go (judge_by looks t local s raw).answer e (judge-good ok.0 ok.1)
    where
      ok : (is_edge_table t ≡ true) × (state_ok_lem s ≡ true)
      ok = taken-ok e

      few : s.created.count ≤ most_created
      few = leb-true _ _ (and_left (leb s.created.count most_created) _ (and_left (created_ok s.created.count s.created.numbers) _ (and_left (live_ok s.created) _ ok.1)))

      deep : s.unclosed.depth ≤ most_unclosed
      deep =
          leb-true _ _ (and_left (leb s.unclosed.depth most_unclosed) _
          (and_right (live_ok s.created) (order_ok_lem s.unclosed.depth s.unclosed.order s.unclosed.counts) ok.1))

      near : Near s (judge_by looks t local s raw).state → Small (judge_by looks t local s raw).state
      near (c, d) = (omega (arith, few), omega (arith, deep))

      go : (a : Answer Reason) → is_refusal_lem a ≡ false → GoodFor s a (judge_by looks t local s raw).state → Small (judge_by looks t local s raw).state
      go Allowed e g = near g
      go (Violated p) e g = near g
      go (Refused n) e g = false-true (sym e)

  -- what reads as no step is refused, whichever judge is asked
  pub none-refused : step_of raw ≡ none → is_refusal_lem (judge_by looks t local s raw).answer ≡ true
  unfolding judge_by judge_read_by refuse
  none-refused e = rw e (go (is_edge_table t) (state_ok_lem s) s.halted)
    where
      go : (x y z : Bool)
          → is_refusal_lem (cond (not x) (refuse Table s) (cond (not y) (refuse Unfit s) (cond z (refuse Halted s) (refuse NoStep s)))).answer ≡ true
      go false y z = refl
      go true false z = refl
      go true true true = refl
      go true true false = refl
