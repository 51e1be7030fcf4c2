-- With a summary that marks what can go wrong, the lean judge answers as the full judge.
use Prim.Native.Nat.{ℕ, ◌<◌}
use mathlib.Core.Path.{◌≡◌, refl, sym, ap, ◌∙◌, subst}
use mathlib.Core.Bool.{Bool, true, false, not, ◌&&◌, cond}
use mathlib.Core.List.{List, [], ◌∷◌, map}
use mathlib.Core.Option.{Option, none, some, some-injective}
use native.Mathlib.Omega.{arith}
use native.Mathlib.Decide.{ℕ_discrete}
use lib.Dec.{eqb, ltb}
use borrow.Author.Tests.{eq-eqb, ltb-true}
use Rattle.usage.specs.declared.Edge.{Edge}
use Rattle.usage.specs.declared.Node.{Node}
use Rattle.usage.specs.declared.RawStep.{RawStep}
use Rattle.usage.specs.Limits.{policies, actions, resources, ◌until◌, unused, within}
use Rattle.usage.specs.Policy.{EdgesOk}
use Rattle.usage.specs.Past.{Step, event, opening, closing, retiring, Past, count, Violates}
use Rattle.usage.specs.Answers.{Verdict, allowed}
use Rattle.usage.specs.Judge.{guard, step_of, then, Taken, Judged, is_refused_with, is_violated, is_allowed, past_after, halted_after}
use Rattle.usage.specs.Retirings.{thinned}
use Rattle.usage.specs.Outline.{IsTrace}
use Rattle.usage.specs.Valid.{OutlineOk}
use Rattle.usage.specs.Check.{Last, by_action, by_opening, Made, an_event, its_opening}
use Rattle.usage.specs.Tables.{edges_of, is_edge_table}
use Rattle.usage.proofs.Logic.{none-some, false-true, and_left, and_right, and_both}
use Rattle.usage.proofs.PastLaws.{violates-opening, violates-closing, violates-retiring}
use Rattle.usage.proofs.ThinnedLaws.{thinned-violates}
use Rattle.usage.proofs.JudgeLaws.{step_fits}
use Rattle.usage.proofs.TraceLaws.{trace-tail}
use Rattle.automaton.specs.Mask.{offends}
use Rattle.usage.proofs.TableLaws.{decides-edge-table}
use Rattle.usage.specs.Reasons.{number_of}
use Rattle.usage.specs.declared.Reason.{Reason}
use Rattle.usage.specs.declared.Reason.TheVariants.{Halted, Table, State as Unfit}
use Rattle.monitor_state.specs.declared.State.{State}
use Rattle.monitor_state.specs.declared.Answer.{Answer}
use Rattle.monitor_state.specs.declared.Answer.TheVariants.{Allowed, Violated, Refused}
use Rattle.monitor_state.specs.declared.Judgement.{Judgement}
use Rattle.monitor_state.specs.Judge.{verdict_of, state_ok_lem, openings_of, possible_in, after, broken, refusal, refuse, settle, judge_step, judge_read}
use Rattle.monitor_state.specs.Judge.{judge_of, answers_of, start_state}
use Rattle.monitor_state.specs.Represents.{Represents}
use Rattle.monitor_state.proofs.StartLaws.{begin-represents}
use Rattle.monitor_state.proofs.UnclosedLaws.{count-pos-open}
use Rattle.monitor_state.proofs.BrokenLaws.{offends-broken}
use Rattle.monitor_state.proofs.Preserve.{after-represents}
use Rattle.monitor_state.proofs.Refusals.{Settled, refuses, takes, settled}
use Rattle.monitor_state.proofs.LookedLaws.{broken-among-all}
use Rattle.monitor_state.proofs.Verdict.{state-well, judge-promised}
use Rattle.checker.specs.Accepted.{raw_of, onto}
use Rattle.checker.specs.Summary.{marks, Exact}
use Rattle.checker.proofs.SummaryLaws.{in-table}
use Rattle.monitor_lean.specs.Lean.{Looks, breaks_in, broken_among, judge_step_by, judge_read_by, judge_by, answers_by, marked}
use Rattle.monitor_lean.specs.Lean.{Summary, opening_bit, mark_at, cut_at, up_to_refusal, Agree, done, stops, next}
use Rattle.monitor_lean.specs.Lean.{AgreeAll, none_left, both, unless_refused, not_refused}
use Rattle.monitor_lean.specs.Promise.{LeanAgrees, LeanAnswers, LeanAgreesAll, LeanAnswersAll, LeanPromise}

-- ── One step ──

-- no open policy is broken: so it is after every step that was allowed
abbrev pub Clean : Bool → List Edge → Past → Type 0
Clean local es past = (p : ℕ) → Violates local es p past → ⊥

-- the step is marked for every policy that it breaks by an event or by the policy's own opening
abbrev pub Covered : Bool → List Edge → Summary → Step → Past → Type 0
Covered local es m step past =
    (p : ℕ) → p < policies → (last : Last) → Made p last step → Violates local es p (step ∷ past) → marks m p last ≡ true

module _ (local : Bool) (es : List Edge) (m : Summary) (past : Past) (clean : Clean local es past) where
  looked-at : (step : Step) → Covered local es m step past → (p : ℕ) → p < policies → Violates local es p (step ∷ past)
      → marked m step p ≡ true
  looked-at (event a r) cover p l v = cover p l (by_action a) an_event v
  looked-at (opening s) cover p l v = go (ℕ_discrete s p)
    where
      go : Dec (s ≡ p) → (eqb s p && mark_at m p opening_bit) ≡ true
      go (yes e) =
          and_both (eqb s p) (mark_at m p opening_bit) (eq-eqb s p e)
          (cover p l by_opening (subst (λ (u : ℕ). Made p by_opening (opening u)) (sym e) its_opening) v)
      go (no d) = absurd (clean p (violates-opening local es p s past d v))
  looked-at (closing s) cover p l v = absurd (clean p (violates-closing local es p s past v))
  looked-at (retiring r) cover p l v = absurd (clean p (violates-retiring local es p r past v))

  module _ (v : EdgesOk es) (s : State) (R : Represents local es past false s) (raw : RawStep) where
    broken-same : (step : Step) (t : State) → Represents local es (step ∷ past) false t → Covered local es m step past
        → broken_among (marked m step) t ≡ broken t
    broken-same step t T cover = broken-among-all (marked m step) t (λ p l b. looked-at step cover p l (violates p l b))
      where
        violates : (p : ℕ) → p < policies → breaks_in t p ≡ true → Violates local es p (step ∷ past)
        violates p l b = (
          count-pos-open (step ∷ past) t.unclosed T.unclosed p
              (ltb-true 0 (openings_of t.unclosed p) (and_left (ltb 0 (openings_of t.unclosed p)) (offends (possible_in t.tracked p)) b)),
          offends-broken local es (step ∷ past) false t T v p l (and_right (ltb 0 (openings_of t.unclosed p)) (offends (possible_in t.tracked p)) b),
        )

    step-same-by : (step : Step) → step_of raw ≡ some step → (Taken past false raw → Covered local es m step past) → (o : Option Reason)
        → Settled past s raw step o
        → judge_step_by (marked m) local es s step o ≡ judge_step local es s step o
    unfolding judge_step_by judge_step
    step-same-by step e cover _ (refuses r) = refl
    step-same-by step e cover _ (takes k ready) =
        ap (λ (bad : ℕ). settle bad s (after local es s step))
        (broken-same step (after local es s step) (after-represents local es v past false s R step (step_fits raw step e) ready) (cover k))

    read-same-by : (o : Option Step) → step_of raw ≡ o → ((step : Step) → o ≡ some step → Taken past false raw → Covered local es m step past)
        → judge_read_by (marked m) local es s o ≡ judge_read local es s o
    unfolding judge_read_by judge_read
    read-same-by none e cover = refl
    read-same-by (some step) e cover = step-same-by step e (cover step refl) (refusal s step) (settled local es past false s R raw step e)

-- From a state that stands for a past, halted or after steps that were all allowed: where the step is marked for what it can break, the
-- lean judge's judgement is the full judge's, the state included. Of a step that is refused nothing is asked.
pub lean-step : (t : List ℕ) → is_edge_table t ≡ true → (local : Bool) (m : Summary) (past : Past) (h : Bool) (s : State)
    → Represents local (edges_of t) past h s → (h ≡ false → Clean local (edges_of t) past)
    → (raw : RawStep) → ((step : Step) → step_of raw ≡ some step → Taken past false raw → Covered local (edges_of t) m step past)
    → judge_by (marked m) t local s raw ≡ judge_of t local s raw
unfolding judge_by judge_of
lean-step t ok local m past h s R clean raw cover =
    ap (λ (j : Judgement). cond (not (is_edge_table t)) (refuse Table s) (cond (not (state_ok_lem s)) (refuse Unfit s) j)) (go h R clean)
  where
    go : (h : Bool) → Represents local (edges_of t) past h s → (h ≡ false → Clean local (edges_of t) past)
        → cond s.halted (refuse Halted s) (judge_read_by (marked m) local (edges_of t) s (step_of raw))
        ≡ cond s.halted (refuse Halted s) (judge_read local (edges_of t) s (step_of raw))
    go true R clean = rw R.halted refl
    go false R clean =
        ap (λ (j : Judgement). cond s.halted (refuse Halted s) j)
        (read-same-by local (edges_of t) m past (clean refl) ((decides-edge-table t).0 ok).edges s R raw (step_of raw) refl cover)

-- what is clean stays so: an allowed step breaks no open policy, and a refused or violated one is no part of the past
pub clean-next : (t : List ℕ) → is_edge_table t ≡ true → (local : Bool) (past : Past) (h : Bool) (s : State)
    → Represents local (edges_of t) past h s → (h ≡ false → Clean local (edges_of t) past) → (raw : RawStep) (v : Verdict)
    → Judged local (edges_of t) past h raw v → halted_after h v ≡ false → Clean local (edges_of t) (past_after past raw v)
clean-next t ok local past h s R clean raw _ (is_refused_with r) e = clean e
clean-next t ok local past h s R clean raw _ (is_violated k g x l) e = clean_after e
  where
    clean_after : {A : Type 0} → true ≡ false → A
    clean_after e = false-true (sym e)
clean-next t ok local past h s R clean raw _ (is_allowed {step} k g x) e =
    subst (λ (o : Option Step). Clean local (edges_of t) (then o past)) (sym g) x

pub clean-start : (local : Bool) (es : List Edge) → Clean local es []
unfolding count
clean-start local es p (o, b) = omega arith

-- ── Many steps ──

-- a step that is allowed was read
allowed-read : {local : Bool} {es : List Edge} {past : Past} {h : Bool} {raw : RawStep} → Judged local es past h raw allowed
    → (step : Step) × (step_of raw ≡ some step)
allowed-read (is_allowed {step} k g x) = (step, g)

-- where the numbers of a step are read, it is as that step
said-guard : (b : Bool) (step read : Step) → guard b step ≡ some read → step ≡ read
said-guard true step read e = some-injective _ _ e
said-guard false step read e = none-some e

said-raw : (step read : Step) → step_of (raw_of step) ≡ some read → step ≡ read
unfolding step_of
said-raw (event a r) read e = said-guard (within (0 until actions) a && within (0 until resources) r) (event a r) read e
said-raw (opening p) read e = said-guard (within (0 until policies) p && within unused 0) (opening p) read e
said-raw (closing p) read e = said-guard (within (0 until policies) p && within unused 0) (closing p) read e
said-raw (retiring r) read e = said-guard (within (0 until resources) r && within unused 0) (retiring r) read e

-- `On` is what holds of the pasts that the summary is of: that they are traces of the outline, their retirings left out.
module _ (t : List ℕ) (ok : is_edge_table t ≡ true) (local : Bool) (m : Summary) (On : Past → Type 0)
    (tail : (step : Step) (past : Past) → On (step ∷ past) → On past)
    (cover : (step : Step) (past : Past) → On (step ∷ past) → Covered local (edges_of t) m step past) where
  -- each step that is read goes on to a past of which it holds
  abbrev Along : List RawStep → Past → Type 0
  Along [] past = Unit {0}
  Along (raw ∷ raws) past = (step : Step) → step_of raw ≡ some step → On (step ∷ past) × Along raws (step ∷ past)

  -- a halted state refuses every step
  halted-agree : (s : State) → s.halted ≡ true → state_ok_lem s ≡ true → (raws : List RawStep) → Agree (marked m) t local s raws
  unfolding judge_of judge_by refuse
  halted-agree s h w [] = done
  halted-agree s h w (raw ∷ raws) = stops {n = Halted} (by-halted ∙ sym full-halted) (ap (λ (j : Judgement). j.answer) full-halted)
    where
      full-halted : judge_of t local s raw ≡ refuse Halted s
      full-halted = rw (ok, w, h) refl

      by-halted : judge_by (marked m) t local s raw ≡ refuse Halted s
      by-halted = rw (ok, w, h) refl

  agree-from : (raws : List RawStep) (past : Past) (s : State) → Represents local (edges_of t) past false s → Clean local (edges_of t) past
      → Along raws past → Agree (marked m) t local s raws
  agree-from [] past s R clean along = done
  agree-from (raw ∷ raws) past s R clean along =
      go (judge_of t local s raw).answer refl (judge-promised t ok local past false s R raw).answer
      (judge-promised t ok local past false s R raw).state (agree-from raws)
    where
      same : judge_by (marked m) t local s raw ≡ judge_of t local s raw
      same = lean-step t ok local m past false s R (λ e. clean) raw (λ step e k. cover step past (along step e).0)

      u : State
      u = (judge_of t local s raw).state

      go : (a : Answer Reason) → (judge_of t local s raw).answer ≡ a → Judged local (edges_of t) past false raw (verdict_of (judge_of t local s raw).answer)
          → Represents local (edges_of t) (past_after past raw (verdict_of (judge_of t local s raw).answer))
          (halted_after false (verdict_of (judge_of t local s raw).answer)) u
          → ((past : Past) (s : State) → Represents local (edges_of t) past false s → Clean local (edges_of t) past
          → Along raws past → Agree (marked m) t local s raws)
          → Agree (marked m) t local s (raw ∷ raws)
      go Allowed e j T rest =
          let j₁ : Judged local (edges_of t) past false raw allowed =
          subst (λ (a : Answer Reason). Judged local (edges_of t) past false raw (verdict_of a)) e j in
          let T₁ : Represents local (edges_of t) (then (step_of raw) past) false u =
          subst (λ (a : Answer Reason). Represents local (edges_of t) (past_after past raw (verdict_of a)) (halted_after false (verdict_of a)) u) e T in
          let (step, g) = allowed-read j₁ in
          next same (rest (then (step_of raw) past) u T₁ (clean-next t ok local past false s R (λ z. clean) raw allowed j₁ refl)
          (subst (λ (o : Option Step). Along raws (then o past)) (sym g) (along step g).1))
      go (Violated p) e j T rest =
          let T₁ : Represents local (edges_of t) past true u =
          subst (λ (a : Answer Reason). Represents local (edges_of t) (past_after past raw (verdict_of a)) (halted_after false (verdict_of a)) u) e T in
          next same (halted-agree u T₁.halted (state-well T₁) raws)
      go (Refused n) e j T rest = stops same e

  -- ── Over all steps ──

  unrefused-before : (a : Answer Reason) (o : Option Step) (past : Past) → On (unless_refused a o past) → On past
  unrefused-before Allowed none past on = on
  unrefused-before Allowed (some step) past on = tail step past on
  unrefused-before (Violated p) none past on = on
  unrefused-before (Violated p) (some step) past on = tail step past on
  unrefused-before (Refused n) o past on = on

  all-before : (raws : List RawStep) (s : State) (past : Past) → On (not_refused t local s raws past) → On past
  unfolding not_refused
  all-before [] s past on = on
  all-before (raw ∷ raws) s past on =
      unrefused-before (judge_of t local s raw).answer (step_of raw) past
      (all-before raws (judge_of t local s raw).state (unless_refused (judge_of t local s raw).answer (step_of raw) past) on)

  halted-agree-all : (raws : List RawStep) (s : State) → s.halted ≡ true → state_ok_lem s ≡ true → AgreeAll (marked m) t local s raws
  unfolding judge_of judge_by refuse
  halted-agree-all [] s h w = none_left
  halted-agree-all (raw ∷ raws) s h w =
      both (by-halted ∙ sym full-halted)
      (subst (λ (j : Judgement). AgreeAll (marked m) t local j.state raws) (sym full-halted) (halted-agree-all raws s h w))
    where
      full-halted : judge_of t local s raw ≡ refuse Halted s
      full-halted = rw (ok, w, h) refl

      by-halted : judge_by (marked m) t local s raw ≡ refuse Halted s
      by-halted = rw (ok, w, h) refl

  -- a step that was taken is not refused
  taken-kept : (past : Past) (h : Bool) (raw : RawStep) (a : Answer Reason) → Judged local (edges_of t) past h raw (verdict_of a) → Taken past h raw
      → (step : Step) → step_of raw ≡ some step → On (unless_refused a (step_of raw) past) → On (step ∷ past)
  taken-kept past h raw Allowed j k step e on = subst (λ (o : Option Step). On (then o past)) e on
  taken-kept past h raw (Violated p) j k step e on = subst (λ (o : Option Step). On (then o past)) e on
  taken-kept past h raw (Refused n) (is_refused_with r) k step e on = absurd (k (number_of n) r.stated)

  agree-all-from : (raws : List RawStep) (past : Past) (s : State) → Represents local (edges_of t) past false s → Clean local (edges_of t) past
      → On (not_refused t local s raws past) → AgreeAll (marked m) t local s raws
  unfolding not_refused
  agree-all-from [] past s R clean on = none_left
  agree-all-from (raw ∷ raws) past s R clean on =
      go (judge_of t local s raw).answer refl (judge-promised t ok local past false s R raw).answer
      (judge-promised t ok local past false s R raw).state on (agree-all-from raws)
    where
      u : State
      u = (judge_of t local s raw).state

      same : (a : Answer Reason) → Judged local (edges_of t) past false raw (verdict_of a)
          → On (not_refused t local u raws (unless_refused a (step_of raw) past)) → judge_by (marked m) t local s raw ≡ judge_of t local s raw
      same a j on =
          lean-step t ok local m past false s R (λ e. clean) raw
          (λ step e k. cover step past (taken-kept past false raw a j k step e
          (all-before raws u (unless_refused a (step_of raw) past) on)))

      go : (a : Answer Reason) → (judge_of t local s raw).answer ≡ a → Judged local (edges_of t) past false raw (verdict_of (judge_of t local s raw).answer)
          → Represents local (edges_of t) (past_after past raw (verdict_of (judge_of t local s raw).answer))
          (halted_after false (verdict_of (judge_of t local s raw).answer)) u
          → On (not_refused t local u raws (unless_refused (judge_of t local s raw).answer (step_of raw) past))
          → ((past : Past) (s : State) → Represents local (edges_of t) past false s → Clean local (edges_of t) past
          → On (not_refused t local s raws past) → AgreeAll (marked m) t local s raws)
          → AgreeAll (marked m) t local s (raw ∷ raws)
      go a e j T on rest = later a (subst (λ (a : Answer Reason). Judged local (edges_of t) past false raw (verdict_of a)) e j)
          (subst (λ (a : Answer Reason). Represents local (edges_of t) (past_after past raw (verdict_of a)) (halted_after false (verdict_of a)) u) e T)
          (subst (λ (a : Answer Reason). On (not_refused t local u raws (unless_refused a (step_of raw) past))) e on)
        where
          later : (a : Answer Reason) → Judged local (edges_of t) past false raw (verdict_of a)
              → Represents local (edges_of t) (past_after past raw (verdict_of a)) (halted_after false (verdict_of a)) u
              → On (not_refused t local u raws (unless_refused a (step_of raw) past))
              → AgreeAll (marked m) t local s (raw ∷ raws)
          later Allowed j T on =
              both (same Allowed j on)
              (rest (then (step_of raw) past) u T (clean-next t ok local past false s R (λ z. clean) raw allowed j refl) on)
          later (Violated p) j T on = both (same (Violated p) j on) (halted-agree-all raws u T.halted (state-well T))
          later (Refused n) j T on = both (same (Refused n) j on) (rest past u T clean on)

  pub agree-all-start : (raws : List RawStep) → On (not_refused t local start_state raws []) → AgreeAll (marked m) t local start_state raws
  agree-all-start raws on = agree-all-from raws [] start_state (begin-represents local (edges_of t)) (clean-start local (edges_of t)) on

  -- the steps of a list, as they are handed over
  onto-before : (steps : List Step) (past : Past) → On (onto steps past) → On past
  unfolding onto
  onto-before [] past on = on
  onto-before (step ∷ steps) past on = tail step past (onto-before steps (step ∷ past) on)

  along-steps : (steps : List Step) (past : Past) → On (onto steps past) → Along (map raw_of steps) past
  unfolding onto
  along-steps [] past on = tt
  along-steps (s ∷ steps) past on = λ step e.
      subst (λ (u : Step). On (u ∷ past) × Along (map raw_of steps) (u ∷ past)) (said-raw s step e)
      (onto-before steps (s ∷ past) on, along-steps steps (s ∷ past) on)

  pub agree-start : (steps : List Step) → On (onto steps []) → Agree (marked m) t local start_state (map raw_of steps)
  agree-start steps on =
      agree-from (map raw_of steps) [] start_state (begin-represents local (edges_of t)) (clean-start local (edges_of t)) (along-steps steps [] on)

-- ── The answers ──

pub agree-answers : (looks : Looks) (t : List ℕ) (local : Bool) (s : State) (raws : List RawStep) → Agree looks t local s raws
    → up_to_refusal (answers_by looks t local s raws) ≡ up_to_refusal (answers_of t local s raws)
unfolding answers_by answers_of up_to_refusal
agree-answers looks t local s [] a = refl
agree-answers looks t local s (raw ∷ raws) (stops {n = n} e r) =
    let b : (judge_by looks t local s raw).answer ≡ Refused n = ap (λ (j : Judgement). j.answer) e ∙ r in
    rw (b, r) refl
agree-answers looks t local s (raw ∷ raws) (next e a) =
    ap (λ (j : Judgement). j.answer ∷ cut_at j.answer (up_to_refusal (answers_by looks t local j.state raws))) e
    ∙ ap (λ (l : List (Answer Reason)). (judge_of t local s raw).answer ∷ cut_at (judge_of t local s raw).answer l)
    (agree-answers looks t local (judge_of t local s raw).state raws a)

pub agree-all-answers : (looks : Looks) (t : List ℕ) (local : Bool) (s : State) (raws : List RawStep) → AgreeAll looks t local s raws
    → answers_by looks t local s raws ≡ answers_of t local s raws
unfolding answers_by answers_of
agree-all-answers looks t local s [] a = refl
agree-all-answers looks t local s (raw ∷ raws) (both e a) =
    ap (λ (j : Judgement). j.answer ∷ answers_by looks t local j.state raws) e
    ∙ ap (λ (l : List (Answer Reason)). (judge_of t local s raw).answer ∷ l) (agree-all-answers looks t local (judge_of t local s raw).state raws a)

-- ── The exact summary ──

-- a retiring is no last step
none_made : (last : Last) {p r : ℕ} → Made p last (retiring r) → ⊥
none_made (by_action a) h = elim h [ ]
none_made by_opening h = elim h [ ]

module _ (t : List ℕ) (ok : is_edge_table t ≡ true) (local : Bool) (ns : List Node) (outline : OutlineOk ns) (m : Summary)
    (exact : Exact local (edges_of t) ns m) where
  pub exact-covers : (step : Step) (past : Past) → IsTrace ns (step ∷ past) → Covered local (edges_of t) m step past
  exact-covers step past tr p l last made v =
      ((exact.each p l).tells last (in-table ns outline last p step past made tr)).1
      (_, record { step = step; past = past; made = made; trace = tr; violates = v; steps = refl })

  -- the same where retirings stand among the steps: they change neither what is open nor what is broken
  pub thinned-covers : (step : Step) (past : Past) → IsTrace ns (thinned (step ∷ past)) → Covered local (edges_of t) m step past
  unfolding thinned
  thinned-covers (event a r) past tr p l last made v =
      exact-covers (event a r) (thinned past) tr p l last made ((thinned-violates local (edges_of t) p (event a r ∷ past)).1 v)
  thinned-covers (opening s) past tr p l last made v =
      exact-covers (opening s) (thinned past) tr p l last made ((thinned-violates local (edges_of t) p (opening s ∷ past)).1 v)
  thinned-covers (closing s) past tr p l last made v =
      exact-covers (closing s) (thinned past) tr p l last made ((thinned-violates local (edges_of t) p (closing s ∷ past)).1 v)
  thinned-covers (retiring r) past tr p l last made v = absurd (none_made last made)

  thinned-tail : (step : Step) (past : Past) → IsTrace ns (thinned (step ∷ past)) → IsTrace ns (thinned past)
  unfolding thinned
  thinned-tail (event a r) past tr = trace-tail {s = event a r} {past = thinned past} tr
  thinned-tail (opening s) past tr = trace-tail {s = opening s} {past = thinned past} tr
  thinned-tail (closing s) past tr = trace-tail {s = closing s} {past = thinned past} tr
  thinned-tail (retiring r) past tr = tr

  pub lean-agrees : LeanAgrees t local ns m
  lean-agrees steps tr = agree-start t ok local m (λ past. IsTrace ns (thinned past)) thinned-tail thinned-covers steps tr

  pub lean-answers : LeanAnswers t local ns m
  lean-answers steps tr = agree-answers (marked m) t local start_state (map raw_of steps) (lean-agrees steps tr)

  pub lean-agrees-all : LeanAgreesAll t local ns m
  lean-agrees-all raws tr = agree-all-start t ok local m (λ past. IsTrace ns (thinned past)) thinned-tail thinned-covers raws tr

  pub lean-answers-all : LeanAnswersAll t local ns m
  lean-answers-all raws tr = agree-all-answers (marked m) t local start_state raws (lean-agrees-all raws tr)

-- the promise, for any marks
pub lean-promise : (t : List ℕ) (local : Bool) (m : Summary) → LeanPromise t local m
lean-promise t local m = record {
  agrees = λ e ns ok x. lean-agrees t ((decides-edge-table t).1 e) local ns ok m x;
  answers = λ e ns ok x. lean-answers t ((decides-edge-table t).1 e) local ns ok m x;
  agrees_all = λ e ns ok x. lean-agrees-all t ((decides-edge-table t).1 e) local ns ok m x;
  answers_all = λ e ns ok x. lean-answers-all t ((decides-edge-table t).1 e) local ns ok m x;
}
