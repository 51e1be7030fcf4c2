-- Which numbers the judge answers, and what it leaves of the state, from every table and state at all.
use Prim.Native.Nat.{ℕ, zero, suc, ◌<◌}
use mathlib.Core.Path.{◌≡◌, refl, sym, subst, ◌∙◌, ap}
use mathlib.Core.Bool.{Bool, true, false, not, cond, ◌&&◌, ◌||◌}
use mathlib.Core.Option.{Option, none, some}
use mathlib.Core.List.{List, [], ◌∷◌, Memᴰ}
use mathlib.Core.Logic.{◌⊎◌, inl, inr, ◌↔◌}
use native.Mathlib.Omega.{arith}
use lib.Dec.{eqb, ltb, leb, lit<}
use lib.ListN.{get_elem?}
use Rattle.usage.specs.declared.Edge.{Edge}
use Rattle.usage.specs.declared.RawStep.{RawStep}
use Rattle.usage.specs.Limits.{statics, most_created, most_unclosed}
use Rattle.usage.specs.Past.{Step, event, opening, closing, retiring}
use Rattle.usage.specs.Judge.{step_of}
use Rattle.usage.specs.Tables.{edges_of, EdgeTable, is_edge_table}
use Rattle.usage.proofs.Logic.{clash, none-some}
use Rattle.usage.proofs.Decides.{refuted}
use Rattle.usage.proofs.TableLaws.{decides-edge-table}
use Rattle.automaton.specs.Mask.{lowest_in}
use Rattle.automaton.proofs.MaskLaws.{lowest-is}
use Rattle.usage.specs.declared.Reason.{Reason}
use Rattle.usage.specs.declared.Reason.TheVariants.{Halted, NoStep, Table, State as Unfit}
use Rattle.usage.specs.Reasons.{number_of}
use Rattle.monitor_state.specs.declared.State.{State}
use Rattle.monitor_state.specs.declared.Answer.{Answer}
use Rattle.monitor_state.specs.declared.Answer.TheVariants.{Allowed, Violated, Refused}
use Rattle.monitor_state.specs.declared.Judgement.{Judgement}
use Rattle.monitor_sets.specs.Created.{listed}
use Rattle.monitor_state.specs.Judge.{openings_of, last_opened}
use Rattle.monitor_state.specs.Judge.{verdict_of, state_ok_lem, live, halt, refusal, refuse, broken, after, settle, judge_step, judge_read, judge_of}
use Rattle.monitor_state.specs.Sound.{StateOk}
use Rattle.monitor_state.proofs.BrokenLaws.{broken-lt}
use Rattle.monitor_state.proofs.SoundLaws.{decides-state}
use Rattle.usage.proofs.Decides.{refutes, refuted}
use Rattle.promises.specs.Demands.{judge_numbers, Listed, JudgeRefuses}

-- What is shown of each judgement: its answer is in the list, a refusal leaves the state, and a violation halts it. The numbers are told
-- apart from 41 and 42, which only the tests of the table and of the state give.
pub record Fine (s : State) (j : Judgement) : Type 0 where
  pub listed : Listed judge_numbers (verdict_of j.answer)
  pub keeps : (n : Reason) → j.answer ≡ Refused n → j.state ≡ s
  pub halts : (p : ℕ) → j.answer ≡ Violated p → j.state ≡ halt s

-- the number of a refusal is one that the routine can bring about
abbrev Routine : Option Reason → Type 0
Routine none = Unit {0}
Routine (some n) = Memᴰ (number_of n) judge_numbers × (number_of n < 40)

pub nth : {n : ℕ} (i : ℕ) (l : List ℕ) → get_elem? l i ≡ some n → Memᴰ n l
nth i [] e = none-some e
nth {n} zero (m ∷ l) e = Memᴰ.head (same e)
  where
    same : ◌≡◌ {A = Option ℕ} (some m) (some n) → n ≡ m
    same e = cc
nth (suc i) (m ∷ l) e = Memᴰ.tail (nth i l e)

no-violation : {n : Reason} {p : ℕ} {A : Type 0} → Refused n ≡ Violated p → A
no-violation e = clash (cc)

no-refusal : {n : Reason} {p : ℕ} {A : Type 0} → Violated p ≡ Refused n → A
no-refusal e = clash (cc)

allows : {n : Reason} {A : Type 0} → Allowed ≡ Refused n → A
allows e = clash (cc)

allows-all : {p : ℕ} {A : Type 0} → ◌≡◌ {A = Answer Reason} Allowed (Violated p) → A
allows-all e = clash (cc)

abbrev number_in : Answer Reason → ℕ
number_in Allowed = 0
number_in (Violated p) = 0
number_in (Refused n) = number_of n

-- ── Each judgement ──

refuse-fine : (s : State) (n : Reason) → Memᴰ (number_of n) judge_numbers → Fine s (refuse n s)
unfolding refuse
refuse-fine s n m = record { listed = m; keeps = λ k e. refl; halts = λ p e. no-violation e }

cond-fine : {s : State} (b : Bool) (x y : Judgement) → Fine s x → Fine s y → Fine s (cond b x y)
cond-fine true x y f g = f
cond-fine false x y f g = g

settle-fine : (s t : State) (bad : ℕ) → bad < 256 → Fine s (settle bad s t)
unfolding settle
settle-fine s t bad l = go (eqb bad 0) refl
  where
    go : (b : Bool) → eqb bad 0 ≡ b → Fine s (cond b (record { answer = Allowed; state = t })
        (record { answer = Violated (lowest_in bad); state = halt s }))
    go true e = record { listed = tt; keeps = λ n e. allows e; halts = λ p e. allows-all e }
    go false e = record { listed = (lowest-is bad l e).below-8; keeps = λ n e. no-refusal e; halts = λ p e. refl }

-- ── The numbers of a step that was read ──

cond-routine : (b : Bool) (x y : Option Reason) → Routine x → Routine y → Routine (cond b x y)
cond-routine true x y f g = f
cond-routine false x y f g = g

refusal-routine : (s : State) (step : Step) → Routine (refusal s step)
unfolding refusal
refusal-routine s (event zero r) =
    cond-routine (ltb r statics) _ _ (nth 2 judge_numbers refl, lit< tt)
    (cond-routine (leb r s.created.highest) _ _ (nth 3 judge_numbers refl, lit< tt)
    (cond-routine (leb most_created s.created.count) _ _ (nth 8 judge_numbers refl, lit< tt) tt))
refusal-routine s (event (suc a) r) = cond-routine (ltb r statics || listed r (live s.created)) _ _ tt (nth 5 judge_numbers refl, lit< tt)
refusal-routine s (opening p) = cond-routine (leb most_unclosed s.unclosed.depth) _ _ (nth 9 judge_numbers refl, lit< tt) tt
refusal-routine s (closing p) =
    cond-routine (ltb 0 (openings_of s.unclosed p)) _ _ (cond-routine (eqb (last_opened s.unclosed) p) _ _ tt (nth 7 judge_numbers refl, lit< tt))
    (nth 6 judge_numbers refl, lit< tt)
refusal-routine s (retiring r) = cond-routine (not (ltb r statics) && listed r (live s.created)) _ _ tt (nth 4 judge_numbers refl, lit< tt)

-- a refusal that comes after the tests of the table and of the state
abbrev Low : Judgement → Type 0
Low j = (n : Reason) → j.answer ≡ Refused n → number_of n < 40

refuse-low : (s : State) (n : Reason) → number_of n < 40 → Low (refuse n s)
unfolding refuse
refuse-low s n l k e = subst (λ (m : ℕ). m < 40) (ap number_in e) l

cond-low : (b : Bool) (x y : Judgement) → Low x → Low y → Low (cond b x y)
cond-low true x y f g = f
cond-low false x y f g = g

settle-low : (s t : State) (bad : ℕ) → Low (settle bad s t)
unfolding settle
settle-low s t bad = cond-low (eqb bad 0) _ _ (λ n e. allows e) (λ n e. no-refusal e)

module _ (local : Bool) (es : List Edge) (s : State) where
  step-fine : (step : Step) (o : Option Reason) → Routine o → Fine s (judge_step local es s step o) × Low (judge_step local es s step o)
  unfolding judge_step
  step-fine step none r = (
    settle-fine s (after local es s step) (broken (after local es s step)) (broken-lt (after local es s step)),
    settle-low s (after local es s step) (broken (after local es s step)),
  )
  step-fine step (some n) r = (refuse-fine s n r.0, refuse-low s n r.1)

  read-fine : (o : Option Step) → Fine s (judge_read local es s o) × Low (judge_read local es s o)
  unfolding judge_read
  read-fine none = (refuse-fine s NoStep (nth 1 judge_numbers refl), refuse-low s NoStep (lit< tt))
  read-fine (some step) = step-fine step (refusal s step) (refusal-routine s step)

-- ── The judge ──

module _ (t : List ℕ) (local : Bool) (s : State) (raw : RawStep) where
  abbrev inner : Judgement
  inner = cond s.halted (refuse Halted s) (judge_read local (edges_of t) s (step_of raw))

  inner-fine : Fine s inner
  inner-fine = cond-fine s.halted _ _ (refuse-fine s Halted (nth 0 judge_numbers refl)) (read-fine local (edges_of t) s (step_of raw)).0

  inner-low : Low inner
  inner-low = cond-low s.halted _ _ (refuse-low s Halted (lit< tt)) (read-fine local (edges_of t) s (step_of raw)).1

  pub judge-fine : Fine s (judge_of t local s raw)
  unfolding judge_of
  judge-fine =
      cond-fine (not (is_edge_table t)) _ _ (refuse-fine s Table (nth 10 judge_numbers refl))
      (cond-fine (not (state_ok_lem s)) _ _ (refuse-fine s Unfit (nth 11 judge_numbers refl)) inner-fine)

  is-41 : is_edge_table t ≡ false → judge_of t local s raw ≡ refuse Table s
  unfolding judge_of
  is-41 p = rw p

  is-42 : is_edge_table t ≡ true → state_ok_lem s ≡ false → judge_of t local s raw ≡ refuse Unfit s
  unfolding judge_of
  is-42 p q = rw (p, q)

  is-inner : is_edge_table t ≡ true → state_ok_lem s ≡ true → judge_of t local s raw ≡ inner
  unfolding judge_of
  is-inner p q = rw (p, q)

  -- the number where the table is one that a sheet gives
  with-table : is_edge_table t ≡ true → (n : Reason) → (judge_of t local s raw).answer ≡ Refused n
      → ((number_of n ≡ 42) × (state_ok_lem s ≡ false)) ⊎ (number_of n < 40)
  unfolding refuse
  with-table p n e = go (state_ok_lem s) refl
    where
      go : (b : Bool) → state_ok_lem s ≡ b → ((number_of n ≡ 42) × (state_ok_lem s ≡ false)) ⊎ (number_of n < 40)
      go true q = inr (inner-low n (sym (ap (λ (j : Judgement). j.answer) (is-inner p q)) ∙ e))
      go false q = inl (ap number_in (sym e ∙ ap (λ (j : Judgement). j.answer) (is-42 p q)), q)

  pub at-41 : ((judge_of t local s raw).answer ≡ Refused Table) ↔ (EdgeTable t → ⊥)
  unfolding refuse
  at-41 = (λ e edges. neither (with-table ((decides-edge-table t).1 edges) Table e), back)
    where
      neither : ((◌≡◌ {A = ℕ} 41 42) × (state_ok_lem s ≡ false)) ⊎ (41 < 40) → ⊥
      neither (inl x) = let h = x.0 in omega arith
      neither (inr x) = omega arith

      back : (EdgeTable t → ⊥) → (judge_of t local s raw).answer ≡ Refused Table
      back f = ap (λ (j : Judgement). j.answer) (is-41 (refuted (is_edge_table t) (decides-edge-table t) f))

  pub at-42 : ((judge_of t local s raw).answer ≡ Refused Unfit) ↔ (EdgeTable t × (state_ok_lem s ≡ false))
  unfolding refuse
  at-42 = (λ e. go (is_edge_table t) refl e, λ x. back x.0 x.1)
    where
      only : ((◌≡◌ {A = ℕ} 42 42) × (state_ok_lem s ≡ false)) ⊎ (42 < 40) → state_ok_lem s ≡ false
      only (inl x) = x.1
      only (inr x) = absurd (omega arith)

      go : (b : Bool) → is_edge_table t ≡ b → (judge_of t local s raw).answer ≡ Refused Unfit → EdgeTable t × (state_ok_lem s ≡ false)
      go true p e = ((decides-edge-table t).0 p, only (with-table p Unfit e))
      go false p e = absurd (differ (ap number_in (sym e ∙ ap (λ (j : Judgement). j.answer) (is-41 p))))
        where
          differ : ◌≡◌ {A = ℕ} 42 41 → ⊥
          differ h = omega arith

      back : EdgeTable t → state_ok_lem s ≡ false → (judge_of t local s raw).answer ≡ Refused Unfit
      back edges q = ap (λ (j : Judgement). j.answer) (is-42 ((decides-edge-table t).1 edges) q)

-- 42, by the rule that its test decides
ruled-42 : (t : List ℕ) (local : Bool) (s : State) (raw : RawStep)
    → ((judge_of t local s raw).answer ≡ Refused Unfit) ↔ (EdgeTable t × (StateOk s → ⊥))
ruled-42 t local s raw =
    let a = at-42 t local s raw in
    let d = decides-state s in
    (λ e. let x = a.0 e in (x.0, refutes d x.1), λ x. a.1 (x.0, refuted (state_ok_lem s) d x.1))

pub judge-refuses : JudgeRefuses
judge-refuses = record {
  listed = λ t local s raw. (judge-fine t local s raw).listed;
  keeps = λ t local s raw. (judge-fine t local s raw).keeps;
  halts = λ t local s raw. (judge-fine t local s raw).halts;
  no_table = at-41;
  no_state = λ t local s raw. ruled-42 t local s raw;
}
