-- An outline none of whose traces leaves a policy open and not respected is never halted by the judge, whichever past counts, with
-- retirings added or without.
use Prim.Native.Nat.{ℕ, zero, suc, ◌-◌, ◌<◌, ◌≤◌}
use mathlib.Core.Path.{◌≡◌, refl, sym, ap, ◌∙◌, subst}
use mathlib.Core.Bool.{Bool, true, false}
use mathlib.Core.Option.{some}
use mathlib.Core.List.Memᴰ
use mathlib.Core.List.{List, [], ◌∷◌, Memᴰ}
use mathlib.Core.Logic.{◌⊎◌, inl, inr}
use native.Mathlib.Omega.{arith}
use native.Mathlib.Decide.{dec_le}
use borrow.Author.Tests.{le-leb}
use lib.ListN.{length, get_elem?}
use Rattle.usage.specs.declared.Reason.{Reason}
use Rattle.usage.specs.declared.Reason.TheVariants.{TooManyLive, TooManyOpen}
use Rattle.usage.specs.Reasons.{number_of}
use Rattle.checker.proofs.ReasonLaws.{reason-one}
use Rattle.usage.specs.declared.Node.{Node}
use Rattle.usage.specs.declared.RawStep.{RawStep}
use Rattle.usage.specs.Limits.{statics, resources, create, most_created, most_unclosed}
use Rattle.usage.specs.Past.{Step, event, opening, closing, retiring, Past, open_stack, live_in, highest, Created, Retired, Violates}
use Rattle.usage.specs.Answers.{refused}
use Rattle.usage.specs.Judge.{step_of, Case, too_many, too_deep, Refuses, is_refused_with}
use Rattle.usage.specs.Retirings.{thinned, Rises, Added, all_added, step_kept, retiring_added}
use Rattle.usage.specs.Outline.{IsTrace}
use Rattle.usage.specs.Valid.{OutlineOk}
use Rattle.usage.specs.Check.{Leaves}
use Rattle.usage.specs.Tables.{edges_of, is_edge_table}
use Rattle.usage.proofs.Logic.{by_cases}
use Rattle.usage.proofs.PastLaws.{member-event, member-opening, member-closing}
use Rattle.usage.proofs.JudgeLaws.{Fits, CaseOf, case-of}
use Rattle.usage.proofs.RetiringLaws.{created-live}
use Rattle.usage.proofs.ThinnedLaws.{thinned-open, thinned-stack, thinned-highest, thinned-event, thinned-violates, thinned-step}
use Rattle.usage.proofs.TraceLaws.{StepOk, PastOk, trace-tail, trace-ok}
use Rattle.monitor_state.specs.declared.State.{State}
use Rattle.monitor_state.specs.declared.Answer.{Answer}
use Rattle.monitor_state.specs.declared.Answer.TheVariants.{Allowed, Violated, Refused}
use Rattle.monitor_state.specs.declared.Judgement.{Judgement}
use Rattle.monitor_state.specs.Judge.{verdict_of, judge_of, refuse, start_state}
use Rattle.monitor_state.specs.Represents.{Represents}
use Rattle.monitor_state.specs.Promise.{Kept}
use Rattle.monitor_state.proofs.StartLaws.{begin-represents}
use Rattle.monitor_state.proofs.Verdict.{judge-promised, judged-is, allowed-next}
use Rattle.checker.specs.Accepted.{raw_of, onto, Low, Beyond, create_beyond, opening_beyond, Passes, ended, allowed, beyond}
use Rattle.checker.specs.Accepted.{NeverHalted}

-- ── Beginnings ──

onto-trace : (ns : List Node) (steps : List Step) (past : Past) → IsTrace ns (onto steps past) → IsTrace ns past
unfolding onto
onto-trace ns [] past t = t
onto-trace ns (s ∷ steps) past t = trace-tail {s = s} {past = past} (onto-trace ns steps (s ∷ past) t)

onto-mem : (steps : List Step) (past : Past) {e : Step} → Memᴰ e past → Memᴰ e (onto steps past)
unfolding onto
onto-mem [] past m = m
onto-mem (s ∷ steps) past m = onto-mem steps (s ∷ past) (Memᴰ.tail m)

onto-rises : (steps : List Step) (past : Past) → Rises (onto steps past) → Rises past
unfolding onto
onto-rises [] past h = h
onto-rises (s ∷ steps) past h = earlier s (onto-rises steps (s ∷ past) h)
  where
    earlier : (s : Step) → Rises (s ∷ past) → Rises past
    earlier (event zero r) h = h.1
    earlier (event (suc a) r) h = h
    earlier (opening p) h = h
    earlier (closing p) h = h
    earlier (retiring r) h = h

-- what a trace creates is dynamic
created-dynamic : (r : ℕ) (past : Past) → PastOk past → Created r past → statics ≤ r
created-dynamic r [] h m = absurd (Memᴰ.not-nil m)
created-dynamic r (event a x ∷ past) (inl t, h) m =
    by_cases (member-event m) (λ (e : (create ≡ a) × (r ≡ x)). let l = t.1 in let z = e.1 in omega arith) (λ i. created-dynamic r past h i)
created-dynamic r (event a x ∷ past) (inr t, h) m =
    by_cases (member-event m) (λ (e : (create ≡ a) × (r ≡ x)). absurd (let l = t.0 in let z = e.0 in omega arith))
    (λ i. created-dynamic r past h i)
created-dynamic r (opening p ∷ past) h m = created-dynamic r past h.1 (member-opening m)
created-dynamic r (closing p ∷ past) h m = created-dynamic r past h.1 (member-closing m)
created-dynamic r (retiring x ∷ past) h m = absurd h.0

-- ── A step of a trace, as the judge reads it ──

-- its numbers are in range
step_fits : (step : Step) (past : Past) → StepOk step past → Low (step ∷ past) → Fits step
step_fits (event a r) past (inl t) low = (let e = t.0 in omega arith, low.low a r (Memᴰ.head refl))
step_fits (event a r) past (inr t) low = (t.1, low.low a r (Memᴰ.head refl))
step_fits (opening p) past h low = h
step_fits (closing p) past h low = h.2
step_fits (retiring _) past h low = elim h [ ]

step-read : (step : Step) → Fits step → step_of (raw_of step) ≡ some step
unfolding step_of
step-read (event a r) (l, k) = rw (
  le-leb 0 a (omega arith),
  le-leb a 31 (omega arith),
  le-leb 0 r (omega arith),
  le-leb r (resources - 1)
      (omega arith),
)
step-read (opening p) l = rw (le-leb 0 p (omega arith), le-leb p 7 (omega arith))
step-read (closing p) l = rw (le-leb 0 p (omega arith), le-leb p 7 (omega arith))
step-read (retiring r) l = rw (le-leb 0 r (omega arith), le-leb r (resources - 1) (omega arith))

-- a create of the trace is above all that it created before
abbrev Above : Step → Past → Type 0
Above (event zero r) past = highest past < r
Above (event (suc a) r) past = Unit {0}
Above (opening p) past = Unit {0}
Above (closing p) past = Unit {0}
Above (retiring r) past = Unit {0}

step-above : (step : Step) (past : Past) → Rises (step ∷ past) → Above step past
step-above (event zero r) past h = h.0
step-above (event (suc a) r) past h = tt
step-above (opening p) past h = tt
step-above (closing p) past h = tt
step-above (retiring r) past h = tt

-- The only numbers that can refuse it are those of the limits, with retirings before it or without, but of what it is on.
only-beyond : (step : Step) (past : Past) (n : ℕ) → StepOk step (thinned past) → Above step (thinned past)
    → ((a r : ℕ) → step ≡ event a r → Retired r past → ⊥) → CaseOf past step n → Beyond past step n
only-beyond (event zero r) past n (inl t) up free (inl (e, l)) = absurd (let h = t.1 in omega arith)
only-beyond (event zero r) past n (inl t) up free (inr (inl (e, l))) = absurd (let h = thinned-highest past in omega arith)
only-beyond (event zero r) past n (inl t) up free (inr (inr (e, l))) = subst (Beyond past (event create r)) (sym e) (create_beyond l)
only-beyond (event zero r) past n (inr t) up free c = absurd (let h = t.0 in omega arith)
only-beyond (event (suc a) r) past n (inl t) up free c = absurd (let h = t.0 in omega arith)
only-beyond (event (suc a) r) past n (inr (one, two, inl l)) up free (e, k, m) = absurd (omega arith)
only-beyond (event (suc a) r) past n (inr (one, two, inr h)) up free (e, k, m) =
    absurd (m (created-live r past ((thinned-event create r past).0 h) (free (suc a) r refl)))
only-beyond (opening p) past n h up free (e, l) = subst (Beyond past (opening p)) (sym e) (opening_beyond l)
only-beyond (closing p) past n h up free (inl (e, m)) = absurd (m ((thinned-open p past).0 h.0))
only-beyond (closing p) past n h up free (inr (e, o, m)) =
    absurd (m (ap (λ (l : List ℕ). get_elem? l 0) (sym (thinned-stack past)) ∙ h.1))
only-beyond (retiring r) past n h up free c = absurd h

-- a step has at most one of them
beyond-once : {past : Past} {step : Step} {n m : ℕ} → Beyond past step n → Beyond past step m → n ≡ m
beyond-once (create_beyond l) (create_beyond k) = refl
beyond-once (opening_beyond l) (opening_beyond k) = refl

beyond-case : {past : Past} {raw : RawStep} {step : Step} {n : ℕ} → step_of raw ≡ some step → Beyond past step n → Case past false raw n
beyond-case e (create_beyond l) = too_many e l
beyond-case e (opening_beyond l) = too_deep e l

beyond? : (step : Step) (past : Past) → ((n : ℕ) × Beyond past step n) ⊎ ((n : ℕ) → Beyond past step n → ⊥)
beyond? (event zero r) past = go (dec_le most_created (length (live_in past)))
  where
    none-else : (most_created ≤ length (live_in past) → ⊥) → (n : ℕ) → Beyond past (event zero r) n → ⊥
    none-else d n (create_beyond l) = d l

    go : Dec (most_created ≤ length (live_in past)) → ((n : ℕ) × Beyond past (event zero r) n) ⊎ ((n : ℕ) → Beyond past (event zero r) n → ⊥)
    go (yes l) = inl (30, create_beyond l)
    go (no d) = inr (none-else d)
beyond? (event (suc a) r) past = inr none_other
  where
    none_other : (n : ℕ) → Beyond past (event (suc a) r) n → ⊥
    none_other n = elim [ ]
beyond? (opening p) past = go (dec_le most_unclosed (length (open_stack past)))
  where
    none-else : (most_unclosed ≤ length (open_stack past) → ⊥) → (n : ℕ) → Beyond past (opening p) n → ⊥
    none-else d n (opening_beyond l) = d l

    go : Dec (most_unclosed ≤ length (open_stack past))
        → ((n : ℕ) × Beyond past (opening p) n) ⊎ ((n : ℕ) → Beyond past (opening p) n → ⊥)
    go (yes l) = inl (32, opening_beyond l)
    go (no d) = inr (none-else d)
beyond? (closing p) past = inr none_other
  where
    none_other : (n : ℕ) → Beyond past (closing p) n → ⊥
    none_other n = elim [ ]
beyond? (retiring r) past = inr none_other
  where
    none_other : (n : ℕ) → Beyond past (retiring r) n → ⊥
    none_other n = elim [ ]

-- ── The judgement of a refused step ──

refused-is : (a : Answer Reason) (r : Reason) → verdict_of a ≡ refused (number_of r) → a ≡ Refused r
refused-is Allowed r e = cc
refused-is (Violated p) r e = cc
refused-is (Refused m) r e = let same : number_of m ≡ number_of r = cc in ap Refused (reason-one same)

kept-refused : (s t : State) (a : Answer Reason) (r : Reason) → a ≡ Refused r → Kept s a t → t ≡ s
kept-refused s t a r e k = subst (λ (b : Answer Reason). Kept s b t) e k

-- a step beyond the judge's limits is refused with one of two reasons
reason-of : {past : Past} {step : Step} {n : ℕ} → Beyond past step n → (r : Reason) × (number_of r ≡ n)
reason-of (create_beyond l) = (TooManyLive, refl)
reason-of (opening_beyond l) = (TooManyOpen, refl)

refused-whole : (j : Judgement) (s : State) (r : Reason) → j.answer ≡ Refused r → j.state ≡ s → j ≡ refuse r s
unfolding refuse
refused-whole j s r e k = λ i. record { answer = e i; state = k i }

-- ── The theorem ──

-- no trace retires anything
not-retiring : (step : Step) (past : Past) → StepOk step past → (r : ℕ) → step ≡ retiring r → ⊥
not-retiring step past ok r e = subst (λ (s : Step). StepOk s past) e ok

module _ (t : List ℕ) (table : is_edge_table t ≡ true) (local : Bool) (ns : List Node) (ok : OutlineOk ns)
    (none_left : (p : ℕ) → Leaves local (edges_of t) ns p → ⊥) where
  -- a trace goes on with these steps after this past, whose retirings are left out of it
  record Ahead (past : Past) (steps : List Step) : Type 0 where
    trace : IsTrace ns (onto steps (thinned past))
    low : Low (onto steps (thinned past))
    rising : Rises (onto steps (thinned past))
    finished : (r : ℕ) → Retired r past → (a : ℕ) → Memᴰ (event a r) steps → ⊥

  -- ── A step of the trace ──

  module _ (past : Past) (step : Step) (steps : List Step) (h : Ahead past (step ∷ steps)) where
    begun : IsTrace ns (step ∷ thinned past)
    unfolding onto
    begun = onto-trace ns steps (step ∷ thinned past) h.trace

    fine : StepOk step (thinned past)
    fine = (trace-ok ns ok {past = step ∷ thinned past} begun).0

    same : thinned (step ∷ past) ≡ step ∷ thinned past
    same = thinned-step past step (not-retiring step (thinned past) fine)

    reads : step_of (raw_of step) ≡ some step
    unfolding onto
    reads =
        step-read step
        (step_fits step (thinned past) fine (record { low = λ a r m. h.low.low a r (onto-mem steps (step ∷ thinned past) m) }))

    limits : (n : ℕ) → CaseOf past step n → Beyond past step n
    unfolding onto
    limits n =
        only-beyond step past n fine (step-above step (thinned past) (onto-rises steps (step ∷ thinned past) h.rising))
        (λ a r e m. h.finished r m a (Memᴰ.head (sym e)))

    further : Ahead (step ∷ past) steps
    unfolding onto
    further = record {
      trace = subst (λ (l : Past). IsTrace ns (onto steps l)) (sym same) h.trace;
      low = subst (λ (l : Past). Low (onto steps l)) (sym same) h.low;
      rising = subst (λ (l : Past). Rises (onto steps l)) (sym same) h.rising;
      finished = λ r m a i. h.finished r (before m) a (Memᴰ.tail i);
    }
      where
        before : {r : ℕ} → Retired r (step ∷ past) → Retired r past
        before m = by_cases (Memᴰ.cases_cons m) (λ e. absurd (not-retiring step (thinned past) fine _ (sym e))) (λ i. i)

    respected : (p : ℕ) → Violates local (edges_of t) p (step ∷ past) → ⊥
    respected p v =
        none_left p (
          step ∷ thinned past,
          begun,
          subst (λ (l : Past). Violates local (edges_of t) p l) same ((thinned-violates local (edges_of t) p (step ∷ past)).1 v),
        )

    module _ (s : State) (R : Represents local (edges_of t) past false s) where
      stopped : (more : List Step) (n : Reason) → Beyond past step (number_of n) → Passes t local past s (step ∷ more)
      stopped more n b =
          let r : Refuses past false (raw_of step) (number_of n) = record {
            stated = beyond-case reads b;
            first = λ m l c. absurd (let e = beyond-once b (limits m (case-of reads c)) in omega arith);
          } in
          let a = refused-is (judge_of t local s (raw_of step)).answer n
          (judged-is t table local past false s R (raw_of step) (is_refused_with r)) in
          beyond n b (refused-whole (judge_of t local s (raw_of step)) s n a
          (kept-refused s _ (judge_of t local s (raw_of step)).answer n a (judge-promised t table local past false s R (raw_of step)).kept))

      goes_on : (more : List Step) → ((u : State) → Represents local (edges_of t) (step ∷ past) false u → Passes t local (step ∷ past) u more)
          → Passes t local past s (step ∷ more)
      goes_on more rest = go (beyond? step past)
        where
          go : ((n : ℕ) × Beyond past step n) ⊎ ((n : ℕ) → Beyond past step n → ⊥) → Passes t local past s (step ∷ more)
          go (inl (n, b)) = let (r, e) = reason-of b in stopped more r (subst (Beyond past step) (sym e) b)
          go (inr d) =
              let k = allowed-next t table local past false s R (raw_of step) step reads (λ n c. d n (limits n (case-of reads c))) respected in
              allowed d k.0 (rest (judge_of t local s (raw_of step)).state k.1)

  -- ── A retiring that is added ──

  module _ (past : Past) (r : ℕ) (steps : List Step) (h : Ahead past steps) (made : Created r past) (once : Retired r past → ⊥)
      (last : (a : ℕ) → Memᴰ (event a r) steps → ⊥) where
    begun-before : IsTrace ns (thinned past)
    begun-before = onto-trace ns steps (thinned past) h.trace

    made-before : Created r (thinned past)
    made-before = (thinned-event create r past).1 made

    reads-retiring : step_of (raw_of (retiring r)) ≡ some (retiring r)
    reads-retiring = step-read (retiring r) (h.low.low create r (onto-mem steps (thinned past) made-before))

    taken : (n : ℕ) → CaseOf past (retiring r) n → ⊥
    taken n (e, inl l) = let d = created-dynamic r (thinned past) (trace-ok ns ok {past = thinned past} begun-before) made-before in omega arith
    taken n (e, inr l) = l (created-live r past made once)

    respected-still : (p : ℕ) → Violates local (edges_of t) p (retiring r ∷ past) → ⊥
    unfolding thinned
    respected-still p v = none_left p (thinned past, begun-before, (thinned-violates local (edges_of t) p (retiring r ∷ past)).1 v)

    retired-ahead : Ahead (retiring r ∷ past) steps
    unfolding thinned
    retired-ahead = record {
      trace = h.trace;
      low = h.low;
      rising = h.rising;
      finished = λ x m a i. by_cases (Memᴰ.cases_cons m)
          (λ (e : retiring x ≡ retiring r). last a (subst (λ (y : ℕ). Memᴰ (event a y) steps) (cc) i)) (λ d. h.finished x d a i);
    }

    goes-on-retired : (s : State) → Represents local (edges_of t) past false s → (more : List Step)
        → ((u : State) → Represents local (edges_of t) (retiring r ∷ past) false u → Passes t local (retiring r ∷ past) u more)
        → Passes t local past s (retiring r ∷ more)
    goes-on-retired s R more rest =
        let k =
        allowed-next t table local past false s R (raw_of (retiring r)) (retiring r) reads-retiring (λ n c. taken n (case-of reads-retiring c))
        respected-still in
        allowed none-beyond k.0 (rest (judge_of t local s (raw_of (retiring r))).state k.1)
      where
        none-beyond : (n : ℕ) → Beyond past (retiring r) n → ⊥
        none-beyond n = elim [ ]

  passes : {past : Past} {steps more : List Step} → Added past steps more → (s : State) → Represents local (edges_of t) past false s
      → Ahead past steps → Passes t local past s more
  passes all_added s R h = ended
  passes (step_kept {past} {step} {steps} {more} rest) s R h =
      goes_on past step steps h s R more (λ u k. passes rest u k (further past step steps h))
  passes (retiring_added {past} {r} {steps} {more} made once last rest) s R h =
      goes-on-retired past r steps h made once last s R more (λ u k. passes rest u k (retired-ahead past r steps h made once last))

  -- What the check accepts, the judge never halts.
  pub never_halted : NeverHalted t local ns
  unfolding thinned
  never_halted steps more tr low rising added =
      passes added start_state (begin-represents local (edges_of t))
      (record { trace = tr; low = low; rising = rising; finished = λ r m. absurd (Memᴰ.not-nil m) })

-- in particular where nothing is retired
pub none-added : (past : Past) (steps : List Step) → Added past steps steps
none-added past [] = all_added
none-added past (step ∷ steps) = step_kept (none-added (step ∷ past) steps)
