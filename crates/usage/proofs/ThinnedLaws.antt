-- A past without its retirings differs only in what is live; so retirings after the last event on what they retire change no other answer
-- before the first 30 (02, L8).
use Prim.Native.Nat.{ℕ, zero, suc, ◌≤◌, max}
use mathlib.Core.Path.{◌≡◌, refl, sym, ap, ◌∙◌, subst}
use mathlib.Core.Bool.{Bool, false}
use mathlib.Core.Option.{Option, none, some}
use mathlib.Core.List.Memᴰ
use mathlib.Core.List.{List, [], ◌∷◌, Memᴰ}
use mathlib.Core.Logic.{◌↔◌}
use native.Mathlib.Omega.{arith}
use native.Mathlib.Decide.{ℕ_discrete}
use lib.Dec.{ltb}
use lib.ListN.{length, length-append, get_elem?}
use Rattle.usage.specs.declared.Edge.{Edge}
use Rattle.usage.specs.declared.RawStep.{RawStep}
use Rattle.usage.specs.Past.{Step, event, opening, closing, retiring, Past, add_if, count, is_opening, is_closing, openings, closings}
use Rattle.usage.specs.Past.{Open, is_open, without, open_stack, live_in, Live, highest, reopened, May, moved, opened, closed}
use Rattle.usage.specs.Past.{retired, Retired, Violates}
use Rattle.usage.specs.Answers.{Verdict, allowed, violated, refused}
use Rattle.usage.specs.Judge.{step_of, Case, is_halted, no_step, creates_static, not_above, retires_static, not_live, not_created}
use Rattle.usage.specs.Judge.{not_open, not_last, too_many, too_deep, Judged, is_refused_with, is_violated, is_allowed}
use Rattle.usage.specs.Judge.{then, past_after, halted_after, JudgedAll, done, next}
use Rattle.usage.specs.Retirings.{thinned, DoneWith, Between, none_between, other_step, one_between, SameOthers}
use Rattle.usage.specs.Retirings.{none_other, same_answer, first_30, passed_over}
use Rattle.usage.proofs.Logic.{clash, by_cases}
use Rattle.usage.proofs.PastLaws.{before-event, before-opening, before-closing, before-retiring, member-opening}
use Rattle.usage.proofs.PastLaws.{member-closing, member-retiring}
use Rattle.usage.proofs.JudgeLaws.{step_same, judged-unique}
use Rattle.usage.proofs.RetiringLaws.{live-created, created-live, without-shorter}

-- ── What stays ──

-- what is counted of openings and closings
module _ (test : Step → Bool) (none-else : (r : ℕ) → test (retiring r) ≡ false) where
  thinned-count : (past : Past) → count test (thinned past) ≡ count test past
  unfolding thinned count
  thinned-count [] = refl
  thinned-count (event a r ∷ past) = ap (add_if (test (event a r))) (thinned-count past)
  thinned-count (opening p ∷ past) = ap (add_if (test (opening p))) (thinned-count past)
  thinned-count (closing p ∷ past) = ap (add_if (test (closing p))) (thinned-count past)
  thinned-count (retiring r ∷ past) = thinned-count past ∙ sym (ap (λ (b : Bool). add_if b (count test past)) (none-else r))

pub thinned-openings : (p : ℕ) (past : Past) → openings p (thinned past) ≡ openings p past
thinned-openings p = thinned-count (is_opening p) (λ r. refl)

pub thinned-closings : (p : ℕ) (past : Past) → closings p (thinned past) ≡ closings p past
thinned-closings p = thinned-count (is_closing p) (λ r. refl)

pub thinned-open : (p : ℕ) (past : Past) → Open p (thinned past) ↔ Open p past
thinned-open p past =
    let o = thinned-openings p past in
    let c = thinned-closings p past in
    (λ l. omega arith, λ l. omega arith)

thinned-is-open : (p : ℕ) (past : Past) → is_open p (thinned past) ≡ is_open p past
thinned-is-open p past =
    ap (λ (n : ℕ). ltb n (openings p (thinned past))) (thinned-closings p past) ∙ ap (ltb (closings p past)) (thinned-openings p past)

pub thinned-stack : (past : Past) → open_stack (thinned past) ≡ open_stack past
unfolding thinned open_stack
thinned-stack [] = refl
thinned-stack (event a r ∷ past) = thinned-stack past
thinned-stack (opening p ∷ past) = ap (λ (l : List ℕ). p ∷ l) (thinned-stack past)
thinned-stack (closing p ∷ past) = ap (without p) (thinned-stack past)
thinned-stack (retiring r ∷ past) = thinned-stack past

pub thinned-highest : (past : Past) → highest (thinned past) ≡ highest past
unfolding thinned highest
thinned-highest [] = refl
thinned-highest (event zero r ∷ past) = ap (max r) (thinned-highest past)
thinned-highest (event (suc a) r ∷ past) = thinned-highest past
thinned-highest (opening p ∷ past) = thinned-highest past
thinned-highest (closing p ∷ past) = thinned-highest past
thinned-highest (retiring r ∷ past) = thinned-highest past

-- its events
pub thinned-event : (a r : ℕ) (past : Past) → Memᴰ (event a r) (thinned past) ↔ Memᴰ (event a r) past
unfolding thinned
thinned-event a r past = (to past, back past)
  where
    to : (past : Past) → Memᴰ (event a r) (thinned past) → Memᴰ (event a r) past
    to [] m = m
    to (event b x ∷ past) m = by_cases (Memᴰ.cases_cons m) (λ (e : event a r ≡ event b x). Memᴰ.head e) (λ i. Memᴰ.tail (to past i))
    to (opening p ∷ past) m = Memᴰ.tail (to past (member-opening m))
    to (closing p ∷ past) m = Memᴰ.tail (to past (member-closing m))
    to (retiring x ∷ past) m = Memᴰ.tail (to past m)

    back : (past : Past) → Memᴰ (event a r) past → Memᴰ (event a r) (thinned past)
    back [] m = m
    back (event b x ∷ past) m =
        by_cases (Memᴰ.cases_cons m) (λ (e : event a r ≡ event b x). Memᴰ.head e) (λ i. Memᴰ.tail (back past i))
    back (opening p ∷ past) m = Memᴰ.tail (back past (member-opening m))
    back (closing p ∷ past) m = Memᴰ.tail (back past (member-closing m))
    back (retiring x ∷ past) m = back past (member-retiring m)

thinned-none : (r : ℕ) (past : Past) → Retired r (thinned past) → ⊥
unfolding thinned
thinned-none r [] m = Memᴰ.not-nil m
thinned-none r (event a x ∷ past) m =
    by_cases (Memᴰ.cases_cons m) (λ (e : retiring r ≡ event a x). clash (cc)) (λ i. thinned-none r past i)
thinned-none r (opening p ∷ past) m =
    by_cases (Memᴰ.cases_cons m) (λ (e : retiring r ≡ opening p). clash (cc)) (λ i. thinned-none r past i)
thinned-none r (closing p ∷ past) m =
    by_cases (Memᴰ.cases_cons m) (λ (e : retiring r ≡ closing p). clash (cc)) (λ i. thinned-none r past i)
thinned-none r (retiring x ∷ past) m = thinned-none r past m

-- ── What is live with the retirings is live without them, and more may be ──

pub live-thinned : (r : ℕ) (past : Past) → Live r past → Live r (thinned past)
live-thinned r past l = created-live r (thinned past) ((thinned-event 0 r past).1 (live-created r past l)) (thinned-none r past)

pub thinned-live : (r : ℕ) (past : Past) → (Retired r past → ⊥) → Live r (thinned past) → Live r past
thinned-live r past n l = created-live r past ((thinned-event 0 r past).0 (live-created r (thinned past) l)) n

pub thinned-number : (past : Past) → length (live_in past) ≤ length (live_in (thinned past))
unfolding thinned live_in
thinned-number [] = omega arith
thinned-number (event zero r ∷ past) =
    let h = thinned-number past in
    omega (arith, length-append (live_in past) (r ∷ []), length-append (live_in (thinned past)) (r ∷ []))
thinned-number (event (suc a) r ∷ past) = thinned-number past
thinned-number (opening p ∷ past) = thinned-number past
thinned-number (closing p ∷ past) = thinned-number past
thinned-number (retiring r ∷ past) = let h = thinned-number past in omega (arith, without-shorter r (live_in past))

-- ── A retiring moves no state ──

module _ {local : Bool} {es : List Edge} {p : ℕ} {sees : ℕ → ℕ → ℕ → Type 0} where
  pub thinned-may : (past : Past) (q : ℕ) → May local es p sees (thinned past) q ↔ May local es p sees past q
  unfolding thinned
  thinned-may [] q = (λ m. m, λ m. m)
  thinned-may (event a r ∷ past) q = (
    λ m. let (q₀, m₀, v) = before-event m in moved ((thinned-may past q₀).0 m₀) v,
    λ m. let (q₀, m₀, v) = before-event m in moved ((thinned-may past q₀).1 m₀) v,
  )
  thinned-may (opening s ∷ past) q = (
    λ m. let (q₀, m₀, f) = before-opening m in
        subst (λ (t : ℕ). May local es p sees (opening s ∷ past) t)
        (ap (λ (o : Bool). reopened local p s o q₀) (sym (thinned-is-open p past)) ∙ f) (opened ((thinned-may past q₀).0 m₀)),
    λ m. let (q₀, m₀, f) = before-opening m in
        subst (λ (t : ℕ). May local es p sees (opening s ∷ thinned past) t)
        (ap (λ (o : Bool). reopened local p s o q₀) (thinned-is-open p past) ∙ f) (opened ((thinned-may past q₀).1 m₀)),
  )
  thinned-may (closing s ∷ past) q = (
    λ m. closed ((thinned-may past q).0 (before-closing m)),
    λ m. closed ((thinned-may past q).1 (before-closing m)),
  )
  thinned-may (retiring r ∷ past) q = (
    λ m. retired ((thinned-may past q).0 m),
    λ m. (thinned-may past q).1 (before-retiring m),
  )

pub thinned-violates : (local : Bool) (es : List Edge) (p : ℕ) (past : Past) → Violates local es p (thinned past) ↔ Violates local es p past
thinned-violates local es p past = (
  λ (o, (xs, i, q, m, f)). ((thinned-open p past).0 o, (xs, i, q, (thinned-may past q).0 m, f)),
  λ (o, (xs, i, q, m, f)). ((thinned-open p past).1 o, (xs, i, q, (thinned-may past q).1 m, f)),
)

-- ── A step that is no retiring ──

pub record Plain (raw : RawStep) : Type 0 where
  pub no-retiring : (r : ℕ) → step_of raw ≡ some (retiring r) → ⊥

-- it is on nothing that is retired
abbrev pub Free : Past → RawStep → Type 0
Free past raw = (a r : ℕ) → step_of raw ≡ some (event a r) → Retired r past → ⊥

module _ (past : Past) (h : Bool) (raw : RawStep) (plain : Plain raw) where
  -- a number that refuses it without the retirings refuses it with them, 30 apart
  case-with : (n : ℕ) → (n ≡ 30 → ⊥) → Case (thinned past) h raw n → Case past h raw n
  case-with n d (is_halted e) = is_halted e
  case-with n d (no_step e) = no_step e
  case-with n d (creates_static e l) = creates_static e l
  case-with n d (not_above e l) = not_above e (let z = thinned-highest past in omega arith)
  case-with n d (retires_static e l) = absurd (plain.no-retiring _ e)
  case-with n d (not_live e m) = absurd (plain.no-retiring _ e)
  case-with n d (not_created {r = r} e l m) = not_created e l (λ i. m (live-thinned r past i))
  case-with n d (not_open {p = p} e m) = not_open e (λ o. m ((thinned-open p past).1 o))
  case-with n d (not_last {p = p} e o m) =
      not_last e ((thinned-open p past).0 o) (λ t. m (ap (λ (l : List ℕ). get_elem? l 0) (thinned-stack past) ∙ t))
  case-with n d (too_many e l) = absurd (d refl)
  case-with n d (too_deep e l) = too_deep e (let z = ap length (thinned-stack past) in omega arith)

  -- and one that refuses it with them refuses it without
  case-without : Free past raw → (n : ℕ) → Case past h raw n → Case (thinned past) h raw n
  case-without f n (is_halted e) = is_halted e
  case-without f n (no_step e) = no_step e
  case-without f n (creates_static e l) = creates_static e l
  case-without f n (not_above e l) = not_above e (let z = thinned-highest past in omega arith)
  case-without f n (retires_static e l) = absurd (plain.no-retiring _ e)
  case-without f n (not_live e m) = absurd (plain.no-retiring _ e)
  case-without f n (not_created {a} {r} e l m) = not_created e l (λ i. m (thinned-live r past (f (suc a) r e) i))
  case-without f n (not_open {p = p} e m) = not_open e (λ o. m ((thinned-open p past).0 o))
  case-without f n (not_last {p = p} e o m) =
      not_last e ((thinned-open p past).1 o) (λ t. m (ap (λ (l : List ℕ). get_elem? l 0) (sym (thinned-stack past)) ∙ t))
  case-without f n (too_many e l) = too_many e (let z = thinned-number past in omega arith)
  case-without f n (too_deep e l) = too_deep e (let z = ap length (thinned-stack past) in omega arith)

-- the past without retirings, with a step that is none
pub thinned-step : (past : Past) (step : Step) → ((r : ℕ) → step ≡ retiring r → ⊥) → thinned (step ∷ past) ≡ step ∷ thinned past
unfolding thinned
thinned-step past (event a r) n = refl
thinned-step past (opening p) n = refl
thinned-step past (closing p) n = refl
thinned-step past (retiring r) n = absurd (n r refl)

module _ (local : Bool) (es : List Edge) (past : Past) (h : Bool) (raw : RawStep) (plain : Plain raw) where
  plain_step : (step : Step) → step_of raw ≡ some step → thinned (step ∷ past) ≡ step ∷ thinned past
  plain_step step e = thinned-step past step (λ r i. plain.no-retiring r (e ∙ ap some i))

  violates-with : (step : Step) → step_of raw ≡ some step → (p : ℕ) → Violates local es p (step ∷ thinned past) ↔ Violates local es p (step ∷ past)
  violates-with step e p =
      subst (λ (l : Past). Violates local es p l ↔ Violates local es p (step ∷ past)) (plain_step step e)
      (thinned-violates local es p (step ∷ past))

  -- the right answer without the retirings, 30 apart, is right with them
  pub judged-with : Free past raw → {v : Verdict} → (v ≡ refused 30 → ⊥) → Judged local es (thinned past) h raw v → Judged local es past h raw v
  judged-with f d (is_refused_with {n = n} r) = is_refused_with (record {
    stated = case-with past h raw plain n (λ e. d (ap refused e)) r.stated;
    first = λ m l c. r.first m l (case-without past h raw plain f m c);
  })
  judged-with f d (is_violated {step} {p} t e x m) =
      is_violated (λ n c. t n (case-without past h raw plain f n c)) e ((violates-with step e p).0 x)
      (λ s l y. m s l ((violates-with step e s).1 y))
  judged-with f d (is_allowed {step} t e x) =
      is_allowed (λ n c. t n (case-without past h raw plain f n c)) e (λ p y. x p ((violates-with step e p).1 y))

  past-with : (v : Verdict) → thinned (past_after past raw v) ≡ past_after (thinned past) raw v
  past-with allowed = go (step_of raw) refl
    where
      go : (o : Option Step) → step_of raw ≡ o → thinned (then o past) ≡ then o (thinned past)
      go none e = refl
      go (some step) e = plain_step step e
  past-with (violated p) = refl
  past-with (refused n) = refl

-- ── A list of steps ──

-- which answer is the first 30
is-30 : (v : Verdict) → Dec (v ≡ refused 30)
is-30 allowed = no (λ e. clash (cc))
is-30 (violated p) = no (λ e. clash (cc))
is-30 (refused n) = go (ℕ_discrete n 30)
  where
    go : Dec (n ≡ 30) → Dec (refused n ≡ refused 30)
    go (yes e) = yes (ap refused e)
    go (no d) = no (λ e. d (cc))

-- what holds of the past with retirings, where these steps are still to come without them
record Begun (local : Bool) (es : List Edge) (past : Past) (raws : List RawStep) : Type 0 where
  finished : (r : ℕ) → Retired r past → DoneWith r raws
  respected : (p : ℕ) → Violates local es p past → ⊥

module _ (local : Bool) (es : List Edge) where
  retired-before : {x : ℕ} {step : Step} {past : Past} → (retiring x ≡ step → ⊥) → Retired x (step ∷ past) → Retired x past
  retired-before n m = by_cases (Memᴰ.cases_cons m) (λ e. absurd (n e)) (λ i. i)

  -- a step that is no retiring
  begun-after : (past : Past) (h : Bool) (raw : RawStep) (raws : List RawStep) (v : Verdict) → Plain raw → Begun local es past (raw ∷ raws)
      → Judged local es past h raw v → Begun local es (past_after past raw v) raws
  begun-after past h raw raws _ plain b (is_refused_with r) = record { finished = λ x m s a i. b.finished x m s a (Memᴰ.tail i); respected = b.respected }
  begun-after past h raw raws _ plain b (is_violated t e x m) =
      record { finished = λ x m s a i. b.finished x m s a (Memᴰ.tail i); respected = b.respected }
  begun-after past h raw raws _ plain b (is_allowed {step} t e x) =
      subst (λ (o : Option Step). Begun local es (then o past) raws) (sym e) (record {
        finished = λ x m s a i. b.finished x (retired-before (λ q. plain.no-retiring x (e ∙ ap some (sym q))) m) s a (Memᴰ.tail i);
        respected = x;
      })

  -- a retiring: it is allowed or refused, and halts nothing
  retiring-after : (past : Past) (h : Bool) (r : ℕ) (raw : RawStep) (raws : List RawStep) (w : Verdict) → step_of raw ≡ some (retiring r)
      → DoneWith r raws → Begun local es past raws → Judged local es past h raw w
      → Begun local es (past_after past raw w) raws × (halted_after h w ≡ h) × (thinned (past_after past raw w) ≡ thinned past)
  unfolding thinned
  retiring-after past h r raw raws _ e d b (is_refused_with k) = (b, refl, refl)
  retiring-after past h r raw raws _ e d b (is_violated {step} {p} t f x m) =
      absurd (b.respected p (same (subst (λ (s : Step). Violates local es p (s ∷ past)) (step_same f e) x)))
    where
      same : Violates local es p (retiring r ∷ past) → Violates local es p past
      same v = (thinned-violates local es p past).0 ((thinned-violates local es p (retiring r ∷ past)).1 v)
  retiring-after past h r raw raws _ e d b (is_allowed {step} t f x) = (
    subst (λ (o : Option Step). Begun local es (then o past) raws) (sym e) (record {
      finished = λ y m. by_cases (Memᴰ.cases_cons m)
          (λ (q : retiring y ≡ retiring r). let z : y ≡ r = cc in subst (λ (n : ℕ). DoneWith n raws) (sym z) d) (λ i. b.finished y i);
      respected = λ p v. x p (subst (λ (s : Step). Violates local es p (s ∷ past)) (step_same e f) v);
    }),
    refl,
    ap (λ (o : Option Step). thinned (then o past)) e,
  )

  -- Retirings after the last event on what they retire change no answer to another step before the first 30 without them.
  agrees : {raws more : List RawStep} → Between raws more → (past : Past) (h : Bool) → Begun local es past raws → {vs ws : List Verdict}
      → JudgedAll local es (thinned past) h raws vs → JudgedAll local es past h more ws → SameOthers raws vs more ws
  agrees none_between past h b done done = none_other
  agrees (other_step {raw} {raws} {more} n rest) past h b (next {v = v} {vs = vs} j js) (next {v = w} {vs = ws} k ks) =
      go (is-30 v) (λ c x y. agrees rest (past_after past raw v) (halted_after h v) c x y)
    where
      plain : Plain raw
      plain = record { no-retiring = n }

      free : Free past raw
      free a r e m = b.finished r m raw a (Memᴰ.head refl) e

      go : Dec (v ≡ refused 30) → (Begun local es (past_after past raw v) raws
          → JudgedAll local es (thinned (past_after past raw v)) (halted_after h v) raws vs
          → JudgedAll local es (past_after past raw v) (halted_after h v) more ws → SameOthers raws vs more ws)
          → SameOthers (raw ∷ raws) (v ∷ vs) (raw ∷ more) (w ∷ ws)
      go (yes e) later = subst (λ (u : Verdict). SameOthers (raw ∷ raws) (u ∷ vs) (raw ∷ more) (w ∷ ws)) (sym e) first_30
      go (no d) later =
          let e : v ≡ w = judged-unique (judged-with local es past h raw plain free d j) k in
          subst (λ (u : Verdict). SameOthers (raw ∷ raws) (v ∷ vs) (raw ∷ more) (u ∷ ws)) e
          (same_answer n (later (begun-after past h raw raws v plain b (subst (Judged local es past h raw) (sym e) k))
          (subst (λ (l : Past). JudgedAll local es l (halted_after h v) raws vs) (sym (past-with local es past h raw plain v)) js)
          (subst (λ (u : Verdict). JudgedAll local es (past_after past raw u) (halted_after h u) more ws) (sym e) ks)))
  agrees (one_between {r} {raw} {raws} {more} e d rest) past h b {vs} js (next {v = w} {vs = ws} k ks) =
      let (c, i, t) = retiring-after past h r raw raws w e d b k in
      passed_over e (agrees rest (past_after past raw w) (halted_after h w) c
      (subst (λ (l : Past). JudgedAll local es l (halted_after h w) raws vs) (sym t)
      (subst (λ (x : Bool). JudgedAll local es (thinned past) x raws vs) (sym i) js)) ks)

  -- in particular from the start
  pub others_same : {raws more : List RawStep} → Between raws more → {vs ws : List Verdict}
      → JudgedAll local es [] false raws vs → JudgedAll local es [] false more ws → SameOthers raws vs more ws
  unfolding thinned count
  others_same b js ks =
      agrees b [] false (record { finished = λ r m. absurd (Memᴰ.not-nil m); respected = λ p v. let l = v.0 in omega arith }) js ks
