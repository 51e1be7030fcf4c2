-- The number that the judge's definition refuses a step with is the lowest whose case the past makes it.
use Prim.Native.Nat.{ℕ, zero, suc, ◌<◌, ◌≤◌}
use mathlib.Core.Path.{◌≡◌, refl, sym, ap, ◌∙◌}
use mathlib.Core.Bool.{Bool, true, false, not, ◌&&◌, ◌||◌, cond}
use mathlib.Core.List.{List}
use mathlib.Core.Logic.{◌⊎◌, inl, inr}
use mathlib.Core.Option.{Option, none, some, some-injective}
use native.Mathlib.Omega.{arith}
use lib.Dec.{eqb, leb, ltb}
use lib.ListN.{length, get_elem?}
use borrow.Author.Tests.{eqb-true, eqb-false, ltb-true, ltb-false, leb-true, leb-false}
use Rattle.usage.specs.declared.Edge.{Edge}
use Rattle.usage.specs.declared.RawStep.{RawStep}
use Rattle.usage.specs.Limits.{statics, policies, most_created, most_unclosed}
use Rattle.usage.specs.Past.{Step, event, opening, closing, retiring, Past, open_stack, live_in, Live}
use Rattle.usage.specs.Judge.{step_of, Case, is_halted, no_step, creates_static, not_above, retires_static, not_live, not_created, not_open}
use Rattle.usage.specs.Judge.{not_last, too_many, too_deep}
use Rattle.usage.specs.Judge.{Refuses, Taken}
use Rattle.usage.proofs.Logic.{by_cases, false-true, not-both, or_left, or_right}
use Rattle.usage.proofs.JudgeLaws.{CaseOf, case-of, step_fits}
use Rattle.usage.specs.Reasons.{number_of}
use Rattle.usage.specs.declared.Reason.{Reason}
use Rattle.usage.specs.declared.Reason.TheVariants.{CreateStatic, NotLive, NotOpen, NotNewest, NotAbove, RetireNotLive, TooManyLive, TooManyOpen}
use Rattle.monitor_sets.proofs.OrderLaws.{length-stack, stack_top, order-some}
use Rattle.monitor_state.specs.declared.State.{State}
use Rattle.monitor_state.specs.Judge.{live, listed, openings_of, last_opened, refusal}
use Rattle.monitor_state.specs.Represents.{Represents}
use Rattle.monitor_state.proofs.Places.{live-parts, live-length}
use Rattle.monitor_state.proofs.WithoutLaws.{listed-member}
use Rattle.monitor_state.proofs.UnclosedLaws.{unclosed-parts, open-count-pos, count-pos-open}
use Rattle.monitor_state.proofs.Preserve.{Ready}

-- ── Nothing else is asked of a step: 20 and 21 ──

-- the least number is that of a halted state
case-from : {past : Past} {h : Bool} {raw : RawStep} {n : ℕ} → Case past h raw n → ((h ≡ true) × (n ≡ 20)) ⊎ (21 ≤ n)
case-from (is_halted e) = inl (e, refl)
case-from (no_step e) = inr (omega arith)
case-from (creates_static e k) = inr (omega arith)
case-from (not_above e k) = inr (omega arith)
case-from (retires_static e k) = inr (omega arith)
case-from (not_live e k) = inr (omega arith)
case-from (not_created e k n) = inr (omega arith)
case-from (not_open e k) = inr (omega arith)
case-from (not_last e k n) = inr (omega arith)
case-from (too_many e k) = inr (omega arith)
case-from (too_deep e k) = inr (omega arith)

pub refuses-halted : (past : Past) (raw : RawStep) → Refuses past true raw 20
refuses-halted past raw =
    record { stated = is_halted refl; first = λ m l c. by_cases (case-from c) (λ k. omega (arith, k.1)) (λ k. omega arith) }

pub refuses-unread : (past : Past) (raw : RawStep) → step_of raw ≡ none → Refuses past false raw 21
refuses-unread past raw none_read =
    record { stated = no_step none_read; first = λ m l c. by_cases (case-from c) (λ k. false-true k.0) (λ k. omega arith) }

-- ── A step that was read ──

-- what the judge's definition finds: a number, with the step's case and none below it, or none and the step can be taken
pub data Settled (past : Past) (s : State) (raw : RawStep) (step : Step) : Option Reason → Type 0 where
  refuses : {r : Reason} → Refuses past false raw (number_of r) → Settled past s raw step (some r)
  takes : Taken past false raw → Ready s step → Settled past s raw step none

module _ (local : Bool) (es : List Edge) (past : Past) (h : Bool) (s : State) (R : Represents local es past h s) (raw : RawStep) where
  -- what is live is listed, and no other
  present : (r : ℕ) → listed r (live s.created) ≡ true → Live r past
  present r e = (listed-member r (live_in past)).0 (ap (listed r) (sym R.created.lives) ∙ e)

  absent : (r : ℕ) → listed r (live s.created) ≡ false → Live r past → ⊥
  absent r e m = not-both (listed r (live s.created)) (ap (listed r) R.created.lives ∙ (listed-member r (live_in past)).1 m) e

  number : length (live_in past) ≡ s.created.count
  number = ap length (sym R.created.lives) ∙ live-length s.created R.created.numbers_length (live-parts s.created R.created.well)

  settled-create : (r : ℕ) → step_of raw ≡ some (event 0 r) → (b : Bool) → ltb r statics ≡ b → (c : Bool) → leb r s.created.highest ≡ c
      → (d : Bool) → leb most_created s.created.count ≡ d
      → Settled past s raw (event 0 r) (cond b (some CreateStatic) (cond c (some NotAbove) (cond d (some TooManyLive) none)))
  settled-create r e true b c m d f =
      refuses (record { stated = creates_static e (ltb-true r statics b); first = λ n l k. low n l (case-of e k) })
    where
      low : (n : ℕ) → n < 22 → CaseOf past (event 0 r) n → ⊥
      low n l (inl k) = omega (arith, k.0)
      low n l (inr (inl k)) = omega (arith, k.0)
      low n l (inr (inr k)) = omega (arith, k.0)
  settled-create r e false b true m d f =
      refuses (record {
        stated = not_above e (let z = leb-true r s.created.highest m in omega (arith, R.created.most));
        first = λ n l k. low n l (case-of e k);
      })
    where
      low : (n : ℕ) → n < 27 → CaseOf past (event 0 r) n → ⊥
      low n l (inl k) = omega (arith, k.1, ltb-false r statics b)
      low n l (inr (inl k)) = omega (arith, k.0)
      low n l (inr (inr k)) = omega (arith, k.0)
  settled-create r e false b false m true f =
      refuses (record {
        stated = too_many e (let z = leb-true most_created s.created.count f in omega (arith, number));
        first = λ n l k. low n l (case-of e k);
      })
    where
      low : (n : ℕ) → n < 30 → CaseOf past (event 0 r) n → ⊥
      low n l (inl k) = omega (arith, k.1, ltb-false r statics b)
      low n l (inr (inl k)) = omega (arith, k.1, R.created.most, leb-false r s.created.highest m)
      low n l (inr (inr k)) = omega (arith, k.0)
  settled-create r e false b false m false f =
      takes (λ n k. none-holds n (case-of e k)) (ltb-false r statics b, leb-false r s.created.highest m, leb-false most_created s.created.count f)
    where
      none-holds : (n : ℕ) → CaseOf past (event 0 r) n → ⊥
      none-holds n (inl k) = omega (arith, k.1, ltb-false r statics b)
      none-holds n (inr (inl k)) = omega (arith, k.1, R.created.most, leb-false r s.created.highest m)
      none-holds n (inr (inr k)) = omega (arith, k.1, number, leb-false most_created s.created.count f)

  settled-event : (a r : ℕ) → step_of raw ≡ some (event (suc a) r) → (b : Bool) → ltb r statics ≡ b → (c : Bool) → listed r (live s.created) ≡ c
      → Settled past s raw (event (suc a) r) (cond (b || c) none (some NotLive))
  settled-event a r e true b c m =
      takes (λ n k. let l : statics ≤ r = (case-of e k).1 in omega (arith, ltb-true r statics b))
      (or_left (ltb r statics) (listed r (live s.created)) b)
  settled-event a r e false b true m = takes (λ n k. (case-of e k).2 (present r m)) (or_right (ltb r statics) (listed r (live s.created)) m)
  settled-event a r e false b false m =
      refuses (record {
        stated = not_created e (ltb-false r statics b) (absent r m);
        first = λ n l k. let z : n ≡ 24 = (case-of e k).0 in
            omega arith;
      })

  -- as many openings are unclosed as the order has
  stack-length : length (open_stack past) ≡ s.unclosed.depth
  stack-length = ap length (sym R.unclosed.stack) ∙ length-stack s.unclosed.depth s.unclosed.order

  settled-opening : (p : ℕ) → step_of raw ≡ some (opening p) → (b : Bool) → leb most_unclosed s.unclosed.depth ≡ b
      → Settled past s raw (opening p) (cond b (some TooManyOpen) none)
  settled-opening p e true b =
      refuses (record {
        stated = too_deep e (omega (arith, leb-true most_unclosed s.unclosed.depth b, stack-length));
        first = λ n l k. let z : n ≡ 32 = (case-of e k).0 in omega arith;
      })
  settled-opening p e false b =
      takes (λ n k. let z : most_unclosed ≤ length (open_stack past) = (case-of e k).1 in
      omega (arith, leb-false most_unclosed s.unclosed.depth b, stack-length)) (leb-false most_unclosed s.unclosed.depth b)

  -- the policy opened last, where something is open
  last-is : (p : ℕ) → p < policies → 0 < openings_of s.unclosed p → get_elem? (open_stack past) 0 ≡ some (last_opened s.unclosed)
  last-is p l o =
      let w = unclosed-parts s.unclosed R.unclosed.well in
      ap (λ (l : List ℕ). get_elem? l 0)
      (sym R.unclosed.stack ∙ stack_top s.unclosed.depth s.unclosed.order (order-some s.unclosed.depth s.unclosed.order s.unclosed.counts w p l o) refl)

  settled-closing : (p : ℕ) → step_of raw ≡ some (closing p) → (b : Bool) → ltb 0 (openings_of s.unclosed p) ≡ b
      → (c : Bool) → eqb (last_opened s.unclosed) p ≡ c
      → Settled past s raw (closing p) (cond b (cond c none (some NotNewest)) (some NotOpen))
  settled-closing p e true b true c =
      let l : 0 < openings_of s.unclosed p = ltb-true 0 (openings_of s.unclosed p) b in
      let last : last_opened s.unclosed ≡ p = eqb-true (last_opened s.unclosed) p c in
      takes (λ n k. by_cases (case-of e k) (λ t. t.1 (count-pos-open past s.unclosed R.unclosed p l))
      (λ t. t.2 (last-is p (step_fits raw (closing p) e) l ∙ ap some last))) (l, last)
  settled-closing p e true b false c =
      let l : 0 < openings_of s.unclosed p = ltb-true 0 (openings_of s.unclosed p) b in
      let o = count-pos-open past s.unclosed R.unclosed p l in
      refuses (record {
        stated = not_last e o (λ t. eqb-false (last_opened s.unclosed) p c
            (some-injective _ _ (sym (last-is p (step_fits raw (closing p) e) l) ∙ t)));
        first = λ n k c. by_cases (case-of e c) (λ t. t.1 o) (λ t. omega (arith, t.0));
      })
  settled-closing p e false b c f =
      refuses (record {
        stated = not_open e (λ o. let z = open-count-pos past s.unclosed R.unclosed p o in omega (arith, ltb-false 0 (openings_of s.unclosed p) b));
        first = λ n l k. by_cases (case-of e k) (λ t. omega (arith, t.0)) (λ t. omega (arith, t.0));
      })

  settled-retiring : (r : ℕ) → step_of raw ≡ some (retiring r) → (b : Bool) → ltb r statics ≡ b → (c : Bool) → listed r (live s.created) ≡ c
      → Settled past s raw (retiring r) (cond (not b && c) none (some RetireNotLive))
  settled-retiring r e true b c m =
      refuses (record { stated = retires_static e (ltb-true r statics b); first = λ n l k. let z : n ≡ 28 = (case-of e k).0 in omega arith })
  settled-retiring r e false b true m =
      takes (λ n k. by_cases (case-of e k).1 (λ l. let z = ltb-false r statics b in omega arith) (λ d. d (present r m))) m
  settled-retiring r e false b false m =
      refuses (record { stated = not_live e (absent r m); first = λ n l k. let z : n ≡ 28 = (case-of e k).0 in omega arith })

  pub settled : (step : Step) → step_of raw ≡ some step → Settled past s raw step (refusal s step)
  unfolding refusal
  settled (event zero r) e = settled-create r e (ltb r statics) refl (leb r s.created.highest) refl (leb most_created s.created.count) refl
  settled (event (suc a) r) e = settled-event a r e (ltb r statics) refl (listed r (live s.created)) refl
  settled (opening p) e = settled-opening p e (leb most_unclosed s.unclosed.depth) refl
  settled (closing p) e = settled-closing p e (ltb 0 (openings_of s.unclosed p)) refl (eqb (last_opened s.unclosed) p) refl
  settled (retiring r) e = settled-retiring r e (ltb r statics) refl (listed r (live s.created)) refl
