-- The judge's answer to a step, over the parts of a state.
use Prim.Native.Nat.{ℕ, zero, suc, ◌+◌, ◌<◌, ◌≤◌}
use mathlib.Core.Path.{◌≡◌, refl, sym, ap, ap₂, ◌∙◌}
use mathlib.Core.Bool.{Bool, true, false, ◌&&◌, cond}
use mathlib.Core.List.{List}
use mathlib.Core.Option.{none, some}
use native.Mathlib.Numerals.{add-one}
use native.Mathlib.Omega.{arith}
use borrow.Author.Tests.{ne_eqb, le-ltb, lt-ltb, ltb-true, ltb-false, le-leb, leb-true}
use lib.Dec.{eqb, ltb, leb}
use lib.ListN.{length, take, set}
use lib.Seq.{length-take-le, take-suc-set}
use Rattle.usage.specs.declared.Edge.{Edge}
use Rattle.usage.specs.declared.RawStep.{RawStep}
use Rattle.usage.specs.Limits.{statics, most_created}
use Rattle.usage.specs.Past.{Step, event, retiring}
use Rattle.usage.specs.Judge.{step_of}
use Rattle.usage.specs.Tables.{edges_of}
use Rattle.sheet_fields.specs.TableTest.{table_tested}
use Rattle.sheet_fields.proofs.EdgeLaws.{some-table}
use Rattle.monitor_pairs.specs.Which.{blocks_of}
use Rattle.usage.proofs.Logic.{and_left, and_right}
use Rattle.usage.specs.declared.Reason.{Reason}
use Rattle.usage.specs.declared.Reason.TheVariants.{NoStep, RetireNotLive}
use Rattle.automaton.specs.Mask.{lowest_in}
use Rattle.monitor_state.specs.declared.Created.{Created}
use Rattle.monitor_state.specs.declared.State.{State}
use Rattle.monitor_state.specs.declared.Sizes.{Sizes}
use Rattle.monitor_state.specs.declared.Told.{Told}
use Rattle.monitor_state.specs.declared.Answer.TheVariants.{Allowed, Violated, Refused}
use Rattle.monitor_state.specs.Created.{listed, live, used, live_ok, place_from, place_of, with_new}
use Rattle.monitor_state.specs.Tracked.{copied, moved_sets, gathered, copied_in, moved_in}
use Rattle.monitor_state.specs.Judge.{unclosed_ok, state_ok_lem, with_tracked, creating, moving, after, refusal, refuse, halt, settle}
use Rattle.monitor_state.specs.Looked.{broken_among, judge_read_by, looked_at}
use Rattle.monitor_sets.specs.Instances.{unseen, first_created_lem, instances}
use Rattle.monitor_sets.specs.Created.{created_ok, highest_ok, place_in}
use Rattle.monitor_sets.specs.Order.{order_ok_lem}
use Rattle.monitor_sets.specs.Code.{broken_bit_lem, broken_in, event_sets}
use Rattle.monitor_pairs.specs.Blocks.{pairs_of, blocks_moved, blocks_created, with_gathered}
use Rattle.monitor_state.specs.Code.{event_blocks, event_possible}
use Rattle.monitor_state.specs.Code.{Lent, lent_of, state_of, judgement_of, sizes_of, halted_sizes, told_of}
use Rattle.std.specs.Prelude.{Some}
use Rattle.monitor_state.proofs.ListLaws.{every-at, place-absent, place-new}
use Rattle.monitor_state.proofs.WithoutLaws.{place-from}
use Rattle.monitor_state.proofs.Places.{place-static, place-dynamic, place-lt, is_known}
use Rattle.monitor.specs.declared.lent.Rules.{Rules}
use Rattle.monitor.specs.Loans.{stepped_by}
use Rattle.monitor.proofs.JudgeLaws.{step-refused, step-taken, use-known, retiring-unknown, retiring-static, retiring-free}

-- ── A state by its parts ──

pub cond_same : {A : Type 0} (b : Bool) (x : A) → cond b x x ≡ x
cond_same true x = refl
cond_same false x = refl

-- what 42 asks of what is live, over the arrays
abbrev LiveOk : Lent → Sizes → Bool
LiveOk l z = created_ok z.count l.numbers && highest_ok z.highest z.count l.numbers

module _ (l : Lent) (z : Sizes) where
  pub parts-ok : LiveOk l z ≡ true → order_ok_lem z.depth l.order l.counts ≡ true → state_ok_lem (state_of l z) ≡ true
  unfolding state_ok_lem live_ok unclosed_ok
  parts-ok w o = rw (w, o)

  pub live-bad : LiveOk l z ≡ false → state_ok_lem (state_of l z) ≡ false
  unfolding state_ok_lem live_ok
  live-bad w = rw w

  pub order-bad : LiveOk l z ≡ true → order_ok_lem z.depth l.order l.counts ≡ false → state_ok_lem (state_of l z) ≡ false
  unfolding state_ok_lem live_ok unclosed_ok
  order-bad w o = rw (w, o)

  pub live-highest : LiveOk l z ≡ true → highest_ok z.highest z.count l.numbers ≡ true
  live-highest w = and_right (created_ok z.count l.numbers) (highest_ok z.highest z.count l.numbers) w

  pub live-few : LiveOk l z ≡ true → z.count ≤ most_created
  unfolding created_ok
  live-few w = leb-true z.count most_created
      (and_left (leb z.count most_created) _ (and_left (created_ok z.count l.numbers) (highest_ok z.highest z.count l.numbers) w))

-- a number above the highest one is that of no live resource
pub new-above : (c : Created) (r : ℕ) → highest_ok c.highest c.count c.numbers ≡ true → c.highest < r → listed r (live c) ≡ false
unfolding highest_ok
new-above c r t h = go (listed r (live c)) refl
  where
    go : (b : Bool) → listed r (live c) ≡ b → listed r (live c) ≡ false
    go true e = absurd (let z = leb-true r c.highest (every-at (λ y. leb y c.highest) r (live c) t e) in omega arith)
    go false e = e

parts-broken : (looked : ℕ) (step : Step) (s : State) → broken_among (looked_at looked step) s ≡ broken_in looked s.tracked.possible s.unclosed.counts
unfolding broken_among broken_in broken_bit_lem
parts-broken looked step s = refl

pub parts-place : (c : Created) (x : ℕ) → place_of c x ≡ place_in x (live c)
unfolding place_of place_in
parts-place c x = refl

-- a refusal
pub refused-parts : (l : Lent) (z : Sizes) (n : Reason) (t : Told Reason) → t ≡ record { answer = Refused n; sizes = z }
    → judgement_of t l ≡ refuse n (state_of l z)
unfolding refuse
refused-parts l z n t e = rw e

-- a step that was read and is refused
pub refused-step : (by : Rules) (l : Lent) (z : Sizes) (step : Step) (n : Reason) (t : Told Reason)
    → t ≡ record { answer = Refused n; sizes = z } → refusal (state_of l z) step ≡ some n
    → judgement_of t l ≡ stepped_by by (state_of l z) step
refused-step by l z step n t e f = refused-parts l z n t e ∙ sym (step-refused by.looked by.local (edges_of by.edges.now) (state_of l z) step n f)

-- the answer from the states before and after a step: an array is that of the one after it where nothing is broken
module _ (s t : State) (bad : ℕ) where
  abbrev pub Left : List ℕ → List ℕ → List ℕ → Type 0
  Left new old l = l ≡ cond (eqb bad 0) new old

  settle-parts : judgement_of (told_of bad (sizes_of s) (sizes_of t))
      (lent_of (cond (eqb bad 0) t.tracked.sets s.tracked.sets) (cond (eqb bad 0) t.tracked.pairs s.tracked.pairs)
      (cond (eqb bad 0) t.tracked.possible s.tracked.possible)
      (cond (eqb bad 0) t.created.numbers s.created.numbers) (cond (eqb bad 0) t.unclosed.counts s.unclosed.counts)
      (cond (eqb bad 0) t.unclosed.order s.unclosed.order))
      ≡ settle bad s t
  unfolding settle halt told_of
  settle-parts = go (eqb bad 0)
    where
      go : (b : Bool)
          → judgement_of
          (cond b (record { answer = Allowed; sizes = sizes_of t }) (record { answer = Violated (lowest_in bad); sizes = halted_sizes (sizes_of s) }))
          (lent_of (cond b t.tracked.sets s.tracked.sets) (cond b t.tracked.pairs s.tracked.pairs)
          (cond b t.tracked.possible s.tracked.possible)
          (cond b t.created.numbers s.created.numbers) (cond b t.unclosed.counts s.unclosed.counts)
          (cond b t.unclosed.order s.unclosed.order))
          ≡ cond b (record { answer = Allowed; state = t }) (record { answer = Violated (lowest_in bad); state = halt s })
      go true = refl
      go false = refl

  -- a step that is taken
  pub settled-step : (by : Rules) (step : Step) (u : Told Reason)
      {sets pairs possible numbers counts order : List ℕ}
      → bad ≡ broken_in by.looked t.tracked.possible t.unclosed.counts → refusal s step ≡ none
      → t ≡ after by.local (edges_of by.edges.now) s step → u ≡ told_of bad (sizes_of s) (sizes_of t)
      → Left t.tracked.sets s.tracked.sets sets → Left t.tracked.pairs s.tracked.pairs pairs
      → Left t.tracked.possible s.tracked.possible possible
      → Left t.created.numbers s.created.numbers numbers
      → Left t.unclosed.counts s.unclosed.counts counts → Left t.unclosed.order s.unclosed.order order
      → judgement_of u (lent_of sets pairs possible numbers counts order) ≡ stepped_by by s step
  settled-step by step u b n e told p o q r v w =
      rw (told, p, o, q, r, v, w) settle-parts ∙ ap (λ (k : ℕ). settle k s t) (b ∙ sym (parts-broken by.looked step t))
      ∙ sym (step-taken by.looked by.local (edges_of by.edges.now) s step t n e)

  -- an array that the step does not change
  pub kept : (l : List ℕ) → Left l l l
  kept l = sym (cond_same (eqb bad 0) l)

-- ── What the functions on the sets say, where the bounds hold ──

pub taken : {A : Type 0} (n at : ℕ) (x y : A) → n ≤ instances → at < n → cond (leb n instances && ltb at n) x y ≡ x
taken n at x y h k = simp (le-leb n instances h, lt-ltb at n k)

pub taken-sets : {A : Type 0} (n at bad : ℕ) (x y : A) → n ≤ instances → at < n
    → cond ((leb n instances && ltb at n) && eqb bad 0) x y ≡ cond (eqb bad 0) x y
taken-sets n at bad x y h k = simp (le-leb n instances h, lt-ltb at n k)

pub retire-done : {A : Type 0} (n at : ℕ) (x y : A) → n ≤ instances → at < n → first_created_lem ≤ at
    → cond (leb n instances && (ltb at n && leb first_created_lem at)) x y ≡ x
retire-done n at x y h k l = simp (le-leb n instances h, lt-ltb at n k, le-leb first_created_lem at l)

pub close-done : {A : Type 0} (n i : ℕ) (x y : A) → n ≤ most_created → i < n → cond (leb n most_created && ltb i n) x y ≡ x
close-done n i x y h k = simp (le-leb n most_created h, lt-ltb i n k)

-- ── Events ──

-- the state with other sets, and with other created resources
abbrev pub moved_to : State → List ℕ → List ℕ → List ℕ → Created → State
moved_to s sets pairs possible c =
    record {
      tracked = record { sets = sets; pairs = pairs; possible = possible };
      created = c;
      unclosed = s.unclosed;
      halted = s.halted;
    }

module _ (local : Bool) (es : List Edge) (s : State) (r : ℕ) where
  -- the place of a resource that is created now
  place-made : (c : Created) → c.count < length c.numbers → statics ≤ r → listed r (live c) ≡ false
      → place_in r (take (c.count + 1) (set c.numbers c.count r)) ≡ first_created_lem + c.count
  unfolding place_in
  place-made c h d l =
      simp (
        le-ltb r statics d,
        add-one c.count,
        take-suc-set c.numbers c.count r h,
        place-new r first_created_lem (live c) l,
        length-take-le c.count c.numbers (omega arith),
      )

  pub create-after : s.created.count < length s.created.numbers → statics ≤ r → listed r (live s.created) ≡ false
      → (let n = first_created_lem + s.created.count + 1 in
      let at = first_created_lem + s.created.count in
      moved_to s (event_sets es 0 r at n s.tracked.sets) (event_blocks es 0 r at n s.tracked.pairs)
      (event_possible es 0 r at n s.tracked.sets s.tracked.pairs) (with_new s.created r)
      ≡ after local es s (event 0 r))
  unfolding after event_sets event_blocks event_possible with_tracked moving creating moved_in copied_in with_new place_of place_in
  create-after h d l =
      let c = s.created in
      let m : first_created_lem + c.count + 1 ≡ first_created_lem + (c.count + 1) = omega arith in
      let moved : ℕ → ℕ → List ℕ = λ (i n : ℕ). moved_sets es 0 r i n (copied s.tracked.sets (first_created_lem + c.count)) in
      let blocks : ℕ → ℕ → List ℕ = λ (i n : ℕ). blocks_moved es 0 r i n (blocks_created es (first_created_lem + c.count) s.tracked.pairs) in
      ap₂ (λ (i n : ℕ). moved_to s (moved i n) (blocks i n) (with_gathered (pairs_of es) n (blocks i n) (gathered n (moved i n))) (with_new c r))
      (sym (place-made c h d l)) m

  pub event-after : (a at : ℕ) → (a ≡ 0 → ⊥) → at ≡ place_in r (live s.created)
      → moved_to s (event_sets es a r at (used s.created) s.tracked.sets) (event_blocks es a r at (used s.created) s.tracked.pairs)
      (event_possible es a r at (used s.created) s.tracked.sets s.tracked.pairs) s.created
      ≡ after local es s (event a r)
  unfolding after event_sets event_blocks event_possible with_tracked moving moved_in place_of place_in
  event-after zero at n p = absurd (n refl)
  event-after (suc a) at n p = rw p (simp (ne_eqb (suc a) 0 n))

  pub event-free : (a at : ℕ) → (a ≡ 0 → ⊥) → at ≡ place_in r (live s.created) → (at ≡ unseen → ⊥) → refusal s (event a r) ≡ none
  event-free a at n p k = use-known s r a n (is_known s.created r (λ q. k (p ∙ sym (parts-place s.created r) ∙ q)))

-- ── Retirings ──

module _ (s : State) (r at : ℕ) (p : at ≡ place_in r (live s.created)) where
  at-dynamic : statics ≤ r → at ≡ place_from r first_created_lem (live s.created)
  at-dynamic d = p ∙ sym (parts-place s.created r) ∙ place-dynamic s.created r d

  pub retiring-low : at < first_created_lem → refusal s (retiring r) ≡ some RetireNotLive
  retiring-low h = go (ltb r statics) refl (listed r (live s.created)) refl
    where
      go : (b : Bool) → ltb r statics ≡ b → (c : Bool) → listed r (live s.created) ≡ c → refusal s (retiring r) ≡ some RetireNotLive
      go true b c m = retiring-static s r (ltb-true r statics b)
      go false b true m =
          absurd (let z = at-dynamic (ltb-false r statics b) in omega (arith, place-from r first_created_lem (live s.created) m))
      go false b false m = retiring-unknown s r (rw b m)

  -- a resource whose place is that of a live one
  pub retiring-high : first_created_lem ≤ at → (statics ≤ r) × (listed r (live s.created) ≡ true)
  retiring-high h = go (ltb r statics) refl (listed r (live s.created)) refl
    where
      go : (b : Bool) → ltb r statics ≡ b → (c : Bool) → listed r (live s.created) ≡ c → (statics ≤ r) × (listed r (live s.created) ≡ true)
      go true b c m =
          let l = ltb-true r statics b in
          let z : at ≡ r = p ∙ sym (parts-place s.created r) ∙ place-static s.created r l in
          absurd (omega arith)
      go false b true m = (ltb-false r statics b, m)
      go false b false m =
          let z : at ≡ unseen = at-dynamic (ltb-false r statics b) ∙ place-absent r first_created_lem (live s.created) m in
          absurd (omega arith)

  pub retiring-taken : first_created_lem ≤ at → refusal s (retiring r) ≡ none
  retiring-taken h = let k = retiring-high h in retiring-free s r k.0 k.1

  -- its instance is one of those in use
  pub retiring-used : at < first_created_lem + s.created.count
  retiring-used = omega (arith, p, parts-place s.created r, place-lt s.created r)

-- ── The step as it is handed over ──

pub read_is : (by : Rules) (s : State) (step : Step) (raw : RawStep) → step_of raw ≡ some step
    → stepped_by by s step ≡ judge_read_by (looked_at by.looked) by.local (edges_of by.edges.now) s (step_of raw)
unfolding judge_read_by
read_is by s step raw e = rw e

pub unread-is : (looked : ℕ) (local : Bool) (es : List Edge) (s : State) (raw : RawStep)
    → step_of raw ≡ none → refuse NoStep s ≡ judge_read_by (looked_at looked) local es s (step_of raw)
unfolding judge_read_by
unread-is looked local es s raw e = rw e

-- a table that passes 41 tells its pair policies
pub pairs-told : (t : List ℕ) (m : ℕ) → table_tested t ≡ Some m → blocks_of m ≡ pairs_of (edges_of t)
pairs-told t m e = ap blocks_of (some-table t m e).1
