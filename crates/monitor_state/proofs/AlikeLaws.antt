-- The judge tells the dynamic resources apart by the order of their numbers alone: a step of a renamed state is the renamed step of the
-- state.
use Prim.Native.Nat.{ℕ, zero, suc, ◌+◌, ◌-◌, ◌/◌, ◌%◌, ◌<◌, ◌≤◌}
use mathlib.Core.Path.{◌≡◌, refl, sym, ap, ap₂, ◌∙◌}
use mathlib.Core.Bool.{Bool, true, false, not, ◌&&◌, ◌||◌, cond}
use mathlib.Core.List.{List, [], ◌∷◌, map, Memᴰ}
use mathlib.Core.Logic.{◌⊎◌, inl, inr}
use mathlib.Core.Option.{Option, none, some}
use native.Mathlib.Omega.{arith}
use native.Mathlib.Decide.{dec_lt}
use lib.Dec.{eqb, leb, ltb, lit<}
use lib.ListN.{get_or, get_elem?, take, set, replicate, get_or-map}
use borrow.Author.Tests.{eq-eqb, ne_eqb, lt-leb, le-leb, leb-true, leb-false, le-ltb, ltb-true, ltb-false}
use Rattle.usage.specs.declared.Edge.{Edge}
use Rattle.usage.specs.declared.RawStep.{RawStep}
use Rattle.usage.specs.Limits.{statics, resources, actions, policies, most_created, within, ◌until◌, unused}
use Rattle.usage.specs.Past.{Step, event, opening, closing, retiring}
use Rattle.usage.specs.Judge.{step_kinds, guard, in_range, step_of}
use Rattle.usage.specs.Tables.{from, edges_of, is_edge_table}
use Rattle.usage.specs.Tests.{every}
use Rattle.usage.proofs.Logic.{by_cases, false-true, and_left, and_right, and_both}
use Rattle.usage.proofs.TableLaws.{from-ext, decides-edge-table}
use Rattle.usage.specs.declared.Reason.{Reason}
use Rattle.usage.specs.declared.Reason.TheVariants.{Halted, NoStep, CreateStatic, NotLive, NotAbove, RetireNotLive, TooManyLive, Table, State as Unfit}
use Rattle.automaton.specs.Mask.{lowest_in}
use Rattle.automaton.proofs.SameLaws.{move_mask-same}
use Rattle.monitor_sets.specs.Instances.{first_created_lem, instances, set_places}
use Rattle.monitor_sets.specs.Created.{behind}
use Rattle.monitor_state.specs.declared.State.{State}
use Rattle.monitor_state.specs.declared.Answer.{Answer}
use Rattle.monitor_state.specs.declared.Answer.TheVariants.{Allowed, Violated}
use Rattle.monitor_state.specs.declared.Judgement.{Judgement}
use Rattle.monitor_state.specs.declared.Created.{Created}
use Rattle.monitor_state.specs.Created.{start_created, live, listed, distinct, dynamic, created_ok, highest_ok, live_ok, place_from, place_in, place_of}
use Rattle.monitor_state.specs.Created.{closed_up, used, with_new, with_retired}
use Rattle.monitor_pairs.specs.declared.Ways.{Ways}
use Rattle.monitor_pairs.specs.Pairs.{event_pairs}
use Rattle.monitor_pairs.specs.Tracked.{event_ways}
use Rattle.monitor_pairs.specs.Blocks.{pairs_of, blocks_moved}
use Rattle.monitor_pairs.proofs.EachLaws.{each_same}
use Rattle.monitor_pairs.proofs.SameWays.{ways-named}
use Rattle.monitor_state.specs.Tracked.{moved_sets, moved_in}
use Rattle.monitor_state.specs.Judge.{start_state, unclosed_ok, state_ok_lem, with_tracked, creating, moving, entering, leaving, releasing, after}
use Rattle.monitor_state.specs.Judge.{broken, refusal, refuse, halt, settle}
use Rattle.monitor_state.specs.Judge.{judge_step, judge_read, judge_of, answers_of}
use Rattle.monitor_state.specs.Renamed.{Names, Occurring, renamed, renamed_step, SameAnswers}

-- ── Lists whose elements are renamed ──

-- all numbers of a list are such
abbrev All : (ℕ → Type 0) → List ℕ → Type 0
All P [] = Unit {0}
All P (y ∷ l) = P y × All P l

module _ (P : ℕ → Type 0) where
  all_take : (n : ℕ) (l : List ℕ) → All P l → All P (take n l)
  all_take zero l h = tt
  all_take (suc n) [] h = tt
  all_take (suc n) (y ∷ l) h = (h.0, all_take n l h.1)

  all_set : (l : List ℕ) (i x : ℕ) → P x → All P l → All P (set l i x)
  all_set [] i x p h = tt
  all_set (y ∷ l) zero x p h = (p, h.1)
  all_set (y ∷ l) (suc i) x p h = (h.0, all_set l i x p h.1)

  all-at : P 0 → (l : List ℕ) (i : ℕ) → All P l → P (get_or l i 0)
  all-at z [] i h = z
  all-at z (y ∷ l) zero h = h.0
  all-at z (y ∷ l) (suc i) h = all-at z l i h.1

  all_from : (f : ℕ → ℕ) (k n : ℕ) → ((i : ℕ) → P (f i)) → All P (from f k n)
  unfolding from
  all_from f k zero h = tt
  all_from f k (suc n) h = (h k, all_from f (suc k) n h)

module _ (g : ℕ → ℕ) where
  take-map : (n : ℕ) (l : List ℕ) → take n (map g l) ≡ map g (take n l)
  take-map zero l = refl
  take-map (suc n) [] = refl
  take-map (suc n) (y ∷ l) = ap (λ (t : List ℕ). g y ∷ t) (take-map n l)

  set-map : (l : List ℕ) (i x : ℕ) → set (map g l) i (g x) ≡ map g (set l i x)
  set-map [] i x = refl
  set-map (y ∷ l) zero x = refl
  set-map (y ∷ l) (suc i) x = ap (λ (t : List ℕ). g y ∷ t) (set-map l i x)

  from-map : (f : ℕ → ℕ) (k n : ℕ) → from (λ i. g (f i)) k n ≡ map g (from f k n)
  unfolding from
  from-map f k zero = refl
  from-map f k (suc n) = ap (λ (t : List ℕ). g (f k) ∷ t) (from-map f (suc k) n)

  closed-map : g 0 ≡ 0 → (i n : ℕ) (l : List ℕ) → closed_up i n (map g l) ≡ map g (closed_up i n l)
  unfolding closed_up
  closed-map z i n l =
      from-ext (λ k. get_or (map g l) (behind i n k) 0) (λ k. g (get_or l (behind i n k) 0)) 0 most_created (λ k h.
      ap (get_or (map g l) (behind i n (0 + k))) (sym z) ∙ get_or-map g l (behind i n (0 + k)) 0)
      ∙ from-map (λ k. get_or l (behind i n k) 0) 0 most_created

  module _ (P : ℕ → Type 0) where
    every_map : (test wider : ℕ → Bool) → ((x : ℕ) → P x → test (g x) ≡ wider x) → (l : List ℕ) → All P l → every test (map g l) ≡ every wider l
    unfolding every
    every_map test wider h [] a = refl
    every_map test wider h (y ∷ l) a = ap₂ (λ (b c : Bool). b && c) (h y a.0) (every_map test wider h l a.1)

    module _ (same : (x y : ℕ) → P x → P y → eqb (g x) (g y) ≡ eqb x y) where
      listed-map : (x : ℕ) (l : List ℕ) → P x → All P l → listed (g x) (map g l) ≡ listed x l
      unfolding listed
      listed-map x [] p a = refl
      listed-map x (y ∷ l) p a = ap₂ (λ (b c : Bool). b || c) (same y x a.0 p) (listed-map x l p a.1)

      distinct-map : (l : List ℕ) → All P l → distinct (map g l) ≡ distinct l
      unfolding distinct
      distinct-map [] a = refl
      distinct-map (y ∷ l) a = ap₂ (λ (b c : Bool). not b && c) (listed-map y l a.0 a.1) (distinct-map l a.1)

      place_map : (x n : ℕ) (l : List ℕ) → P x → All P l → place_from (g x) n (map g l) ≡ place_from x n l
      unfolding place_from
      place_map x n [] p a = refl
      place_map x n (y ∷ l) p a = ap₂ (λ (b : Bool) (m : ℕ). cond b n m) (same y x a.0 p) (place_map x (suc n) l p a.1)

-- ── What is renamed ──

-- Two states are alike under the renaming where the lists of live resources are renamed place by place, and so is the highest number, and
-- all else is equal.
abbrev renamed_created : (ℕ → ℕ) → Created → Created
renamed_created f c = record { numbers = map (renamed f) c.numbers; count = c.count; highest = renamed f c.highest }

abbrev renamed_state : (ℕ → ℕ) → State → State
renamed_state f s =
    record { tracked = s.tracked; created = renamed_created f s.created; unclosed = s.unclosed; halted = s.halted }

abbrev renamed_judgement : (ℕ → ℕ) → Judgement → Judgement
renamed_judgement f j = record { answer = j.answer; state = renamed_state f j.state }

-- a step that was read
abbrev renamed_read : (ℕ → ℕ) → Step → Step
renamed_read f (event a r) = event a (renamed f r)
renamed_read f (opening p) = opening p
renamed_read f (closing p) = closing p
renamed_read f (retiring r) = retiring (renamed f r)

abbrev renamed_option : (ℕ → ℕ) → Option Step → Option Step
renamed_option f none = none
renamed_option f (some step) = some (renamed_read f step)

least : (x : ℕ) → dynamic x ≡ true → statics ≤ x
least x e = leb-true statics x (and_left (leb statics x) (ltb x resources) e)

most : (x : ℕ) → dynamic x ≡ true → x < resources
most x e = ltb-true x resources (and_right (leb statics x) (ltb x resources) e)

-- a number that is not dynamic is below or above all that are
outside : (x : ℕ) → dynamic x ≡ false → (x < statics) ⊎ (resources ≤ x)
outside x e = go (leb statics x) refl (ltb x resources) refl e
  where
    go : (b : Bool) → leb statics x ≡ b → (c : Bool) → ltb x resources ≡ c → (b && c) ≡ false → (x < statics) ⊎ (resources ≤ x)
    go true b true c n = false-true (sym n)
    go true b false c n = inr (ltb-false x resources c)
    go false b c m n = inl (leb-false statics x b)

-- f renames the numbers N, in their order
record Orders (f : ℕ → ℕ) (N : ℕ → Type 0) : Type 0 where
  among : (x : ℕ) → N x → dynamic (f x) ≡ true
  keeps_order : (x y : ℕ) → N x → N y → x < y → f x < f y

module _ (f : ℕ → ℕ) (N : ℕ → Type 0) (R : Orders f N) where
  -- ── Numbers ──

  -- x is not dynamic, or one of those that are renamed
  abbrev In : ℕ → Type 0
  In x = dynamic x ≡ true → N x

  at-dynamic : (x : ℕ) → dynamic x ≡ true → renamed f x ≡ f x
  unfolding renamed
  at-dynamic x e = ap (λ (b : Bool). cond b (f x) x) e

  at_other : (x : ℕ) → dynamic x ≡ false → renamed f x ≡ x
  unfolding renamed
  at_other x e = ap (λ (b : Bool). cond b (f x) x) e

  dynamic-same : (x : ℕ) → In x → dynamic (renamed f x) ≡ dynamic x
  dynamic-same x i = go (dynamic x) refl
    where
      go : (b : Bool) → dynamic x ≡ b → dynamic (renamed f x) ≡ b
      go true e = ap (λ (n : ℕ). dynamic n) (at-dynamic x e) ∙ R.among x (i e)
      go false e = ap (λ (n : ℕ). dynamic n) (at_other x e) ∙ e

  rises : (x y : ℕ) → In x → In y → x < y → renamed f x < renamed f y
  rises x y i j l = go (dynamic x) refl (dynamic y) refl
    where
      go : (b : Bool) → dynamic x ≡ b → (c : Bool) → dynamic y ≡ c → renamed f x < renamed f y
      go true p true q = let h = R.keeps_order x y (i p) (j q) l in omega (arith, at-dynamic x p, at-dynamic y q)
      go true p false q =
          let m = most (renamed f x) (dynamic-same x i ∙ p) in
          let z = at_other y q in
          by_cases (outside y q) (λ k. absurd (let h = least x p in omega arith)) (λ k. omega arith)
      go false p true q =
          let m = least (renamed f y) (dynamic-same y j ∙ q) in
          let z = at_other x p in
          by_cases (outside x p) (λ k. omega arith) (λ k. absurd (let h = most y q in omega arith))
      go false p false q = omega (arith, at_other x p, at_other y q)

  number_same : (x y : ℕ) → In x → In y → eqb (renamed f x) (renamed f y) ≡ eqb x y
  number_same x y i j = go (dec_lt x y) (dec_lt y x)
    where
      go : Dec (x < y) → Dec (y < x) → eqb (renamed f x) (renamed f y) ≡ eqb x y
      go (yes l) d = let h = rises x y i j l in ne_eqb (renamed f x) (renamed f y) (λ e. omega arith) ∙ sym (ne_eqb x y (λ e. omega arith))
      go (no m) (yes l) = let h = rises y x j i l in ne_eqb (renamed f x) (renamed f y) (λ e. omega arith) ∙ sym (ne_eqb x y (λ e. omega arith))
      go (no m) (no k) =
          let e : x ≡ y = omega arith in
          eq-eqb (renamed f x) (renamed f y) (ap (renamed f) e) ∙ sym (eq-eqb x y e)

  order_same : (x y : ℕ) → In x → In y → leb (renamed f x) (renamed f y) ≡ leb x y
  order_same x y i j = go (dec_lt x y) (dec_lt y x)
    where
      go : Dec (x < y) → Dec (y < x) → leb (renamed f x) (renamed f y) ≡ leb x y
      go (yes l) d = let h = rises x y i j l in le-leb (renamed f x) (renamed f y) (omega arith) ∙ sym (le-leb x y (omega arith))
      go (no m) (yes l) = let h = rises y x j i l in lt-leb (renamed f x) (renamed f y) h ∙ sym (lt-leb x y l)
      go (no m) (no k) =
          let e : x ≡ y = omega arith in
          let z : renamed f x ≡ renamed f y = ap (renamed f) e in
          le-leb (renamed f x) (renamed f y) (omega arith) ∙ sym (le-leb x y (omega arith))

  static-in : (x : ℕ) → x < statics → In x
  static-in x h e = absurd (let l = least x e in omega arith)

  at_static : (x : ℕ) → x < statics → renamed f x ≡ x
  at_static x h = at_other x (ap (λ (b : Bool). b && ltb x resources) (lt-leb statics x h))

  static-same : (x : ℕ) → In x → ltb (renamed f x) statics ≡ ltb x statics
  static-same x i = go (dynamic x) refl
    where
      go : (b : Bool) → dynamic x ≡ b → ltb (renamed f x) statics ≡ ltb x statics
      go true e =
          let d : dynamic (renamed f x) ≡ true = dynamic-same x i ∙ e in
          le-ltb (renamed f x) statics (least (renamed f x) d) ∙ sym (le-ltb x statics (least x e))
      go false e = ap (λ (n : ℕ). ltb n statics) (at_other x e)

  -- an edge names a static resource
  named-same : (x who : ℕ) → In x → who < statics → eqb (renamed f x) who ≡ eqb x who
  named-same x who i h = ap (λ (n : ℕ). eqb (renamed f x) n) (sym (at_static who h)) ∙ number_same x who i (static-in who h)

  range_same : (x : ℕ) → In x → within (0 until resources) (renamed f x) ≡ within (0 until resources) x
  range_same x i = go (dynamic x) refl
    where
      inside : (y : ℕ) → dynamic y ≡ true → within (0 until resources) y ≡ true
      inside y e =
          let h : y < resources = most y e in
          and_both (leb 0 y) (leb y (resources - 1)) (le-leb 0 y (omega arith)) (le-leb y (resources - 1) (omega arith))

      go : (b : Bool) → dynamic x ≡ b → within (0 until resources) (renamed f x) ≡ within (0 until resources) x
      go true e = inside (renamed f x) (dynamic-same x i ∙ e) ∙ sym (inside x e)
      go false e = ap (λ (n : ℕ). within (0 until resources) n) (at_other x e)

  -- ── The step as it is handed over ──

  -- what the step names is not dynamic or renamed
  abbrev RawIn : RawStep → Type 0
  RawIn raw = (x : ℕ) → Names raw x → In x

  abbrev StepIn : Step → Type 0
  StepIn (event a r) = In r
  StepIn (opening p) = Unit {0}
  StepIn (closing p) = Unit {0}
  StepIn (retiring r) = In r

  abbrev OptionIn : Option Step → Type 0
  OptionIn none = Unit {0}
  OptionIn (some step) = StepIn step

  step_in : (raw : RawStep) → RawIn raw → OptionIn (step_of raw)
  unfolding step_of
  step_in raw h = go raw.kind refl
    where
      guarded : (b : Bool) (step : Step) → StepIn step → OptionIn (guard b step)
      guarded true step i = i
      guarded false step i = tt

      go : (k : ℕ) → raw.kind ≡ k → OptionIn (in_range (get_elem? step_kinds k) raw.a raw.b)
      go zero e =
          guarded (within (0 until actions) raw.a && within (0 until resources) raw.b) (event raw.a raw.b) (h raw.b (inl (e, refl)))
      go (suc zero) e = guarded (within (0 until policies) raw.a && within unused raw.b) (opening raw.a) tt
      go (suc (suc zero)) e = guarded (within (0 until policies) raw.a && within unused raw.b) (closing raw.a) tt
      go (suc (suc (suc zero))) e =
          guarded (within (0 until resources) raw.a && within unused raw.b) (retiring raw.a) (h raw.a (inr (e, refl)))
      go (suc (suc (suc (suc k)))) e = tt

  step-renamed : (raw : RawStep) → RawIn raw → step_of (renamed_step f raw) ≡ renamed_option f (step_of raw)
  unfolding step_of renamed_step
  step-renamed raw h = go raw.kind refl
    where
      guarded : (b : Bool) (step : Step) → guard b (renamed_read f step) ≡ renamed_option f (guard b step)
      guarded true step = refl
      guarded false step = refl

      go : (k : ℕ) → raw.kind ≡ k
          → in_range (get_elem? step_kinds k) (cond (eqb k 3) (renamed f raw.a) raw.a) (cond (eqb k 0) (renamed f raw.b) raw.b)
          ≡ renamed_option f (in_range (get_elem? step_kinds k) raw.a raw.b)
      go zero e =
          ap (λ (b : Bool). guard (within (0 until actions) raw.a && b) (event raw.a (renamed f raw.b)))
          (range_same raw.b (h raw.b (inl (e, refl))))
          ∙ guarded (within (0 until actions) raw.a && within (0 until resources) raw.b) (event raw.a raw.b)
      go (suc zero) e = guarded (within (0 until policies) raw.a && within unused raw.b) (opening raw.a)
      go (suc (suc zero)) e = guarded (within (0 until policies) raw.a && within unused raw.b) (closing raw.a)
      go (suc (suc (suc zero))) e =
          ap (λ (b : Bool). guard (b && within unused raw.b) (retiring (renamed f raw.a))) (range_same raw.a (h raw.a (inr (e, refl))))
          ∙ guarded (within (0 until resources) raw.a && within unused raw.b) (retiring raw.a)
      go (suc (suc (suc (suc k)))) e = refl

  -- ── What is created ──

  -- all its numbers are not dynamic or renamed
  record CreatedIn (c : Created) : Type 0 where
    each : All In c.numbers
    top : In c.highest

  live_in : (c : Created) → CreatedIn c → All In (live c)
  live_in c i = all_take In c.count c.numbers i.each

  live-renamed : (c : Created) → live (renamed_created f c) ≡ map (renamed f) (live c)
  live-renamed c = take-map (renamed f) c.count c.numbers

  module _ (c : Created) (i : CreatedIn c) where
    live-ok-renamed : live_ok (renamed_created f c) ≡ live_ok c
    unfolding live_ok created_ok highest_ok
    live-ok-renamed =
        let h : ℕ = renamed f c.highest in
        ap (λ (l : List ℕ). (leb c.count most_created && (every dynamic l && distinct l)) && every (λ y. leb y h) l) (live-renamed c)
        ∙ ap₂ (λ (b d : Bool). (leb c.count most_created && (b && d)) && every (λ y. leb y h) (map (renamed f) (live c)))
        (every_map (renamed f) In dynamic dynamic dynamic-same (live c) (live_in c i))
        (distinct-map (renamed f) In number_same (live c) (live_in c i))
        ∙ ap (λ (b : Bool). (leb c.count most_created && (every dynamic (live c) && distinct (live c))) && b)
        (every_map (renamed f) In (λ y. leb y h) (λ y. leb y c.highest) (λ y j. order_same y c.highest j i.top) (live c) (live_in c i))

    module _ (r : ℕ) (j : In r) where
      listed-renamed : listed (renamed f r) (live (renamed_created f c)) ≡ listed r (live c)
      listed-renamed = ap (listed (renamed f r)) (live-renamed c) ∙ listed-map (renamed f) In number_same r (live c) j (live_in c i)

      place-renamed : place_of (renamed_created f c) (renamed f r) ≡ place_of c r
      unfolding place_of place_in
      place-renamed =
          ap₂ (λ (b : Bool) (n : ℕ). cond b (renamed f r) n) (static-same r j)
          (ap (place_from (renamed f r) first_created_lem) (live-renamed c)
          ∙ place_map (renamed f) In number_same r first_created_lem (live c) j (live_in c i))
          ∙ go (ltb r statics) refl
        where
          go : (b : Bool) → ltb r statics ≡ b
              → cond b (renamed f r) (place_from r first_created_lem (live c)) ≡ cond b r (place_from r first_created_lem (live c))
          go true e = at_static r (ltb-true r statics e)
          go false e = refl

      created-renamed : with_new (renamed_created f c) (renamed f r) ≡ renamed_created f (with_new c r)
      unfolding with_new
      created-renamed = rw (set-map (renamed f) c.numbers c.count r)

      created-in : CreatedIn (with_new c r)
      unfolding with_new
      created-in = record { each = all_set In c.numbers c.count r j i.each; top = j }

      retired-renamed : with_retired (renamed_created f c) (renamed f r) ≡ renamed_created f (with_retired c r)
      unfolding with_retired
      retired-renamed =
          rw (place-renamed, closed-map (renamed f) (at_static 0 (lit< tt)) (place_of c r - first_created_lem) c.count c.numbers)

      retired-in : CreatedIn (with_retired c r)
      unfolding with_retired closed_up
      retired-in = record {
        each = all_from In (λ k. get_or c.numbers (behind (place_of c r - first_created_lem) c.count k) 0) 0 most_created
            (λ k. all-at In (static-in 0 (lit< tt)) c.numbers (behind (place_of c r - first_created_lem) c.count k) i.each);
        top = i.top;
      }

  -- ── The state ──

  abbrev StateIn : State → Type 0
  StateIn s = CreatedIn s.created

  state-renamed : (s : State) → StateIn s → state_ok_lem (renamed_state f s) ≡ state_ok_lem s
  unfolding state_ok_lem
  state-renamed s i = ap (λ (b : Bool). b && unclosed_ok s.unclosed) (live-ok-renamed s.created i)

  -- the edges name static resources only
  abbrev Named : List Edge → Type 0
  Named es = (e : Edge) → Memᴰ e es → e.on ≡ 0 → e.who < statics

  after-in : (local : Bool) (es : List Edge) (s : State) → StateIn s → (step : Step) → StepIn step → StateIn (after local es s step)
  unfolding after with_tracked creating moving entering leaving releasing
  after-in local es s i (event zero r) j = created-in s.created i r j
  after-in local es s i (event (suc a) r) j = i
  after-in local es s i (opening p) j = i
  after-in local es s i (closing p) j = i
  after-in local es s i (retiring r) j = retired-in s.created i r j

  module _ (es : List Edge) (names : Named es) where
    sets-renamed : (a r own n : ℕ) (sets : List ℕ) → In r → moved_sets es a (renamed f r) own n sets ≡ moved_sets es a r own n sets
    unfolding moved_sets
    sets-renamed a r own n sets j =
        from-ext _ _ 0 set_places (λ k l.
        ap (λ (m : ℕ). cond (ltb ((0 + k) % instances) n) m (get_or sets (0 + k) 0))
        (move_mask-same (renamed f r) r (eqb ((0 + k) % instances) own) es (λ e m o. named-same r e.who j (names e m o))
        ((0 + k) / instances) a (get_or sets (0 + k) 0)))

    pairs-renamed : (a r own n : ℕ) (pairs : List ℕ) → In r → blocks_moved es a (renamed f r) own n pairs ≡ blocks_moved es a r own n pairs
    pairs-renamed a r own n pairs j =
        each_same (pairs_of es) (λ p. event_pairs (event_ways es p a (renamed f r)) own n) (λ p. event_pairs (event_ways es p a r) own n) pairs
        (λ p sets. ap (λ (w : Ways). event_pairs w own n sets)
        (ways-named (renamed f r) r es (λ e m o. named-same r e.who j (names e m o)) p a))

    moved-renamed : (a r : ℕ) (s : State) → StateIn s → In r → moving es a (renamed f r) (renamed_state f s) ≡ renamed_state f (moving es a r s)
    unfolding moved_in with_tracked moving
    moved-renamed a r s i j =
        rw (
          place-renamed s.created i r j,
          sets-renamed a r (place_of s.created r) (used s.created) s.tracked.sets j,
          pairs-renamed a r (place_of s.created r) (used s.created) s.tracked.pairs j,
        )

    after-renamed : (local : Bool) (s : State) → StateIn s → (step : Step) → StepIn step
        → after local es (renamed_state f s) (renamed_read f step) ≡ renamed_state f (after local es s step)
    unfolding after creating entering leaving releasing
    after-renamed local s i (event zero r) j =
        ap (λ (c : Created). moving es 0 (renamed f r) (record {
          tracked = (creating es s r).tracked;
          created = c;
          unclosed = s.unclosed;
          halted = s.halted;
        })) (created-renamed s.created i r j)
        ∙ moved-renamed 0 r (creating es s r) (created-in s.created i r j) j
    after-renamed local s i (event (suc a) r) j = moved-renamed (suc a) r s i j
    after-renamed local s i (opening p) j = refl
    after-renamed local s i (closing p) j = refl
    after-renamed local s i (retiring r) j = rw (place-renamed s.created i r j, retired-renamed s.created i r j)

  -- ── The answer ──

  broken-renamed : (s : State) → broken (renamed_state f s) ≡ broken s
  unfolding broken
  broken-renamed s = refl

  refusal-renamed : (s : State) → StateIn s → (step : Step) → StepIn step → refusal (renamed_state f s) (renamed_read f step) ≡ refusal s step
  unfolding refusal
  refusal-renamed s i (event zero r) j =
      ap₂ (λ (b c : Bool). cond b (some CreateStatic) (cond c (some NotAbove) (cond (leb most_created s.created.count) (some TooManyLive) none))) (static-same r j)
      (order_same r s.created.highest j i.top)
  refusal-renamed s i (event (suc a) r) j = ap₂ (λ (b c : Bool). cond (b || c) none (some NotLive)) (static-same r j) (listed-renamed s.created i r j)
  refusal-renamed s i (opening p) j = refl
  refusal-renamed s i (closing p) j = refl
  refusal-renamed s i (retiring r) j = ap₂ (λ (b c : Bool). cond (not b && c) none (some RetireNotLive)) (static-same r j) (listed-renamed s.created i r j)

  refuse-renamed : (n : Reason) (s : State) → refuse n (renamed_state f s) ≡ renamed_judgement f (refuse n s)
  unfolding refuse
  refuse-renamed n s = refl

  either-renamed : (b : Bool) (j k : Judgement) {j' k' : Judgement} → j' ≡ renamed_judgement f j → k' ≡ renamed_judgement f k
      → cond b j' k' ≡ renamed_judgement f (cond b j k)
  either-renamed true j k p q = p
  either-renamed false j k p q = q

  settle-renamed : (bad : ℕ) (s t : State) → settle bad (renamed_state f s) (renamed_state f t) ≡ renamed_judgement f (settle bad s t)
  unfolding settle halt
  settle-renamed bad s t =
      either-renamed (eqb bad 0) (record { answer = Allowed; state = t }) (record { answer = Violated (lowest_in bad); state = halt s }) refl
      refl

  -- a judgement's state has no other numbers
  either-in : (b : Bool) (j k : Judgement) → StateIn j.state → StateIn k.state → StateIn (cond b j k).state
  either-in true j k p q = p
  either-in false j k p q = q

  refuse-in : (n : Reason) (s : State) → StateIn s → StateIn (refuse n s).state
  unfolding refuse
  refuse-in n s i = i

  settle-in : (bad : ℕ) (s t : State) → StateIn s → StateIn t → StateIn (settle bad s t).state
  unfolding settle halt
  settle-in bad s t i j =
      either-in (eqb bad 0) (record { answer = Allowed; state = t }) (record { answer = Violated (lowest_in bad); state = halt s }) j
      i

  module _ (local : Bool) (es : List Edge) (names : Named es) (s : State) (i : StateIn s) where
    judge-step : (step : Step) → StepIn step → (o : Option Reason)
        → judge_step local es (renamed_state f s) (renamed_read f step) o ≡ renamed_judgement f (judge_step local es s step o)
    unfolding judge_step
    judge-step step j (some n) = refuse-renamed n s
    judge-step step j none =
        ap (λ (t : State). settle (broken t) (renamed_state f s) t) (after-renamed es names local s i step j)
        ∙ ap (λ (n : ℕ). settle n (renamed_state f s) (renamed_state f (after local es s step))) (broken-renamed (after local es s step))
        ∙ settle-renamed (broken (after local es s step)) s (after local es s step)

    judge-read : (o : Option Step) → OptionIn o
        → judge_read local es (renamed_state f s) (renamed_option f o) ≡ renamed_judgement f (judge_read local es s o)
    unfolding judge_read
    judge-read none j = refuse-renamed NoStep s
    judge-read (some step) j =
        ap (judge_step local es (renamed_state f s) (renamed_read f step)) (refusal-renamed s i step j) ∙ judge-step step j (refusal s step)

  step-kept-in : (local : Bool) (es : List Edge) (s : State) → StateIn s → (step : Step) → StepIn step → (o : Option Reason)
      → StateIn (judge_step local es s step o).state
  unfolding judge_step
  step-kept-in local es s i step j (some n) = refuse-in n s i
  step-kept-in local es s i step j none = settle-in (broken (after local es s step)) s (after local es s step) i (after-in local es s i step j)

  read-in : (local : Bool) (es : List Edge) (s : State) → StateIn s → (o : Option Step) → OptionIn o → StateIn (judge_read local es s o).state
  unfolding judge_read
  read-in local es s i none j = refuse-in NoStep s i
  read-in local es s i (some step) j = step-kept-in local es s i step j (refusal s step)

  judge-in : (t : List ℕ) (local : Bool) (s : State) → StateIn s → (raw : RawStep) → RawIn raw → StateIn (judge_of t local s raw).state
  unfolding judge_of
  judge-in t local s i raw h =
      either-in (not (is_edge_table t)) (refuse Table s) (cond (not (state_ok_lem s)) (refuse Unfit s) rest) (refuse-in Table s i)
      (either-in (not (state_ok_lem s)) (refuse Unfit s) rest (refuse-in Unfit s i)
      (either-in s.halted (refuse Halted s) (judge_read local (edges_of t) s (step_of raw)) (refuse-in Halted s i)
      (read-in local (edges_of t) s i (step_of raw) (step_in raw h))))
    where
      rest : Judgement
      rest = cond s.halted (refuse Halted s) (judge_read local (edges_of t) s (step_of raw))

  -- Every step keeps two states alike, and answers the same of both.
  judge-renamed : (t : List ℕ) (local : Bool) (s : State) → StateIn s → (raw : RawStep) → RawIn raw
      → judge_of t local (renamed_state f s) (renamed_step f raw) ≡ renamed_judgement f (judge_of t local s raw)
  unfolding judge_of
  judge-renamed t local s i raw h = go (is_edge_table t) refl
    where
      u : State
      u = renamed_state f s

      inner : State → RawStep → Bool → Judgement
      inner v r ok = cond (not ok) (refuse Unfit v) (cond v.halted (refuse Halted v) (judge_read local (edges_of t) v (step_of r)))

      go : (b : Bool) → is_edge_table t ≡ b
          → cond (not b) (refuse Table u) (inner u (renamed_step f raw) (state_ok_lem u))
          ≡ renamed_judgement f (cond (not b) (refuse Table s) (inner s raw (state_ok_lem s)))
      go true e =
          ap (inner u (renamed_step f raw)) (state-renamed s i)
          ∙ either-renamed (not (state_ok_lem s)) (refuse Unfit s) (cond s.halted (refuse Halted s) (judge_read local (edges_of t) s (step_of raw)))
          (refuse-renamed Unfit s)
          (either-renamed s.halted (refuse Halted s) (judge_read local (edges_of t) s (step_of raw)) (refuse-renamed Halted s)
          (ap (judge_read local (edges_of t) u) (step-renamed raw h)
          ∙ judge-read local (edges_of t) (λ d m o. (((decides-edge-table t).0 e).edges.each d m).who_static o) s i (step_of raw) (step_in raw h)))
      go false e = refuse-renamed Table s

  answers-renamed : (t : List ℕ) (local : Bool) (s : State) → StateIn s → (raws : List RawStep)
      → ((raw : RawStep) → Memᴰ raw raws → RawIn raw) → answers_of t local (renamed_state f s) (map (renamed_step f) raws) ≡ answers_of t local s raws
  unfolding answers_of
  answers-renamed t local s i [] h = refl
  answers-renamed t local s i (raw ∷ raws) h =
      ap (λ (j : Judgement). j.answer ∷ answers_of t local j.state (map (renamed_step f) raws))
      (judge-renamed t local s i raw (h raw (Memᴰ.head refl)))
      ∙ ap (λ (l : List (Answer Reason)). (judge_of t local s raw).answer ∷ l)
      (answers-renamed t local (judge_of t local s raw).state (judge-in t local s i raw (h raw (Memᴰ.head refl))) raws
      (λ r m. h r (Memᴰ.tail m)))

  -- the start has nothing that is renamed
  start-renamed : start_state ≡ renamed_state f start_state
  unfolding start_state start_created renamed
  start-renamed = refl

  start-in : StateIn start_state
  unfolding start_state start_created
  start-in = record { each = zeros most_created; top = static-in 0 (lit< tt) }
    where
      zeros : (n : ℕ) → All In (replicate n 0)
      zeros zero = tt
      zeros (suc n) = (static-in 0 (lit< tt), zeros n)

pub start-same : SameAnswers start_state
start-same t local f raws R =
    ap (λ (s : State). answers_of t local s (map (renamed_step f) raws)) (start-renamed f (Occurring raws) orders)
    ∙ answers-renamed f (Occurring raws) orders t local start_state (start-in f (Occurring raws) orders) raws
    (λ raw m x n d. record { is_dynamic = d; step = raw; inside = m; names = n })
  where
    orders : Orders f (Occurring raws)
    orders = record { among = R.among; keeps_order = R.keeps_order }
