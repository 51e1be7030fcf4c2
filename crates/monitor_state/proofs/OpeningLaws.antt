-- What the sets hold after an opening or a closing. Under the local meaning an opening may put the instances of its policy back.
use Prim.Native.Nat.{ℕ, ◌+◌, ◌*◌, ◌<◌}
use mathlib.Core.Path.{◌≡◌, refl, sym, ap, ◌∙◌, subst}
use mathlib.Core.Bool.{Bool, true, false, ◌&&◌, cond}
use mathlib.Core.List.{List, [], ◌∷◌}
use mathlib.Core.Logic.{◌⊎◌, inl, inr, ◌↔◌}
use native.Mathlib.Omega.{arith}
use lib.Dec.{eqb, lit<}
use lib.ListN.{length, get_or, set, length-set}
use lib.Seq.{get_or-set_same, get_or-set_other}
use borrow.Author.Tests.{eq-eqb, eqb-true, eqb-false, lt-ltb}
use Rattle.usage.specs.declared.Edge.{Edge}
use Rattle.usage.specs.Limits.{policies, states}
use Rattle.usage.specs.Policy.{PairPolicy}
use Rattle.usage.specs.Past.{Step, opening, closing, retiring, Past, Open}
use Rattle.usage.specs.Placed.{At}
use Rattle.usage.proofs.Logic.{clash, not-both, and_left, and_right}
use Rattle.usage.proofs.PastLaws.{may-some}
use Rattle.usage.proofs.PlacedLaws.{at_more, one_placed, at-closing, at_same, at-reset}
use Rattle.automaton.specs.Mask.{has}
use Rattle.automaton.proofs.MaskLaws.{has-pow}
use Rattle.monitor_sets.specs.Instances.{instances, set_places}
use Rattle.monitor_sets.proofs.PlaceLaws.{reset-at, reset-length, reset-below}
use Rattle.monitor_pairs.specs.Pairs.{pair_places, reset_pairs}
use Rattle.monitor_pairs.specs.Tracked.{TracksPairs}
use Rattle.monitor_pairs.specs.Blocks.{pair_sets, lower_block, upper_block, pairs_of, each_block}
use Rattle.monitor_pairs.proofs.TrackedLaws.{reset-tracks}
use Rattle.monitor_pairs.proofs.EachLaws.{Sized, reset-size, each-size}
use Rattle.monitor_pairs.proofs.ByteLaws.{reset-bytes, each-bytes}
use Rattle.monitor_state.specs.declared.State.{State}
use Rattle.monitor_state.specs.declared.Tracked.{Tracked}
use Rattle.monitor_state.specs.Tracked.{set_at, possible_in, reset_sets, start_set, reset_in}
use Rattle.monitor_state.specs.Created.{used}
use Rattle.monitor_state.specs.Unclosed.{openings_of, anew}
use Rattle.monitor_state.specs.Represents.{Stands, Tracks, Gathers, HoldsStates, Represents}
use Rattle.monitor_state.proofs.Places.{LiveParts, live-parts, used-most}
use Rattle.monitor_state.proofs.StandsLaws.{stands_after, stands-before, someone, placed-some}
use Rattle.monitor_state.proofs.PairTracking.{tracks-as, lower-each, upper-each}
use Rattle.monitor_state.proofs.UnclosedLaws.{open-count-pos, count-pos-open}

module _ (local : Bool) (es : List Edge) (past : Past) (h : Bool) (s : State) (R : Represents local es past h s) where
  -- the instances at these places, before and after the step
  abbrev Before : ℕ → List ℕ → ℕ → Type 0
  Before p places q = At local es p (Stands past s.created) past places q

  abbrev After : Step → ℕ → List ℕ → ℕ → Type 0
  After step p places q = At local es p (Stands (step ∷ past) s.created) (step ∷ past) places q

  -- a step that retires nothing leaves each place to those that it stands for
  after-as : {step : Step} {p q : ℕ} {places : List ℕ} {q₀ : ℕ} → ((x : ℕ) → retiring x ≡ step → ⊥)
      → At local es p (Stands past s.created) (step ∷ past) places q ↔ Before p places q₀ → After step p places q ↔ Before p places q₀
  after-as none f = (λ y. f.0 (at_more (stands-before none) y), λ y. at_more (stands_after none) (f.1 y))

  -- after a step that changes no state
  same-held : (step : Step) → ((p q : ℕ) (places : List ℕ) → After step p places q ↔ Before p places q)
      → HoldsStates local es (step ∷ past) s.created s.tracked
  same-held step may = record {
    tracks = λ p i q k single l b. let t = R.tracked.tracks p i q k single l b in
        (λ e. (may p q (i ∷ [])).1 (t.0 e), λ y. t.1 ((may p q (i ∷ [])).0 y));
    lower = λ h. tracks-as (used s.created) (lower_block s.tracked.pairs) (λ places q. ((may (pairs_of es).first q places).1, (may (pairs_of es).first q places).0)) (R.tracked.lower h);
    upper = λ h. tracks-as (used s.created) (upper_block s.tracked.pairs) (λ places q. ((may (pairs_of es).second q places).1, (may (pairs_of es).second q places).0)) (R.tracked.upper h);
    gathers = λ p q k b. (
      λ e. let (places, y) = (R.tracked.gathers p q k b).0 e in (places, (may p q places).1 y),
      λ (places, y). (R.tracked.gathers p q k b).1 (places, (may p q places).0 y),
    );
    sets_length = R.tracked.sets_length;
    pairs_length = R.tracked.pairs_length;
    possible_length = R.tracked.possible_length;
    bytes = R.tracked.bytes;
    pair_bytes = R.tracked.pair_bytes;
    possible_bytes = R.tracked.possible_bytes;
  }

  pub closing-held : (p : ℕ) → HoldsStates local es (closing p ∷ past) s.created s.tracked
  closing-held p =
      same-held (closing p) (λ p' q places. after-as (λ x e. clash (cc)) (at-closing local es p' (Stands past s.created) p past places q))

  -- ── An opening of p ──

  module _ (p : ℕ) (l : p < policies) where
    shut : anew local s.unclosed p ≡ true → (p' : ℕ) → eqb p' p ≡ true → (local ≡ true) × (p ≡ p') × (Open p' past → ⊥)
    shut b p' e =
        let z : openings_of s.unclosed p ≡ 0 = eqb-true (openings_of s.unclosed p) 0 (and_right local (eqb (openings_of s.unclosed p) 0) b) in
        let i : p' ≡ p = eqb-true p' p e in (
          and_left local (eqb (openings_of s.unclosed p) 0) b,
          sym i,
          λ o. let k = open-count-pos past s.unclosed R.unclosed p (subst (λ (n : ℕ). Open n past) i o) in omega arith,
        )

    -- what p' may be in is put back where the opening is one of p' and p was not open, and else kept
    anew-may : anew local s.unclosed p ≡ true → (p' q : ℕ) (places : List ℕ) → eqb p' p ≡ true
        → After (opening p) p' places q ↔ ((q ≡ 0) × ((q₀ : ℕ) × Before p' places q₀))
    anew-may b p' q places e =
        let (loc, i, no_longer) = shut b p' e in
        let law : At local es p' (Stands past s.created) (opening p ∷ past) places q ↔ ((q ≡ 0) × ((q₀ : ℕ) × Before p' places q₀)) =
        subst (λ (m : Bool). At m es p' (Stands past s.created) (opening p ∷ past) places q
        ↔ ((q ≡ 0) × ((q₀ : ℕ) × At m es p' (Stands past s.created) past places q₀))) (sym loc)
        (at-reset es p' (Stands past s.created) p past places q i no_longer) in (
          λ y. law.0 (at_more (stands-before (λ x e. clash (cc))) y),
          λ y. at_more (stands_after (λ x e. clash (cc))) (law.1 y),
        )

    kept-may : (p' q : ℕ) (places : List ℕ) → (anew local s.unclosed p && eqb p' p) ≡ false
        → After (opening p) p' places q ↔ Before p' places q
    kept-may p' q places n =
        after-as (λ x e. clash (cc)) (at_same local es p' (Stands past s.created) p past places q (why local refl (eqb p' p) refl n))
      where
        further : (c : Bool) → eqb (openings_of s.unclosed p) 0 ≡ c → c ≡ false → eqb p' p ≡ true → Open p' past
        further c e n i =
            subst (λ (k : ℕ). Open k past) (sym (eqb-true p' p i))
            (count-pos-open past s.unclosed R.unclosed p (let z = eqb-false (openings_of s.unclosed p) 0 (e ∙ n) in omega arith))

        why : (b : Bool) → local ≡ b → (c : Bool) → eqb p' p ≡ c → ((b && eqb (openings_of s.unclosed p) 0) && c) ≡ false
            → (local ≡ false) ⊎ ((p ≡ p' → ⊥) ⊎ Open p' past)
        why false e c i n = inl e
        why true e false i n = inr (inl (λ q. eqb-false p' p i (sym q)))
        why true e true i n = inr (inr (further (eqb (openings_of s.unclosed p) 0) refl (both (eqb (openings_of s.unclosed p) 0) n) i))
          where
            both : (b : Bool) → (b && true) ≡ false → b ≡ false
            both true n = n
            both false n = refl

    w : LiveParts s.created
    w = live-parts s.created R.created.well

    abbrev after : Tracked
    after = reset_in es (anew local s.unclosed p) (used s.created) p s.tracked

    abbrev put_back : List ℕ
    put_back = cond (anew local s.unclosed p) (reset_sets (used s.created) p s.tracked.sets) s.tracked.sets

    abbrev kept_back : List ℕ
    kept_back = cond (anew local s.unclosed p) (set s.tracked.possible p start_set) s.tracked.possible

    -- the sets of p' after it
    set_is : (i p' : ℕ) → i < used s.created → p' < policies
        → get_or put_back (p' * instances + i) 0 ≡ cond (anew local s.unclosed p && eqb p' p) start_set (set_at s.tracked p' i)
    set_is i p' inside k = go (anew local s.unclosed p)
      where
        go : (b : Bool) → get_or (cond b (reset_sets (used s.created) p s.tracked.sets) s.tracked.sets) (p' * instances + i) 0
            ≡ cond (b && eqb p' p) start_set (set_at s.tracked p' i)
        go true =
            reset-at s.tracked.sets p (used s.created) p' i k (omega (arith, used-most s.created w, inside))
            ∙ ap (λ (c : Bool). cond (eqb p' p && c) start_set (set_at s.tracked p' i)) (lt-ltb i (used s.created) inside)
            ∙ ap (λ (c : Bool). cond c start_set (set_at s.tracked p' i)) (with-true (eqb p' p))
          where
            with-true : (c : Bool) → (c && true) ≡ c
            with-true true = refl
            with-true false = refl
        go false = refl

    possible-is : (p' : ℕ) → get_or kept_back p' 0 ≡ cond (anew local s.unclosed p && eqb p' p) start_set (possible_in s.tracked p')
    possible-is p' = go (anew local s.unclosed p) (eqb p' p) refl
      where
        go : (b c : Bool) → eqb p' p ≡ c → get_or (cond b (set s.tracked.possible p start_set) s.tracked.possible) p' 0
            ≡ cond (b && c) start_set (possible_in s.tracked p')
        go true true e =
            ap (λ (k : ℕ). get_or (set s.tracked.possible p start_set) k 0) (eqb-true p' p e)
            ∙ get_or-set_same s.tracked.possible p start_set 0 (subst (λ (n : ℕ). p < n) (sym R.tracked.possible_length) l)
        go true false e = get_or-set_other s.tracked.possible p p' start_set 0 (eqb-false p' p e)
        go false c e = refl

    start_is : (q : ℕ) → q < states → has start_set q ≡ eqb 0 q
    start_is q k = has-pow 0 q (lit< tt) k

    -- where a set is put back it holds state 0 alone, which all instances there are in
    pieced : (m₀ m₁ : ℕ) (p' q : ℕ) (P : Type 0) → m₁ ≡ cond (anew local s.unclosed p && eqb p' p) start_set m₀ → q < states
        → (anew local s.unclosed p ≡ true → eqb p' p ≡ true → P ↔ (q ≡ 0))
        → ((anew local s.unclosed p && eqb p' p) ≡ false → (has m₀ q ≡ true) ↔ P) → (has m₁ q ≡ true) ↔ P
    pieced m₀ m₁ p' q P is b back kept = go (anew local s.unclosed p && eqb p' p) refl
      where
        go : (c : Bool) → (anew local s.unclosed p && eqb p' p) ≡ c → (has m₁ q ≡ true) ↔ P
        go true c =
            let f = back (and_left (anew local s.unclosed p) (eqb p' p) c) (and_right (anew local s.unclosed p) (eqb p' p) c) in
            let one : has m₁ q ≡ eqb 0 q = ap (λ (n : ℕ). has n q) (is ∙ ap (λ (b : Bool). cond b start_set m₀) c) ∙ start_is q b in
            (λ e. f.1 (sym (eqb-true 0 q (sym one ∙ e))), λ y. one ∙ eq-eqb 0 q (sym (f.0 y)))
        go false c =
            let same : has m₁ q ≡ has m₀ q = ap (λ (n : ℕ). has n q) (is ∙ ap (λ (b : Bool). cond b start_set m₀) c) in
            let f = kept c in
            (λ e. f.0 (sym same ∙ e), λ y. same ∙ f.1 y)

    tracks : Tracks local es (opening p ∷ past) s.created after
    unfolding reset_in
    tracks p' i q k single u b =
        pieced (set_at s.tracked p' i) (get_or put_back (p' * instances + i) 0) p' q (After (opening p) p' (i ∷ []) q) (set_is i p' u k) b
        (λ new e. let f = anew-may new p' q (i ∷ []) e in
        (λ y. (f.0 y).0, λ z. f.1 (z, let (x, g) = someone past s.created R.created i u in standing p' single g)))
        (λ n. let t = R.tracked.tracks p' i q k single u b in
        let f = kept-may p' q (i ∷ []) n in
        (λ e. f.1 (t.0 e), λ y. t.1 (f.0 y)))
      where
        standing : (p' : ℕ) → (PairPolicy es p' → ⊥) → {x : ℕ} → Stands past s.created i x → (q₀ : ℕ) × Before p' (i ∷ []) q₀
        standing p' single {x} g = let (q₀, m) = may-some local es p' (x ∷ []) past in (q₀, one_placed single g local past q₀ m)

    gathers : Gathers local es (opening p ∷ past) s.created after
    unfolding reset_in
    gathers p' q k b =
        pieced (possible_in s.tracked p') (get_or kept_back p' 0) p' q ((places : List ℕ) × After (opening p) p' places q) (possible-is p') b
        (λ new e. (
          λ (places, y). ((anew-may new p' q places e).0 y).0,
          λ z. let (places, y) = placed-some es p' (Stands past s.created) 0 (someone past s.created R.created 0 (omega arith)) in
              let (q₀, m) = may-some local es p' y.numbers past in
              (places, (anew-may new p' q places e).1 (z, (q₀, record { resources = y.numbers; fits = y.fits; placed = y.placed; may = m }))),
        ))
        (λ n. (
          λ e. let (places, y) = (R.tracked.gathers p' q k b).0 e in (places, (kept-may p' q places n).1 y),
          λ (places, y). (R.tracked.gathers p' q k b).1 (places, (kept-may p' q places n).0 y),
        ))

    -- a block of p', put back or not
    abbrev put : ℕ → List ℕ → List ℕ
    put p' sets = cond (eqb p' p) (reset_pairs (used s.created) sets) sets

    put-sized : Sized put
    put-sized p' sets e = go (eqb p' p)
      where
        go : (c : Bool) → length (cond c (reset_pairs (used s.created) sets) sets) ≡ pair_places
        go true = reset-size (used s.created) sets
        go false = e

    abbrev Stood : ℕ → List ℕ → Type 0
    Stood p' sets = TracksPairs local es p' (Stands past s.created) past (used s.created) sets

    abbrev Standing : ℕ → List ℕ → Type 0
    Standing p' sets = TracksPairs local es p' (Stands (opening p ∷ past) s.created) (opening p ∷ past) (used s.created) sets

    kept_block : (p' : ℕ) (sets : List ℕ) → (anew local s.unclosed p && eqb p' p) ≡ false → Stood p' sets → Standing p' sets
    kept_block p' sets n held = tracks-as (used s.created) sets (λ places q. ((kept-may p' q places n).1, (kept-may p' q places n).0)) held

    put-block : anew local s.unclosed p ≡ true → (p' : ℕ) (sets : List ℕ) → p' < policies → PairPolicy es p' → Stood p' sets
        → Standing p' (put p' sets)
    put-block b p' sets h is held = go (eqb p' p) refl
      where
        off : (c : Bool) → (c && false) ≡ false
        off true = refl
        off false = refl

        go : (c : Bool) → eqb p' p ≡ c → Standing p' (cond c (reset_pairs (used s.created) sets) sets)
        go true e =
            let (loc, i, no_longer) = shut b p' e in
            tracks-as (used s.created) (reset_pairs (used s.created) sets)
            (λ places q. (λ y. at_more (stands_after (λ x e. clash (cc))) y, λ y. at_more (stands-before (λ x e. clash (cc))) y))
            (subst (λ (m : Bool). TracksPairs m es p' (Stands past s.created) (opening p ∷ past) (used s.created)
            (reset_pairs (used s.created) sets)) (sym loc)
            (reset-tracks es p' is (Stands past s.created) (used s.created) (omega arith) (someone past s.created R.created) past p i
            no_longer (used-most s.created w) sets))
        go false e = kept_block p' sets (ap (λ (c : Bool). anew local s.unclosed p && c) e ∙ off (anew local s.unclosed p)) held

    abbrev put-pairs : Bool → List ℕ
    put-pairs b = cond b (each_block (pairs_of es) put s.tracked.pairs) s.tracked.pairs

    not-anew : (b c : Bool) → b ≡ false → (b && c) ≡ false
    not-anew true c e = not-both true refl e
    not-anew false c e = refl

    low : (b : Bool) → anew local s.unclosed p ≡ b → (pairs_of es).first < policies → Standing (pairs_of es).first (lower_block (put-pairs b))
    low true b h = lower-each es Stood Standing put put-sized (put-block b) s.tracked.pairs R.tracked.pairs_length R.tracked.lower h
    low false b h = kept_block (pairs_of es).first (lower_block s.tracked.pairs) (not-anew _ _ b) (R.tracked.lower h)

    high : (b : Bool) → anew local s.unclosed p ≡ b → (pairs_of es).second < policies
        → Standing (pairs_of es).second (upper_block (put-pairs b))
    high true b h = upper-each es Stood Standing put put-sized (put-block b) s.tracked.pairs R.tracked.pairs_length R.tracked.upper h
    high false b h = kept_block (pairs_of es).second (upper_block s.tracked.pairs) (not-anew _ _ b) (R.tracked.upper h)

    put-bytes : (p' : ℕ) (sets : List ℕ) → ((k : ℕ) → get_or sets k 0 < 256) → (k : ℕ) → get_or (put p' sets) k 0 < 256
    put-bytes p' sets b k = go (eqb p' p)
      where
        go : (c : Bool) → get_or (cond c (reset_pairs (used s.created) sets) sets) k 0 < 256
        go true = reset-bytes (used s.created) sets b k
        go false = b k

    pub opening-held : HoldsStates local es (opening p ∷ past) s.created after
    unfolding reset_in
    opening-held = record {
      tracks = tracks;
      lower = low (anew local s.unclosed p) refl;
      upper = high (anew local s.unclosed p) refl;
      gathers = gathers;
      sets_length = sets_length (anew local s.unclosed p);
      pairs_length = pairs_length (anew local s.unclosed p);
      possible_length = possible_length (anew local s.unclosed p);
      bytes = bytes (anew local s.unclosed p);
      pair_bytes = pair_bytes (anew local s.unclosed p);
      possible_bytes = λ p'. subst (λ (n : ℕ). n < 256) (sym (possible-is p')) (either (anew local s.unclosed p && eqb p' p) (possible_in s.tracked p')
          (R.tracked.possible_bytes p'));
    }
      where
        either : (b : Bool) (n : ℕ) → n < 256 → cond b start_set n < 256
        either true n k = lit< tt
        either false n k = k

        sets_length : (b : Bool) → length (cond b (reset_sets (used s.created) p s.tracked.sets) s.tracked.sets) ≡ set_places
        sets_length true = reset-length s.tracked.sets p (used s.created)
        sets_length false = R.tracked.sets_length

        possible_length : (b : Bool) → length (cond b (set s.tracked.possible p start_set) s.tracked.possible) ≡ policies
        possible_length true = length-set s.tracked.possible p start_set ∙ R.tracked.possible_length
        possible_length false = R.tracked.possible_length

        pairs_length : (b : Bool) → length (put-pairs b) ≡ pair_sets
        pairs_length true = each-size (pairs_of es) put put-sized s.tracked.pairs R.tracked.pairs_length
        pairs_length false = R.tracked.pairs_length

        pair_bytes : (b : Bool) (k : ℕ) → get_or (put-pairs b) k 0 < 256
        pair_bytes true k =
            each-bytes (pairs_of es) put put-sized put-bytes s.tracked.pairs R.tracked.pairs_length R.tracked.pair_bytes k
        pair_bytes false k = R.tracked.pair_bytes k

        bytes : (b : Bool) (k : ℕ) → get_or (cond b (reset_sets (used s.created) p s.tracked.sets) s.tracked.sets) k 0 < 256
        bytes true k = reset-below s.tracked.sets p (used s.created) R.tracked.bytes k
        bytes false k = R.tracked.bytes k
