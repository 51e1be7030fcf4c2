-- The state after a step stands for the past with that step: part by part.
use Prim.Native.Nat.{ℕ, zero, suc, ◌<◌, ◌≤◌}
use mathlib.Core.Path.{◌≡◌, refl, ap, ◌∙◌}
use mathlib.Core.Bool.{Bool, true, false}
use mathlib.Core.List.{List, ◌∷◌}
use lib.ListN.{length, get_or}
use Rattle.usage.specs.declared.Edge.{Edge}
use Rattle.usage.specs.Policy.{PairPolicy, EdgesOk}
use Rattle.usage.specs.Limits.{statics, resources, policies, most_created, most_unclosed}
use Rattle.usage.specs.Past.{Step, event, opening, closing, retiring, Past, count, Occurs}
use Rattle.usage.specs.Past.{open_stack, live_in, highest}
use Rattle.usage.proofs.PlacedLaws.{at-retiring, wherever}
use Rattle.usage.proofs.JudgeLaws.{Fits}
use Rattle.usage.proofs.Logic.{clash, not-both}
use Rattle.usage.proofs.TableLaws.{length_from}
use Rattle.automaton.proofs.MoveLaws.{ends_of}
use Rattle.monitor_sets.specs.Instances.{unseen, set_places}
use Rattle.monitor_sets.proofs.RetiredLaws.{retired-length, retired-below}
use Rattle.monitor_pairs.specs.Pairs.{event_pairs, create_pairs, retire_pairs}
use Rattle.monitor_pairs.specs.Tracked.{TracksPairs, event_ways}
use Rattle.monitor_pairs.specs.Blocks.{lower_block, upper_block, pairs_of}
use Rattle.monitor_pairs.proofs.BlockLaws.{created-below}
use Rattle.monitor_pairs.proofs.EachLaws.{Sized, event-size, create-size, retire-size, each-size, gathered-size}
use Rattle.monitor_pairs.proofs.ByteLaws.{event-bytes, retire-bytes, each-bytes}
use Rattle.monitor_state.specs.declared.Tracked.{Tracked}
use Rattle.monitor_state.specs.declared.Created.{Created}
use Rattle.monitor_state.specs.declared.State.{State}
use Rattle.monitor_state.specs.Tracked.{moved_sets, gathered, pair_sets, copied_in, moved_in, retired_in}
use Rattle.monitor_state.specs.Created.{live, listed, place_of, used, with_new, with_retired}
use Rattle.monitor_state.specs.Judge.{openings_of, last_opened, with_tracked, creating, moving, entering, leaving, releasing, after}
use Rattle.monitor_state.specs.Represents.{Stands, Tracks, TracksBlock, HoldsStates, ListsLive, Represents}
use Rattle.monitor_state.proofs.Places.{known, not_known, LiveParts, live-parts, used-most, above_new}
use Rattle.monitor_state.proofs.CreatedLaws.{occurs-before, resource-same, same_live, created-known, created-live, retired-live}
use Rattle.monitor_state.proofs.UnclosedLaws.{same-openings, opening-counts, closing-counts}
use Rattle.monitor_state.proofs.StandsLaws.{somewhere}
use Rattle.monitor_state.proofs.Tracking.{moved-tracks, moved-bytes, created-tracks, copied-bytes}
use Rattle.monitor_state.proofs.PairTracking.{event-held, create-held, retire-held, lower-each, upper-each}
use Rattle.monitor_state.proofs.Retiring.{retired-tracks}
use Rattle.monitor_state.proofs.Gathering.{gathered-gathers, gathered-bytes, both_bytes}
use Rattle.monitor_state.proofs.OpeningLaws.{opening-held, closing-held}

-- ── What a step must meet to be taken ──

abbrev pub Ready : State → Step → Type 0
Ready s (event zero r) = (statics ≤ r) × (s.created.highest < r) × (s.created.count < most_created)
Ready s (event (suc a) r) = known s.created r ≡ true
Ready s (opening p) = s.unclosed.depth < most_unclosed
Ready s (closing p) = (0 < openings_of s.unclosed p) × (last_opened s.unclosed ≡ p)
Ready s (retiring r) = listed r (live s.created) ≡ true

-- ── What is tracked ──

-- what moved, and what is gathered from it
module _ (local : Bool) (es : List Edge) (v : EdgesOk es) (past : Past) (a r : ℕ) (c : Created) (t : Tracked) (w : LiveParts c)
    (k : known c r ≡ true) (size : length t.pairs ≡ pair_sets) where
  abbrev new : Tracked
  new = moved_in es a r (place_of c r) (used c) t

  abbrev move : ℕ → List ℕ → List ℕ
  move p = event_pairs (event_ways es p a r) (place_of c r) (used c)

  sized : Sized move
  sized p sets e = event-size (event_ways es p a r) (place_of c r) (used c) sets

  held : (p : ℕ) (sets : List ℕ) → p < policies → PairPolicy es p → TracksPairs local es p (Stands past c) past (used c) sets
      → TracksPairs local es p (Stands (event a r ∷ past) c) (event a r ∷ past) (used c) (move p sets)
  held p sets h is b = event-held local es past c p sets (ends_of v) w a r k b

  moved-states : Tracks local es past c t → TracksBlock local es past c (pairs_of es).first (lower_block t.pairs)
      → TracksBlock local es past c (pairs_of es).second (upper_block t.pairs) → ((k : ℕ) → get_or t.sets k 0 < 256)
      → ((k : ℕ) → get_or t.pairs k 0 < 256) → HoldsStates local es (event a r ∷ past) c new
  unfolding moved_in moved_sets gathered
  moved-states tracks low high bytes pair_bytes = record {
    tracks = ahead;
    lower = lower;
    upper = upper;
    gathers = gathered-gathers local es v (event a r ∷ past) c (used-most c w) new ahead lower upper refl;
    sets_length = length_from _ 0 set_places;
    pairs_length = each-size (pairs_of es) move sized t.pairs size;
    possible_length = gathered-size (pairs_of es) (used c) new.pairs (gathered (used c) new.sets) ∙ gathered-length;
    bytes = moved-bytes es a r (place_of c r) (used c) t bytes;
    pair_bytes = small;
    possible_bytes = both_bytes es (used c) new.pairs (gathered (used c) new.sets) (each-size (pairs_of es) move sized t.pairs size) small
        gathered-length (gathered-bytes (used c) new.sets (moved-bytes es a r (place_of c r) (used c) t bytes));
  }
    where
      ahead : Tracks local es (event a r ∷ past) c new
      ahead = moved-tracks local es (ends_of v) c t w past a r tracks k

      lower : TracksBlock local es (event a r ∷ past) c (pairs_of es).first (lower_block new.pairs)
      lower = lower-each es _ (λ p sets. TracksPairs local es p (Stands (event a r ∷ past) c) (event a r ∷ past) (used c) sets) move sized held
          t.pairs size low

      upper : TracksBlock local es (event a r ∷ past) c (pairs_of es).second (upper_block new.pairs)
      upper = upper-each es _ (λ p sets. TracksPairs local es p (Stands (event a r ∷ past) c) (event a r ∷ past) (used c) sets) move sized held
          t.pairs size high

      gathered-length : length (gathered (used c) new.sets) ≡ policies
      gathered-length = length_from _ 0 policies

      small : (k : ℕ) → get_or new.pairs k 0 < 256
      small = each-bytes (pairs_of es) move sized (λ p sets. event-bytes es p a r (place_of c r) (used c) sets) t.pairs size pair_bytes

-- what is kept of each policy stays: it is that of all instances, wherever they stand
module _ (local : Bool) (es : List Edge) (past : Past) (r : ℕ) (c : Created) (t : Tracked) (L : ListsLive past c)
    (here : listed r (live c) ≡ true) (H : HoldsStates local es past c t) where
  abbrev leave : ℕ → List ℕ → List ℕ
  leave p = retire_pairs (place_of c r) (used c)

  left-sized : Sized leave
  left-sized p sets e = retire-size (place_of c r) (used c) sets

  abbrev After : ℕ → List ℕ → Type 0
  After p sets = TracksPairs local es p (Stands (retiring r ∷ past) (with_retired c r)) (retiring r ∷ past) (used (with_retired c r)) sets

  left : (p : ℕ) (sets : List ℕ) → p < policies → PairPolicy es p → TracksPairs local es p (Stands past c) past (used c) sets
      → After p (leave p sets)
  left p sets h is b = retire-held local es past c p sets L r here b

  retired-states : HoldsStates local es (retiring r ∷ past) (with_retired c r) (retired_in es (place_of c r) (used c) t)
  unfolding retired_in
  retired-states = record {
    tracks = retired-tracks es past c t L r here local H.tracks;
    lower = lower-each es _ After leave left-sized left t.pairs H.pairs_length H.lower;
    upper = upper-each es _ After leave left-sized left t.pairs H.pairs_length H.upper;
    gathers = λ p q k b. (
      λ e. let (places, y) = (H.gathers p q k b).0 e in
          wherever local es p (somewhere (retiring r ∷ past) (with_retired c r) (retired-live c n w r here L)) ((at-retiring local es p _ r past places q).1 y),
      λ (places, y). (H.gathers p q k b).1
          (wherever local es p (somewhere past c L) ((at-retiring local es p _ r past places q).0 y)),
    );
    sets_length = retired-length (place_of c r) (used c) t.sets;
    pairs_length = each-size (pairs_of es) leave left-sized t.pairs H.pairs_length;
    possible_length = H.possible_length;
    bytes = retired-below (place_of c r) (used c) t.sets H.bytes;
    pair_bytes = each-bytes (pairs_of es) leave left-sized (λ p sets. retire-bytes (place_of c r) (used c) sets) t.pairs H.pairs_length
        H.pair_bytes;
    possible_bytes = H.possible_bytes;
  }
    where
      n : length c.numbers ≡ most_created
      n = L.numbers_length

      w : LiveParts c
      w = live-parts c L.well

-- ── The state ──

module _ (local : Bool) (es : List Edge) (v : EdgesOk es) (past : Past) (h : Bool) (s : State) (R : Represents local es past h s) where
  event-represents : (a r : ℕ) → known s.created r ≡ true → Represents local es (event (suc a) r ∷ past) h (moving es (suc a) r s)
  unfolding moving with_tracked count open_stack live_in highest
  event-represents a r k = record {
    halted = R.halted;
    tracked = moved-states local es v past (suc a) r s.created s.tracked (live-parts s.created R.created.well) k
        R.tracked.pairs_length R.tracked.tracks R.tracked.lower R.tracked.upper R.tracked.bytes R.tracked.pair_bytes;
    created = lives;
    unclosed = same-openings (λ p. refl) (λ p. refl) refl R.unclosed;
  }
    where
      -- r has a place of its own
      seen : (x : ℕ) → Occurs x (event (suc a) r ∷ past) → place_of s.created x ≡ unseen → Occurs x past
      seen x o u = occurs-before (λ b e. not-both (known s.created x) (ap (known s.created) (resource-same e) ∙ k) (not_known s.created x u)) o

      lives : ListsLive (event (suc a) r ∷ past) s.created
      lives = same_live refl refl (λ x e. clash (cc)) seen R.created

  create-represents : (r : ℕ) → Ready s (event 0 r) → r < resources → Represents local es (event 0 r ∷ past) h (moving es 0 r (creating es s r))
  unfolding moving creating with_tracked copied_in count open_stack
  create-represents r c f = record {
    halted = R.halted;
    tracked = moved-states local es v past 0 r (with_new s.created r) (copied_in es s.tracked (used s.created))
        (live-parts (with_new s.created r) lives.well) (created-known s.created n w r c.2 new c.0)
        (each-size (pairs_of es) copy sized s.tracked.pairs R.tracked.pairs_length)
        (created-tracks s.created s.tracked n w r c.2 new c.0 local es past R.created f c.1 R.tracked.tracks)
        (lower-each es _ After copy sized made s.tracked.pairs R.tracked.pairs_length R.tracked.lower)
        (upper-each es _ After copy sized made s.tracked.pairs R.tracked.pairs_length R.tracked.upper)
        (copied-bytes es s.tracked (used s.created) R.tracked.bytes)
        (each-bytes (pairs_of es) copy sized (λ p sets. created-below (used s.created) sets) s.tracked.pairs R.tracked.pairs_length
        R.tracked.pair_bytes);
    created = lives;
    unclosed = same-openings (λ p. refl) (λ p. refl) refl R.unclosed;
  }
    where
      copy : ℕ → List ℕ → List ℕ
      copy p = create_pairs (used s.created)

      sized : Sized copy
      sized p sets e = create-size (used s.created) sets

      After : ℕ → List ℕ → Type 0
      After p sets = TracksPairs local es p (Stands past (with_new s.created r)) past (used (with_new s.created r)) sets

      n : length s.created.numbers ≡ most_created
      n = R.created.numbers_length

      w : LiveParts s.created
      w = live-parts s.created R.created.well

      new : listed r (live s.created) ≡ false
      new = above_new s.created n w r c.1

      made : (p : ℕ) (sets : List ℕ) → p < policies → PairPolicy es p
          → TracksPairs local es p (Stands past s.created) past (used s.created) sets → After p (copy p sets)
      made p sets h is b = create-held local es past s.created p sets R.created r c.2 new c.0 f c.1 b

      lives : ListsLive (event 0 r ∷ past) (with_new s.created r)
      lives = created-live s.created n w r c.2 new c.0 f c.1 R.created

  opening-represents : (p : ℕ) → p < policies → s.unclosed.depth < most_unclosed
      → Represents local es (opening p ∷ past) h (after local es s (opening p))
  unfolding after entering live_in highest
  opening-represents p l room = record {
    halted = R.halted;
    tracked = opening-held local es past h s R p l;
    created = same_live refl refl (λ x e. clash (cc)) (λ x o u. occurs-before (λ b e. clash (cc)) o) R.created;
    unclosed = opening-counts past s.unclosed R.unclosed p l room;
  }

  closing-represents : (p : ℕ) → p < policies → 0 < openings_of s.unclosed p → last_opened s.unclosed ≡ p
      → Represents local es (closing p ∷ past) h (leaving s p)
  unfolding leaving live_in highest
  closing-represents p l o last = record {
    halted = R.halted;
    tracked = closing-held local es past h s R p;
    created = same_live refl refl (λ x e. clash (cc)) (λ x o u. occurs-before (λ b e. clash (cc)) o) R.created;
    unclosed = closing-counts past s.unclosed R.unclosed p l o last;
  }

  retiring-represents : (r : ℕ) → listed r (live s.created) ≡ true → Represents local es (retiring r ∷ past) h (releasing es s r)
  unfolding releasing count open_stack
  retiring-represents r here = record {
    halted = R.halted;
    tracked = retired-states local es past r s.created s.tracked R.created here R.tracked;
    created = retired-live s.created R.created.numbers_length (live-parts s.created R.created.well) r here R.created;
    unclosed = same-openings (λ p. refl) (λ p. refl) refl R.unclosed;
  }

  pub after-represents : (step : Step) → Fits step → Ready s step → Represents local es (step ∷ past) h (after local es s step)
  unfolding after
  after-represents (event zero r) f c = create-represents r c f.1
  after-represents (event (suc a) r) f c = event-represents a r c
  after-represents (opening p) f c = opening-represents p f c
  after-represents (closing p) f c = closing-represents p f c.0 c.1
  after-represents (retiring r) f c = retiring-represents r c
