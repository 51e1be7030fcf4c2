-- The sets of the pair policies hold what their instances may be in: the laws of `monitor_pairs` over the places of a state, one block and
-- then both.
use Prim.Native.Nat.{ℕ, ◌+◌, ◌-◌, ◌<◌, ◌≤◌}
use mathlib.Core.Path.{◌≡◌, sym, subst, ◌∙◌}
use mathlib.Core.Bool.{Bool, true, false}
use mathlib.Core.List.{List, [], ◌∷◌}
use mathlib.Core.Logic.{◌↔◌}
use native.Mathlib.Omega.{arith}
use lib.ListN.{length}
use Rattle.usage.specs.declared.Edge.{Edge}
use Rattle.usage.specs.Limits.{statics, resources, policies, most_created}
use Rattle.usage.specs.Policy.{PairPolicy}
use Rattle.usage.specs.Past.{Past, event, retiring}
use Rattle.usage.specs.Placed.{At}
use Rattle.usage.proofs.Logic.{clash, not-both}
use Rattle.usage.proofs.PlacedLaws.{Has, at_more, at-retiring}
use Rattle.automaton.proofs.MoveLaws.{Ends}
use Rattle.monitor_sets.specs.Instances.{unseen, first_created_lem}
use Rattle.monitor_pairs.specs.Pairs.{event_pairs, create_pairs, retire_pairs}
use Rattle.monitor_pairs.specs.Tracked.{seat_in, TracksPairs, event_ways}
use Rattle.monitor_pairs.specs.Blocks.{pair_sets, lower_block, upper_block, pairs_of, each_block}
use Rattle.monitor_pairs.proofs.TrackedLaws.{event-tracks, create-tracks}
use Rattle.monitor_pairs.proofs.SideLaws.{retire-tracks}
use Rattle.monitor_pairs.proofs.EachLaws.{Sized, of-policy, each-lower, each-upper, lower-pair, upper-pair}
use Rattle.monitor_state.specs.declared.Created.{Created}
use Rattle.monitor_state.specs.Created.{live, listed, place_of, used, with_new, with_retired}
use Rattle.monitor_state.specs.Represents.{Stands, ListsLive}
use Rattle.monitor_state.proofs.Places.{known, not_known, place-lt, LiveParts, live-parts, used-most}
use Rattle.monitor_state.proofs.CreatedLaws.{retired-from}
use Rattle.monitor_state.proofs.StandsLaws.{stands-alone, stands_after, stands-before, stands-fresh, created-stands, retired-stands, beyond}
use Rattle.monitor_state.proofs.StartLaws.{may-lt}

-- where the instances at all places may be in the same states
pub tracks-as : {local : Bool} {es : List Edge} {p : ℕ} {stands now : ℕ → ℕ → Type 0} {past then : Past} (n : ℕ) (sets : List ℕ)
    → ((places : List ℕ) (q : ℕ) → At local es p stands past places q ↔ At local es p now then places q)
    → TracksPairs local es p stands past n sets → TracksPairs local es p now then n sets
tracks-as n sets f held i j q h b k =
    let t = held i j q h b k in
    let g = f (i ∷ seat_in n j ∷ []) q in
    (λ e. g.0 (t.0 e), λ y. t.1 (g.1 y))

-- ── One block ──

module _ (local : Bool) (es : List Edge) (past : Past) (c : Created) (p : ℕ) (sets : List ℕ) where
  abbrev Held : Type 0
  Held = TracksPairs local es p (Stands past c) past (used c) sets

  pub event-held : Ends es → LiveParts c → (a r : ℕ) → known c r ≡ true → Held
      → TracksPairs local es p (Stands (event a r ∷ past) c) (event a r ∷ past) (used c)
      (event_pairs (event_ways es p a r) (place_of c r) (used c) sets)
  event-held v w a r kn held =
      tracks-as (used c) (event_pairs (event_ways es p a r) (place_of c r) (used c) sets)
      (λ places q. (λ y. at_more (stands_after (λ x e. clash (cc))) y, λ y. at_more (stands-before (λ x e. clash (cc))) y))
      (event-tracks local es v p (Stands past c) a (place_of c r) r (stands-alone past c r kn)
      (λ e. not-both (known c r) kn (not_known c r e)) past (λ places q y. may-lt v y.may) (used c) (used-most c w) (place-lt c r) sets
      held)

  pub create-held : (L : ListsLive past c) (r : ℕ) (room : c.count < most_created) (new : listed r (live c) ≡ false) (dyn : statics ≤ r)
      (fits : r < resources) (above : c.highest < r) → Held
      → TracksPairs local es p (Stands past (with_new c r)) past (used (with_new c r)) (create_pairs (used c) sets)
  unfolding with_new
  create-held L r room new dyn fits above held =
      subst (λ (n : ℕ). TracksPairs local es p (Stands past (with_new c r)) past n (create_pairs (used c) sets)) more
      (tracks-as (used c + 1) (create_pairs (used c) sets)
      (λ places q. (λ y. at_more (λ i x h. (stood i x).1 h) y, λ y. at_more (λ i x h. (stood i x).0 h) y))
      (create-tracks (Stands past c) past r (beyond past c L) (used c) (stands-fresh past c L r room new dyn fits above) local es p sets
      (omega arith) (omega arith) held))
    where
      stood : (i x : ℕ) → Stands past (with_new c r) i x ↔ Has (Stands past c) past r (beyond past c L) unseen (used c)
          (stands-fresh past c L r room new dyn fits above) i x
      stood = created-stands past c L r room new dyn fits above

      more : used c + 1 ≡ used (with_new c r)
      more = omega arith

  pub retire-held : (L : ListsLive past c) (r : ℕ) (here : listed r (live c) ≡ true) → Held
      → TracksPairs local es p (Stands (retiring r ∷ past) (with_retired c r)) (retiring r ∷ past) (used (with_retired c r))
      (retire_pairs (place_of c r) (used c) sets)
  unfolding with_retired
  retire-held L r here held =
      subst (λ (n : ℕ). TracksPairs local es p (Stands (retiring r ∷ past) (with_retired c r)) (retiring r ∷ past) n
      (retire_pairs (place_of c r) (used c) sets)) less
      (tracks-as (used c - 1) (retire_pairs (place_of c r) (used c) sets)
      (λ places q. let f = at-retiring local es p (Stands (retiring r ∷ past) (with_retired c r)) r past places q in (f.1, f.0))
      (retire-tracks local es p (Stands past c) (Stands (retiring r ∷ past) (with_retired c r)) past (place_of c r) (used c) first (place-lt c r)
      (used-most c w) (retired-stands past c L r here) sets held))
    where
      w : LiveParts c
      w = live-parts c L.well

      first : first_created_lem ≤ place_of c r
      first = retired-from c L.numbers_length w r here

      less : used c - 1 ≡ used (with_retired c r)
      less = omega (arith, first, place-lt c r)

-- ── Both ──

-- what holds of each block's policy and sets, from what held of them
module _ (es : List Edge) (P Q : ℕ → List ℕ → Type 0) (f : ℕ → List ℕ → List ℕ) (sized : Sized f)
    (each : (p : ℕ) (sets : List ℕ) → p < policies → PairPolicy es p → P p sets → Q p (f p sets)) (pairs : List ℕ)
    (e : length pairs ≡ pair_sets) where
  pub lower-each : ((pairs_of es).first < policies → P (pairs_of es).first (lower_block pairs)) → (pairs_of es).first < policies
      → Q (pairs_of es).first (lower_block (each_block (pairs_of es) f pairs))
  lower-each held h =
      subst (Q (pairs_of es).first)
      (sym (each-lower (pairs_of es) f sized pairs e ∙ of-policy (pairs_of es).first f (lower_block pairs) h))
      (each (pairs_of es).first (lower_block pairs) h (lower-pair es h) (held h))

  pub upper-each : ((pairs_of es).second < policies → P (pairs_of es).second (upper_block pairs)) → (pairs_of es).second < policies
      → Q (pairs_of es).second (upper_block (each_block (pairs_of es) f pairs))
  upper-each held h =
      subst (Q (pairs_of es).second)
      (sym (each-upper (pairs_of es) f sized pairs e ∙ of-policy (pairs_of es).second f (upper_block pairs) h))
      (each (pairs_of es).second (upper_block pairs) h (upper-pair es h) (held h))
