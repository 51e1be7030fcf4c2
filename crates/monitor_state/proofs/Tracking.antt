-- The sets of states after an event and after a create hold what the instances may be in.
use Prim.Native.Nat.{ℕ, ◌+◌, ◌*◌, ◌/◌, ◌%◌, ◌<◌, ◌≤◌}
use mathlib.Core.Path.{◌≡◌, refl, sym, ap, ap₂, ◌∙◌, subst}
use mathlib.Core.Bool.{Bool, true, false, cond}
use mathlib.Core.List.{List, [], ◌∷◌}
use native.Mathlib.Nat.{zero-add}
use native.Mathlib.Omega.{arith}
use lib.Arith.{digits_div, digits_mod}
use lib.Dec.{eqb, ltb, lit<}
use lib.ListN.{length, get_or}
use borrow.Author.Tests.{eqb-false, lt-ltb}
use Rattle.usage.specs.declared.Edge.{Edge}
use Rattle.usage.specs.Limits.{statics, resources, policies, most_created}
use Rattle.usage.specs.Past.{Past, event}
use Rattle.usage.specs.Tables.{from}
use Rattle.usage.proofs.Logic.{clash}
use Rattle.usage.proofs.PlacedLaws.{at_more, at-create}
use Rattle.automaton.specs.Mask.{has}
use Rattle.automaton.specs.Move.{move, fires_at, move_mask}
use Rattle.automaton.proofs.MoveLaws.{Ends, move_mask-lt}
use Rattle.automaton.proofs.PlaceLaws.{moved-one, one-seat, Holds, holds-event}
use Rattle.monitor_sets.specs.Instances.{unseen, instances, set_places}
use Rattle.monitor_state.specs.declared.Tracked.{Tracked}
use Rattle.monitor_state.specs.declared.Created.{Created}
use Rattle.monitor_state.specs.Created.{live, listed, place_of, used, with_new}
use Rattle.monitor_state.specs.Tracked.{set_at, copied, copied_in, moved_sets, moved_in}
use Rattle.monitor_state.specs.Represents.{Stands, Tracks, ListsLive}
use Rattle.usage.proofs.TableLaws.{get_d-from, from-below}
use Rattle.monitor_state.proofs.Places.{known, LiveParts}
use Rattle.monitor_state.proofs.StandsLaws.{stands-alone, stands_after, stands-before, stands-fresh, created-stands}
use Rattle.monitor_state.proofs.StartLaws.{may-lt}

-- place p * instances + i of a table of sets
at-div : (p i : ℕ) → i < instances → (p * instances + i) / instances ≡ p
at-div p i h = digits_div p h

at-mod : (p i : ℕ) → i < instances → (p * instances + i) % instances ≡ i
at-mod p i h = digits_mod p h

get_d-table : (f : ℕ → ℕ) (p i : ℕ) → p < policies → i < instances → get_or (from f 0 set_places) (p * instances + i) 0 ≡ f (p * instances + i)
get_d-table f p i h k = get_d-from f 0 set_places (p * instances + i) 0 (omega arith) ∙ ap f (zero-add (p * instances + i))

-- ── Events ──

set-moved : (es : List Edge) (a r : ℕ) (c : Created) (t : Tracked) (p i : ℕ) → c.count ≤ most_created → p < policies → i < used c
    → set_at (moved_in es a r (place_of c r) (used c) t) p i ≡ move_mask es p a r (eqb i (place_of c r)) (set_at t p i)
unfolding moved_in moved_sets
set-moved es a r c t p i few k h =
    let l : i < instances = omega arith in
    get_d-table
    (λ k. cond (ltb (k % instances) (used c)) (move_mask es (k / instances) a r (eqb (k % instances) (place_of c r)) (get_or t.sets k 0))
    (get_or t.sets k 0)) p i k l
    ∙ ap₂ (λ (u v : ℕ). cond (ltb v (used c)) (move_mask es u a r (eqb v (place_of c r)) (set_at t p i)) (set_at t p i)) (at-div p i l)
    (at-mod p i l)
    ∙ ap (λ (b : Bool). cond b (move_mask es p a r (eqb i (place_of c r)) (set_at t p i)) (set_at t p i)) (lt-ltb i (used c) h)

-- Each set moves by where the place of r is among its places.
pub moved-tracks : (local : Bool) (es : List Edge) → Ends es → (c : Created) (t : Tracked) → LiveParts c → (past : Past) (a r : ℕ)
    → Tracks local es past c t → known c r ≡ true → Tracks local es (event a r ∷ past) c (moved_in es a r (place_of c r) (used c) t)
moved-tracks local es v c t w past a r held kn p i q k single l b = (
  λ e. at_more (stands_after (λ x e. clash (cc))) ((after q b).0 (sym same ∙ e)),
  λ y. same ∙ (after q b).1 (at_more (stands-before (λ x e. clash (cc))) y),
)
  where
    m : ℕ
    m = set_at t p i

    own : Bool
    own = eqb i (place_of c r)

    after : Holds local es p (Stands past c) (event a r ∷ past) (i ∷ []) (move (fires_at p a r own false) es m)
    after = holds-event local es v p (Stands past c) a (place_of c r) r (stands-alone past c r kn) past (i ∷ []) own false
        (one-seat i (place_of c r)) (λ q y. may-lt v y.may) m (λ q b. held p i q k single l b)

    same : has (set_at (moved_in es a r (place_of c r) (used c) t) p i) q ≡ has (move (fires_at p a r own false) es m) q
    same = ap (λ (n : ℕ). has n q) (set-moved es a r c t p i w.few k l ∙ sym (moved-one es p a r own m))

-- ── Creates ──

module _ (c : Created) (t : Tracked) (n : length c.numbers ≡ most_created) (w : LiveParts c) (r : ℕ) (room : c.count < most_created)
    (new : listed r (live c) ≡ false) (dyn : statics ≤ r) where
  set-copied : (es : List Edge) (p i : ℕ) → p < policies → i < instances
      → set_at (copied_in es t (used c)) p i ≡ cond (eqb i (used c)) (set_at t p unseen) (set_at t p i)
  unfolding copied_in copied
  set-copied es p i h k =
      get_d-table
      (λ k. cond (eqb (k % instances) (used c)) (get_or t.sets (k / instances * instances + unseen) 0) (get_or t.sets k 0)) p i h k
      ∙ ap₂ (λ (u v : ℕ). cond (eqb v (used c)) (set_at t u unseen) (set_at t p i)) (at-div p i k) (at-mod p i k)

  abbrev past-place : ℕ → ℕ
  past-place i = cond (eqb i (used c)) unseen i

  set_before : (es : List Edge) (p i : ℕ) → p < policies → i < instances → set_at (copied_in es t (used c)) p i ≡ set_at t p (past-place i)
  set_before es p i h k = set-copied es p i h k ∙ go (eqb i (used c))
    where
      go : (b : Bool) → cond b (set_at t p unseen) (set_at t p i) ≡ set_at t p (cond b unseen i)
      go true = refl
      go false = refl

  before-used : (i : ℕ) → i < used c + 1 → past-place i < used c
  before-used i l = go (eqb i (used c)) refl
    where
      go : (b : Bool) → eqb i (used c) ≡ b → cond b unseen i < used c
      go true e = omega arith
      go false e = let d = eqb-false i (used c) e in omega arith

  -- The new resource's instance holds what that of the resources that never occurred holds.
  pub created-tracks : (local : Bool) (es : List Edge) (past : Past) (L : ListsLive past c) (fits : r < resources) (above : c.highest < r)
      → Tracks local es past c t → Tracks local es past (with_new c r) (copied_in es t (used c))
  unfolding with_new
  created-tracks local es past L fits above held p i q k single l b =
      let inside : i < used c + 1 = subst (λ (n : ℕ). i < n) used-more l in
      let same : has (set_at (copied_in es t (used c)) p i) q ≡ has (set_at t p (past-place i)) q =
      ap (λ (m : ℕ). has m q) (set_before es p i k (omega arith)) in
      let stood = created-stands past c L r room new dyn fits above in
      let create = at-create (Stands past c) past r _ unseen (used c) (stands-fresh past c L r room new dyn fits above) local es p (i ∷ []) q in
      let old = held p (past-place i) q k single (before-used i inside) b in (
        λ e. at_more (λ j x h. (stood j x).1 h) (create.1 (old.0 (sym same ∙ e))),
        λ y. same ∙ old.1 (create.0 (at_more (λ j x h. (stood j x).0 h) y)),
      )
    where
      used-more : used (with_new c r) ≡ used c + 1
      used-more = omega arith

-- ── Sets stay bytes ──

abbrev Bytes : Tracked → Type 0
Bytes t = (k : ℕ) → get_or t.sets k 0 < 256

pub moved-bytes : (es : List Edge) (a r own n : ℕ) (t : Tracked) → Bytes t → Bytes (moved_in es a r own n t)
unfolding moved_in moved_sets
moved-bytes es a r own n t h i =
    from-below
    (λ k. cond (ltb (k % instances) n) (move_mask es (k / instances) a r (eqb (k % instances) own) (get_or t.sets k 0))
    (get_or t.sets k 0)) 256 (lit< tt)
    (λ k. go k (ltb (k % instances) n)) 0 set_places i
  where
    go : (k : ℕ) (b : Bool)
        → cond b (move_mask es (k / instances) a r (eqb (k % instances) own) (get_or t.sets k 0)) (get_or t.sets k 0) < 256
    go k true = move_mask-lt es (k / instances) a r (eqb (k % instances) own) (get_or t.sets k 0)
    go k false = h k

pub copied-bytes : (es : List Edge) (t : Tracked) (i : ℕ) → Bytes t → Bytes (copied_in es t i)
unfolding copied_in copied
copied-bytes es t i h k₀ =
    from-below (λ k. cond (eqb (k % instances) i) (get_or t.sets (k / instances * instances + unseen) 0) (get_or t.sets k 0)) 256
    (lit< tt)
    (λ k. go k (eqb (k % instances) i)) 0 set_places k₀
  where
    go : (k : ℕ) (b : Bool) → cond b (get_or t.sets (k / instances * instances + unseen) 0) (get_or t.sets k 0) < 256
    go k true = h (k / instances * instances + unseen)
    go k false = h k
