-- The sets after a retiring (02, L8): the place of the retired resource's instance is closed up, and its states have joined those of the
-- retired ones.
use Prim.Native.Nat.{ℕ, ◌+◌, ◌-◌, ◌<◌, ◌≤◌}
use mathlib.Core.Path.{◌≡◌, refl, sym, ap, ◌∙◌}
use mathlib.Core.Bool.{Bool, true, false, ◌||◌, cond}
use mathlib.Core.List.{List, [], ◌∷◌}
use mathlib.Core.Logic.{inl, inr, ◌↔◌}
use native.Mathlib.Omega.{arith}
use lib.Dec.{eqb, ltb}
use lib.ListN.{length}
use borrow.Author.Tests.{eqb-true, eqb-false, lt-ltb, le-ltb, ltb-true, ltb-false}
use Rattle.usage.specs.declared.Edge.{Edge}
use Rattle.usage.specs.Limits.{policies, most_created}
use Rattle.usage.specs.Past.{retiring, Past}
use Rattle.usage.specs.Placed.{At}
use Rattle.usage.proofs.Logic.{by_cases, or_left, or_right, or_cases}
use Rattle.usage.proofs.PlacedLaws.{at-retiring, Takes, none-taken, next-taken, at-taken}
use Rattle.automaton.specs.Mask.{has}
use Rattle.automaton.proofs.MaskLaws.{has-or}
use Rattle.monitor_sets.specs.Instances.{retirees, first_created_lem}
use Rattle.monitor_sets.proofs.RetiredLaws.{lowered, retired-joined, retired-other}
use Rattle.monitor_state.specs.declared.Tracked.{Tracked}
use Rattle.monitor_state.specs.declared.Created.{Created}
use Rattle.monitor_state.specs.Created.{live, listed, place_of, used, with_retired}
use Rattle.monitor_state.specs.Tracked.{set_at, retired_in}
use Rattle.monitor_state.specs.Represents.{Stands, Tracks, ListsLive}
use Rattle.monitor_state.proofs.Places.{place-lt, LiveParts, live-parts, used-most}
use Rattle.monitor_state.proofs.CreatedLaws.{retired-from}
use Rattle.monitor_state.proofs.StandsLaws.{Gives, retired-stands, place-used}

module _ (es : List Edge) (past : Past) (c : Created) (t : Tracked) (L : ListsLive past c) (r : ℕ) (here : listed r (live c) ≡ true) where
  n : length c.numbers ≡ most_created
  n = L.numbers_length

  w : LiveParts c
  w = live-parts c L.well

  abbrev at : ℕ
  at = place_of c r

  abbrev new : Tracked
  new = retired_in es at (used c) t

  from : first_created_lem ≤ at
  from = retired-from c n w r here

  -- every place but that of the retired ones holds what the one that it takes from held
  set-kept : (p j : ℕ) → p < policies → j < used c → (j ≡ at → ⊥) → (j ≡ retirees → ⊥) → set_at new p (lowered at j) ≡ set_at t p j
  unfolding retired_in
  set-kept p j k l d e = retired-other at (used c) t.sets p j k (omega (arith, used-most c w)) l from d e

  set-joined : (p q : ℕ) → p < policies → has (set_at new p retirees) q ≡ (has (set_at t p retirees) q || has (set_at t p at) q)
  unfolding retired_in
  set-joined p q k =
      ap (λ (m : ℕ). has m q) (retired-joined at (used c) t.sets p k) ∙ has-or (set_at t p retirees) (set_at t p at) q

  -- the place that place i takes from
  raised : (i : ℕ) → i < used c - 1 → (i ≡ retirees → ⊥)
      → (j : ℕ) × (j < used c) × (i ≡ lowered at j) × (j ≡ at → ⊥) × (j ≡ retirees → ⊥)
  raised i l d = go (ltb i at) refl
    where
      go : (b : Bool) → ltb i at ≡ b → (j : ℕ) × (j < used c) × (i ≡ lowered at j) × (j ≡ at → ⊥) × (j ≡ retirees → ⊥)
      go true e =
          let h = ltb-true i at e in
          (i, omega arith, sym (ap (λ (b : Bool). cond b (i - 1) i) (le-ltb at i (omega arith))), λ q. omega arith, d)
      go false e =
          let h = ltb-false i at e in (
            i + 1,
            omega arith,
            sym (ap (λ (b : Bool). cond b (i + 1 - 1) (i + 1)) (lt-ltb at (i + 1) (omega arith)) ∙ omega arith),
            λ q. omega arith,
            λ q. omega (arith, from),
          )

  module _ (local : Bool) (held : Tracks local es past c t) where
    taken : (p i q : ℕ) → At local es p (Stands (retiring r ∷ past) (with_retired c r)) (retiring r ∷ past) (i ∷ []) q
        ↔ ((before : List ℕ) × Takes (Gives past c L r here) (i ∷ []) before × At local es p (Stands past c) past before q)
    taken p i q =
        let now = Stands (retiring r ∷ past) (with_retired c r) in
        let lift = at-retiring local es p now r past (i ∷ []) q in
        let take = at-taken local es p (Stands past c) now (Gives past c L r here) (retired-stands past c L r here) past (i ∷ []) q in
        (λ y. take.0 (lift.0 y), λ y. lift.1 (take.1 y))

    at-used : at < used c
    at-used = place-lt c r

    pub retired-tracks : Tracks local es (retiring r ∷ past) (with_retired c r) new
    unfolding with_retired
    retired-tracks p i q k single l b = (to (eqb i retirees) refl, back)
      where
        inside : i < used c - 1
        inside = omega (arith, from, at-used)

        -- from a place that it takes from
        give : (j : ℕ) → j < used c → Gives past c L r here i j → has (set_at t p j) q ≡ true
            → At local es p (Stands (retiring r ∷ past) (with_retired c r)) (retiring r ∷ past) (i ∷ []) q
        give j m g h = (taken p i q).1 (j ∷ [], next-taken g none-taken, (held p j q k single m b).0 h)

        to : (f : Bool) → eqb i retirees ≡ f → has (set_at new p i) q ≡ true
            → At local es p (Stands (retiring r ∷ past) (with_retired c r)) (retiring r ∷ past) (i ∷ []) q
        to true e h =
            let z = eqb-true i retirees e in
            by_cases (or_cases (has (set_at t p retirees) q) (has (set_at t p at) q)
            (sym (set-joined p q k) ∙ ap (λ (j : ℕ). has (set_at new p j) q) (sym z) ∙ h))
            (λ f. give retirees (omega arith) (inl (z, inl refl)) f) (λ f. give at at-used (inl (z, inr refl)) f)
        to false e h =
            let (j, m, f, d, g) = raised i inside (eqb-false i retirees e) in
            give j m (inr (f, d, g)) (ap (λ (n : ℕ). has n q) (sym (set-kept p j k m d g) ∙ ap (set_at new p) (sym f)) ∙ h)

        gave : {j : ℕ} → Gives past c L r here i j → At local es p (Stands past c) past (j ∷ []) q → has (set_at new p i) q ≡ true
        gave {j} (inl (e, inl f)) y =
            ap (λ (j : ℕ). has (set_at new p j) q) e ∙ set-joined p q k
            ∙ or_left (has (set_at t p retirees) q) (has (set_at t p at) q)
            (ap (λ (j : ℕ). has (set_at t p j) q) (sym f) ∙ (held p j q k single (place-used y) b).1 y)
        gave {j} (inl (e, inr f)) y =
            ap (λ (j : ℕ). has (set_at new p j) q) e ∙ set-joined p q k
            ∙ or_right (has (set_at t p retirees) q) (has (set_at t p at) q)
            (ap (λ (j : ℕ). has (set_at t p j) q) (sym f) ∙ (held p j q k single (place-used y) b).1 y)
        gave {j} (inr (e, d, f)) y =
            ap (λ (n : ℕ). has n q) (ap (set_at new p) e ∙ set-kept p j k (place-used y) d f)
            ∙ (held p j q k single (place-used y) b).1 y

        back : At local es p (Stands (retiring r ∷ past) (with_retired c r)) (retiring r ∷ past) (i ∷ []) q → has (set_at new p i) q ≡ true
        back y = let (before, ts, z) = (taken p i q).0 y in one ts z
          where
            one : {before : List ℕ} → Takes (Gives past c L r here) (i ∷ []) before → At local es p (Stands past c) past before q
                → has (set_at new p i) q ≡ true
            one (next-taken g none-taken) z = gave g z
