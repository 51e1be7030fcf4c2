-- Which numbers a place stands for, and what a step makes of it.
use Prim.Native.Nat.{ℕ, ◌<◌, ◌≤◌}
use mathlib.Core.Path.{◌≡◌, refl, sym, ap, ◌∙◌, subst}
use mathlib.Core.Bool.{Bool, true, false}
use mathlib.Core.List.Memᴰ
use mathlib.Core.List.{List, [], ◌∷◌}
use mathlib.Core.Logic.{◌⊎◌, inl, inr, ◌↔◌}
use native.Mathlib.Omega.{arith}
use lib.Dec.{eqb}
use lib.ListN.{length}
use borrow.Author.Tests.{eq-eqb, ne_eqb, eqb-true, eqb-false}
use Rattle.usage.specs.declared.Edge.{Edge}
use Rattle.usage.specs.Policy.{Instance, single, pair}
use Rattle.usage.specs.Tests.{is_pair}
use Rattle.usage.specs.Placed.{Placed, none_placed, next_placed, At}
use Rattle.usage.specs.Limits.{statics, resources, most_created}
use Rattle.usage.specs.Past.{Step, retiring, Past, Occurs, Retired}
use Rattle.usage.proofs.Logic.{not-both}
use Rattle.usage.proofs.ValidLaws.{decides-pair}
use Rattle.usage.proofs.PlacedLaws.{Alone, Fresh, Has}
use Rattle.monitor_sets.specs.Instances.{unseen, retirees, first_created_lem}
use Rattle.monitor_sets.proofs.RetiredLaws.{lowered}
use Rattle.monitor_state.specs.declared.Created.{Created}
use Rattle.monitor_state.specs.Created.{live, listed, place_of, used, with_new, with_retired}
use Rattle.monitor_state.specs.Represents.{Stands, at_own, at_retirees, ListsLive}
use Rattle.monitor_state.proofs.ListLaws.{place-absent}
use Rattle.monitor_state.proofs.Places.{place-dynamic, place-lt, place-apart-retirees, known, not_known, place-own}
use Rattle.monitor_state.proofs.Places.{LiveParts, live-parts, far, place-far, owner}
use Rattle.monitor_state.proofs.CreatedLaws.{retired-before, place-created, place_kept}
use Rattle.monitor_state.proofs.CreatedLaws.{retired-from, apart, place-retired, place-lowered, unseen-after, unseen-before}

-- a resource that is static or live is alone at its place
pub stands-alone : (past : Past) (c : Created) (r : ℕ) → known c r ≡ true → Alone (Stands past c) (place_of c r) r
stands-alone past c r k = record { only = only; nowhere = nowhere }
  where
    only : (x : ℕ) → Stands past c (place_of c r) x → x ≡ r
    only x (at_own e d) = sym ((place-own c x r k).is (eq-eqb (place_of c x) (place_of c r) e))
    only x (at_retirees e u) = absurd (place-apart-retirees c r e)

    nowhere : (j : ℕ) → Stands past c j r → j ≡ place_of c r
    nowhere j (at_own e d) = sym e
    nowhere j (at_retirees e u) = not-both (known c r) k (not_known c r u)

-- some instance of p, and the places that it stands at
pub record Somewhere (es : List Edge) (p : ℕ) (stands : ℕ → ℕ → Type 0) (places : List ℕ) : Type 0 where
  pub numbers : List ℕ
  pub fits : Instance es p numbers
  pub placed : Placed stands numbers places

-- there is one of any policy where some place stands for a number
pub placed-some : (es : List Edge) (p : ℕ) (stands : ℕ → ℕ → Type 0) (i : ℕ) → (x : ℕ) × stands i x
    → (places : List ℕ) × Somewhere es p stands places
placed-some es p stands i (x, g) = go (is_pair es p) refl
  where
    go : (b : Bool) → is_pair es p ≡ b → (places : List ℕ) × Somewhere es p stands places
    go true e = (
      i ∷ i ∷ [],
      record { numbers = x ∷ x ∷ []; fits = pair ((decides-pair es p).0 e); placed = next_placed g (next_placed g none_placed) },
    )
    go false e = (
      i ∷ [],
      record { numbers = x ∷ []; fits = single (λ w. not-both (is_pair es p) ((decides-pair es p).1 w) e); placed = next_placed g none_placed },
    )

-- a step that retires nothing changes none
module _ {past : Past} {c : Created} {step : Step} (none : (x : ℕ) → retiring x ≡ step → ⊥) where
  pub stands_after : (i x : ℕ) → Stands past c i x → Stands (step ∷ past) c i x
  stands_after i x (at_own e d) = at_own e (λ m. d (retired-before (none x) m))
  stands_after i x (at_retirees e u) = at_retirees e u

  pub stands-before : (i x : ℕ) → Stands (step ∷ past) c i x → Stands past c i x
  stands-before i x (at_own e d) = at_own e (λ m. d (Memᴰ.tail m))
  stands-before i x (at_retirees e u) = at_retirees e u

-- a place that stands for a number is one in use
pub stands-used : {past : Past} (c : Created) {i x : ℕ} → Stands past c i x → i < used c
stands-used c {x = x} (at_own e d) = omega (arith, e, place-lt c x)
stands-used c (at_retirees e u) = omega arith

-- so is that of an instance of one resource
pub place-used : {local : Bool} {es : List Edge} {p : ℕ} {past : Past} {c : Created} {i q : ℕ}
    → At local es p (Stands past c) past (i ∷ []) q → i < used c
place-used {past = past} {c = c} y = go y.placed
  where
    go : {xs : List ℕ} {i : ℕ} → Placed (Stands past c) xs (i ∷ []) → i < used c
    go (next_placed h none_placed) = stands-used c h

module _ (past : Past) (c : Created) (L : ListsLive past c) where
  n : length c.numbers ≡ most_created
  n = L.numbers_length

  w : LiveParts c
  w = live-parts c L.well

  abbrev pub beyond : ℕ
  beyond = far c L.numbers_length (live-parts c L.well)

  not-retired : (x : ℕ) → (place_of c x ≡ unseen → ⊥) → Retired x past → ⊥
  not-retired x d m = d (L.gone x m).0

  above_new : (x : ℕ) → c.highest < x → Retired x past → ⊥
  above_new x h m = let z = (L.gone x m).1 in omega arith

  -- every number has a place, and every place in use is some number's
  pub somewhere : (x : ℕ) → (i : ℕ) × Stands past c i x
  somewhere x = go (eqb (place_of c x) unseen) refl
    where
      go : (b : Bool) → eqb (place_of c x) unseen ≡ b → (i : ℕ) × Stands past c i x
      go true e = (retirees, at_retirees refl (eqb-true (place_of c x) unseen e))
      go false e = (place_of c x, at_own refl (not-retired x (eqb-false (place_of c x) unseen e)))

  pub someone : (i : ℕ) → i < used c → (x : ℕ) × Stands past c i x
  someone i l = go (eqb i retirees) refl (eqb i unseen) refl
    where
      go : (b : Bool) → eqb i retirees ≡ b → (m : Bool) → eqb i unseen ≡ m → (x : ℕ) × Stands past c i x
      go true e m f = (beyond, at_retirees (eqb-true i retirees e) (place-far c n w))
      go false e true f = (beyond, at_own (place-far c n w ∙ sym (eqb-true i unseen f)) (above_new beyond (omega arith)))
      go false e false f =
          let (x, o) = owner c n w i l (eqb-false i retirees e) in
          (x, at_own o (not-retired x (λ u. eqb-false i unseen f (sym o ∙ u))))

  -- ── A create ──

  module _ (r : ℕ) (room : c.count < most_created) (new : listed r (live c) ≡ false) (dyn : statics ≤ r) (fits : r < resources)
      (above : c.highest < r) where
    nowhere-yet : place_of c r ≡ unseen
    nowhere-yet = place-dynamic c r dyn ∙ place-absent r first_created_lem (live c) new

    pub stands-fresh : Fresh (Stands past c) past r beyond unseen
    stands-fresh = record {
      new = λ o. above_new r above (L.occurred r o nowhere-yet);
      here = at_own nowhere-yet (above_new r above);
      unused = unused;
      another-new = λ o. above_new beyond (omega arith) (L.occurred beyond o (place-far c n w));
      differs = λ e. omega arith;
      alike = alike;
    }
      where
        unused : (x : ℕ) → Stands past c unseen x → Occurs x past → ⊥
        unused x (at_own e d) o = d (L.occurred x o e)
        unused x (at_retirees e u) o = omega arith

        alike : (i : ℕ) → Stands past c i r → Stands past c i beyond
        alike i (at_own e d) = at_own (place-far c n w ∙ sym nowhere-yet ∙ e) (above_new beyond (omega arith))
        alike i (at_retirees e u) = at_retirees e (place-far c n w)

    pub created-stands : (i x : ℕ) → Stands past (with_new c r) i x ↔ Has (Stands past c) past r beyond unseen (used c) stands-fresh i x
    created-stands i x = (to, back)
      where
        made : place_of (with_new c r) r ≡ used c
        made = place-created c n w r room new dyn

        to : Stands past (with_new c r) i x → Has (Stands past c) past r beyond unseen (used c) stands-fresh i x
        to (at_own e d) = go (eqb r x) refl
          where
            go : (b : Bool) → eqb r x ≡ b → Has (Stands past c) past r beyond unseen (used c) stands-fresh i x
            go true f = let z = eqb-true r x f in inl (sym e ∙ ap (place_of (with_new c r)) (sym z) ∙ made, sym z)
            go false f =
                let k : place_of c x ≡ i = sym (place_kept c n w r room new dyn x f) ∙ e in
                inr (λ q. omega (arith, place-lt c x), at_own k d, λ q. eqb-false r x f (sym q))
        to (at_retirees e u) =
            let d : x ≡ r → ⊥ = λ q. let z : place_of (with_new c r) x ≡ used c = ap (place_of (with_new c r)) q ∙ made in omega arith in
            inr (
              λ q. omega arith,
              at_retirees e (sym (place_kept c n w r room new dyn x (ne_eqb r x (λ q. d (sym q)))) ∙ u),
              d,
            )

        back : Has (Stands past c) past r beyond unseen (used c) stands-fresh i x → Stands past (with_new c r) i x
        back (inl (e, f)) =
            at_own (ap (place_of (with_new c r)) f ∙ made ∙ sym e) (λ m. above_new r above (subst (λ (z : ℕ). Retired z past) f m))
        back (inr (ne, at_own e d, f)) = at_own (place_kept c n w r room new dyn x (ne_eqb r x (λ q. f (sym q))) ∙ e) d
        back (inr (ne, at_retirees e u, f)) = at_retirees e (place_kept c n w r room new dyn x (ne_eqb r x (λ q. f (sym q))) ∙ u)

  -- ── A retiring ──

  module _ (r : ℕ) (here : listed r (live c) ≡ true) where
    abbrev at : ℕ
    at = place_of c r

    -- The place of the retired ones takes from its own and from that of r; the others from where they were before they moved up.
    abbrev pub Gives : ℕ → ℕ → Type 0
    Gives i j =
        ((i ≡ retirees) × ((j ≡ retirees) ⊎ (j ≡ at))) ⊎ ((i ≡ lowered at j) × (j ≡ at → ⊥) × (j ≡ retirees → ⊥))

    pub retired-stands : (i x : ℕ) → Stands (retiring r ∷ past) (with_retired c r) i x ↔ ((j : ℕ) × Gives i j × Stands past c j x)
    retired-stands i x = (to, back)
      where
        -- r is at its own place alone
        own-place : place_of c x ≡ at → x ≡ r
        own-place e = by (eqb r x) refl
          where
            by : (b : Bool) → eqb r x ≡ b → x ≡ r
            by true f = sym (eqb-true r x f)
            by false f = absurd (apart c n w r here x f e)

        to : Stands (retiring r ∷ past) (with_retired c r) i x → (j : ℕ) × Gives i j × Stands past c j x
        to (at_own e d) =
            let f : eqb r x ≡ false = ne_eqb r x (λ q. d (Memᴰ.head (ap retiring (sym q)))) in (
              place_of c x,
              inr (sym e ∙ place-lowered c n w r here x f, apart c n w r here x f, place-apart-retirees c x),
              at_own refl (λ m. d (Memᴰ.tail m)),
            )
        to (at_retirees e u) = go (eqb r x) refl
          where
            go : (b : Bool) → eqb r x ≡ b → (j : ℕ) × Gives i j × Stands past c j x
            go true f =
                let z : place_of c x ≡ at = ap (place_of c) (sym (eqb-true r x f)) in
                (at, inl (e, inr refl), at_own z (not-retired x (λ q. omega (arith, retired-from c n w r here))))
            go false f = (retirees, inl (e, inl refl), at_retirees refl (unseen-before c n w r here x f u))

        back : ((j : ℕ) × Gives i j × Stands past c j x) → Stands (retiring r ∷ past) (with_retired c r) i x
        back (j, inl (e, inl f), at_own g d) = absurd (place-apart-retirees c x (g ∙ f))
        back (j, inl (e, inl f), at_retirees g u) = at_retirees e (unseen-after c n w r here x u)
        back (j, inl (e, inr f), at_own g d) =
            at_retirees e (ap (place_of (with_retired c r)) (own-place (g ∙ f)) ∙ place-retired c n w r here)
        back (j, inl (e, inr f), at_retirees g u) = absurd (omega (arith, retired-from c n w r here))
        back (j, inr (e, f, h), at_own g d) =
            let k : eqb r x ≡ false = ne_eqb r x (λ q. f (sym g ∙ ap (place_of c) (sym q))) in
            at_own (place-lowered c n w r here x k ∙ ap (lowered at) g ∙ sym e) (λ m. d (retired-before (λ q. eqb-false r x k (same q)) m))
          where
            same : retiring x ≡ retiring r → r ≡ x
            same q = cc
        back (j, inr (e, f, h), at_retirees g u) = absurd (h g)
