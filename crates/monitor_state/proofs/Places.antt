-- Which instance stands for which resource.
use Prim.Native.Nat.{ℕ, ◌+◌, ◌-◌, ◌<◌, ◌≤◌}
use mathlib.Core.Path.{◌≡◌, refl, sym, ap, ◌∙◌}
use mathlib.Core.Bool.{Bool, true, false, ◌&&◌, ◌||◌, cond}
use mathlib.Core.Logic.{◌⊎◌, inl, inr}
use native.Mathlib.Omega.{arith}
use lib.Dec.{eqb, leb, ltb}
use lib.ListN.{length, get_or, length-take}
use lib.Seq.{length-take-le}
use borrow.Author.Tests.{eqb-true, eqb-false, lt-ltb, le-ltb, ltb-true, ltb-false, leb-true, le-leb}
use Rattle.usage.specs.Limits.{statics, resources, most_created}
use Rattle.monitor_sets.specs.Instances.{unseen, retirees, first_created_lem, instances}
use Rattle.usage.specs.Tests.{every}
use Rattle.usage.proofs.Logic.{not-both, or_left, or_right, or_cases, and_left, and_right, and_both}
use Rattle.automaton.proofs.MoveLaws.{Own}
use Rattle.monitor_state.specs.declared.Created.{Created}
use Rattle.monitor_state.specs.Created.{live, listed, distinct, dynamic, created_ok, highest_ok, live_ok, place_from, place_in, place_of, used}
use Rattle.monitor_state.proofs.ListLaws.{every-at, listed_at, place-absent, place-present, place-of}

pub place-static : (c : Created) (x : ℕ) → x < statics → place_of c x ≡ x
unfolding place_of place_in
place-static c x h = ap (λ (b : Bool). cond b x (place_from x first_created_lem (live c))) (lt-ltb x statics h)

pub place-dynamic : (c : Created) (x : ℕ) → statics ≤ x → place_of c x ≡ place_from x first_created_lem (live c)
unfolding place_of place_in
place-dynamic c x h = ap (λ (b : Bool). cond b x (place_from x first_created_lem (live c))) (le-ltb x statics h)

-- A resource is static, live or neither, and has its instance accordingly.
pub data View (c : Created) (x : ℕ) : Type 0 where
  static : x < statics → place_of c x ≡ x → View c x
  made : statics ≤ x → listed x (live c) ≡ true → (i : ℕ) → i < length (live c) → get_or (live c) i 0 ≡ x → place_of c x ≡ first_created_lem + i
      → View c x
  absent : statics ≤ x → listed x (live c) ≡ false → place_of c x ≡ unseen → View c x

view : (c : Created) (x : ℕ) → View c x
view c x = go (ltb x statics) refl (listed x (live c)) refl
  where
    go : (b : Bool) → ltb x statics ≡ b → (m : Bool) → listed x (live c) ≡ m → View c x
    go true e m l = let h = ltb-true x statics e in static h (place-static c x h)
    go false e true l =
        let h = ltb-false x statics e in
        let r = place-present x first_created_lem (live c) l in
        made h l r.index r.inside r.has (place-dynamic c x h ∙ r.place)
    go false e false l = let h = ltb-false x statics e in absent h l (place-dynamic c x h ∙ place-absent x first_created_lem (live c) l)

-- every place is that of an instance in use
pub place-lt : (c : Created) (x : ℕ) → place_of c x < used c
place-lt c x = go (view c x)
  where
    go : View c x → place_of c x < used c
    go (static a e) = omega arith
    go (made a l i h w e) = omega (arith, length-take c.count c.numbers)
    go (absent a l e) = omega arith

-- and none is that of the retired ones
pub place-apart-retirees : (c : Created) (x : ℕ) → place_of c x ≡ retirees → ⊥
place-apart-retirees c x q = go (view c x)
  where
    go : View c x → ⊥
    go (static a e) = omega arith
    go (made a l i h w e) = omega arith
    go (absent a l e) = omega arith

-- r is static or live
abbrev pub known : Created → ℕ → Bool
known c r = ltb r statics || listed r (live c)

-- A resource that is static or live shares its instance with no other.
place-apart : (c : Created) (x r : ℕ) → known c r ≡ true → place_of c x ≡ place_of c r → r ≡ x
place-apart c x r k e = go (view c x) (view c r)
  where
    go : View c x → View c r → r ≡ x
    go (static a p) (static b q) = sym q ∙ sym e ∙ p
    go (static a p) (made b l i h w q) = absurd (omega arith)
    go (static a p) (absent b l q) = absurd (omega arith)
    go (made a l i h w p) (static b q) = absurd (omega arith)
    go (made a l i h w p) (made b m j k v q) = let z : j ≡ i = omega arith in sym v ∙ ap (λ (n : ℕ). get_or (live c) n 0) z ∙ w
    go (made a l i h w p) (absent b m q) = absurd (omega arith)
    go (absent a l p) (static b q) = absurd (omega arith)
    go (absent a l p) (made b m j h v q) = absurd (omega arith)
    go (absent a l p) (absent b m q) = none-known (or_cases (ltb r statics) (listed r (live c)) k)
      where
        none-known : (ltb r statics ≡ true) ⊎ (listed r (live c) ≡ true) → r ≡ x
        none-known (inl t) = absurd (omega (arith, ltb-true r statics t))
        none-known (inr t) = not-both (listed r (live c)) t m

-- The place is that of the unseen ones exactly where the resource is neither static nor live.
module _ (c : Created) (x : ℕ) where
  pub is_known : (place_of c x ≡ unseen → ⊥) → known c x ≡ true
  is_known h = go (view c x)
    where
      go : View c x → known c x ≡ true
      go (static a p) = or_left (ltb x statics) (listed x (live c)) (lt-ltb x statics a)
      go (made a l i k w p) = or_right (ltb x statics) (listed x (live c)) l
      go (absent a l p) = absurd (h p)

  pub not_known : place_of c x ≡ unseen → known c x ≡ false
  not_known h = go (view c x)
    where
      go : View c x → known c x ≡ false
      go (static a p) = absurd (omega arith)
      go (made a l i k w p) = absurd (omega arith)
      go (absent a l p) = rw (le-ltb x statics a) l

  -- so of a dynamic one
  module _ (d : statics ≤ x) where
    dynamic-known : known c x ≡ listed x (live c)
    dynamic-known = ap (λ b. b || listed x (live c)) (le-ltb x statics d)

    pub is-listed : (place_of c x ≡ unseen → ⊥) → listed x (live c) ≡ true
    is-listed h = sym dynamic-known ∙ is_known h

    pub not_listed : place_of c x ≡ unseen → listed x (live c) ≡ false
    not_listed h = sym dynamic-known ∙ not_known h

pub place-own : (c : Created) (x r : ℕ) → known c r ≡ true → Own x r (eqb (place_of c x) (place_of c r))
place-own c x r k = record {
  is = λ e. place-apart c x r k (eqb-true (place_of c x) (place_of c r) e);
  not = λ e p. eqb-false (place_of c x) (place_of c r) e (ap (place_of c) (sym p));
}

-- ── Its share of 42 ──

pub record LiveParts (c : Created) : Type 0 where
  pub few : c.count ≤ most_created
  pub range : every dynamic (live c) ≡ true
  pub apart : distinct (live c) ≡ true
  pub top : every (λ y. leb y c.highest) (live c) ≡ true

pub live-parts : (c : Created) → live_ok c ≡ true → LiveParts c
unfolding live_ok created_ok highest_ok
live-parts c h =
    let t : Bool = highest_ok c.highest c.count c.numbers in
    let m : created_ok c.count c.numbers ≡ true = and_left (created_ok c.count c.numbers) t h in
    let b : (every dynamic (live c) && distinct (live c)) ≡ true =
    and_right (leb c.count most_created) (every dynamic (live c) && distinct (live c)) m in
    record {
      few = leb-true c.count most_created (and_left (leb c.count most_created) (every dynamic (live c) && distinct (live c)) m);
      range = and_left (every dynamic (live c)) (distinct (live c)) b;
      apart = and_right (every dynamic (live c)) (distinct (live c)) b;
      top = and_right (created_ok c.count c.numbers) t h;
    }

pub parts-live : (c : Created) → LiveParts c → live_ok c ≡ true
unfolding live_ok created_ok highest_ok
parts-live c p =
    and_both (created_ok c.count c.numbers) (highest_ok c.highest c.count c.numbers)
    (and_both (leb c.count most_created) (every dynamic (live c) && distinct (live c)) (le-leb c.count most_created p.few)
    (and_both (every dynamic (live c)) (distinct (live c)) p.range p.apart))
    p.top

-- there is room for the instances in use
pub used-most : (c : Created) → LiveParts c → used c ≤ instances
used-most c p = let f = p.few in omega arith

module _ (c : Created) (n : length c.numbers ≡ most_created) (p : LiveParts c) where
  pub live-length : length (live c) ≡ c.count
  live-length = length-take-le c.count c.numbers (omega (arith, p.few))

  -- what is listed is dynamic
  pub range_at : (x : ℕ) → listed x (live c) ≡ true → (statics ≤ x) × (x < resources)
  range_at x m =
      let h : dynamic x ≡ true = every-at dynamic x (live c) p.range m in (
        leb-true statics x (and_left (leb statics x) (ltb x resources) h),
        ltb-true x resources
            (and_right (leb statics x) (ltb x resources) h),
      )

  -- not above the highest number
  pub top-at : (x : ℕ) → listed x (live c) ≡ true → x ≤ c.highest
  top-at x m = leb-true x c.highest (every-at (λ y. leb y c.highest) x (live c) p.top m)

  -- so a higher one is not listed
  pub above_new : (x : ℕ) → c.highest < x → listed x (live c) ≡ false
  above_new x h = go (listed x (live c)) refl
    where
      go : (b : Bool) → listed x (live c) ≡ b → listed x (live c) ≡ false
      go true e = absurd (let z = top-at x e in omega arith)
      go false e = e

  -- a number that no step names, and that is above all that was created
  abbrev pub far : ℕ
  far = resources + c.highest

  pub place-far : place_of c far ≡ unseen
  place-far = place-dynamic c far (omega arith) ∙ place-absent far first_created_lem (live c) (off (listed far (live c)) refl)
    where
      off : (b : Bool) → listed far (live c) ≡ b → listed far (live c) ≡ false
      off true e = let r = range_at far e in absurd (omega (arith, r.1))
      off false e = e

  -- Each instance in use but that of the retired ones is some resource's.
  pub owner : (i : ℕ) → i < used c → (i ≡ retirees → ⊥) → (x : ℕ) × (place_of c x ≡ i)
  owner i h d = go (ltb i unseen) refl (eqb i unseen) refl
    where
      go : (b : Bool) → ltb i unseen ≡ b → (m : Bool) → eqb i unseen ≡ m → (x : ℕ) × (place_of c x ≡ i)
      go true e m f = (i, place-static c i (ltb-true i unseen e))
      go false e true f = (far, place-far ∙ sym (eqb-true i unseen f))
      go false e false f =
          let j : ℕ = i - first_created_lem in
          let le : unseen ≤ i = ltb-false i unseen e in
          let ne : i ≡ unseen → ⊥ = eqb-false i unseen f in
          let k : j < length (live c) = omega (arith, live-length) in
          let m = range_at (get_or (live c) j 0) (listed_at (live c) j k) in
          (get_or (live c) j 0, place-dynamic c (get_or (live c) j 0) m.0 ∙ place-of (live c) first_created_lem j p.apart k ∙ omega arith)
