-- The laws of instances by the places of their resources. Each says what one step makes of the states that the instances at some places may
-- be in. None asks how many resources an instance has.
use Prim.Native.Nat.{ℕ, zero, suc}
use mathlib.Core.Path.{◌≡◌, refl, sym, ap, subst}
use mathlib.Core.Bool.{Bool, true, false, cond}
use mathlib.Core.Option.{Option, some, some-injective}
use mathlib.Core.List.{List, [], ◌∷◌, map}
use mathlib.Core.Logic.{◌⊎◌, inl, inr, ◌↔◌}
use native.Mathlib.Decide.{ℕ_discrete}
use lib.Dec.{eqb}
use borrow.Author.Tests.{eq-eqb, ne_eqb}
use Rattle.usage.specs.declared.Edge.{Edge}
use Rattle.usage.specs.Policy.{PairPolicy, Instance, single, pair, Place, Sees, Moves, Offending}
use Rattle.usage.specs.Placed.{Placed, none_placed, next_placed, At}
use Rattle.usage.specs.Past.{event, opening, closing, retiring, Past, Open, May, moved, closed, retired, Broken, Occurs}
use Rattle.usage.proofs.SeesLaws.{place-nowhere, moves-alike}
use Rattle.usage.proofs.PastLaws.{before-event, before-closing, before-retiring, may-some, may-anew, may-same, Unseen, none_left}
use Rattle.usage.proofs.PastLaws.{same, swapped, unseen}

-- How an instance at these places sees an event on r, for which place i stands: told by the places alone. Of an instance of two there are
-- four ways, as i is the first place, the second, both or neither.
pub data SeesAt (places : List ℕ) (i r : ℕ) : ℕ → ℕ → Type 0 where
  named : SeesAt places i r 0 r
  own : {who : ℕ} → Place places 0 i → SeesAt places i r 1 who
  other : {who : ℕ} → ((j : ℕ) → Place places j i → ⊥) → SeesAt places i r 2 who
  second : {who : ℕ} → Place places 1 i → SeesAt places i r 3 who

-- place i stands for r, for no other number, and no other place for r: as where r is static or live
pub record Alone (has : ℕ → ℕ → Type 0) (i r : ℕ) : Type 0 where
  pub only : (x : ℕ) → has i x → x ≡ r
  pub nowhere : (j : ℕ) → has j r → j ≡ i

module _ (has : ℕ → ℕ → Type 0) (i r : ℕ) (alone : Alone has i r) where
  -- r is at the places that are i
  to-place : {xs places : List ℕ} → Placed has xs places → (j : ℕ) → Place xs j r → Place places j i
  to-place none_placed j e = absurd (place-nowhere j r e)
  to-place (next_placed {x = x} {i = k} h p) zero e =
      ap {B = Option ℕ} some (alone.nowhere k (subst (λ (t : ℕ). has k t) (some-injective x r e) h))
  to-place (next_placed h p) (suc j) e = to-place p j e

  from_place : {xs places : List ℕ} → Placed has xs places → (j : ℕ) → Place places j i → Place xs j r
  from_place none_placed j e = absurd (place-nowhere j i e)
  from_place (next_placed {x = x} {i = k} h p) zero e =
      ap {B = Option ℕ} some (alone.only x (subst (λ (t : ℕ). has t x) (some-injective k i e) h))
  from_place (next_placed h p) (suc j) e = from_place p j e

  to-seen : {xs places : List ℕ} {on who : ℕ} → Placed has xs places → Sees xs r on who → SeesAt places i r on who
  to-seen p Sees.named = named
  to-seen p (Sees.own h) = own (to-place p 0 h)
  to-seen p (Sees.other d) = other (λ j h. d j (from_place p j h))
  to-seen p (Sees.second h) = second (to-place p 1 h)

  from-seen : {xs places : List ℕ} {on who : ℕ} → Placed has xs places → SeesAt places i r on who → Sees xs r on who
  from-seen p named = Sees.named
  from-seen p (own h) = Sees.own (from_place p 0 h)
  from-seen p (other d) = Sees.other (λ j h. d j (to-place p j h))
  from-seen p (second h) = Sees.second (from_place p 1 h)

  -- an event on r moves all instances at the same places alike
  pub moves-placed : {es : List Edge} {p a q q' : ℕ} {xs places : List ℕ} → Placed has xs places
      → Moves es p a (Sees xs r) q q' ↔ Moves es p a (SeesAt places i r) q q'
  moves-placed h = (
    λ m. moves-alike (λ d k. (to-seen h, from-seen h)) m,
    λ m. moves-alike (λ d k. (from-seen h, to-seen h)) m,
  )

-- places that stand for more
placed-more : {has now : ℕ → ℕ → Type 0} → ((i x : ℕ) → has i x → now i x) → {xs places : List ℕ} → Placed has xs places → Placed now xs places
placed-more f none_placed = none_placed
placed-more f (next_placed {x = x} {i = i} h p) = next_placed (f i x h) (placed-more f p)

pub at_more : {local : Bool} {es : List Edge} {p : ℕ} {has now : ℕ → ℕ → Type 0} {past : Past} {places : List ℕ} {q : ℕ}
    → ((i x : ℕ) → has i x → now i x) → At local es p has past places q → At local es p now past places q
at_more f h = record { resources = h.resources; fits = h.fits; placed = placed-more f h.placed; may = h.may }

-- an instance of one resource has one place, which stands for it
pub one_placed : {es : List Edge} {p x : ℕ} {has : ℕ → ℕ → Type 0} {i : ℕ} → (PairPolicy es p → ⊥) → has i x
    → (local : Bool) (past : Past) (q : ℕ) → May local es p (Sees (x ∷ [])) past q → At local es p has past (i ∷ []) q
one_placed {x = x} n h local past q m = record { resources = x ∷ []; fits = single n; placed = next_placed h none_placed; may = m }

module _ (local : Bool) (es : List Edge) (p : ℕ) where
  -- ── Events ──

  -- the set at these places, moved
  pub at-event : (has : ℕ → ℕ → Type 0) (a i r : ℕ) → Alone has i r → (past : Past) (places : List ℕ) (q' : ℕ)
      → At local es p has (event a r ∷ past) places q'
      ↔ ((q : ℕ) × At local es p has past places q × Moves es p a (SeesAt places i r) q q')
  at-event has a i r alone past places q' = (
    λ h. let (q, m, v) = before-event h.may in (
      q,
      record { resources = h.resources; fits = h.fits; placed = h.placed; may = m },
      (moves-placed has i r alone h.placed).0 v,
    ),
    λ (q, h, v). record {
      resources = h.resources;
      fits = h.fits;
      placed = h.placed;
      may = moved h.may ((moves-placed has i r alone h.placed).1 v);
    },
  )

  -- ── Openings and closings ──

  at-as : {has : ℕ → ℕ → Type 0} {past past' : Past} {places : List ℕ} {q q' : ℕ}
      → ((xs : List ℕ) → May local es p (Sees xs) past q → May local es p (Sees xs) past' q') → At local es p has past places q
      → At local es p has past' places q'
  at-as f h = record { resources = h.resources; fits = h.fits; placed = h.placed; may = f h.resources h.may }

  pub at-closing : (has : ℕ → ℕ → Type 0) (s : ℕ) (past : Past) (places : List ℕ) (q : ℕ)
      → At local es p has (closing s ∷ past) places q ↔ At local es p has past places q
  at-closing has s past places q = (at-as (λ xs m. before-closing m), at-as (λ xs m. closed m))

  pub at-retiring : (has : ℕ → ℕ → Type 0) (r : ℕ) (past : Past) (places : List ℕ) (q : ℕ)
      → At local es p has (retiring r ∷ past) places q ↔ At local es p has past places q
  at-retiring has r past places q = (at-as (λ xs m. before-retiring m), at-as (λ xs m. retired m))

  pub at_same : (has : ℕ → ℕ → Type 0) (s : ℕ) (past : Past) (places : List ℕ) (q : ℕ)
      → (local ≡ false) ⊎ ((s ≡ p → ⊥) ⊎ Open p past)
      → At local es p has (opening s ∷ past) places q ↔ At local es p has past places q
  at_same has s past places q why = (
    at-as (λ xs m. (may-same local es p xs s past q why).0 m),
    at-as (λ xs m. (may-same local es p xs s past q why).1 m),
  )

-- an opening that resets: state 0 alone, at places that stand for some instance
pub at-reset : (es : List Edge) (p : ℕ) (has : ℕ → ℕ → Type 0) (s : ℕ) (past : Past) (places : List ℕ) (q : ℕ) → s ≡ p
    → (Open p past → ⊥)
    → At true es p has (opening s ∷ past) places q ↔ ((q ≡ 0) × ((q₀ : ℕ) × At true es p has past places q₀))
at-reset es p has s past places q e n = (
  λ h. (
    (may-anew es p h.resources s past q e n).0 h.may,
    let (q₀, m) = may-some true es p h.resources past in
        (q₀, record { resources = h.resources; fits = h.fits; placed = h.placed; may = m }),
  ),
  λ (z, (q₀, h)). record {
    resources = h.resources;
    fits = h.fits;
    placed = h.placed;
    may = (may-anew es p h.resources s past q e n).1 z;
  },
)

all_placed : (has : ℕ → ℕ → Type 0) → ((x : ℕ) → (i : ℕ) × has i x) → (xs : List ℕ) → (places : List ℕ) × Placed has xs places
all_placed has some-place [] = ([], none_placed)
all_placed has some-place (x ∷ xs) =
    let (i, h) = some-place x in
    let (places, p) = all_placed has some-place xs in
    (i ∷ places, next_placed h p)

-- ── Places that change ──

-- place by place, these places take from those
pub data Takes (takes : ℕ → ℕ → Type 0) : List ℕ → List ℕ → Type 0 where
  none-taken : Takes takes [] []
  next-taken : {i j : ℕ} {places before : List ℕ} → takes i j → Takes takes places before → Takes takes (i ∷ places) (j ∷ before)

module _ (local : Bool) (es : List Edge) (p : ℕ) where
  -- Retiring: each place then stands for what the places that it takes from stood for. The set that is kept is the union of theirs.
  module _ (has now takes : ℕ → ℕ → Type 0) (same : (i x : ℕ) → now i x ↔ ((j : ℕ) × takes i j × has j x)) where
    taken : {xs places : List ℕ} → Placed now xs places → (before : List ℕ) × Takes takes places before × Placed has xs before
    taken none_placed = ([], none-taken, none_placed)
    taken (next_placed {x = x} {i = i} h p) =
        let (j, t, g) = (same i x).0 h in
        let (before, ts, gs) = taken p in
        (j ∷ before, next-taken t ts, next_placed g gs)

    given : {xs places before : List ℕ} → Takes takes places before → Placed has xs before → Placed now xs places
    given none-taken none_placed = none_placed
    given (next-taken {i = i} {j = j} t ts) (next_placed {x = x} g gs) = next_placed ((same i x).1 (j, t, g)) (given ts gs)

    pub at-taken : (past : Past) (places : List ℕ) (q : ℕ)
        → At local es p now past places q ↔ ((before : List ℕ) × Takes takes places before × At local es p has past before q)
    at-taken past places q = (
      λ h. let (before, t, g) = taken h.placed in
          (before, t, record { resources = h.resources; fits = h.fits; placed = g; may = h.may }),
      λ (before, t, h). record { resources = h.resources; fits = h.fits; placed = given t h.placed; may = h.may },
    )

  -- where every number has a place, so has every instance
  pub wherever : {has now : ℕ → ℕ → Type 0} {past : Past} {places : List ℕ} {q : ℕ} → ((x : ℕ) → (i : ℕ) × now i x)
      → At local es p has past places q → (places : List ℕ) × At local es p now past places q
  wherever {now = now} some-place h =
      let (places, g) = all_placed now some-place h.resources in
      (places, record { resources = h.resources; fits = h.fits; placed = g; may = h.may })

  -- where every number has a place: the policy is broken if a set that is kept has an offending state
  pub broken-placed : (has : ℕ → ℕ → Type 0) → ((x : ℕ) → (i : ℕ) × has i x) → (past : Past)
      → Broken local es p past ↔ ((places : List ℕ) × (q : ℕ) × At local es p has past places q × Offending q)
  broken-placed has some-place past = (
    λ (xs, i, q, m, o). let (places, h) = all_placed has some-place xs in (places, q, record { resources = xs; fits = i; placed = h; may = m }, o),
    λ (places, q, h, o). (h.resources, h.fits, q, h.may, o),
  )

instance-unseen : {es : List Edge} {p : ℕ} {past : Past} {xs ys : List ℕ} → Unseen past xs ys → Instance es p xs → Instance es p ys
instance-unseen (same none_left) (single n) = single n
instance-unseen (swapped d f none_left) (single n) = single n
instance-unseen (same (same none_left)) (pair h) = pair h
instance-unseen (same (swapped d f none_left)) (pair h) = pair h
instance-unseen (swapped d f (same none_left)) (pair h) = pair h
instance-unseen (swapped d f (swapped c g none_left)) (pair h) = pair h
instance-unseen none_left i = elim i [ ]
instance-unseen (same (same (same _))) i = elim i [ ]
instance-unseen (same (same (swapped _ _ _))) i = elim i [ ]
instance-unseen (same (swapped _ _ (same _))) i = elim i [ ]
instance-unseen (same (swapped _ _ (swapped _ _ _))) i = elim i [ ]
instance-unseen (swapped _ _ (same (same _))) i = elim i [ ]
instance-unseen (swapped _ _ (same (swapped _ _ _))) i = elim i [ ]
instance-unseen (swapped _ _ (swapped _ _ (same _))) i = elim i [ ]
instance-unseen (swapped _ _ (swapped _ _ (swapped _ _ _))) i = elim i [ ]

-- Creating r, which never occurred: place n then stands for r, and no other place does any more. The sets with n are those with a place u
-- that stood for r and only for numbers that never occurred. Where r had a place, another such number, y, has it too.
pub record Fresh (has : ℕ → ℕ → Type 0) (past : Past) (r y u : ℕ) : Type 0 where
  pub new : Occurs r past → ⊥
  pub here : has u r
  pub unused : (x : ℕ) → has u x → Occurs x past → ⊥
  pub another-new : Occurs y past → ⊥
  pub differs : y ≡ r → ⊥
  pub alike : (i : ℕ) → has i r → has i y

module _ (has : ℕ → ℕ → Type 0) (past : Past) (r y u n : ℕ) (fresh : Fresh has past r y u) where
  -- the places now, and for each the place before
  abbrev pub Has : ℕ → ℕ → Type 0
  Has i x = ((i ≡ n) × (x ≡ r)) ⊎ ((i ≡ n → ⊥) × has i x × (x ≡ r → ⊥))

  abbrev pub before : ℕ → ℕ
  before i = cond (eqb i n) u i

  before-n : (i : ℕ) → i ≡ n → before i ≡ u
  before-n i e = ap (λ (b : Bool). cond b u i) (eq-eqb i n e)

  before-other : (i : ℕ) → (i ≡ n → ⊥) → before i ≡ i
  before-other i d = ap (λ (b : Bool). cond b u i) (ne_eqb i n d)

  as_before : (i x : ℕ) → Has i x → has (before i) x
  as_before i x (inl (e, f)) = subst (λ (t : ℕ). has (before i) t) (sym f) (subst (λ (t : ℕ). has t r) (sym (before-n i e)) fresh.here)
  as_before i x (inr (d, h, f)) = subst (λ (t : ℕ). has t x) (sym (before-other i d)) h

  all-before : {xs places : List ℕ} → Placed Has xs places → Placed has xs (map before places)
  all-before none_placed = none_placed
  all-before (next_placed {x = x} {i = i} h p) = next_placed (as_before i x h) (all-before p)

  -- for the number x that place i stood for before: the one that it stands for now
  record Stead (i x : ℕ) : Type 0 where
    number : ℕ
    there : Has i number
    alike : {xs ys : List ℕ} → Unseen past xs ys → Unseen past (x ∷ xs) (number ∷ ys)

  stead : (i x : ℕ) → has (before i) x → Stead i x
  stead i x h = go (ℕ_discrete i n) (ℕ_discrete x r)
    where
      go : Dec (i ≡ n) → Dec (x ≡ r) → Stead i x
      go (yes e) f = record {
        number = r;
        there = inl (e, refl);
        alike = λ v. swapped (fresh.unused x (subst (λ (t : ℕ). has t x) (before-n i e) h)) fresh.new v;
      }
      go (no d) (yes f) = record {
        number = y;
        there = inr (
          d,
          fresh.alike i (subst (λ (t : ℕ). has t r) (before-other i d)
              (subst (λ (t : ℕ). has (before i) t) f h)),
          fresh.differs,
        );
        alike = λ v. swapped (λ o. fresh.new (subst (λ (t : ℕ). Occurs t past) f o)) fresh.another-new v;
      }
      go (no d) (no f) = record {
        number = x;
        there = inr (d, subst (λ (t : ℕ). has t x) (before-other i d) h, f);
        alike = λ v. same v;
      }

  record Steads (xs places : List ℕ) : Type 0 where
    numbers : List ℕ
    there : Placed Has numbers places
    alike : Unseen past xs numbers

  steads : (places : List ℕ) {xs : List ℕ} → Placed has xs (map before places) → Steads xs places
  steads [] none_placed = record { numbers = []; there = none_placed; alike = none_left }
  steads (i ∷ places) (next_placed {x = x} h p) =
      let s = stead i x h in
      let ss = steads places p in
      record { numbers = s.number ∷ ss.numbers; there = next_placed s.there ss.there; alike = s.alike ss.alike }

  pub at-create : (local : Bool) (es : List Edge) (p : ℕ) (places : List ℕ) (q : ℕ)
      → At local es p Has past places q ↔ At local es p has past (map before places) q
  at-create local es p places q = (
    λ h. record { resources = h.resources; fits = h.fits; placed = all-before h.placed; may = h.may },
    λ h. let s = steads places h.placed in record {
      resources = s.numbers;
      fits = instance-unseen s.alike h.fits;
      placed = s.there;
      may = unseen s.alike h.may;
    },
  )

  -- and then r is alone at its place
  pub created-alone : Alone Has n r
  created-alone = record { only = λ x h. only x h; nowhere = λ j h. nowhere j h }
    where
      only : (x : ℕ) → Has n x → x ≡ r
      only x (inl (e, f)) = f
      only x (inr (d, h, f)) = absurd (d refl)

      nowhere : (j : ℕ) → Has j r → j ≡ n
      nowhere j (inl (e, f)) = e
      nowhere j (inr (d, h, f)) = absurd (f refl)
