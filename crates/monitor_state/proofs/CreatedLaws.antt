-- What is created, after a create and after a retiring (02, L8): the live resources, the places of their instances, and the highest number.
use Prim.Native.Nat.{ℕ, ◌+◌, ◌-◌, ◌<◌, ◌≤◌}
use mathlib.Core.Path.{◌≡◌, refl, sym, ap, ◌∙◌, subst}
use mathlib.Core.Bool.{Bool, true, false, ◌||◌, cond}
use mathlib.Core.List.Memᴰ
use mathlib.Core.List.{List, [], ◌∷◌, ◌++◌}
use native.Mathlib.Numerals.{add-one}
use native.Mathlib.Omega.{arith}
use lib.Dec.{eqb, leb, ltb}
use lib.ListN.{length, take, set, length-set}
use lib.Seq.{take-suc-set}
use borrow.Author.Tests.{eq-eqb, ne_eqb, eqb-true, eqb-false, lt-ltb, le-ltb, ltb-true, ltb-false, le-leb, leb-true}
use Rattle.usage.specs.Limits.{statics, resources, most_created}
use Rattle.usage.specs.Past.{Step, event, retiring, Past, without, Occurs, Retired, live_in, highest}
use Rattle.usage.specs.Tests.{every}
use Rattle.usage.proofs.Logic.{by_cases, clash, or_right, and_both}
use Rattle.usage.proofs.TableLaws.{length_from}
use Rattle.monitor_sets.specs.Instances.{unseen, first_created_lem}
use Rattle.monitor_sets.proofs.RetiredLaws.{lowered}
use Rattle.monitor_state.specs.declared.Created.{Created}
use Rattle.monitor_state.specs.Created.{live, listed, distinct, dynamic, place_from, closed_up, place_of, used, with_new, with_retired}
use Rattle.monitor_state.specs.Represents.{ListsLive}
use Rattle.monitor_state.proofs.ListLaws.{listed-snoc, every-snoc, every_more, distinct_snoc, place-absent, place_other, place-new}
use Rattle.monitor_state.proofs.WithoutLaws.{without_gone, every-without, distinct_without, place-from, place-without, closed-up}
use Rattle.monitor_state.proofs.Places.{place-static, place-dynamic, known, place-own, LiveParts, parts-live, live-length}
use Rattle.monitor_state.proofs.Places.{range_at, top-at}

-- a step that does not retire x
pub retired-before : {x : ℕ} {step : Step} {past : Past} → (retiring x ≡ step → ⊥) → Retired x (step ∷ past) → Retired x past
retired-before n m = by_cases (Memᴰ.cases_cons m) (λ e. absurd (n e)) (λ m. m)

-- a step that is no event on x
pub occurs-before : {x : ℕ} {step : Step} {past : Past} → ((a : ℕ) → event a x ≡ step → ⊥) → Occurs x (step ∷ past) → Occurs x past
occurs-before n (a, m) = by_cases (Memᴰ.cases_cons m) (λ e. absurd (n a e)) (λ m. (a, m))

-- after a step that creates and retires nothing
pub same_live : {past : Past} {c : Created} {step : Step} → live_in (step ∷ past) ≡ live_in past → highest (step ∷ past) ≡ highest past
    → ((x : ℕ) → retiring x ≡ step → ⊥) → ((x : ℕ) → Occurs x (step ∷ past) → place_of c x ≡ unseen → Occurs x past)
    → ListsLive past c → ListsLive (step ∷ past) c
same_live lives most none before L = record {
  well = L.well;
  lives = L.lives ∙ sym lives;
  most = L.most ∙ sym most;
  gone = λ x m. L.gone x (retired-before (none x) m);
  occurred = λ x o u. Memᴰ.tail (L.occurred x (before x o u) u);
  numbers_length = L.numbers_length;
}

-- events that are the same are on the same resource
pub resource-same : {a b x r : ℕ} → event a x ≡ event b r → x ≡ r
resource-same e = cc

-- ── A create ──

module _ (c : Created) (n : length c.numbers ≡ most_created) (w : LiveParts c) (r : ℕ) (room : c.count < most_created)
    (new : listed r (live c) ≡ false) (dyn : statics ≤ r) where
  pub live-created : live (with_new c r) ≡ live c ++ (r ∷ [])
  unfolding with_new
  live-created = ap (λ (k : ℕ). take k (set c.numbers c.count r)) (add-one c.count)
      ∙ take-suc-set c.numbers c.count r (omega arith)

  pub place-created : place_of (with_new c r) r ≡ used c
  place-created = place-dynamic (with_new c r) r dyn ∙ ap (place_from r first_created_lem) live-created ∙ place-new r first_created_lem (live c) new
      ∙ ap (λ (k : ℕ). first_created_lem + k) (live-length c n w)

  pub place_kept : (x : ℕ) → eqb r x ≡ false → place_of (with_new c r) x ≡ place_of c x
  place_kept x e = go (ltb x statics) refl
    where
      go : (b : Bool) → ltb x statics ≡ b → place_of (with_new c r) x ≡ place_of c x
      go true h = place-static (with_new c r) x (ltb-true x statics h) ∙ sym (place-static c x (ltb-true x statics h))
      go false h =
          place-dynamic (with_new c r) x (ltb-false x statics h) ∙ ap (place_from x first_created_lem) live-created
          ∙ place_other x r first_created_lem (live c) e
          ∙ sym (place-dynamic c x (ltb-false x statics h))

  pub created-listed : (x : ℕ) → listed x (live (with_new c r)) ≡ (listed x (live c) || eqb r x)
  created-listed x = ap (listed x) live-created ∙ listed-snoc x r (live c)

  pub created-known : known (with_new c r) r ≡ true
  created-known =
      or_right (ltb r statics) (listed r (live (with_new c r)))
      (created-listed r ∙ or_right (listed r (live c)) (eqb r r) (eq-eqb r r refl))

  pub created-ok : r < resources → c.highest < r → LiveParts (with_new c r)
  unfolding with_new
  created-ok h above = record {
    few = omega arith;
    range = subst (λ (l : List ℕ). every dynamic l ≡ true) (sym live-created)
        (every-snoc dynamic r (live c) w.range
        (and_both (leb statics r) (ltb r resources) (le-leb statics r dyn) (lt-ltb r resources h)));
    apart = subst (λ (l : List ℕ). distinct l ≡ true) (sym live-created) (distinct_snoc r (live c) w.apart new);
    top = subst (λ (l : List ℕ). every (λ y. leb y r) l ≡ true) (sym live-created)
        (every-snoc (λ y. leb y r) r (live c)
        (every_more (λ y. leb y c.highest) (λ y. leb y r)
        (λ y e. le-leb y r (let z = leb-true y c.highest e in omega arith)) (live c) w.top) (le-leb r r (omega arith)));
  }

  pub created-live : {past : Past} → r < resources → c.highest < r → ListsLive past c → ListsLive (event 0 r ∷ past) (with_new c r)
  unfolding with_new live_in highest
  created-live {past} f above L = record {
    well = parts-live (with_new c r) (created-ok f above);
    lives = live-created ∙ ap (λ (l : List ℕ). l ++ (r ∷ [])) L.lives;
    most = omega (arith, L.most);
    gone = gone;
    occurred = λ x o u.
        let d : eqb r x ≡ false = ne_eqb r x (λ e. let z : place_of (with_new c r) x ≡ used c = ap (place_of (with_new c r)) (sym e) ∙ place-created in omega arith) in
        Memᴰ.tail (L.occurred x (occurs-before (λ a e. eqb-false r x d (sym (resource-same e))) o) (sym (place_kept x d) ∙ u));
    numbers_length = length-set c.numbers c.count r ∙ n;
  }
    where
      gone : (x : ℕ) → Retired x (event 0 r ∷ past) → (place_of (with_new c r) x ≡ unseen) × (x ≤ r)
      gone x m =
          let g = L.gone x (retired-before (λ e. clash (cc)) m) in
          let b = g.1 in
          (place_kept x (ne_eqb r x (λ e. omega arith)) ∙ g.0, omega arith)

-- ── A retiring ──

module _ (c : Created) (n : length c.numbers ≡ most_created) (w : LiveParts c) (r : ℕ) (here : listed r (live c) ≡ true) where
  dyn : statics ≤ r
  dyn = (range_at c n w r here).0

  at-is : place_of c r ≡ place_from r first_created_lem (live c)
  at-is = place-dynamic c r dyn

  pub retired-from : first_created_lem ≤ place_of c r
  retired-from = omega (arith, at-is, place-from r first_created_lem (live c) here)

  is_known : known c r ≡ true
  is_known = or_right (ltb r statics) (listed r (live c)) here

  -- another resource has another place, if it is not at that of the unseen ones
  pub apart : (x : ℕ) → eqb r x ≡ false → place_of c x ≡ place_of c r → ⊥
  apart x d e = eqb-false r x d ((place-own c x r is_known).is (eq-eqb (place_of c x) (place_of c r) e))

  pub live-retired : live (with_retired c r) ≡ without r (live c)
  unfolding with_retired
  live-retired =
      closed-up r first_created_lem (place_of c r - first_created_lem) c.count c.numbers n w.few here (omega (arith, at-is, retired-from))

  pub place-retired : place_of (with_retired c r) r ≡ unseen
  place-retired =
      place-dynamic (with_retired c r) r dyn ∙ ap (place_from r first_created_lem) live-retired
      ∙ place-absent r first_created_lem (without r (live c)) (without_gone r (live c) w.apart)

  lower : (i : ℕ) → i < first_created_lem → lowered (place_of c r) i ≡ i
  lower i h = ap (λ (b : Bool). cond b (i - 1) i) (le-ltb (place_of c r) i (omega (arith, retired-from)))

  pub place-lowered : (x : ℕ) → eqb r x ≡ false → place_of (with_retired c r) x ≡ lowered (place_of c r) (place_of c x)
  place-lowered x d = go (ltb x statics) refl
    where
      go : (b : Bool) → ltb x statics ≡ b → place_of (with_retired c r) x ≡ lowered (place_of c r) (place_of c x)
      go true e =
          let h = ltb-true x statics e in
          place-static (with_retired c r) x h ∙ sym (ap (lowered (place_of c r)) (place-static c x h) ∙ lower x (omega arith))
      go false e =
          let h = ltb-false x statics e in
          place-dynamic (with_retired c r) x h ∙ ap (place_from x first_created_lem) live-retired
          ∙ place-without x r first_created_lem (live c) (omega arith) d here
          ∙ sym (ap (λ (i : ℕ). lowered i (place_of c x)) at-is
          ∙ ap (lowered (place_from r first_created_lem (live c))) (place-dynamic c x h))

  pub unseen-after : (x : ℕ) → place_of c x ≡ unseen → place_of (with_retired c r) x ≡ unseen
  unseen-after x u = go (eqb r x) refl
    where
      go : (b : Bool) → eqb r x ≡ b → place_of (with_retired c r) x ≡ unseen
      go true e = absurd (let z : place_of c r ≡ unseen = ap (place_of c) (eqb-true r x e) ∙ u in omega (arith, retired-from))
      go false e = place-lowered x e ∙ ap (lowered (place_of c r)) u ∙ lower unseen (omega arith)

  pub unseen-before : (x : ℕ) → eqb r x ≡ false → place_of (with_retired c r) x ≡ unseen → place_of c x ≡ unseen
  unseen-before x d u = go (ltb (place_of c r) (place_of c x)) refl (sym (place-lowered x d) ∙ u)
    where
      go : (b : Bool) → ltb (place_of c r) (place_of c x) ≡ b → cond b (place_of c x - 1) (place_of c x) ≡ unseen → place_of c x ≡ unseen
      go true e q = absurd (let z = ltb-true (place_of c r) (place_of c x) e in omega (arith, retired-from))
      go false e q = q

  pub retired-ok : LiveParts (with_retired c r)
  unfolding with_retired
  retired-ok = record {
    few = let h = w.few in omega arith;
    range = subst (λ (l : List ℕ). every dynamic l ≡ true) (sym live-retired) (every-without dynamic r (live c) w.range);
    apart = subst (λ (l : List ℕ). distinct l ≡ true) (sym live-retired) (distinct_without r (live c) w.apart);
    top = subst (λ (l : List ℕ). every (λ y. leb y c.highest) l ≡ true) (sym live-retired)
        (every-without (λ y. leb y c.highest) r (live c) w.top);
  }

  pub retired-gone : (past : Past) → ((x : ℕ) → Retired x past → (place_of c x ≡ unseen) × (x ≤ c.highest))
      → (x : ℕ) → Retired x (retiring r ∷ past) → (place_of (with_retired c r) x ≡ unseen) × (x ≤ c.highest)
  retired-gone past gone x m = by_cases (Memᴰ.cases_cons m) own (λ i. (unseen-after x (gone x i).0, (gone x i).1))
    where
      own : retiring x ≡ retiring r → (place_of (with_retired c r) x ≡ unseen) × (x ≤ c.highest)
      own e =
          let z : x ≡ r = cc in
          subst (λ (y : ℕ). (place_of (with_retired c r) y ≡ unseen) × (y ≤ c.highest)) (sym z) (place-retired, top-at c n w r here)

  pub retired-live : {past : Past} → ListsLive past c → ListsLive (retiring r ∷ past) (with_retired c r)
  unfolding with_retired closed_up live_in highest
  retired-live {past} L = record {
    well = parts-live (with_retired c r) retired-ok;
    lives = live-retired ∙ ap (without r) L.lives;
    most = L.most;
    gone = retired-gone past L.gone;
    occurred = λ x o u. by_number x (eqb r x) refl (occurs-before (λ a e. clash (cc)) o) u;
    numbers_length = length_from _ 0 most_created;
  }
    where
      by_number : (x : ℕ) (b : Bool) → eqb r x ≡ b → Occurs x past → place_of (with_retired c r) x ≡ unseen → Retired x (retiring r ∷ past)
      by_number x true e o u = Memᴰ.head (ap retiring (sym (eqb-true r x e)))
      by_number x false e o u = Memᴰ.tail (L.occurred x o (unseen-before x e u))
