-- Laws of the list of created resources: what is in it, and at which place.
use Prim.Native.Nat.{ℕ, zero, suc, ◌+◌, ◌<◌}
use mathlib.Core.Path.{◌≡◌, refl, sym, ap, ◌∙◌}
use mathlib.Core.Bool.{Bool, true, false, not, ◌||◌, cond}
use mathlib.Core.List.{List, [], ◌∷◌, ◌++◌}
use mathlib.Core.Logic.{◌⊎◌, inl, inr}
use native.Mathlib.Nat.{add-zero, suc-add, add-suc, le_of_suc-le-suc}
use native.Mathlib.Omega.{arith}
use lib.Dec.{eqb}
use lib.ListN.{length, get_or}
use borrow.Author.Tests.{eq-eqb, ne_eqb, eqb-true, eqb-false}
use Rattle.monitor_sets.specs.Instances.{unseen}
use Rattle.usage.specs.Tests.{every}
use Rattle.usage.proofs.Logic.{false-true, not-both, or_left, or_right, or_cases, and_left, and_right, and_both}
use Rattle.monitor_state.specs.Judge.{listed, distinct, place_from}

-- ── A further resource at the end ──

pub listed-snoc : (x r : ℕ) (l : List ℕ) → listed x (l ++ (r ∷ [])) ≡ (listed x l || eqb r x)
unfolding listed
listed-snoc x r [] = go (eqb r x)
  where
    go : (b : Bool) → (b || false) ≡ b
    go true = refl
    go false = refl
listed-snoc x r (y ∷ l) = ap (λ (b : Bool). eqb y x || b) (listed-snoc x r l) ∙ go (eqb y x)
  where
    go : (b : Bool) → (b || (listed x l || eqb r x)) ≡ ((b || listed x l) || eqb r x)
    go true = refl
    go false = refl

pub every-snoc : (test : ℕ → Bool) (r : ℕ) (l : List ℕ) → every test l ≡ true → test r ≡ true → every test (l ++ (r ∷ [])) ≡ true
unfolding every
every-snoc test r [] h t = and_both (test r) true t refl
every-snoc test r (y ∷ l) h t =
    and_both (test y) (every test (l ++ (r ∷ []))) (and_left (test y) (every test l) h)
    (every-snoc test r l (and_right (test y) (every test l) h) t)

-- a test that passes wherever another does
pub every_more : (test wider : ℕ → Bool) → ((x : ℕ) → test x ≡ true → wider x ≡ true) → (l : List ℕ) → every test l ≡ true
    → every wider l ≡ true
unfolding every
every_more test wider f [] h = refl
every_more test wider f (y ∷ l) h =
    and_both (wider y) (every wider l) (f y (and_left (test y) (every test l) h))
    (every_more test wider f l (and_right (test y) (every test l) h))

pub distinct_snoc : (r : ℕ) (l : List ℕ) → distinct l ≡ true → listed r l ≡ false → distinct (l ++ (r ∷ [])) ≡ true
unfolding distinct listed
distinct_snoc r [] h n = refl
distinct_snoc r (y ∷ l) h n =
    and_both (not (listed y (l ++ (r ∷ [])))) (distinct (l ++ (r ∷ [])))
    (ap not (listed-snoc y r l ∙ other (listed y l) (eqb r y) (and_left (not (listed y l)) (distinct l) h) apart))
    (distinct_snoc r l (and_right (not (listed y l)) (distinct l) h) (rest (eqb y r) (listed r l) n))
  where
    rest : (a b : Bool) → (a || b) ≡ false → b ≡ false
    rest true b e = false-true (sym e)
    rest false b e = e

    other : (a b : Bool) → not a ≡ true → b ≡ false → (a || b) ≡ false
    other true b e k = false-true e
    other false b e k = k

    first : (a b : Bool) → (a || b) ≡ false → a ≡ false
    first true b e = e
    first false b e = refl

    apart : eqb r y ≡ false
    apart = ne_eqb r y (λ q. eqb-false y r (first (eqb y r) (listed r l) n) (sym q))

-- ── Elements ──

pub every-at : (test : ℕ → Bool) (x : ℕ) (l : List ℕ) → every test l ≡ true → listed x l ≡ true → test x ≡ true
unfolding every listed
every-at test x [] h m = false-true m
every-at test x (y ∷ l) h m = go (or_cases (eqb y x) (listed x l) m) (every-at test x l (and_right (test y) (every test l) h))
  where
    go : (eqb y x ≡ true) ⊎ (listed x l ≡ true) → (listed x l ≡ true → test x ≡ true) → test x ≡ true
    go (inl e) ih = ap test (sym (eqb-true y x e)) ∙ and_left (test y) (every test l) h
    go (inr e) ih = ih e

pub listed_at : (l : List ℕ) (i : ℕ) → i < length l → listed (get_or l i 0) l ≡ true
unfolding listed
listed_at [] i h = absurd (omega arith)
listed_at (y ∷ l) zero h = or_left (eqb y y) (listed y l) (eq-eqb y y refl)
listed_at (y ∷ l) (suc i) h = or_right (eqb y (get_or l i 0)) (listed (get_or l i 0) l) (listed_at l i (le_of_suc-le-suc h))

-- ── Places ──

pub place-absent : (x n : ℕ) (l : List ℕ) → listed x l ≡ false → place_from x n l ≡ unseen
unfolding place_from listed
place-absent x n [] h = refl
place-absent x n (y ∷ l) h = go (eqb y x) h (place-absent x (suc n) l)
  where
    go : (b : Bool) → (b || listed x l) ≡ false → (listed x l ≡ false → place_from x (suc n) l ≡ unseen)
        → cond b n (place_from x (suc n) l) ≡ unseen
    go true h ih = false-true (sym h)
    go false h ih = ih h

-- x stands in the list at `index`, and its place is counted from n
pub record Place (x n : ℕ) (l : List ℕ) : Type 0 where
  pub index : ℕ
  pub inside : index < length l
  pub has : get_or l index 0 ≡ x
  pub place : place_from x n l ≡ n + index

pub place-present : (x n : ℕ) (l : List ℕ) → listed x l ≡ true → Place x n l
unfolding place_from listed
place-present x n [] h = false-true h
place-present x n (y ∷ l) h = go (eqb y x) refl h (place-present x (suc n) l)
  where
    go : (b : Bool) → eqb y x ≡ b → (b || listed x l) ≡ true → (listed x l ≡ true → Place x (suc n) l) → Place x n (y ∷ l)
    go true e h ih =
        record {
          index = 0;
          inside = omega arith;
          has = eqb-true y x e;
          place = ap (λ (b : Bool). cond b n (place_from x (suc n) l)) e
              ∙ sym (add-zero n);
        }
    go false e h ih =
        let r = ih h in
        record {
          index = suc r.index;
          inside = omega (arith, r.inside);
          has = r.has;
          place = ap (λ (b : Bool). cond b n (place_from x (suc n) l)) e ∙ r.place ∙ suc-add n r.index ∙ sym (add-suc n r.index);
        }

pub place_other : (x r n : ℕ) (l : List ℕ) → eqb r x ≡ false → place_from x n (l ++ (r ∷ [])) ≡ place_from x n l
unfolding place_from
place_other x r n [] h = ap (λ (b : Bool). cond b n unseen) h
place_other x r n (y ∷ l) h = ap (λ (m : ℕ). cond (eqb y x) n m) (place_other x r (suc n) l h)

pub place-new : (r n : ℕ) (l : List ℕ) → listed r l ≡ false → place_from r n (l ++ (r ∷ [])) ≡ n + length l
unfolding place_from listed
place-new r n [] h = ap (λ (b : Bool). cond b n unseen) (eq-eqb r r refl) ∙ sym (add-zero n)
place-new r n (y ∷ l) h = go (eqb y r) h (place-new r (suc n) l)
  where
    go : (b : Bool) → (b || listed r l) ≡ false → (listed r l ≡ false → place_from r (suc n) (l ++ (r ∷ [])) ≡ suc n + length l)
        → cond b n (place_from r (suc n) (l ++ (r ∷ []))) ≡ n + suc (length l)
    go true h ih = false-true (sym h)
    go false h ih = ih h ∙ suc-add n (length l) ∙ sym (add-suc n (length l))

-- where none is listed twice, the element at i has place i
pub place-of : (l : List ℕ) (n i : ℕ) → distinct l ≡ true → i < length l → place_from (get_or l i 0) n l ≡ n + i
unfolding place_from distinct
place-of [] n i d h = absurd (omega arith)
place-of (y ∷ l) n zero d h = ap (λ (b : Bool). cond b n (place_from y (suc n) l)) (eq-eqb y y refl) ∙ sym (add-zero n)
place-of (y ∷ l) n (suc i) d h =
    ap (λ (b : Bool). cond b n (place_from (get_or l i 0) (suc n) l)) (ne_eqb y (get_or l i 0) apart)
    ∙ place-of l (suc n) i (and_right (not (listed y l)) (distinct l) d) (le_of_suc-le-suc h) ∙ suc-add n i ∙ sym (add-suc n i)
  where
    apart : y ≡ get_or l i 0 → ⊥
    apart e =
        not-both (not (listed y l)) (and_left (not (listed y l)) (distinct l) d)
        (ap not (ap (λ (x : ℕ). listed x l) e ∙ listed_at l i (le_of_suc-le-suc h)))
