-- The laws of the table of sets: place p * instances + i is that of instance i of policy p.
use Prim.Native.Nat.{ℕ, ◌+◌, ◌*◌, ◌/◌, ◌%◌, ◌<◌}
use mathlib.Core.Path.{◌≡◌, refl, sym, ap, ◌∙◌}
use mathlib.Core.Bool.{Bool, true, false, ◌&&◌, cond}
use mathlib.Core.List.{List}
use native.Mathlib.Nat.{zero-add, eq-or-lt_of_le}
use native.Mathlib.Omega.{arith}
use borrow.Author.Tests.{eq-eqb, eqb-true, eqb-false, lt-ltb, le-ltb, ltb-true, ltb-false}
use lib.Dec.{eqb, ltb, lit<}
use lib.ListN.{length, get_or, set, length-set}
use lib.Seq.{get_or-set_same, get_or-set_other}
use Rattle.usage.specs.Limits.{policies}
use Rattle.usage.specs.Tables.{from}
use Rattle.usage.proofs.Logic.{by_cases, and-false}
use Rattle.usage.proofs.TableLaws.{length_from, get_d-from, is-from, from-ext, from-below}
use Rattle.monitor_sets.specs.Instances.{unseen, instances, set_places}
use Rattle.monitor_sets.specs.Sets.{copied, start_set, reset_sets}

-- the table of the sets f 0, f 1, …
abbrev pub table : (ℕ → ℕ) → List ℕ
table f = from f 0 set_places

pub table_at : (f : ℕ → ℕ) (k : ℕ) → k < set_places → get_or (table f) k 0 ≡ f k
table_at f k h = get_d-from f 0 set_places k 0 h ∙ ap f (zero-add k)

pub table-length : (f : ℕ → ℕ) → length (table f) ≡ set_places
table-length f = length_from f 0 set_places

pub table_same : (f g : ℕ → ℕ) → ((k : ℕ) → k < set_places → f k ≡ g k) → table f ≡ table g
table_same f g h = from-ext f g 0 set_places (λ i l. ap f (zero-add i) ∙ h i l ∙ ap g (sym (zero-add i)))

pub is-table : (f : ℕ → ℕ) (l : List ℕ) → length l ≡ set_places → ((k : ℕ) → k < set_places → get_or l k 0 ≡ f k) → l ≡ table f
is-table f l e h = is-from f 0 set_places l e h

-- a store at place j of n
pub from-set : (n : ℕ) (f g : ℕ → ℕ) (j v : ℕ) → j < n → v ≡ g j → ((k : ℕ) → k < n → (k ≡ j → ⊥) → f k ≡ g k)
    → set (from f 0 n) j v ≡ from g 0 n
from-set n f g j v l e h =
    is-from g 0 n (set (from f 0 n) j v) (length-set (from f 0 n) j v ∙ length_from f 0 n) (λ k b. go k b (eqb k j) refl)
  where
    go : (k : ℕ) → k < n → (b : Bool) → eqb k j ≡ b → get_or (set (from f 0 n) j v) k 0 ≡ g k
    go k b true q =
        let i : k ≡ j = eqb-true k j q in
        let m : j < length (from f 0 n) = rw (length_from f 0 n) l in
        ap (λ (n' : ℕ). get_or (set (from f 0 n) j v) n' 0) i ∙ get_or-set_same (from f 0 n) j v 0 m ∙ e ∙ ap g (sym i)
    go k b false q =
        get_or-set_other (from f 0 n) j k v 0 (eqb-false k j q) ∙ get_d-from f 0 n k 0 b ∙ ap f (zero-add k) ∙ h k b (eqb-false k j q)

pub table-set : (f g : ℕ → ℕ) (j v : ℕ) → j < set_places → v ≡ g j → ((k : ℕ) → k < set_places → (k ≡ j → ⊥) → f k ≡ g k)
    → set (table f) j v ≡ table g
table-set = from-set set_places

-- two tests that agree where a third one passes
same-and : (x y t : Bool) → (t ≡ true → x ≡ y) → (x && t) ≡ (y && t)
same-and x y true f = ap (λ b. b && true) (f refl)
same-and true true false f = refl
same-and true false false f = refl
same-and false true false f = refl
same-and false false false f = refl

-- one more number below
pub ltb_next : (a n : ℕ) → (a ≡ n → ⊥) → ltb a n ≡ ltb a (n + 1)
ltb_next a n h = go (ltb a n) refl
  where
    go : (b : Bool) → ltb a n ≡ b → b ≡ ltb a (n + 1)
    go true e = let l = ltb-true a n e in sym (lt-ltb a (n + 1) (omega arith))
    go false e = by_cases (eq-or-lt_of_le (ltb-false a n e)) (λ q. absurd (h (sym q))) (λ l. sym (le-ltb a (n + 1) (omega arith)))

-- the place of instance i of policy p
pub place_is : (k p i : ℕ) → k / instances ≡ p → k % instances ≡ i → k ≡ p * instances + i
place_is k p i a b = omega arith

-- ── A new instance ──

-- instance i copied in the first p policies
abbrev pub copied_to : ℕ → List ℕ → ℕ → ℕ → ℕ
copied_to p sets i k =
    cond (ltb (k / instances) p && eqb (k % instances) i) (get_or sets (k / instances * instances + unseen) 0) (get_or sets k 0)

module _ (sets : List ℕ) (i : ℕ) where
  pub copied_none : length sets ≡ set_places → sets ≡ table (copied_to 0 sets i)
  copied_none e =
      is-table (copied_to 0 sets i) sets e
      (λ k l. sym
      (ap (λ b. cond (b && eqb (k % instances) i) (get_or sets (k / instances * instances + unseen) 0) (get_or sets k 0))
      (le-ltb (k / instances) 0 (omega arith))))

  pub copied_all : table (copied_to policies sets i) ≡ copied sets i
  unfolding copied
  copied_all =
      table_same (copied_to policies sets i)
      (λ k. cond (eqb (k % instances) i) (get_or sets (k / instances * instances + unseen) 0) (get_or sets k 0)) (λ k l.
      ap (λ b. cond (b && eqb (k % instances) i) (get_or sets (k / instances * instances + unseen) 0) (get_or sets k 0))
      (lt-ltb (k / instances) policies (omega arith)))

  -- policy p has not been reached
  pub copied_source : (p : ℕ) → p < policies
      → get_or (table (copied_to p sets i)) (p * instances + unseen) 0 ≡ get_or sets (p * instances + unseen) 0
  copied_source p h =
      let q : (p * instances + unseen) / instances ≡ p = omega arith in
      table_at (copied_to p sets i) (p * instances + unseen) (omega arith)
      ∙ ap (λ b. cond (b && eqb ((p * instances + unseen) % instances) i)
      (get_or sets ((p * instances + unseen) / instances * instances + unseen) 0) (get_or sets (p * instances + unseen) 0))
      (le-ltb ((p * instances + unseen) / instances) p (omega arith))

  pub copied_more : (p : ℕ) → p < policies → i < instances
      → set (table (copied_to p sets i)) (p * instances + i) (get_or sets (p * instances + unseen) 0) ≡ table (copied_to (p + 1) sets i)
  copied_more p h l =
      table-set (copied_to p sets i) (copied_to (p + 1) sets i) (p * instances + i) (get_or sets (p * instances + unseen) 0)
      (omega arith) here other
    where
      here : get_or sets (p * instances + unseen) 0 ≡ copied_to (p + 1) sets i (p * instances + i)
      here =
          let q : (p * instances + i) / instances ≡ p = omega arith in
          let r : (p * instances + i) % instances ≡ i = omega arith in
          rw (q, r) (simp (lt-ltb p (p + 1) (omega arith), eq-eqb i i refl))

      other : (k : ℕ) → k < set_places → (k ≡ p * instances + i → ⊥) → copied_to p sets i k ≡ copied_to (p + 1) sets i k
      other k b n =
          ap (λ t. cond t (get_or sets (k / instances * instances + unseen) 0) (get_or sets k 0))
          (same-and (ltb (k / instances) p) (ltb (k / instances) (p + 1)) (eqb (k % instances) i)
          (λ e. ltb_next (k / instances) p (λ q. n (place_is k p i q (eqb-true (k % instances) i e)))))

-- ── Instances that go back to state 0 ──

abbrev reset_to : ℕ → ℕ → List ℕ → ℕ → ℕ
reset_to n p sets k = cond (eqb (k / instances) p && ltb (k % instances) n) start_set (get_or sets k 0)

module _ (sets : List ℕ) (p : ℕ) where
  pub reset-none : length sets ≡ set_places → sets ≡ reset_sets 0 p sets
  unfolding reset_sets
  reset-none e =
      is-table (reset_to 0 p sets) sets e
      (λ k l. sym (ap (λ (b : Bool). cond b start_set (get_or sets k 0))
      (and-false (eqb (k / instances) p) (ltb (k % instances) 0) (le-ltb (k % instances) 0 (omega arith)))))

  pub reset-more : (n : ℕ) → p < policies → n < instances → set (reset_sets n p sets) (p * instances + n) start_set ≡ reset_sets (n + 1) p sets
  unfolding reset_sets
  reset-more n h l = table-set (reset_to n p sets) (reset_to (n + 1) p sets) (p * instances + n) start_set (omega arith) here other
    where
      here : start_set ≡ reset_to (n + 1) p sets (p * instances + n)
      here =
          let q : (p * instances + n) / instances ≡ p = omega arith in
          let r : (p * instances + n) % instances ≡ n = omega arith in
          rw (q, r) (simp (eq-eqb p p refl, lt-ltb n (n + 1) (omega arith)))

      swap : (a b : Bool) → (a && b) ≡ (b && a)
      swap true true = refl
      swap true false = refl
      swap false true = refl
      swap false false = refl

      other : (k : ℕ) → k < set_places → (k ≡ p * instances + n → ⊥) → reset_to n p sets k ≡ reset_to (n + 1) p sets k
      other k b d =
          ap (λ t. cond t start_set (get_or sets k 0))
          (swap (eqb (k / instances) p) (ltb (k % instances) n)
          ∙ same-and (ltb (k % instances) n) (ltb (k % instances) (n + 1)) (eqb (k / instances) p)
          (λ e. ltb_next (k % instances) n (λ q. d (place_is k p n (eqb-true (k / instances) p e) q)))
          ∙ swap (ltb (k % instances) (n + 1)) (eqb (k / instances) p))

  -- the set at instance i of policy q
  pub reset-at : (n q i : ℕ) → q < policies → i < instances
      → get_or (reset_sets n p sets) (q * instances + i) 0 ≡ cond (eqb q p && ltb i n) start_set (get_or sets (q * instances + i) 0)
  unfolding reset_sets
  reset-at n q i h l =
      let d : (q * instances + i) / instances ≡ q = omega arith in
      let m : (q * instances + i) % instances ≡ i = omega arith in
      table_at (reset_to n p sets) (q * instances + i) (omega arith) ∙ rw (d, m)

  pub reset-length : (n : ℕ) → length (reset_sets n p sets) ≡ set_places
  unfolding reset_sets
  reset-length n = table-length (reset_to n p sets)

  pub reset-below : (n : ℕ) → ((k : ℕ) → get_or sets k 0 < 256) → (k : ℕ) → get_or (reset_sets n p sets) k 0 < 256
  unfolding reset_sets
  reset-below n h k =
      from-below (reset_to n p sets) 256 (lit< tt) (λ j. either (eqb (j / instances) p && ltb (j % instances) n) (h j)) 0 set_places k
    where
      either : (b : Bool) {m : ℕ} → m < 256 → cond b start_set m < 256
      either true l = lit< tt
      either false l = l
