-- A place that is closed up one element at a time, and a retiring one policy at a time (02, L8).
use Prim.Native.Nat.{ℕ, ◌+◌, ◌*◌, ◌/◌, ◌%◌, ◌<◌, ◌≤◌}
use mathlib.Core.Path.{◌≡◌, refl, sym, ap, ap₂, ◌∙◌}
use mathlib.Core.Bool.{Bool, true, false, ◌&&◌, cond}
use mathlib.Core.List.{List}
use mathlib.Core.Logic.{◌⊎◌, inl, inr}
use native.Mathlib.Nat.{zero-add}
use native.Mathlib.Omega.{arith}
use lib.Bits.{bit_or}
use lib.Dec.{eqb, leb, ltb}
use lib.ListN.{length, get_or, set}
use lib.Seq.{get_or-set_same, get_or-set_other}
use borrow.Author.Tests.{eqb-true, eqb-false, le-leb, lt-leb, leb-true, leb-false, lt-ltb, le-ltb, ltb-true, ltb-false}
use Rattle.usage.specs.Limits.{policies}
use Rattle.usage.specs.Tables.{from}
use Rattle.usage.proofs.Logic.{and-false}
use Rattle.usage.proofs.TableLaws.{get_d-from, is-from, from-ext}
use Rattle.monitor_sets.specs.Instances.{retirees, first_created_lem, instances, set_places}
use Rattle.monitor_sets.specs.Created.{behind}
use Rattle.monitor_sets.specs.Sets.{retired_sets}
use Rattle.monitor_sets.specs.Code.{row_closed, retired_to, retired_below}
use Rattle.monitor_sets.proofs.PlaceLaws.{table_at, table-length, table_same, is-table, from-set, ltb_next}

module _ (size i : ℕ) (l : List ℕ) where
  -- the places from i to below k have what stood behind them
  abbrev pub closed_to : ℕ → ℕ → ℕ
  closed_to k j = cond (leb i j && ltb j k) (get_or l (j + 1) 0) (get_or l j 0)

  at-or-not : (k j : ℕ) (b : Bool) → (leb i j && ltb j k) ≡ b → closed_to k j ≡ cond b (get_or l (j + 1) 0) (get_or l j 0)
  at-or-not k j b e = ap (λ (c : Bool). cond c (get_or l (j + 1) 0) (get_or l j 0)) e

  pub closed_none : length l ≡ size → l ≡ from (closed_to i) 0 size
  closed_none e = is-from (closed_to i) 0 size l e (λ j h. sym (at-or-not i j false (go j (leb i j) refl)))
    where
      go : (j : ℕ) (b : Bool) → leb i j ≡ b → (b && ltb j i) ≡ false
      go j true q = le-ltb j i (leb-true i j q)
      go j false q = refl

  pub closed-source : (k : ℕ) → k + 1 < size → get_or (from (closed_to k) 0 size) (k + 1) 0 ≡ get_or l (k + 1) 0
  closed-source k h =
      get_d-from (closed_to k) 0 size (k + 1) 0 h ∙ ap (closed_to k) (zero-add (k + 1))
      ∙ at-or-not k (k + 1) false (and-false (leb i (k + 1)) (ltb (k + 1) k) (le-ltb (k + 1) k (omega arith)))

  pub closed-more : (k : ℕ) → i ≤ k → k + 1 < size → set (from (closed_to k) 0 size) k (get_or l (k + 1) 0) ≡ from (closed_to (k + 1)) 0 size
  closed-more k h r =
      from-set size (closed_to k) (closed_to (k + 1)) k (get_or l (k + 1) 0) (omega arith)
      (sym (simp (le-leb i k h, lt-ltb k (k + 1) (omega arith))))
      (λ j b d. ap (λ (c : Bool). cond (leb i j && c) (get_or l (j + 1) 0) (get_or l j 0)) (ltb_next j k d))

  pub closed_all : (n k : ℕ) → k + 1 ≡ n → from (closed_to k) 0 size ≡ from (λ j. get_or l (behind i n j) 0) 0 size
  closed_all n k e = from-ext (closed_to k) (λ j. get_or l (behind i n j) 0) 0 size (λ j h. go (0 + j) (leb i (0 + j)) (ltb (0 + j) k) refl)
    where
      go : (j : ℕ) (b c : Bool) → ltb j k ≡ c → cond (b && c) (get_or l (j + 1) 0) (get_or l j 0) ≡ get_or l (cond (b && ltb (j + 1) n) (j + 1) j) 0
      go j true true q = let z = ltb-true j k q in sym (ap (λ (c : Bool). get_or l (cond c (j + 1) j) 0) (lt-ltb (j + 1) n (omega arith)))
      go j true false q = let z = ltb-false j k q in sym (ap (λ (c : Bool). get_or l (cond c (j + 1) j) 0) (le-ltb (j + 1) n (omega arith)))
      go j false c q = refl

-- ── One policy after the other ──

module _ (at n : ℕ) (sets : List ℕ) where
  abbrev below_to : ℕ → ℕ → ℕ
  below_to m k = cond (ltb (k / instances) m) (retired_to at n sets k) (get_or sets k 0)

  pub below_none : length sets ≡ set_places → sets ≡ retired_below at n 0 sets
  unfolding retired_below
  below_none e =
      is-table (below_to 0) sets e
      (λ k l. sym (ap (λ (b : Bool). cond b (retired_to at n sets k) (get_or sets k 0)) (le-ltb (k / instances) 0 (omega arith))))

  pub below_all : retired_below at n policies sets ≡ retired_sets at n sets
  unfolding retired_below retired_sets
  below_all =
      table_same (below_to policies) (retired_to at n sets)
      (λ k l. ap (λ (b : Bool). cond b (retired_to at n sets k) (get_or sets k 0)) (lt-ltb (k / instances) policies (omega arith)))

  pub below_length : (m : ℕ) → length (retired_below at n m sets) ≡ set_places
  unfolding retired_below
  below_length m = table-length (below_to m)

  -- policy p has not been reached
  pub below_at : (p i : ℕ) → p < policies → i < instances → get_or (retired_below at n p sets) (p * instances + i) 0 ≡ get_or sets (p * instances + i) 0
  unfolding retired_below
  below_at p i h l =
      let q : (p * instances + i) / instances ≡ p = omega arith in
      table_at (below_to p) (p * instances + i) (omega arith)
      ∙ ap (λ (b : Bool). cond b (retired_to at n sets (p * instances + i)) (get_or sets (p * instances + i) 0))
      (le-ltb ((p * instances + i) / instances) p (omega arith))

-- a place that stays
behind-stays : (i n k : ℕ) → (k < i) ⊎ (n ≤ k + 1) → behind i n k ≡ k
behind-stays i n k (inl h) = rw (lt-leb i k h)
behind-stays i n k (inr h) =
    ap (λ (b : Bool). cond b (k + 1) k) (and-false (leb i k) (ltb (k + 1) n) (le-ltb (k + 1) n h))

-- a place that moves up
behind-moves : (i n k : ℕ) → i ≤ k → k + 1 < n → behind i n k ≡ k + 1
behind-moves i n k h l = rw (le-leb i k h, lt-ltb (k + 1) n l)

behind? : (i n k : ℕ) → ((k < i) ⊎ (n ≤ k + 1)) ⊎ ((i ≤ k) × (k + 1 < n))
behind? i n k = go (leb i k) refl (ltb (k + 1) n) refl
  where
    go : (b : Bool) → leb i k ≡ b → (c : Bool) → ltb (k + 1) n ≡ c → ((k < i) ⊎ (n ≤ k + 1)) ⊎ ((i ≤ k) × (k + 1 < n))
    go true b true c = inr (leb-true i k b, ltb-true (k + 1) n c)
    go true b false c = inl (inr (ltb-false (k + 1) n c))
    go false b c d = inl (inl (leb-false i k b))

-- in a row that starts at place k
behind-row : (k i n m : ℕ) → behind (k + i) (k + n) (k + m) ≡ k + behind i n m
behind-row k i n m = go (behind? i n m)
  where
    go : ((m < i) ⊎ (n ≤ m + 1)) ⊎ ((i ≤ m) × (m + 1 < n)) → behind (k + i) (k + n) (k + m) ≡ k + behind i n m
    go (inl (inl h)) = behind-stays (k + i) (k + n) (k + m) (inl (omega arith)) ∙ sym (ap (λ (j : ℕ). k + j) (behind-stays i n m (inl h)))
    go (inl (inr h)) = behind-stays (k + i) (k + n) (k + m) (inr (omega arith)) ∙ sym (ap (λ (j : ℕ). k + j) (behind-stays i n m (inr h)))
    go (inr (h, l)) =
        behind-moves (k + i) (k + n) (k + m) (omega arith) (omega arith) ∙ omega arith
        ∙ sym (ap (λ (j : ℕ). k + j) (behind-moves i n m h l))

-- where instance m of a policy has its set from, if it is not that of the retired ones
behind-other : (at n m : ℕ) → first_created_lem ≤ at → n ≤ instances → m < instances → (m ≡ retirees → ⊥)
    → (behind at n m < instances) × (behind at n m ≡ retirees → ⊥)
behind-other at n m f h l d = go (behind? at n m)
  where
    go : ((m < at) ⊎ (n ≤ m + 1)) ⊎ ((at ≤ m) × (m + 1 < n)) → (behind at n m < instances) × (behind at n m ≡ retirees → ⊥)
    go (inl s) = let e = behind-stays at n m s in (omega arith, λ q. d (sym e ∙ q))
    go (inr (a, b)) = let e = behind-moves at n m a b in (omega arith, λ q. omega arith)

module _ (at n : ℕ) (sets : List ℕ) (p : ℕ) (h : p < policies) (f : first_created_lem ≤ at) (l : at < n) (most : n ≤ instances) where
  abbrev joined : ℕ
  joined = bit_or (get_or sets (p * instances + retirees) 0) (get_or sets (p * instances + at) 0)

  abbrev joined_in : List ℕ
  joined_in = set (retired_below at n p sets) (p * instances + retirees) joined

  -- any other place of it
  joined-other : (k : ℕ) → (k ≡ p * instances + retirees → ⊥) → k < set_places
      → get_or joined_in k 0 ≡ cond (ltb (k / instances) p) (retired_to at n sets k) (get_or sets k 0)
  unfolding retired_below
  joined-other k d b =
      get_or-set_other (retired_below at n p sets) (p * instances + retirees) k joined 0 d ∙ table_at (below_to at n sets p) k b

  pub below_more : row_closed (p * instances) at n joined_in ≡ retired_below at n (p + 1) sets
  unfolding row_closed retired_below
  below_more =
      table_same (λ j. get_or joined_in (behind (p * instances + at) (p * instances + n) j) 0) (below_to at n sets (p + 1))
      (λ k b. go k b (ltb (k / instances) p) refl (eqb (k / instances) p) refl)
    where
      -- a place of another policy
      stays : (k : ℕ) → (k < p * instances + at) ⊎ (p * instances + n ≤ k + 1)
          → get_or joined_in (behind (p * instances + at) (p * instances + n) k) 0 ≡ get_or joined_in k 0
      stays k s = ap (λ (j : ℕ). get_or joined_in j 0) (behind-stays (p * instances + at) (p * instances + n) k s)

      own : (k : ℕ) → k < set_places → k / instances ≡ p → (c : Bool) → eqb (k % instances) retirees ≡ c
          → get_or joined_in (behind (p * instances + at) (p * instances + n) k) 0
          ≡ cond c (bit_or (get_or sets k 0) (get_or sets (k / instances * instances + at) 0))
          (get_or sets (k / instances * instances + behind at n (k % instances)) 0)
      own k b e true q =
          let r = eqb-true (k % instances) retirees q in
          let i : k ≡ p * instances + retirees = omega arith in
          stays k (inl (omega arith)) ∙ ap (λ (j : ℕ). get_or joined_in j 0) i
          ∙ get_or-set_same (retired_below at n p sets) (p * instances + retirees) joined 0 (omega (arith, below_length at n sets p))
          ∙ ap₂ (λ (u v : ℕ). bit_or (get_or sets u 0) (get_or sets (v * instances + at) 0)) (sym i) (sym e)
      own k b e false q =
          let i : k ≡ p * instances + k % instances = omega arith in
          let o = behind-other at n (k % instances) f most (omega arith) (eqb-false (k % instances) retirees q) in
          let o₀ = o.0 in
          ap (λ (j : ℕ). get_or joined_in (behind (p * instances + at) (p * instances + n) j) 0) i
          ∙ ap (λ (j : ℕ). get_or joined_in j 0) (behind-row (p * instances) at n (k % instances))
          ∙ get_or-set_other (retired_below at n p sets) (p * instances + retirees) (p * instances + behind at n (k % instances)) joined 0
          (λ z. o.1 (omega arith))
          ∙ below_at at n sets p (behind at n (k % instances)) h o.0
          ∙ ap (λ (v : ℕ). get_or sets (v * instances + behind at n (k % instances)) 0) (sym e)

      go : (k : ℕ) → k < set_places → (b : Bool) → ltb (k / instances) p ≡ b → (c : Bool) → eqb (k / instances) p ≡ c
          → get_or joined_in (behind (p * instances + at) (p * instances + n) k) 0 ≡ below_to at n sets (p + 1) k
      go k b true q c r =
          let z = ltb-true (k / instances) p q in
          stays k (inl (omega arith)) ∙ joined-other k (λ e. omega arith) b
          ∙ ap (λ (t : Bool). cond t (retired_to at n sets k) (get_or sets k 0)) (q ∙ sym (lt-ltb (k / instances) (p + 1) (omega arith)))
      go k b false q true r =
          let e = eqb-true (k / instances) p r in
          own k b e (eqb (k % instances) retirees) refl
          ∙ sym (ap (λ (t : Bool). cond t (retired_to at n sets k) (get_or sets k 0)) (lt-ltb (k / instances) (p + 1) (omega arith)))
      go k b false q false r =
          let z = ltb-false (k / instances) p q in
          let d = eqb-false (k / instances) p r in
          let u : p + 1 ≤ k / instances = omega arith in
          stays k (inr (omega arith)) ∙ joined-other k (λ e. omega arith) b
          ∙ ap (λ (t : Bool). cond t (retired_to at n sets k) (get_or sets k 0)) (q ∙ sym (le-ltb (k / instances) (p + 1) u))
