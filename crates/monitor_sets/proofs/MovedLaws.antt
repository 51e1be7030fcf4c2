-- The laws of moving the sets: one row of places, then the instances of one policy, then those of all.
use Prim.Native.Nat.{ℕ, ◌+◌, ◌*◌, ◌/◌, ◌%◌, ◌<◌, ◌≤◌}
use mathlib.Core.Path.{◌≡◌, refl, sym, ap, ap₂, ◌∙◌}
use mathlib.Core.Bool.{Bool, true, false, ◌&&◌, cond}
use mathlib.Core.List.{List}
use native.Mathlib.Omega.{arith}
use borrow.Author.Tests.{eq-eqb, ne_eqb, eqb-true, eqb-false, lt-ltb, le-ltb, ltb-true, le-leb, leb-true}
use lib.Bits.{bit_or}
use lib.Dec.{eqb, ltb, leb}
use lib.ListN.{length, get_or, set, replicate}
use Rattle.usage.specs.declared.Edge.{Edge}
use Rattle.usage.specs.Limits.{policies, states}
use Rattle.usage.specs.Tables.{from}
use Rattle.usage.proofs.Logic.{and_left, and_right, and_both, both_ways}
use Rattle.automaton.specs.Mask.{has, union}
use Rattle.automaton.specs.Move.{move_by, move_mask, rows_of}
use Rattle.automaton.specs.Code.{move_by_policy}
use Rattle.automaton.proofs.RowLaws.{union-ext, move_by-rows}
use Rattle.monitor_sets.specs.Instances.{instances, set_places}
use Rattle.monitor_sets.specs.Sets.{moved_sets, gathered_at, gathered}
use Rattle.monitor_sets.specs.Code.{row_moved, moved_at, policy_moved, all_moved}
use Rattle.monitor_sets.proofs.PlaceLaws.{
  table,
  table_at,
  table-length,
  table_same,
  is-table,
  from-set,
  table-set,
  ltb_next,
  place_is,
}
use Rattle.monitor_sets.proofs.SetLaws.{union-with}

-- ── The n sets from place k on ──

module _ (rows : List ℕ) (k : ℕ) (sets : List ℕ) where
  pub row-none : length sets ≡ set_places → sets ≡ row_moved rows k 0 sets
  unfolding row_moved
  row-none e =
      is-table (λ j. cond (leb k j && ltb j (k + 0)) (move_by rows 0 (get_or sets j 0)) (get_or sets j 0)) sets e
      (λ j l. sym (ap (λ b. cond b (move_by rows 0 (get_or sets j 0)) (get_or sets j 0)) (go j (leb k j) refl)))
    where
      go : (j : ℕ) (b : Bool) → leb k j ≡ b → (b && ltb j (k + 0)) ≡ false
      go j true q = let h = leb-true k j q in le-ltb j (k + 0) (omega arith)
      go j false q = refl

  -- rows that leave every state where it is move nothing
  pub row_stays : (n : ℕ) → length sets ≡ set_places → ((j : ℕ) → get_or sets j 0 < 256)
      → ((m : ℕ) → m < 256 → move_by rows 0 m ≡ m) → sets ≡ row_moved rows k n sets
  unfolding row_moved
  row_stays n e b r =
      is-table (λ j. cond (leb k j && ltb j (k + n)) (move_by rows 0 (get_or sets j 0)) (get_or sets j 0)) sets e
      (λ j l. sym (same (leb k j && ltb j (k + n)) (r (get_or sets j 0) (b j))))
    where
      same : {u v : ℕ} (t : Bool) → u ≡ v → cond t u v ≡ v
      same true q = q
      same false q = refl

  pub union-stays : (n : ℕ) → ((j : ℕ) → get_or sets j 0 < 256) → ((m : ℕ) → m < 256 → move_by rows 0 m ≡ m)
      → union n (λ i. get_or sets (k + i) 0) ≡ union n (λ i. move_by rows 0 (get_or sets (k + i) 0))
  union-stays n b r =
      union-ext n (λ i. get_or sets (k + i) 0) (λ i. move_by rows 0 (get_or sets (k + i) 0))
      (λ i l. sym (r (get_or sets (k + i) 0) (b (k + i))))

  module _ (i : ℕ) (h : k + i < set_places) where
    -- the set at the next place has not moved
    pub row_next : get_or (row_moved rows k i sets) (k + i) 0 ≡ get_or sets (k + i) 0
    unfolding row_moved
    row_next =
        table_at (λ j. cond (leb k j && ltb j (k + i)) (move_by rows 0 (get_or sets j 0)) (get_or sets j 0)) (k + i) h
        ∙ simp (le-leb k (k + i) (omega arith), le-ltb (k + i) (k + i) (omega arith))

    pub row_more : set (row_moved rows k i sets) (k + i) (move_by rows 0 (get_or sets (k + i) 0)) ≡ row_moved rows k (i + 1) sets
    unfolding row_moved
    row_more =
        table-set (λ j. cond (leb k j && ltb j (k + i)) (move_by rows 0 (get_or sets j 0)) (get_or sets j 0))
        (λ j. cond (leb k j && ltb j (k + (i + 1))) (move_by rows 0 (get_or sets j 0)) (get_or sets j 0)) (k + i)
        (move_by rows 0 (get_or sets (k + i) 0)) h
        (simp (le-leb k (k + i) (omega arith), lt-ltb (k + i) (k + (i + 1)) (omega arith)))
        (λ j l n.
        let e : (k + i) + 1 ≡ k + (i + 1) = omega arith in
        ap (λ b. cond (leb k j && b) (move_by rows 0 (get_or sets j 0)) (get_or sets j 0)) (ltb_next j (k + i) n ∙ ap (λ (m : ℕ). ltb j m) e))

-- ── The instances of policy p ──

-- the places of policy p's first n instances
places : (k p n : ℕ) → n ≤ instances
    → (leb (p * instances) k && ltb k (p * instances + n)) ≡ (eqb (k / instances) p && ltb (k % instances) n)
places k p n h = both_ways (leb (p * instances) k && ltb k (p * instances + n)) (eqb (k / instances) p && ltb (k % instances) n) to back
  where
    to : (leb (p * instances) k && ltb k (p * instances + n)) ≡ true → (eqb (k / instances) p && ltb (k % instances) n) ≡ true
    to e =
        let a = leb-true (p * instances) k (and_left (leb (p * instances) k) (ltb k (p * instances + n)) e) in
        let b = ltb-true k (p * instances + n) (and_right (leb (p * instances) k) (ltb k (p * instances + n)) e) in
        and_both (eqb (k / instances) p) (ltb (k % instances) n) (eq-eqb (k / instances) p (omega arith))
        (lt-ltb (k % instances) n (omega arith))

    back : (eqb (k / instances) p && ltb (k % instances) n) ≡ true → (leb (p * instances) k && ltb k (p * instances + n)) ≡ true
    back e =
        let a = eqb-true (k / instances) p (and_left (eqb (k / instances) p) (ltb (k % instances) n) e) in
        let b = ltb-true (k % instances) n (and_right (eqb (k / instances) p) (ltb (k % instances) n) e) in
        and_both (leb (p * instances) k) (ltb k (p * instances + n)) (le-leb (p * instances) k (omega arith))
        (lt-ltb k (p * instances + n) (omega arith))

pub moved-policy : (rows : List ℕ) (p m : ℕ) → p < policies → move_by_policy rows p m ≡ move_by rows (p * states) m
unfolding move_by_policy
moved-policy rows p m h = simp (lt-ltb p policies h)

-- the empty set moves to the empty set
pub moved-empty : (rows : List ℕ) (k : ℕ) → move_by rows k 0 ≡ 0
unfolding move_by union has
moved-empty rows k = refl

module _ (own other : List ℕ) (n at : ℕ) (sets : List ℕ) where
  -- The sets of policy p while the others move: at the place of its own instance stands anything.
  module _ (p : ℕ) (before rows : List ℕ) (v : ℕ) (h : p < policies) (l : n ≤ instances) (b : at < n)
      (kept : (k : ℕ) → (k ≡ p * instances + at → ⊥) → get_or before k 0 ≡ get_or sets k 0)
      (same : (m : ℕ) → move_by other (p * states) m ≡ move_by rows 0 m)
      (e : v ≡ move_by own (p * states) (get_or sets (p * instances + at) 0)) where
    -- the row of `other`, then a store of the own instance's set
    pub policy-moved : set (row_moved rows (p * instances) n before) (p * instances + at) v ≡ policy_moved own other n at p sets
    unfolding row_moved policy_moved
    policy-moved =
        table-set
        (λ j. cond (leb (p * instances) j && ltb j (p * instances + n)) (move_by rows 0 (get_or before j 0)) (get_or before j 0))
        (λ k. cond (eqb (k / instances) p && ltb (k % instances) n) (moved_at own other at sets k) (get_or sets k 0))
        (p * instances + at) v (omega arith) (e ∙ here)
        (λ k m d. ap₂ (λ (t : Bool) (x : ℕ). cond t (move_by rows 0 x) x) (places k p n l) (kept k d)
        ∙ there k d (eqb (k / instances) p && ltb (k % instances) n) refl)
      where
        here : move_by own (p * states) (get_or sets (p * instances + at) 0)
            ≡ cond (eqb ((p * instances + at) / instances) p && ltb ((p * instances + at) % instances) n)
            (moved_at own other at sets (p * instances + at)) (get_or sets (p * instances + at) 0)
        here =
            let q : (p * instances + at) / instances ≡ p = omega arith in
            let r : (p * instances + at) % instances ≡ at = omega arith in
            rw (q, r) (simp (eq-eqb p p refl, lt-ltb at n b, eq-eqb at at refl))

        there : (k : ℕ) → (k ≡ p * instances + at → ⊥) → (t : Bool) → (eqb (k / instances) p && ltb (k % instances) n) ≡ t
            → cond t (move_by rows 0 (get_or sets k 0)) (get_or sets k 0) ≡ cond t (moved_at own other at sets k) (get_or sets k 0)
        there k d true e =
            let q : k / instances ≡ p = eqb-true (k / instances) p (and_left (eqb (k / instances) p) (ltb (k % instances) n) e) in
            let f : eqb (k % instances) at ≡ false = ne_eqb (k % instances) at (λ r. d (place_is k p at q r)) in
            sym (same (get_or sets k 0)) ∙ sym (ap₂ (λ (t : Bool) (j : ℕ). move_by (cond t own other) (j * states) (get_or sets k 0)) f q)
        there k d false e = refl

    policy-at : (i : ℕ) → i < n
        → get_or (policy_moved own other n at p sets) (p * instances + i) 0
        ≡ move_by (cond (eqb i at) own other) (p * states) (get_or sets (p * instances + i) 0)
    unfolding policy_moved
    policy-at i k =
        let q : (p * instances + i) / instances ≡ p = omega arith in
        let r : (p * instances + i) % instances ≡ i = omega arith in
        table_at (λ k. cond (eqb (k / instances) p && ltb (k % instances) n) (moved_at own other at sets k) (get_or sets k 0))
        (p * instances + i) (omega arith)
        ∙ rw (q, r) (simp (eq-eqb p p refl, lt-ltb i n k))

    -- the union of the others' sets and the own instance's
    pub policy-gathered : get_or before (p * instances + at) 0 ≡ 0 → (m : ℕ)
        → m ≡ union n (λ i. move_by rows 0 (get_or before (p * instances + i) 0))
        → bit_or m v ≡ gathered_at n (policy_moved own other n at p sets) p
    policy-gathered z m u =
        ap (λ (x : ℕ). bit_or x v) u
        ∙ union-with n at v (λ i. move_by rows 0 (get_or before (p * instances + i) 0))
        (λ i. get_or (policy_moved own other n at p sets) (p * instances + i) 0) b (ap (move_by rows 0) z ∙ moved-empty rows 0)
        (policy-at at b ∙ ap (λ (t : Bool). move_by (cond t own other) (p * states) (get_or sets (p * instances + at) 0)) (eq-eqb at at refl)
        ∙ sym e)
        (λ i k d. ap (move_by rows 0) (kept (p * instances + i) (λ q. d (omega arith)))
        ∙ sym (same (get_or sets (p * instances + i) 0))
        ∙ sym (policy-at i k ∙ ap (λ (t : Bool). move_by (cond t own other) (p * states) (get_or sets (p * instances + i) 0)) (ne_eqb i at d)))

  -- ── All policies ──

  pub all_none : length sets ≡ set_places → sets ≡ all_moved own other n at 0 sets
  unfolding all_moved
  all_none e =
      is-table (λ k. cond (ltb (k / instances) 0 && ltb (k % instances) n) (moved_at own other at sets k) (get_or sets k 0)) sets e
      (λ k l. sym
      (ap (λ b. cond (b && ltb (k % instances) n) (moved_at own other at sets k) (get_or sets k 0)) (le-ltb (k / instances) 0 (omega arith))))

  pub all-length : (p : ℕ) → length (all_moved own other n at p sets) ≡ set_places
  unfolding all_moved
  all-length p = table-length (λ k. cond (ltb (k / instances) p && ltb (k % instances) n) (moved_at own other at sets k) (get_or sets k 0))

  pub all_more : (p : ℕ) → policy_moved own other n at p (all_moved own other n at p sets) ≡ all_moved own other n at (p + 1) sets
  unfolding all_moved policy_moved
  all_more p =
      table_same
      (λ k. cond (eqb (k / instances) p && ltb (k % instances) n)
      (move_by (cond (eqb (k % instances) at) own other) (k / instances * states) (get_or (table before) k 0)) (get_or (table before) k 0))
      (λ k. cond (ltb (k / instances) (p + 1) && ltb (k % instances) n) (moved_at own other at sets k) (get_or sets k 0))
      (λ k l.
      ap (λ (x : ℕ). cond (eqb (k / instances) p && ltb (k % instances) n)
      (move_by (cond (eqb (k % instances) at) own other) (k / instances * states) x) x) (table_at before k l)
      ∙ go k (eqb (k / instances) p) refl)
    where
      before : ℕ → ℕ
      before k = cond (ltb (k / instances) p && ltb (k % instances) n) (moved_at own other at sets k) (get_or sets k 0)

      go : (k : ℕ) (t : Bool) → eqb (k / instances) p ≡ t
          → cond (t && ltb (k % instances) n) (move_by (cond (eqb (k % instances) at) own other) (k / instances * states) (before k))
          (before k)
          ≡ cond (ltb (k / instances) (p + 1) && ltb (k % instances) n) (moved_at own other at sets k) (get_or sets k 0)
      go k true e =
          let q : k / instances ≡ p = eqb-true (k / instances) p e in
          simp (le-ltb (k / instances) p (omega arith), lt-ltb (k / instances) (p + 1) (omega arith))
      go k false e =
          ap (λ b. cond (b && ltb (k % instances) n) (moved_at own other at sets k) (get_or sets k 0))
          (ltb_next (k / instances) p (eqb-false (k / instances) p e))

  -- ── What each policy may be in ──

  module _ (l : n ≤ instances) where
    -- instance i of policy p, which is among those that moved
    all-at : (m p i : ℕ) → p < m → p < policies → i < n
        → get_or (all_moved own other n at m sets) (p * instances + i) 0
        ≡ move_by (cond (eqb i at) own other) (p * states) (get_or sets (p * instances + i) 0)
    unfolding all_moved
    all-at m p i h k j =
        let q : (p * instances + i) / instances ≡ p = omega arith in
        let r : (p * instances + i) % instances ≡ i = omega arith in
        table_at (λ k. cond (ltb (k / instances) m && ltb (k % instances) n) (moved_at own other at sets k) (get_or sets k 0))
        (p * instances + i) (omega arith)
        ∙ rw (q, r) (simp (lt-ltb p m h, lt-ltb i n j))

    -- the bytes of the first m policies are gathered
    abbrev pub gathered_to : ℕ → List ℕ
    gathered_to m = from (λ p. cond (ltb p m) (gathered_at n (all_moved own other n at policies sets) p) 0) 0 policies

    pub gathered_none : replicate policies 0 ≡ gathered_to 0
    unfolding from
    gathered_none = refl

    pub gathered-more : (m v : ℕ) → m < policies
        → v ≡ gathered_at n (policy_moved own other n at m (all_moved own other n at m sets)) m → set (gathered_to m) m v ≡ gathered_to (m + 1)
    gathered-more m v h e =
        from-set policies (λ p. cond (ltb p m) (gathered_at n (all_moved own other n at policies sets) p) 0)
        (λ p. cond (ltb p (m + 1)) (gathered_at n (all_moved own other n at policies sets) p) 0) m v h
        (e ∙ ap (λ (t : List ℕ). gathered_at n t m) (all_more m)
        ∙ union-ext n (λ i. get_or (all_moved own other n at (m + 1) sets) (m * instances + i) 0)
        (λ i. get_or (all_moved own other n at policies sets) (m * instances + i) 0)
        (λ i k. all-at (m + 1) m i (omega arith) h k ∙ sym (all-at policies m i h h k))
        ∙ sym (ap (λ (b : Bool). cond b (gathered_at n (all_moved own other n at policies sets) m) 0) (lt-ltb m (m + 1) (omega arith))))
        (λ k j d. ap (λ (b : Bool). cond b (gathered_at n (all_moved own other n at policies sets) k) 0) (ltb_next k m d))

    pub gathered-all : gathered_to policies ≡ gathered n (all_moved own other n at policies sets)
    unfolding gathered from
    gathered-all = refl

-- by the rows of an event, the sets move by the edges
pub all_moved_lem : (es : List Edge) (a r n at : ℕ) (sets : List ℕ)
    → all_moved (rows_of es a r true) (rows_of es a r false) n at policies sets ≡ moved_sets es a r at n sets
unfolding all_moved moved_sets
all_moved_lem es a r n at sets =
    table_same
    (λ k. cond (ltb (k / instances) policies && ltb (k % instances) n) (moved_at (rows_of es a r true) (rows_of es a r false) at sets k)
    (get_or sets k 0))
    (λ k. cond (ltb (k % instances) n) (move_mask es (k / instances) a r (eqb (k % instances) at) (get_or sets k 0)) (get_or sets k 0))
    (λ k l.
    ap (λ b. cond (b && ltb (k % instances) n) (moved_at (rows_of es a r true) (rows_of es a r false) at sets k) (get_or sets k 0))
    (lt-ltb (k / instances) policies (omega arith))
    ∙ ap (λ (x : ℕ). cond (ltb (k % instances) n) x (get_or sets k 0))
    (go (k / instances) (omega arith) (get_or sets k 0) (eqb (k % instances) at)))
  where
    go : (p : ℕ) → p < policies → (m : ℕ) (t : Bool)
        → move_by (cond t (rows_of es a r true) (rows_of es a r false)) (p * states) m ≡ move_mask es p a r t m
    go p h m true = move_by-rows es a r true p m h
    go p h m false = move_by-rows es a r false p m h
