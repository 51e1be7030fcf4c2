-- Rows that are copied, and a retiring step by step: the columns, the row of the retired ones, the rows behind, and the row that is free.
use Prim.Native.Nat.{ℕ, ◌+◌, ◌-◌, ◌*◌, ◌/◌, ◌%◌, ◌<◌, ◌≤◌}
use mathlib.Core.Path.{◌≡◌, refl, sym, ap, ap₂, ◌∙◌}
use mathlib.Core.Bool.{Bool, true, false, ◌&&◌, cond}
use mathlib.Core.List.{List}
use mathlib.Core.Logic.{◌⊎◌, inl, inr}
use native.Mathlib.Omega.{arith}
use borrow.Author.Tests.{eq-eqb, ne_eqb, eqb-true, eqb-false, lt-ltb, le-ltb, ltb-true, ltb-false, le-leb, lt-leb, leb-true, leb-false}
use lib.Bits.{bit_or}
use lib.Dec.{eqb, ltb, leb, lit<}
use lib.ListN.{length, get_or, set, length-set}
use lib.Seq.{get_or-set_same, get_or-set_other}
use Rattle.usage.specs.Tables.{from}
use Rattle.usage.proofs.Logic.{by_cases, and-false}
use Rattle.usage.proofs.TableLaws.{length_from, is-from}
use Rattle.monitor_sets.specs.Instances.{unseen, retirees, first_created_lem, instances}
use Rattle.monitor_sets.proofs.PlaceLaws.{ltb_next}
use Rattle.monitor_pairs.specs.Pairs.{pair_places, pair_at, row_copied, taken, retire_pairs}
use Rattle.monitor_pairs.specs.Code.{pair_row, row_put, row_joined, moved_up, line_retired, columns_retired}
use Rattle.monitor_pairs.proofs.RunLaws.{at_from, same_from, row-places}

-- place i * instances + j
pub cell_row : (i j : ℕ) → j < instances → (i * instances + j) / instances ≡ i
cell_row i j h = omega arith

pub cell-column : (i j : ℕ) → j < instances → (i * instances + j) % instances ≡ j
cell-column i j h = omega arith

-- row i of a table
row-put-at : (i : ℕ) (row s : List ℕ) (k : ℕ) → k < pair_places
    → get_or (row_put (i * instances) row instances s) k 0 ≡ cond (eqb (k / instances) i) (get_or row (k % instances) 0) (get_or s k 0)
unfolding row_put
row-put-at i row s k h =
    at_from (λ l. cond (leb (i * instances) l && ltb l (i * instances + instances)) (get_or row (l - i * instances) 0) (get_or s l 0))
    pair_places k h
    ∙ ap (λ (t : Bool). cond t (get_or row (k - i * instances) 0) (get_or s k 0)) (row-places k i) ∙ go (eqb (k / instances) i) refl
  where
    go : (b : Bool) → eqb (k / instances) i ≡ b → cond b (get_or row (k - i * instances) 0) (get_or s k 0) ≡ cond b (get_or row (k %
        instances) 0) (get_or s k 0)
    go true e =
        let q = eqb-true (k / instances) i e in
        let r : k - i * instances ≡ k % instances = omega arith in
        ap (λ (j : ℕ). get_or row j 0) r
    go false e = refl

put-size : (k : ℕ) (row l : List ℕ) → length (row_put k row instances l) ≡ pair_places
unfolding row_put
put-size k row l = length_from (λ j. cond (leb k j && ltb j (k + instances)) (get_or row (j - k) 0) (get_or l j 0)) 0 pair_places

pub row_copied_lem : (source to : ℕ) (s : List ℕ) → row_put (to * instances) (pair_row (source * instances) s) instances s ≡ row_copied source to s
unfolding row_copied pair_row
row_copied_lem source to s =
    is-from (λ k. cond (eqb (k / instances) to) (pair_at s source (k % instances)) (get_or s k 0)) 0 pair_places _ (put-size _ _ _) (λ k b.
    row-put-at to (from (λ j. get_or s (source * instances + j) 0) 0 instances) s k b
    ∙ ap (λ (v : ℕ). cond (eqb (k / instances) to) v (get_or s k 0)) (at_from (λ j. get_or s (source * instances + j) 0) instances (k %
    instances) (omega arith)))

-- ── One row ──

-- what stands at a place once another is retired: by what stood at places that there are
taken-same : (at last : ℕ) (f g : ℕ → ℕ) (m i : ℕ) → retirees < m → at < m → i < m → last < m → m ≤ last + 1
    → ((j : ℕ) → j < m → f j ≡ g j) → taken at last f i ≡ taken at last g i
taken-same at last f g m i r a h l e s = go (eqb i retirees) (leb at i) (eqb i last) refl
  where
    go : (b c d : Bool) → eqb i last ≡ d
        → cond b (bit_or (f retirees) (f at)) (f (cond c (cond d unseen (i + 1)) i))
        ≡ cond b (bit_or (g retirees) (g at)) (g (cond c (cond d unseen (i + 1)) i))
    go true c d q = ap₂ (λ (u v : ℕ). bit_or u v) (s retirees r) (s at a)
    go false true true q = s unseen (omega arith)
    go false true false q = let z = eqb-false i last q in s (i + 1) (omega arith)
    go false false d q = s i h

module _ (k at : ℕ) (s : List ℕ) (size : length s ≡ pair_places) (fits : k + instances ≤ pair_places) (f : first_created_lem ≤ at) (l : at <
    instances) where
  abbrev joined : ℕ
  joined = bit_or (get_or s (k + retirees) 0) (get_or s (k + at) 0)

  abbrev one : List ℕ
  one = set s (k + retirees) joined

  abbrev up : List ℕ
  up = moved_up (k + at) (instances - 1 - at) 1 one

  up_at : (j : ℕ) → j < pair_places
      → get_or up j 0 ≡ cond (leb (k + at) j && ltb j (k + at + (instances - 1 - at))) (get_or one (j + 1) 0) (get_or one j 0)
  unfolding moved_up
  up_at j h = at_from (λ j. cond (leb (k + at) j && ltb j (k + at + (instances - 1 - at))) (get_or one (j + 1) 0) (get_or one j 0))
      pair_places j h

  up-size : length up ≡ pair_places
  unfolding moved_up
  up-size = length_from (λ j. cond (leb (k + at) j && ltb j (k + at + (instances - 1 - at))) (get_or one (j + 1) 0) (get_or one j 0)) 0
      pair_places

  abbrev goal : ℕ → ℕ
  goal j = cond (leb k j && ltb j (k + instances)) (taken at (instances - 1) (λ i. get_or s (k + i) 0) (j - k)) (get_or s j 0)

  -- the last place of the row
  at_last : get_or s (k + unseen) 0 ≡ goal (k + (instances - 1))
  at_last =
      let z : k + (instances - 1) - k ≡ instances - 1 = omega arith in
      sym (rw (
        z,
        le-leb k (k + (instances - 1)) (omega arith),
        lt-ltb (k + (instances - 1)) (k + instances) (omega arith),
        le-leb at
            (instances - 1) (omega arith),
      ) refl)

  -- the place of the retired ones
  at_joined : joined ≡ goal (k + retirees)
  at_joined =
      let z : k + retirees - k ≡ retirees = omega arith in
      sym (rw (z, le-leb k (k + retirees) (omega arith), lt-ltb (k + retirees) (k + instances) (omega arith)) refl)

  -- a place that moves up
  at_moved : (j : ℕ) → k + at ≤ j → j < k + (instances - 1) → get_or s (j + 1) 0 ≡ goal j
  at_moved j a b =
      let z : k + (j - k + 1) ≡ j + 1 = omega arith in
      sym (rw (
        le-leb k j (omega arith),
        lt-ltb j (k + instances) (omega arith),
        ne_eqb (j - k) retirees (λ q. omega arith),
        le-leb at (j - k) (omega arith),
        ne_eqb (j - k) (instances - 1) (λ q. omega arith),
      ) (ap (λ (i : ℕ). get_or s i 0) z))

  -- a place before it
  at-kept : (j : ℕ) → k ≤ j → j < k + at → (j ≡ k + retirees → ⊥) → get_or s j 0 ≡ goal j
  at-kept j a b d =
      let z : k + (j - k) ≡ j = omega arith in
      sym (rw (
        le-leb k j a,
        lt-ltb j (k + instances) (omega arith),
        ne_eqb (j - k) retirees (λ q. d (omega arith)),
        lt-leb at (j - k) (omega arith),
      ) (ap (λ (i : ℕ). get_or s i 0) z))

  -- a place of another row
  at_other : (j : ℕ) → (leb k j && ltb j (k + instances)) ≡ false → get_or s j 0 ≡ goal j
  at_other j e = sym (ap (λ (t : Bool). cond t (taken at (instances - 1) (λ i. get_or s (k + i) 0) (j - k)) (get_or s j 0)) e)

  pub line-size : length (line_retired k at s) ≡ pair_places
  unfolding line_retired
  line-size = length_from goal 0 pair_places

  pub line-retired : set up (k + (instances - 1)) (get_or s (k + unseen) 0) ≡ line_retired k at s
  unfolding line_retired
  line-retired =
      is-from goal 0 pair_places (set up (k + (instances - 1)) (get_or s (k + unseen) 0)) (length-set up (k + (instances - 1)) _ ∙ up-size)
      (λ j b. go j b (eqb j (k + (instances - 1))) refl)
    where
      plain : (j : ℕ) → (j ≡ k + retirees → ⊥) → get_or one j 0 ≡ get_or s j 0
      plain j d = get_or-set_other s (k + retirees) j joined 0 d

      stays : (j : ℕ) → j < pair_places → (j < k + at) ⊎ (k + instances ≤ j) → (b : Bool) → eqb j (k + retirees) ≡ b → get_or one j 0 ≡
          goal j
      stays j h w true e =
          let q = eqb-true j (k + retirees) e in
          ap (λ (i : ℕ). get_or one i 0) q ∙ get_or-set_same s (k + retirees) joined 0 (omega arith) ∙ at_joined ∙ ap goal (sym q)
      stays j h w false e = plain j (eqb-false j (k + retirees) e) ∙ by_cases w
          (λ b. inner j b (eqb-false j (k + retirees) e) (leb k j) refl)
          (λ b. at_other j (and-false (leb k j) (ltb j (k + instances)) (le-ltb j (k + instances) b)))
        where
          inner : (j : ℕ) → j < k + at → (j ≡ k + retirees → ⊥) → (t : Bool) → leb k j ≡ t → get_or s j 0 ≡ goal j
          inner j b d true q = at-kept j (leb-true k j q) b d
          inner j b d false q = at_other j (ap (λ (t : Bool). t && ltb j (k + instances)) q)

      shifts : (j : ℕ) → j < pair_places → (j ≡ k + (instances - 1) → ⊥) → (b : Bool) → leb (k + at) j ≡ b → (c : Bool)
          → ltb j (k + at + (instances - 1 - at)) ≡ c → cond (b && c) (get_or one (j + 1) 0) (get_or one j 0) ≡ goal j
      shifts j h d true p true q =
          let u = leb-true (k + at) j p in
          let v = ltb-true j (k + at + (instances - 1 - at)) q in
          plain (j + 1) (λ e. omega arith) ∙ at_moved j u (omega arith)
      shifts j h d true p false q =
          let v = ltb-false j (k + at + (instances - 1 - at)) q in
          stays j h (inr (omega arith)) (eqb j (k + retirees)) refl
      shifts j h d false p c q =
          let u = leb-false (k + at) j p in
          stays j h (inl (omega arith)) (eqb j (k + retirees)) refl

      go : (j : ℕ) → j < pair_places → (b : Bool) → eqb j (k + (instances - 1)) ≡ b
          → get_or (set up (k + (instances - 1)) (get_or s (k + unseen) 0)) j 0 ≡ goal j
      go j h true e =
          let q = eqb-true j (k + (instances - 1)) e in
          ap (λ (i : ℕ). get_or (set up (k + (instances - 1)) (get_or s (k + unseen) 0)) i 0) q
          ∙ get_or-set_same up (k + (instances - 1)) _ 0 (omega (arith, up-size)) ∙ at_last ∙ ap goal (sym q)
      go j h false e =
          get_or-set_other up (k + (instances - 1)) j _ 0 (eqb-false j (k + (instances - 1)) e) ∙ up_at j h
          ∙ shifts j h (eqb-false j (k + (instances - 1)) e) (leb (k + at) j) refl (ltb j (k + at + (instances - 1 - at))) refl

-- ── Row after row ──

module _ (at : ℕ) (s : List ℕ) (l : at < instances) where
  abbrev columns_to : ℕ → ℕ → ℕ
  columns_to n k = cond (ltb (k / instances) n) (taken at (instances - 1) (pair_at s (k / instances)) (k % instances)) (get_or s k 0)

  pub columns-none : length s ≡ pair_places → s ≡ columns_retired at 0 s
  unfolding columns_retired
  columns-none e =
      is-from (columns_to 0) 0 pair_places s e (λ k b. sym
      (ap (λ (t : Bool). cond t (taken at (instances - 1) (pair_at s (k / instances)) (k % instances)) (get_or s k 0)) (le-ltb (k /
      instances) 0 (omega arith))))

  pub columns-size : (n : ℕ) → length (columns_retired at n s) ≡ pair_places
  unfolding columns_retired
  columns-size n = length_from (columns_to n) 0 pair_places

  pub columns-at : (n k : ℕ) → k < pair_places → get_or (columns_retired at n s) k 0 ≡ columns_to n k
  unfolding columns_retired
  columns-at n k h = at_from (columns_to n) pair_places k h

  rows : (k : ℕ) (t : List ℕ) → line_retired k at t
      ≡ from (λ l. cond (leb k l && ltb l (k + instances)) (taken at (instances - 1) (λ j. get_or t (k + j) 0) (l - k)) (get_or t l 0)) 0
      pair_places
  unfolding line_retired
  rows k t = refl

  pub columns-more : (n : ℕ) → n < instances → line_retired (n * instances) at (columns_retired at n s) ≡ columns_retired at (n + 1) s
  columns-more n h = line ∙ sym table
    where
      old : List ℕ
      old = columns_retired at n s

      table : columns_retired at (n + 1) s ≡ from (columns_to (n + 1)) 0 pair_places
      table = is-from (columns_to (n + 1)) 0 pair_places (columns_retired at (n + 1) s) (columns-size (n + 1)) (columns-at (n + 1))

      line : line_retired (n * instances) at old ≡ from (columns_to (n + 1)) 0 pair_places
      line = rows (n * instances) old ∙ same_from
          (λ k. cond (leb (n * instances) k && ltb k (n * instances + instances))
          (taken at (instances - 1) (λ j. get_or old (n * instances + j) 0) (k - n * instances)) (get_or old k 0))
          (columns_to (n + 1)) pair_places
          (λ k b. ap (λ (t : Bool). cond t (taken at (instances - 1) (λ j. get_or old (n * instances + j) 0) (k - n * instances)) (get_or
          old k 0)) (row-places k n)
          ∙ go k b (eqb (k / instances) n) refl)
        where
          go : (k : ℕ) → k < pair_places → (b : Bool) → eqb (k / instances) n ≡ b
              → cond b (taken at (instances - 1) (λ j. get_or old (n * instances + j) 0) (k - n * instances)) (get_or old k 0) ≡ columns_to
              (n + 1) k
          go k b true e =
              let q = eqb-true (k / instances) n e in
              let r : k - n * instances ≡ k % instances = omega arith in
              ap (taken at (instances - 1) (λ j. get_or old (n * instances + j) 0)) r
              ∙ taken-same at (instances - 1) (λ j. get_or old (n * instances + j) 0) (pair_at s (k / instances)) instances (k % instances)
              (lit< tt) l (omega arith) (lit< tt) (omega arith)
              (λ j c. columns-at n (n * instances + j) (omega arith)
              ∙ ap (λ (t : Bool). cond t (taken at (instances - 1) (pair_at s ((n * instances + j) / instances)) ((n * instances + j) %
              instances)) (get_or s (n * instances + j) 0))
              (le-ltb ((n * instances + j) / instances) n (omega (arith, cell_row n j c)))
              ∙ ap (λ (i : ℕ). get_or s (i * instances + j) 0) (sym q))
              ∙ sym (ap (λ (t : Bool). cond t (taken at (instances - 1) (pair_at s (k / instances)) (k % instances)) (get_or s k 0))
              (lt-ltb (k / instances) (n + 1) (omega arith)))
          go k b false e =
              columns-at n k b
              ∙ ap (λ (t : Bool). cond t (taken at (instances - 1) (pair_at s (k / instances)) (k % instances)) (get_or s k 0))
              (ltb_next (k / instances) n (eqb-false (k / instances) n e))

-- ── Both sides ──

module _ (at n : ℕ) (s : List ℕ) (h : n ≤ instances) (f : first_created_lem ≤ at) (l : at < n) where
  -- the second places
  abbrev columns : List ℕ
  columns = columns_retired at n s

  -- what stands at places i and j once j's side is done
  abbrev side : ℕ → ℕ → ℕ
  side i j = taken at (instances - 1) (pair_at s i) j

  side-at : (i j : ℕ) → i < n → j < instances → pair_at columns i j ≡ side i j
  side-at i j a b =
      columns-at at s (omega arith) n (i * instances + j) (omega arith)
      ∙ ap₂ (λ (u v : ℕ). cond (ltb u n) (side u v) (get_or s (i * instances + j) 0)) (cell_row i j b) (cell-column i j b)
      ∙ ap (λ (t : Bool). cond t (side i j) (get_or s (i * instances + j) 0)) (lt-ltb i n a)

  -- the row of the retired ones
  abbrev with_row : List ℕ
  with_row = row_put (retirees * instances) (row_joined (at * instances) columns (pair_row (retirees * instances) columns)) instances columns

  joined_at : (j : ℕ) → j < instances
      → get_or (row_joined (at * instances) columns (pair_row (retirees * instances) columns)) j 0 ≡ bit_or (side retirees j) (side at j)
  unfolding row_joined pair_row
  joined_at j b =
      at_from (λ j. bit_or (get_or (from (λ j. get_or columns (retirees * instances + j) 0) 0 instances) j 0) (get_or columns (at * instances
      + j) 0))
      instances j b
      ∙ ap₂ (λ (u v : ℕ). bit_or u v)
      (at_from (λ j. get_or columns (retirees * instances + j) 0) instances j b ∙ side-at retirees j (omega arith) b)
      (side-at at j l b)

  row_at : (k : ℕ) → k < pair_places
      → get_or with_row k 0
      ≡ cond (eqb (k / instances) retirees) (bit_or (side retirees (k % instances)) (side at (k % instances))) (get_or columns k 0)
  row_at k b =
      row-put-at retirees (row_joined (at * instances) columns (pair_row (retirees * instances) columns)) columns k b
      ∙ ap (λ (v : ℕ). cond (eqb (k / instances) retirees) v (get_or columns k 0)) (joined_at (k % instances) (omega arith))

  other_at : (i j : ℕ) → i < n → j < instances → (i ≡ retirees → ⊥) → pair_at with_row i j ≡ side i j
  other_at i j a b d =
      row_at (i * instances + j) (omega arith)
      ∙ ap (λ (t : Bool). cond t (bit_or (side retirees ((i * instances + j) % instances)) (side at ((i * instances + j) % instances)))
      (get_or columns (i * instances + j) 0)) (ne_eqb ((i * instances + j) / instances) retirees (λ q. d (sym (cell_row i j b) ∙ q)))
      ∙ side-at i j a b

  -- the rows behind
  abbrev closed : List ℕ
  closed = moved_up (at * instances) ((n - 1 - at) * instances) instances with_row

  rows-at : (k : ℕ) → k < pair_places
      → get_or closed k 0
      ≡ cond (leb (at * instances) k && ltb k (at * instances + (n - 1 - at) * instances)) (get_or with_row (k + instances) 0) (get_or
      with_row k 0)
  unfolding moved_up
  rows-at k b =
      at_from (λ k. cond (leb (at * instances) k && ltb k (at * instances + (n - 1 - at) * instances)) (get_or with_row (k + instances) 0)
      (get_or with_row k 0)) pair_places k b

  -- rows that do not move closed
  rows_stay : (k : ℕ) → k < pair_places → (k / instances < at) ⊎ (n - 1 ≤ k / instances) → get_or closed k 0 ≡ get_or with_row k 0
  rows_stay k b w =
      rows-at k b
      ∙ ap (λ (t : Bool). cond t (get_or with_row (k + instances) 0) (get_or with_row k 0)) (by_cases w
      (λ c. ap (λ (t : Bool). t && ltb k (at * instances + (n - 1 - at) * instances)) (lt-leb (at * instances) k (omega arith)))
      (λ c. and-false (leb (at * instances) k) (ltb k (at * instances + (n - 1 - at) * instances))
      (le-ltb k (at * instances + (n - 1 - at) * instances) (omega arith))))

  abbrev final : ℕ → ℕ
  final k = cond (ltb (k / instances) n) (taken at (n - 1) (λ i. side i (k % instances)) (k / instances)) (get_or s k 0)

  pub retired-both : row_copied unseen (n - 1) closed ≡ retire_pairs at n s
  unfolding row_copied retire_pairs
  retired-both =
      same_from (λ k. cond (eqb (k / instances) (n - 1)) (pair_at closed unseen (k % instances)) (get_or closed k 0)) final pair_places
      (λ k b. go k b (eqb (k / instances) (n - 1)) refl)
    where
      -- the row that is free
      last : (k : ℕ) → k < pair_places → k / instances ≡ n - 1 → pair_at closed unseen (k % instances) ≡ final k
      last k b e =
          let j : k % instances < instances = omega arith in
          rows_stay (unseen * instances + k % instances) (omega arith) (inl (omega (arith, cell_row unseen (k % instances) j)))
          ∙ other_at unseen (k % instances) (omega arith) j (λ q. omega arith)
          ∙ sym (rw (
            lt-ltb (k / instances) n (omega arith),
            ne_eqb (k / instances) retirees (λ q. omega arith),
            le-leb at (k / instances) (omega arith),
            eq-eqb (k / instances) (n - 1) e,
          ) refl)

      -- a row in use
      used : (k : ℕ) → k < pair_places → k / instances < n - 1 → (c : Bool) → eqb (k / instances) retirees ≡ c → (d : Bool)
          → leb at (k / instances) ≡ d → get_or closed k 0
          ≡ cond c (bit_or (side retirees (k % instances)) (side at (k % instances)))
          (side (cond d (cond (eqb (k / instances) (n - 1)) unseen (k / instances + 1)) (k / instances)) (k % instances))
      used k b a true e d q =
          let z = eqb-true (k / instances) retirees e in
          rows_stay k b (inl (omega arith)) ∙ row_at k b
          ∙ ap (λ (t : Bool). cond t (bit_or (side retirees (k % instances)) (side at (k % instances))) (get_or columns k 0)) e
      used k b a false e true q =
          let z = leb-true at (k / instances) q in
          let p : k + instances ≡ (k / instances + 1) * instances + k % instances = omega arith in
          rows-at k b
          ∙ ap₂ (λ (t u : Bool). cond (t && u) (get_or with_row (k + instances) 0) (get_or with_row k 0)) (le-leb (at * instances) k (omega
          arith))
          (lt-ltb k (at * instances + (n - 1 - at) * instances) (omega arith))
          ∙ ap (λ (i : ℕ). get_or with_row i 0) p
          ∙ other_at (k / instances + 1) (k % instances) (omega arith) (omega arith) (λ y. omega arith)
          ∙ sym (ap (λ (t : Bool). side (cond t unseen (k / instances + 1)) (k % instances)) (ne_eqb (k / instances) (n - 1) (λ y.
          omega arith)))
      used k b a false e false q =
          let z = leb-false at (k / instances) q in
          let p : k ≡ k / instances * instances + k % instances = omega arith in
          rows_stay k b (inl z) ∙ ap (λ (i : ℕ). get_or with_row i 0) p
          ∙ other_at (k / instances) (k % instances) (omega arith) (omega arith) (eqb-false (k / instances) retirees e)

      go : (k : ℕ) → k < pair_places → (c : Bool) → eqb (k / instances) (n - 1) ≡ c
          → cond c (pair_at closed unseen (k % instances)) (get_or closed k 0) ≡ final k
      go k b true e = last k b (eqb-true (k / instances) (n - 1) e)
      go k b false e = more (ltb (k / instances) n) refl
        where
          ne : k / instances ≡ n - 1 → ⊥
          ne = eqb-false (k / instances) (n - 1) e

          more : (c : Bool) → ltb (k / instances) n ≡ c
              → get_or closed k 0 ≡ cond c (taken at (n - 1) (λ i. side i (k % instances)) (k / instances)) (get_or s k 0)
          more true q =
              let z = ltb-true (k / instances) n q in
              used k b (omega (arith, ne, z)) (eqb (k / instances) retirees) refl (leb at (k / instances)) refl
          more false q =
              let z = ltb-false (k / instances) n q in
              rows_stay k b (inr (omega arith)) ∙ row_at k b
              ∙ ap (λ (t : Bool). cond t (bit_or (side retirees (k % instances)) (side at (k % instances))) (get_or columns k 0))
              (ne_eqb (k / instances) retirees (λ y. omega arith))
              ∙ columns-at at s (omega arith) n k b
              ∙ ap (λ (t : Bool). cond t (side (k / instances) (k % instances)) (get_or s k 0)) q
