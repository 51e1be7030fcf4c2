-- Unions over two places, and moving a union: what an event leads to is the four unions of the sets that see it alike, each moved.
use Prim.Native.Nat.{ℕ, zero, suc, ◌+◌, ◌*◌, ◌/◌, ◌%◌, ◌<◌, ◌≤◌}
use mathlib.Core.Path.{◌≡◌, refl, sym, ap, ap₂, ◌∙◌}
use mathlib.Core.Bool.{Bool, true, false, ◌&&◌, ◌||◌, cond}
use mathlib.Core.List.{List}
use native.Mathlib.Nat.{zero-mul}
use native.Mathlib.Omega.{arith}
use borrow.Author.Tests.{eq-eqb, ne_eqb, eqb-true, eqb-false, lt-ltb}
use lib.Bits.{bit_or, or_zero_l, or_zero_r, or_self}
use lib.Dec.{eqb, ltb}
use lib.ListN.{length, get_or, set, take, replicate, length-replicate}
use lib.Seq.{length-take-le, get_or-take, get_or-set_same, get_or-set_other}
use Rattle.usage.specs.Limits.{states}
use Rattle.usage.proofs.Logic.{and_left, and_right}
use Rattle.usage.specs.Tables.{from}
use Rattle.usage.proofs.TableLaws.{length_from, is-from}
use Rattle.automaton.specs.Mask.{has, union}
use Rattle.automaton.specs.Move.{move_by}
use Rattle.automaton.proofs.MaskLaws.{has-or}
use Rattle.automaton.proofs.RowLaws.{union-ext, stays_moved}
use Rattle.monitor_sets.specs.Instances.{instances}
use Rattle.monitor_sets.proofs.LaneLaws.{union-add, union-or}
use Rattle.monitor_sets.proofs.MovedLaws.{moved-empty}
use Rattle.monitor_sets.proofs.SetLaws.{union_more, union-with}
use Rattle.monitor_pairs.specs.declared.Ways.{Ways}
use Rattle.monitor_pairs.specs.Pairs.{pair_places, pair_at, way_of, event_pairs, gather_pairs}
use Rattle.automaton.specs.Code.{stays_by}
use Rattle.monitor_pairs.specs.Code.{stays_all, pair_row, row_joined, beside_columns}
use Rattle.monitor_pairs.proofs.RunLaws.{at_from, same_from, at-replicate}

-- ── Unions ──

pub union-none : (n : ℕ) (f : ℕ → ℕ) → ((i : ℕ) → i < n → f i ≡ 0) → union n f ≡ 0
unfolding union
union-none zero f h = refl
union-none (suc n) f h = ap₂ (λ (u v : ℕ). bit_or u v) (union-none n f (λ i l. h i (omega arith))) (h n (omega arith)) ∙ or_self 0

none : (t : Bool) → ◌≡◌ {A = ℕ} (cond t 0 0) 0
none true = refl
none false = refl

-- a union of sets of which one alone is not empty
pub union-only : (n at : ℕ) (f : ℕ → ℕ) → at < n → ((i : ℕ) → i < n → (i ≡ at → ⊥) → f i ≡ 0) → union n f ≡ f at
union-only n at f h z =
    sym (union-with n at (f at) (λ i. 0) f h refl refl (λ i l d. sym (z i l d)))
    ∙ ap (λ (u : ℕ). bit_or u (f at)) (union-none n (λ i. 0) (λ i l. refl)) ∙ or_zero_l (f at)

union-swap : (n m : ℕ) (f : ℕ → ℕ → ℕ) → union n (λ i. union m (f i)) ≡ union m (λ j. union n (λ i. f i j))
unfolding union
union-swap zero m f = sym (union-none m (λ j. 0) (λ j l. refl))
union-swap (suc n) m f = ap (λ (u : ℕ). bit_or u (union m (f n))) (union-swap n m f) ∙ sym (union-or m (λ j. union n (λ i. f i j)) (f n))

-- the first n rows, one after the other
pub union-rows : (n : ℕ) (f : ℕ → ℕ) → union (n * instances) f ≡ union n (λ i. union instances (λ j. f (i * instances + j)))
unfolding union
union-rows zero f = ap (λ (m : ℕ). union m f) (zero-mul instances)
union-rows (suc n) f =
    ap (λ (m : ℕ). union m f) (next n) ∙ union-add (n * instances) instances f
    ∙ ap (λ (u : ℕ). bit_or u (union instances (λ j. f (n * instances + j)))) (union-rows n f)
  where
    next : (n : ℕ) → suc n * instances ≡ n * instances + instances
    next n = omega arith

-- ── Moving a union ──

module _ (rows : List ℕ) (k : ℕ) where
  pub moved-or : (a b : ℕ) → move_by rows k (bit_or a b) ≡ bit_or (move_by rows k a) (move_by rows k b)
  unfolding move_by
  moved-or a b =
      union-ext states (λ q. cond (has (bit_or a b) q) (get_or rows (k + q) 0) 0)
      (λ q. bit_or (cond (has a q) (get_or rows (k + q) 0) 0) (cond (has b q) (get_or rows (k + q) 0) 0))
      (λ q l. ap (λ (t : Bool). cond t (get_or rows (k + q) 0) 0) (has-or a b q) ∙ either (has a q) (has b q) (get_or rows (k + q) 0))
      ∙ union-or states (λ q. cond (has a q) (get_or rows (k + q) 0) 0) (λ q. cond (has b q) (get_or rows (k + q) 0) 0)
    where
      either : (x y : Bool) (v : ℕ) → cond (x || y) v 0 ≡ bit_or (cond x v 0) (cond y v 0)
      either true true v = sym (or_self v)
      either true false v = sym (or_zero_r v)
      either false true v = sym (or_zero_l v)
      either false false v = sym (or_self 0)

  pub moved-union : (n : ℕ) (f : ℕ → ℕ) → union n (λ i. move_by rows k (f i)) ≡ move_by rows k (union n f)
  unfolding union
  moved-union zero f = sym (moved-empty rows k)
  moved-union (suc n) f =
      ap (λ (u : ℕ). bit_or u (move_by rows k (f n))) (moved-union n f) ∙ sym (moved-or (union n f) (f n))

  moved-both : (n m : ℕ) (f : ℕ → ℕ → ℕ) → union n (λ i. union m (λ j. move_by rows k (f i j))) ≡ move_by rows k (union n (λ i. union m
      (f i)))
  moved-both n m f =
      union-ext n (λ i. union m (λ j. move_by rows k (f i j))) (λ i. move_by rows k (union m (f i))) (λ i l. moved-union m (f i))
      ∙ moved-union n (λ i. union m (f i))

or-both : (n m : ℕ) (f g : ℕ → ℕ → ℕ)
    → union n (λ i. union m (λ j. bit_or (f i j) (g i j))) ≡ bit_or (union n (λ i. union m (f i))) (union n (λ i. union m (g i)))
or-both n m f g =
    union-ext n (λ i. union m (λ j. bit_or (f i j) (g i j))) (λ i. bit_or (union m (f i)) (union m (g i))) (λ i l. union-or m (f i) (g i))
    ∙ union-or n (λ i. union m (f i)) (λ i. union m (g i))

-- ── An event ──

-- the set v, in the way in which it sees the event, and nothing in the other three
split : (w : Ways) (x y : Bool) (v : ℕ)
    → move_by (way_of w x y) 0 v
    ≡ bit_or (bit_or (bit_or (move_by w.neither 0 (cond x 0 (cond y 0 v))) (move_by w.first 0 (cond x (cond y 0 v) 0)))
    (move_by w.second 0 (cond x 0 (cond y v 0)))) (move_by w.both 0 (cond x (cond y v 0) 0))
split w true true v = sym (rw (moved-empty w.neither 0, moved-empty w.first 0, moved-empty w.second 0)
    (ap (λ (u : ℕ). bit_or u (move_by w.both 0 v)) (or_self 0) ∙ or_zero_l (move_by w.both 0 v)))
split w true false v = sym (rw (moved-empty w.neither 0, moved-empty w.second 0, moved-empty w.both 0)
    (or_zero_r _ ∙ or_zero_r _ ∙ or_zero_l (move_by w.first 0 v)))
split w false true v = sym (rw (moved-empty w.neither 0, moved-empty w.first 0, moved-empty w.both 0)
    (or_zero_r _ ∙ or_zero_l (move_by w.second 0 v)))
split w false false v = sym (rw (moved-empty w.first 0, moved-empty w.second 0, moved-empty w.both 0)
    (or_zero_r _ ∙ or_zero_r _ ∙ or_zero_r (move_by w.neither 0 v)))

-- the set at two places after the event
pub event-at : (w : Ways) (at n : ℕ) (sets : List ℕ) (i j : ℕ) → i < n → n ≤ instances → j < instances
    → pair_at (event_pairs w at n sets) i j ≡ move_by (way_of w (eqb i at) (eqb j at)) 0 (pair_at sets i j)
unfolding event_pairs
event-at w at n sets i j h m l =
    let q : (i * instances + j) / instances ≡ i = omega arith in
    let r : (i * instances + j) % instances ≡ j = omega arith in
    at_from (λ k. cond (ltb (k / instances) n) (move_by (way_of w (eqb (k / instances) at) (eqb (k % instances) at)) 0 (get_or sets k 0))
    (get_or sets k 0)) pair_places (i * instances + j) (omega arith)
    ∙ rw (q, r) (ap (λ (t : Bool). cond t (move_by (way_of w (eqb i at) (eqb j at)) 0 (pair_at sets i j)) (pair_at sets i j)) (lt-ltb i n h))

module _ (w : Ways) (at n : ℕ) (sets : List ℕ) (h : n ≤ instances) (l : at < n) where
  -- the four parts of the set at places i and j
  abbrev in_neither : ℕ → ℕ → ℕ
  in_neither i j = cond (eqb i at) 0 (cond (eqb j at) 0 (pair_at sets i j))

  abbrev in_first : ℕ → ℕ → ℕ
  in_first i j = cond (eqb i at) (cond (eqb j at) 0 (pair_at sets i j)) 0

  abbrev in_second : ℕ → ℕ → ℕ
  in_second i j = cond (eqb i at) 0 (cond (eqb j at) (pair_at sets i j) 0)

  abbrev in_both : ℕ → ℕ → ℕ
  in_both i j = cond (eqb i at) (cond (eqb j at) (pair_at sets i j) 0) 0

  abbrev all : (ℕ → ℕ → ℕ) → ℕ
  all f = union n (λ i. union instances (f i))

  pub four-parts : gather_pairs n (event_pairs w at n sets)
      ≡ bit_or (bit_or (bit_or (move_by w.neither 0 (all in_neither)) (move_by w.first 0 (all in_first)))
      (move_by w.second 0 (all in_second))) (move_by w.both 0 (all in_both))
  unfolding gather_pairs
  four-parts =
      union-ext n (λ i. union instances (λ j. pair_at (event_pairs w at n sets) i j)) (λ i. union instances (parts i))
      (λ i b. union-ext instances (λ j. pair_at (event_pairs w at n sets) i j) (parts i)
      (λ j d. event-at w at n sets i j b h d ∙ split w (eqb i at) (eqb j at) (pair_at sets i j)))
      ∙ or-both n instances (λ i j. bit_or (bit_or (move_by w.neither 0 (in_neither i j)) (move_by w.first 0 (in_first i j)))
      (move_by w.second 0 (in_second i j))) (λ i j. move_by w.both 0 (in_both i j))
      ∙ ap₂ (λ (u v : ℕ). bit_or u v)
      (or-both n instances (λ i j. bit_or (move_by w.neither 0 (in_neither i j)) (move_by w.first 0 (in_first i j)))
      (λ i j. move_by w.second 0 (in_second i j))
      ∙ ap₂ (λ (u v : ℕ). bit_or u v)
      (or-both n instances (λ i j. move_by w.neither 0 (in_neither i j)) (λ i j. move_by w.first 0 (in_first i j))
      ∙ ap₂ (λ (u v : ℕ). bit_or u v) (moved-both w.neither 0 n instances in_neither) (moved-both w.first 0 n instances in_first))
      (moved-both w.second 0 n instances in_second))
      (moved-both w.both 0 n instances in_both)
    where
      parts : ℕ → ℕ → ℕ
      parts i j =
          bit_or (bit_or (bit_or (move_by w.neither 0 (in_neither i j)) (move_by w.first 0 (in_first i j)))
          (move_by w.second 0 (in_second i j))) (move_by w.both 0 (in_both i j))

  -- what the code joins
  abbrev line : List ℕ
  line = beside_columns n at sets

  abbrev row : List ℕ
  row = pair_row (at * instances) sets

  line_at : (j : ℕ) → j < instances → get_or line j 0 ≡ union n (λ i. cond (eqb i at) 0 (pair_at sets i j))
  unfolding beside_columns
  line_at j b = at_from (λ j. union n (λ i. cond (eqb i at) 0 (pair_at sets i j))) instances j b

  row_at : (j : ℕ) → j < instances → get_or row j 0 ≡ pair_at sets at j
  unfolding pair_row
  row_at j b = at_from (λ j. get_or sets (at * instances + j) 0) instances j b

  -- a line of which the element `at` is taken out
  without : (s : List ℕ) (f : ℕ → ℕ) → length s ≡ instances → ((j : ℕ) → j < instances → get_or s j 0 ≡ f j)
      → union instances (λ j. get_or (set s at 0) j 0) ≡ union instances (λ j. cond (eqb j at) 0 (f j))
  without s f e g = union-ext instances (λ j. get_or (set s at 0) j 0) (λ j. cond (eqb j at) 0 (f j)) (λ j b. go j b (eqb j at) refl)
    where
      go : (j : ℕ) → j < instances → (t : Bool) → eqb j at ≡ t → get_or (set s at 0) j 0 ≡ cond t 0 (f j)
      go j b true q = ap (λ (i : ℕ). get_or (set s at 0) i 0) (eqb-true j at q) ∙ get_or-set_same s at 0 0 (omega arith)
      go j b false q = get_or-set_other s at j 0 0 (eqb-false j at q) ∙ g j b

  pub neither-joined : union instances (λ j. get_or (set line at 0) j 0) ≡ all in_neither
  unfolding beside_columns
  neither-joined =
      without line (λ j. union n (λ i. cond (eqb i at) 0 (pair_at sets i j)))
      (length_from (λ j. union n (λ i. cond (eqb i at) 0 (pair_at sets i j))) 0 instances) line_at
      ∙ union-ext instances (λ j. cond (eqb j at) 0 (union n (λ i. cond (eqb i at) 0 (pair_at sets i j))))
      (λ j. union n (λ i. in_neither i j)) (λ j b. pull j (eqb j at))
      ∙ sym (union-swap n instances in_neither)
    where
      pull : (j : ℕ) (t : Bool) → cond t 0 (union n (λ i. cond (eqb i at) 0 (pair_at sets i j)))
          ≡ union n (λ i. cond (eqb i at) 0 (cond t 0 (pair_at sets i j)))
      pull j true = sym (union-none n (λ i. cond (eqb i at) 0 0) (λ i b. none (eqb i at)))
      pull j false = refl

  pub first-joined : union instances (λ j. get_or (set row at 0) j 0) ≡ all in_first
  unfolding pair_row
  first-joined =
      without row (λ j. pair_at sets at j) (length_from (λ j. get_or sets (at * instances + j) 0) 0 instances) row_at
      ∙ sym (union-only n at (λ i. union instances (in_first i)) l
      (λ i b d. union-none instances (in_first i) (λ j c. ap (λ (t : Bool). cond t (cond (eqb j at) 0 (pair_at sets i j)) 0) (ne_eqb i at
      d)))
      ∙ union-ext instances (in_first at) (λ j. cond (eqb j at) 0 (pair_at sets at j))
      (λ j b. ap (λ (t : Bool). cond t (cond (eqb j at) 0 (pair_at sets at j)) 0) (eq-eqb at at refl)))

  pub second-joined : get_or line at 0 ≡ all in_second
  second-joined =
      line_at at (omega arith)
      ∙ union-ext n (λ i. cond (eqb i at) 0 (pair_at sets i at)) (λ i. union instances (in_second i)) (λ i b. sym
      (union-only instances at (in_second i) (omega arith) (λ j c d. other i j d)
      ∙ ap (λ (t : Bool). cond (eqb i at) 0 (cond t (pair_at sets i at) 0)) (eq-eqb at at refl)))
    where
      other : (i j : ℕ) → (j ≡ at → ⊥) → in_second i j ≡ 0
      other i j d = ap (λ (t : Bool). cond (eqb i at) 0 (cond t (pair_at sets i j) 0)) (ne_eqb j at d) ∙ none (eqb i at)

  pub both-joined : get_or row at 0 ≡ all in_both
  both-joined =
      row_at at (omega arith)
      ∙ sym (union-only n at (λ i. union instances (in_both i)) l
      (λ i b d. union-none instances (in_both i) (λ j c. ap (λ (t : Bool). cond t (cond (eqb j at) (pair_at sets i j) 0) 0) (ne_eqb i at
      d)))
      ∙ union-only instances at (in_both at) (omega arith)
      (λ j c d. ap (λ (t : Bool). cond t (cond (eqb j at) (pair_at sets at j) 0) 0) (eq-eqb at at refl)
      ∙ ap (λ (t : Bool). cond t (pair_at sets at j) 0) (ne_eqb j at d))
      ∙ ap (λ (t : Bool). cond t (cond t (pair_at sets at at) 0) 0) (eq-eqb at at refl))

-- ── Columns, one row after the other ──

module _ (at : ℕ) (sets : List ℕ) where
  abbrev beside_to : ℕ → ℕ → ℕ
  beside_to n j = union n (λ i. cond (eqb i at) 0 (pair_at sets i j))

  pub beside_none : replicate instances 0 ≡ beside_columns 0 at sets
  unfolding beside_columns union
  beside_none = is-from (beside_to 0) 0 instances (replicate instances 0) (length-replicate {A = ℕ} instances 0) (λ k b. at-replicate
      instances 0 k b)

  pub beside-length : (n : ℕ) → length (beside_columns n at sets) ≡ instances
  unfolding beside_columns
  beside-length n = length_from (beside_to n) 0 instances

  next : (n j v : ℕ) → v ≡ cond (eqb n at) 0 (pair_at sets n j) → bit_or (beside_to n j) v ≡ beside_to (n + 1) j
  next n j v e = ap (bit_or (beside_to n j)) e ∙ union_more n (λ i. cond (eqb i at) 0 (pair_at sets i j))

  pub beside-row : (n : ℕ) → (n ≡ at → ⊥) → row_joined (n * instances) sets (beside_columns n at sets) ≡ beside_columns (n + 1) at sets
  unfolding row_joined beside_columns
  beside-row n d =
      same_from (λ j. bit_or (get_or (from (beside_to n) 0 instances) j 0) (get_or sets (n * instances + j) 0)) (beside_to (n + 1)) instances
      (λ j b. ap (λ (u : ℕ). bit_or u (pair_at sets n j)) (at_from (beside_to n) instances j b)
      ∙ next n j (pair_at sets n j) (sym (ap (λ (t : Bool). cond t 0 (pair_at sets n j)) (ne_eqb n at d))))

  pub beside-own : (n : ℕ) → n ≡ at → beside_columns n at sets ≡ beside_columns (n + 1) at sets
  unfolding beside_columns
  beside-own n e =
      same_from (beside_to n) (beside_to (n + 1)) instances
      (λ j b. sym (or_zero_r (beside_to n j)) ∙ next n j 0 (sym (ap (λ (t : Bool). cond t 0 (pair_at sets n j)) (eq-eqb n at e))))

-- the first n sets, lent as a part
pub union-front : (l : List ℕ) (n : ℕ) → n ≤ length l → union (length (take n l)) (λ i. get_or (take n l) i 0) ≡ union n (λ i. get_or l i 0)
union-front l n h =
    ap (λ (m : ℕ). union m (λ i. get_or (take n l) i 0)) (length-take-le n l h)
    ∙ union-ext n (λ i. get_or (take n l) i 0) (λ i. get_or l i 0) (λ i b. get_or-take n l i 0 b)

-- ── Rows that leave every state where it is ──

module _ (w : Ways) (e : stays_all w ≡ true) where
  pub stays-way : (x y : Bool) (m : ℕ) → m < 256 → move_by (way_of w x y) 0 m ≡ m
  unfolding stays_all
  stays-way x y m l = stays_moved (way_of w x y) (go x y) m l
    where
      n : Bool
      n = stays_by w.neither

      f : Bool
      f = stays_by w.first

      s : Bool
      s = stays_by w.second

      b : Bool
      b = stays_by w.both

      go : (x y : Bool) → stays_by (way_of w x y) ≡ true
      go true true = and_right s b (and_right f (s && b) (and_right n (f && (s && b)) e))
      go true false = and_left f (s && b) (and_right n (f && (s && b)) e)
      go false true = and_left s b (and_right f (s && b) (and_right n (f && (s && b)) e))
      go false false = and_left n (f && (s && b)) e

  pub stays-gathered : (at n : ℕ) (sets : List ℕ) → n ≤ instances → ((k : ℕ) → get_or sets k 0 < 256)
      → gather_pairs n sets ≡ gather_pairs n (event_pairs w at n sets)
  unfolding gather_pairs
  stays-gathered at n sets h small =
      union-ext n (λ i. union instances (λ j. pair_at sets i j)) (λ i. union instances (λ j. pair_at (event_pairs w at n sets) i j))
      (λ i b. union-ext instances (λ j. pair_at sets i j) (λ j. pair_at (event_pairs w at n sets) i j)
      (λ j d. sym (event-at w at n sets i j b h d ∙ stays-way (eqb i at) (eqb j at) (pair_at sets i j) (small (i * instances + j)))))

  -- nor does an event move a set
  pub stays-event : (at n : ℕ) (sets : List ℕ) → length sets ≡ pair_places → ((k : ℕ) → get_or sets k 0 < 256) → sets ≡ event_pairs w at n
      sets
  unfolding event_pairs
  stays-event at n sets size small =
      is-from (λ k. cond (ltb (k / instances) n) (move_by (way_of w (eqb (k / instances) at) (eqb (k % instances) at)) 0 (get_or sets k 0))
      (get_or sets k 0)) 0 pair_places sets size
      (λ k b. sym (either (ltb (k / instances) n) (stays-way (eqb (k / instances) at) (eqb (k % instances) at) (get_or sets k 0) (small
      k))))
    where
      either : {u v : ℕ} (t : Bool) → u ≡ v → cond t u v ≡ v
      either true q = q
      either false q = refl
