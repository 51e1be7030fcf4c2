-- The two blocks: a slice of both is lent as two arrays, and a place that was taken in use for a creation is given back.
use Prim.Native.Nat.{ℕ, ◌+◌, ◌-◌, ◌*◌, ◌/◌, ◌%◌, ◌<◌, ◌≤◌}
use mathlib.Core.Path.{◌≡◌, refl, sym, ap, ap₂, subst, ◌∙◌}
use mathlib.Core.Bool.{Bool, true, false, ◌&&◌, cond}
use mathlib.Core.List.{List, ◌++◌}
use native.Mathlib.Omega.{arith}
use borrow.Author.Tests.{eq-eqb, ne_eqb, eqb-true, ltb-true, ltb-false}
use lib.Dec.{eqb, ltb, leb, lit<}
use lib.ListN.{length, get_or, length-drop, take-append-drop, get_or-eq_default}
use lib.Seq.{length-take-le, get_or-take, get_or-drop}
use Rattle.usage.specs.Tables.{from}
use Rattle.usage.proofs.TableLaws.{from-below, is-from}
use Rattle.monitor_sets.specs.Instances.{unseen, instances}
use Rattle.monitor_pairs.specs.Pairs.{pair_places, pair_at, row_copied, create_pairs}
use Rattle.monitor_pairs.specs.Blocks.{pair_sets, lower_block, upper_block}
use Rattle.monitor_pairs.specs.Code.{pair_row, row_put}
use Rattle.monitor_pairs.proofs.RunLaws.{at_from, row-places}

-- ── Lent as two arrays ──

-- a slice is two blocks exactly where the rest behind the first is one
module _ (l x y : List ℕ) (low : x ≡ lower_block l) (high : y ≡ upper_block l) (size : length y + pair_places ≡ length l) where
  pub both-same : x ++ y ≡ l
  both-same = ap₂ (λ (u v : List ℕ). u ++ v) low high ∙ take-append-drop pair_places l

  pub two-blocks : length y ≡ pair_places → eqb (length l) pair_sets ≡ true
  two-blocks e = eq-eqb (length l) pair_sets (omega arith)

  pub no-blocks : (length y ≡ pair_places → ⊥) → eqb (length l) pair_sets ≡ false
  no-blocks d = ne_eqb (length l) pair_sets (λ e. d (omega (arith, size, e)))

pub lower-size : (l : List ℕ) → length l ≡ pair_sets → length (lower_block l) ≡ pair_places
lower-size l h = length-take-le pair_places l (omega arith)

pub upper-size : (l : List ℕ) → length l ≡ pair_sets → length (upper_block l) ≡ pair_places
upper-size l h = length-drop pair_places l ∙ omega arith

module _ (l : List ℕ) (h : length l ≡ pair_sets) (small : (k : ℕ) → get_or l k 0 < 256) where
  pub lower-below : (k : ℕ) → get_or (lower_block l) k 0 < 256
  lower-below k = go (ltb k pair_places) refl
    where
      go : (b : Bool) → ltb k pair_places ≡ b → get_or (lower_block l) k 0 < 256
      go true q = subst (λ (m : ℕ). m < 256) (sym (get_or-take pair_places l k 0 (ltb-true k pair_places q))) (small k)
      go false q =
          subst (λ (m : ℕ). m < 256)
          (sym (get_or-eq_default (lower_block l) 0 (subst (λ (m : ℕ). m ≤ k) (sym (lower-size l h)) (ltb-false k pair_places q)))) (lit< tt)

  pub upper-below : (k : ℕ) → get_or (upper_block l) k 0 < 256
  upper-below k = subst (λ (m : ℕ). m < 256) (sym (get_or-drop pair_places l k 0)) (small (pair_places + k))

-- ── A creation, and back ──

pub created-below : (n : ℕ) (sets : List ℕ) → ((k : ℕ) → get_or sets k 0 < 256) → (k : ℕ) → get_or (create_pairs n sets) k 0 < 256
unfolding create_pairs row_copied
created-below n sets small k₀ =
    from-below (λ k. cond (eqb (k / instances) n) (pair_at sets unseen (k % instances)) (get_or sets k 0)) 256 (lit< tt)
    (λ k. go k (eqb (k / instances) n)) 0 pair_places k₀
  where
    go : (k : ℕ) (b : Bool) → cond b (pair_at sets unseen (k % instances)) (get_or sets k 0) < 256
    go k true = small (unseen * instances + k % instances)
    go k false = small k

module _ (n : ℕ) (sets : List ℕ) (e : length sets ≡ pair_places) where
  abbrev k : ℕ
  k = n * instances

  abbrev row : List ℕ
  row = from (λ j. get_or sets (k + j) 0) 0 instances

  abbrev made : List ℕ
  made = from (λ l. cond (eqb (l / instances) n) (pair_at sets unseen (l % instances)) (get_or sets l 0)) 0 pair_places

  pub row_back : row_put (n * instances) (pair_row (n * instances) sets) instances (create_pairs n sets) ≡ sets
  unfolding create_pairs row_copied row_put pair_row
  row_back =
      sym (is-from (λ l. cond (leb k l && ltb l (k + instances)) (get_or row (l - k) 0) (get_or made l 0)) 0 pair_places sets e
      (λ l b. sym (ap (λ (t : Bool). cond t (get_or row (l - k) 0) (get_or made l 0)) (row-places l n) ∙ go l b (eqb (l / instances) n) refl)))
    where
      go : (l : ℕ) → l < pair_places → (t : Bool) → eqb (l / instances) n ≡ t → cond t (get_or row (l - k) 0) (get_or made l 0) ≡ get_or sets l 0
      go l b true q =
          let i = eqb-true (l / instances) n q in
          let z : k + (l - k) ≡ l = omega arith in
          at_from (λ j. get_or sets (k + j) 0) instances (l - k) (omega arith) ∙ ap (λ (u : ℕ). get_or sets u 0) z
      go l b false q =
          at_from (λ l. cond (eqb (l / instances) n) (pair_at sets unseen (l % instances)) (get_or sets l 0)) pair_places l b
          ∙ ap (λ (t : Bool). cond t (pair_at sets unseen (l % instances)) (get_or sets l 0)) q
