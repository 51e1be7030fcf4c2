-- Sets stay bytes.
use Prim.Native.Nat.{ℕ, ◌+◌, ◌-◌, ◌*◌, ◌/◌, ◌%◌, ◌<◌}
use mathlib.Core.Path.{◌≡◌, refl, sym, ap, subst, ◌∙◌}
use mathlib.Core.Bool.{Bool, true, false, cond}
use mathlib.Core.List.{List, ◌++◌}
use native.Mathlib.Omega.{arith}
use borrow.Author.Tests.{ltb-true, ltb-false}
use lib.Bits.{bit_or, or_lt}
use lib.Dec.{eqb, ltb, leb, lit<}
use lib.ListN.{length, get_or, get_or-append}
use lib.Seq.{get_or-append-add}
use Rattle.usage.specs.declared.Edge.{Edge}
use Rattle.usage.specs.Limits.{policies}
use Rattle.usage.proofs.TableLaws.{from-below}
use Rattle.automaton.specs.Mask.{union}
use Rattle.automaton.specs.Move.{move_by, fires_at}
use Rattle.automaton.proofs.MaskLaws.{union-lt}
use Rattle.automaton.proofs.MoveLaws.{move-lt}
use Rattle.monitor_sets.specs.Instances.{unseen, retirees, instances}
use Rattle.monitor_sets.specs.Sets.{start_set}
use Rattle.monitor_pairs.specs.declared.which.Blocks.{Blocks}
use Rattle.monitor_pairs.specs.Pairs.{pair_places, pair_at, way_of, event_pairs, gather_pairs, reset_pairs, retire_pairs, taken}
use Rattle.monitor_pairs.specs.Tracked.{event_ways}
use Rattle.monitor_pairs.specs.Blocks.{pair_sets, lower_block, upper_block, of_policy, each_block}
use Rattle.monitor_pairs.proofs.BlockLaws.{lower-below, upper-below}
use Rattle.monitor_pairs.proofs.EachLaws.{Sized, first-size}
use Rattle.monitor_pairs.proofs.TrackedLaws.{moved-way}

abbrev pub Bytes : List ℕ → Type 0
Bytes l = (k : ℕ) → get_or l k 0 < 256

pub event-bytes : (es : List Edge) (p a r at n : ℕ) (sets : List ℕ) → Bytes sets → Bytes (event_pairs (event_ways es p a r) at n sets)
unfolding event_pairs
event-bytes es p a r at n sets h k₀ =
    from-below
    (λ k. cond (ltb (k / instances) n)
    (move_by (way_of (event_ways es p a r) (eqb (k / instances) at) (eqb (k % instances) at)) 0 (get_or sets k 0)) (get_or sets k 0)) 256 (lit< tt)
    (λ k. go k (ltb (k / instances) n)) 0 pair_places k₀
  where
    go : (k : ℕ) (b : Bool)
        → cond b (move_by (way_of (event_ways es p a r) (eqb (k / instances) at) (eqb (k % instances) at)) 0 (get_or sets k 0)) (get_or sets k 0) < 256
    go k true =
        subst (λ (m : ℕ). m < 256) (sym (moved-way es p a r (eqb (k / instances) at) (eqb (k % instances) at) (get_or sets k 0)))
        (move-lt (fires_at p a r (eqb (k / instances) at) (eqb (k % instances) at)) es (get_or sets k 0))
    go k false = h k

pub reset-bytes : (n : ℕ) (sets : List ℕ) → Bytes sets → Bytes (reset_pairs n sets)
unfolding reset_pairs
reset-bytes n sets h k₀ =
    from-below (λ k. cond (ltb (k / instances) n) start_set (get_or sets k 0)) 256 (lit< tt) (λ k. go k (ltb (k / instances) n)) 0 pair_places k₀
  where
    go : (k : ℕ) (b : Bool) → cond b start_set (get_or sets k 0) < 256
    go k true = lit< tt
    go k false = h k

taken-below : (at last : ℕ) (f : ℕ → ℕ) → ((i : ℕ) → f i < 256) → (i : ℕ) → taken at last f i < 256
taken-below at last f h i = go (eqb i retirees)
  where
    go : (b : Bool) → cond b (bit_or (f retirees) (f at)) (f (cond (leb at i) (cond (eqb i last) unseen (i + 1)) i)) < 256
    go true = or_lt 8 (f retirees) (f at) (h retirees) (h at)
    go false = h (cond (leb at i) (cond (eqb i last) unseen (i + 1)) i)

pub retire-bytes : (at n : ℕ) (sets : List ℕ) → Bytes sets → Bytes (retire_pairs at n sets)
unfolding retire_pairs
retire-bytes at n sets h k₀ =
    from-below
    (λ k. cond (ltb (k / instances) n)
    (taken at (n - 1) (λ i. taken at (instances - 1) (pair_at sets i) (k % instances)) (k / instances)) (get_or sets k 0)) 256 (lit< tt)
    (λ k. go k (ltb (k / instances) n)) 0 pair_places k₀
  where
    go : (k : ℕ) (b : Bool)
        → cond b (taken at (n - 1) (λ i. taken at (instances - 1) (pair_at sets i) (k % instances)) (k / instances)) (get_or sets k 0) < 256
    go k true =
        taken-below at (n - 1) (λ i. taken at (instances - 1) (pair_at sets i) (k % instances))
        (λ i. taken-below at (instances - 1) (pair_at sets i) (λ j. h (i * instances + j)) (k % instances)) (k / instances)
    go k false = h k

pub gather-byte : (n : ℕ) (sets : List ℕ) → Bytes sets → gather_pairs n sets < 256
unfolding gather_pairs
gather-byte n sets h =
    union-lt n (λ i. union instances (λ j. pair_at sets i j)) (λ i l. union-lt instances (λ j. pair_at sets i j) (λ j m. h (i * instances + j)))

-- ── Both blocks ──

module _ (b : Blocks) (f : ℕ → List ℕ → List ℕ) (sized : Sized f) (below : (p : ℕ) (sets : List ℕ) → Bytes sets → Bytes (f p sets))
    (pairs : List ℕ) (e : length pairs ≡ pair_sets) (h : Bytes pairs) where
  of-bytes : (p : ℕ) (sets : List ℕ) → Bytes sets → Bytes (of_policy p f sets)
  unfolding of_policy
  of-bytes p sets h = go (ltb p policies)
    where
      go : (t : Bool) → Bytes (cond t (f p sets) sets)
      go true = below p sets h
      go false = h

  pub each-bytes : Bytes (each_block b f pairs)
  unfolding each_block
  each-bytes k = go (ltb k pair_places) refl
    where
      low : List ℕ
      low = of_policy b.first f (lower_block pairs)

      high : List ℕ
      high = of_policy b.second f (upper_block pairs)

      size : length low ≡ pair_places
      size = first-size b f sized pairs e

      go : (t : Bool) → ltb k pair_places ≡ t → get_or (low ++ high) k 0 < 256
      go true q =
          subst (λ (m : ℕ). m < 256) (sym (get_or-append low high 0 k (subst (λ (n : ℕ). k < n) (sym size) (ltb-true k pair_places q))))
          (of-bytes b.first (lower_block pairs) (lower-below pairs e h) k)
      go false q =
          let z = ltb-false k pair_places q in
          let s = size in
          let w : length low + (k - length low) ≡ k = omega arith in
          subst (λ (m : ℕ). m < 256) (sym (ap (λ (i : ℕ). get_or (low ++ high) i 0) (sym w) ∙ get_or-append-add low high (k - length low) 0))
          (of-bytes b.second (upper_block pairs) (upper-below pairs e h) (k - length low))
