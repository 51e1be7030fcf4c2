-- The laws of a retiring (02, L8): a place that is closed up, and the set that its states join.
use Prim.Native.Nat.{ℕ, ◌+◌, ◌-◌, ◌*◌, ◌/◌, ◌%◌, ◌<◌, ◌≤◌}
use mathlib.Core.Path.{◌≡◌, refl, ap, ◌∙◌}
use mathlib.Core.Bool.{Bool, true, false, cond}
use mathlib.Core.List.{List}
use native.Mathlib.Omega.{arith}
use lib.Bits.{bit_or, or_lt}
use lib.Dec.{eqb, ltb, lit<}
use lib.ListN.{length, get_or}
use borrow.Author.Tests.{le-leb, lt-leb, lt-ltb, ltb-true, ltb-false, ne_eqb}
use Rattle.usage.specs.Limits.{policies}
use Rattle.usage.proofs.TableLaws.{from-below}
use Rattle.monitor_sets.specs.Instances.{retirees, first_created_lem, instances, set_places}
use Rattle.monitor_sets.specs.Created.{behind}
use Rattle.monitor_sets.specs.Sets.{retired_sets}
use Rattle.monitor_sets.specs.Code.{retired_to}
use Rattle.monitor_sets.proofs.PlaceLaws.{table_at, table-length}

-- where what stood at place i stands once place `at` is closed up
abbrev pub lowered : ℕ → ℕ → ℕ
lowered at i = cond (ltb at i) (i - 1) i

pub behind-lowered : (at n i : ℕ) → (i ≡ at → ⊥) → i < n → behind at n (lowered at i) ≡ i
behind-lowered at n i d l = go (ltb at i) refl
  where
    go : (b : Bool) → ltb at i ≡ b → behind at n (cond b (i - 1) i) ≡ i
    go true e =
        let h = ltb-true at i e in
        rw (le-leb at (i - 1) (omega arith), lt-ltb (i - 1 + 1) n (omega arith)) (omega arith)
    go false e = let h = ltb-false at i e in rw (lt-leb at i (omega arith))

module _ (at n : ℕ) (sets : List ℕ) where
  -- the set at instance i of policy p
  retired-at : (p i : ℕ) → p < policies → i < instances
      → get_or (retired_sets at n sets) (p * instances + i) 0
      ≡ cond (eqb i retirees) (bit_or (get_or sets (p * instances + i) 0) (get_or sets (p * instances + at) 0))
      (get_or sets (p * instances + behind at n i) 0)
  unfolding retired_sets
  retired-at p i h l =
      let d : (p * instances + i) / instances ≡ p = omega arith in
      let m : (p * instances + i) % instances ≡ i = omega arith in
      table_at (retired_to at n sets) (p * instances + i) (omega arith) ∙ rw (d, m)

  -- that of the retired ones
  pub retired-joined : (p : ℕ) → p < policies
      → get_or (retired_sets at n sets) (p * instances + retirees) 0
      ≡ bit_or (get_or sets (p * instances + retirees) 0) (get_or sets (p * instances + at) 0)
  retired-joined p h = retired-at p retirees h (lit< tt)

  -- and that of another instance, where it stands now
  pub retired-other : (p i : ℕ) → p < policies → i < instances → i < n → first_created_lem ≤ at → (i ≡ at → ⊥) → (i ≡ retirees → ⊥)
      → get_or (retired_sets at n sets) (p * instances + lowered at i) 0 ≡ get_or sets (p * instances + i) 0
  retired-other p i h l k f d r =
      let a = apart (ltb at i) refl in
      retired-at p (lowered at i) h a.1 ∙ rw (ne_eqb (lowered at i) retirees a.0)
      (ap (λ (j : ℕ). get_or sets (p * instances + j) 0) (behind-lowered at n i d k))
    where
      apart : (b : Bool) → ltb at i ≡ b → (cond b (i - 1) i ≡ retirees → ⊥) × (cond b (i - 1) i < instances)
      apart true e = let z = ltb-true at i e in (λ q. omega arith, omega arith)
      apart false e = (r, l)

  pub retired-length : length (retired_sets at n sets) ≡ set_places
  unfolding retired_sets
  retired-length = table-length (retired_to at n sets)

  pub retired-below : ((k : ℕ) → get_or sets k 0 < 256) → (k : ℕ) → get_or (retired_sets at n sets) k 0 < 256
  unfolding retired_sets
  retired-below h k = from-below (retired_to at n sets) 256 (lit< tt) (λ j. either j (eqb (j % instances) retirees)) 0 set_places k
    where
      either : (j : ℕ) (b : Bool)
          → cond b (bit_or (get_or sets j 0) (get_or sets (j / instances * instances + at) 0))
          (get_or sets (j / instances * instances + behind at n (j % instances)) 0) < 256
      either j true = or_lt 8 (get_or sets j 0) (get_or sets (j / instances * instances + at) 0) (h j) (h (j / instances * instances + at))
      either j false = h (j / instances * instances + behind at n (j % instances))
