-- A node without a form: nothing is settled, nothing passed on, and no step of it leaves an offending state.
use Prim.Native.Nat.{ℕ, zero, suc, ◌+◌, ◌-◌, ◌*◌, ◌/◌}
use mathlib.Core.Path.{◌≡◌, refl, ap, ◌∙◌}
use mathlib.Core.Bool.{Bool, true, false, ◌||◌, cond}
use mathlib.Core.Option.{none}
use mathlib.Core.List.{List}
use lib.Bits.{or_zero_r}
use lib.ListN.{get_or, set}
use lib.Seq.{set-get_or}
use Rattle.usage.specs.Limits.{states}
use Rattle.usage.specs.Tests.{some_below}
use Rattle.checker_account.specs.declared.Resources.{Resources}
use Rattle.checker_account.specs.Tables.{Rows, Resets, joined_at, base, least, entries_of_lem, codes_of, half}
use Rattle.checker_account.specs.Filling.{repeat, entered, joined_each, settle_entry, settle_node_lem, pass, odd, pass_node_lem, hit_node_lem}
use Rattle.automaton.specs.Mask.{offends}
use Rattle.checker_tables.specs.Marks.{last_in, mark_bit_lem}

repeat-same : (f : ℕ → List ℕ → List ℕ) (n : ℕ) (t : List ℕ) → ((i : ℕ) (u : List ℕ) → f i u ≡ u) → repeat f n t ≡ t
unfolding repeat
repeat-same f zero t h = refl
repeat-same f (suc n) t h = h n (repeat f n t) ∙ repeat-same f n t h

none-below : (f : ℕ → Bool) (n : ℕ) → ((i : ℕ) → f i ≡ false) → some_below f n ≡ false
unfolding some_below
none-below f zero h = refl
none-below f (suc n) h = ap (λ (b : Bool). b || some_below f n) (h n) ∙ none-below f n h

nothing-joined : (t : List ℕ) (i : ℕ) → joined_at t i 0 ≡ t
unfolding joined_at
nothing-joined t i = ap (set t i) (or_zero_r (get_or t i 0)) ∙ set-get_or t i 0

none-joined : (i : ℕ) (t : List ℕ) → joined_each t i (λ q. 0) ≡ t
unfolding joined_each
none-joined i t = repeat-same (λ q u. joined_at u (i + q) 0) states t (λ q u. nothing-joined u (i + q))

module _ (rows : Rows) (x : Resources) (k : ℕ) where
  pub none-settled : (resets : Resets) (t : List ℕ) → settle_node_lem rows x resets k none t ≡ t
  unfolding settle_node_lem
  none-settled resets t =
      repeat-same (λ i. settle_entry rows x resets k none (least x + i)) (entries_of_lem x - least x) t
      (λ i u. none-joined (base k (least x + i)) u)

  pub none-passed : (local : Bool) (p : ℕ) (t : Bool → List ℕ) (u : List ℕ) → pass_node_lem local rows p x t k none u ≡ u
  unfolding pass_node_lem entered
  none-passed local p t u =
      repeat-same (λ i. pass local rows p x (t (odd i)) k none (odd i) (least x + i / 2)) (2 * (codes_of x - least x)) u (λ i v. refl)

  pub none-hits : (local : Bool) (p : ℕ) (u : List ℕ) → hit_node_lem local rows p x u k none ≡ false
  unfolding hit_node_lem
  none-hits local p u = none-below (λ i. offends (half false 0)) (codes_of x - least x) (λ i. refl)

-- it has no mark
pub none-marked : (b : Bool) → cond b (mark_bit_lem (last_in none)) 0 ≡ 0
none-marked true = refl
none-marked false = refl
