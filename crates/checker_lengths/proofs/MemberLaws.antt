-- Sets of nodes, from which any member is taken.
use Prim.Native.Nat.{ℕ, suc, ◌+◌, ◌-◌, ◌*◌, ◌/◌, ◌%◌, ◌^◌, ◌<◌, ◌≤◌}
use mathlib.Core.Path.{◌≡◌, refl, sym, ap, ◌∙◌}
use mathlib.Core.Bool.{Bool, true, false}
use mathlib.Core.Logic.{◌⊎◌, inl, inr}
use native.Mathlib.Nat.{div-eq_of_lt, pow-suc, add-mul-div_right, add-mul-mod_self_right}
use native.Mathlib.Omega.{arith}
use native.Mathlib.Decide.{ℕ_discrete, dec_lt}
use lib.Dec.{eqb, leb}
use lib.Pow.{pow_pos, pow_mono, shr-shr}
use borrow.Author.Tests.{eqb-true, leb-true, leb-false}
use Rattle.usage.proofs.Logic.{not-both}
use Rattle.automaton.specs.Mask.{has}
use Rattle.checker_tables.proofs.WorkLaws.{has-low, has-high}

-- the highest member is one
pub highest-in : (s k : ℕ) → 2 ^ k ≤ s → s < 2 ^ suc k → has s k ≡ true
unfolding has
highest-in s k low high =
    let d = s - 2 ^ k in
    let whole : s ≡ d + 1 * 2 ^ k = omega arith in
    let below : d / 2 ^ k ≡ 0 = div-eq_of_lt (omega (arith, pow-suc 2 k)) in
    ap (λ (n : ℕ). eqb (n / 2 ^ k % 2) 1) whole
    ∙ ap (λ (n : ℕ). eqb (n % 2) 1) (add-mul-div_right d 1 (pow_pos k) ∙ ap (λ (n : ℕ). n + 1) below)

module _ (s k : ℕ) (in-s : has s k ≡ true) where
  pub member-le : 2 ^ k ≤ s
  member-le = go (leb (2 ^ k) s) refl
    where
      go : (b : Bool) → leb (2 ^ k) s ≡ b → 2 ^ k ≤ s
      go true e = leb-true (2 ^ k) s e
      go false e = not-both (has s k) in-s (has-high s k (leb-false (2 ^ k) s e))

  pub member-lt : (n : ℕ) → s < 2 ^ n → k < n
  member-lt n h = go (leb n k) refl
    where
      go : (b : Bool) → leb n k ≡ b → k < n
      go true e = let l = member-le in absurd (omega (arith, pow_mono (leb-true n k e)))
      go false e = leb-false n k e

  -- without it
  abbrev rest : ℕ
  rest = s - 2 ^ k

  whole : s ≡ rest + 1 * 2 ^ k
  whole = let l = member-le in omega arith

  lower : s % 2 ^ k ≡ rest % 2 ^ k
  lower = ap (λ (n : ℕ). n % 2 ^ k) whole ∙ add-mul-mod_self_right rest 1 (2 ^ k)

  higher : s / 2 ^ k / 2 ≡ rest / 2 ^ k / 2
  unfolding has
  higher =
      let e : s / 2 ^ k ≡ rest / 2 ^ k + 1 = ap (λ (n : ℕ). n / 2 ^ k) whole ∙ add-mul-div_right rest 1 (pow_pos k) in
      let odd : s / 2 ^ k % 2 ≡ 1 = eqb-true (s / 2 ^ k % 2) 1 in-s in
      omega arith

  -- bit j of a number, j being above k
  above : (x j : ℕ) → suc k ≤ j → x / 2 ^ j ≡ x / 2 ^ k / 2 / 2 ^ (j - suc k)
  above x j h =
      let e : (k + 1) + (j - suc k) ≡ j = omega arith in
      sym (ap (λ (n : ℕ). n / 2 ^ (j - suc k)) (shr-shr x k 1) ∙ shr-shr x (k + 1) (j - suc k) ∙ ap (λ (n : ℕ). x / 2 ^ n) e)

  pub member-taken : (j : ℕ) → has rest j ≡ false → (j ≡ k) ⊎ (has s j ≡ false)
  unfolding has
  member-taken j h = go (ℕ_discrete j k) (dec_lt j k)
    where
      go : Dec (j ≡ k) → Dec (j < k) → (j ≡ k) ⊎ (has s j ≡ false)
      go (yes e) d = inl e
      go (no d) (yes l) = inr (sym (has-low s j k l) ∙ ap (λ (n : ℕ). has n j) lower ∙ has-low rest j k l ∙ h)
      go (no d) (no l) =
          let b : suc k ≤ j = omega arith in
          inr (ap (λ (n : ℕ). eqb (n % 2) 1)
          (above s j b ∙ ap (λ (n : ℕ). n / 2 ^ (j - suc k)) higher ∙ sym (above rest j b)) ∙ h)
