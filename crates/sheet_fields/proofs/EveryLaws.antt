-- Every record of a table passes a test: one law for each way of a loop that asks one record after the other.
use Prim.Native.Nat.{ℕ, ◌<◌, ◌≤◌}
use mathlib.Core.Path.{◌≡◌, refl, sym, ap, ◌∙◌}
use mathlib.Core.Bool.{Bool, true, false, not}
use native.Mathlib.Nat.{zero-add}
use native.Mathlib.Omega.{arith}
use Rattle.usage.specs.Tests.{every}
use Rattle.usage.specs.Tables.{from}
use Rattle.usage.proofs.Logic.{not-true, not-false, not-both}
use Rattle.usage.proofs.TableLaws.{every-from, every-fails}

module _ {A : Type 0} (test : A → Bool) (at : ℕ → A) (n : ℕ) where
  -- r is what the test of record i said
  module _ (i : ℕ) (r : Bool) (e : r ≡ test (at i)) where
    pub one-fails : i < n → not r ≡ true → every test (from at 0 n) ≡ false
    one-fails h q = every-fails at test 0 n i h (ap (λ (j : ℕ). test (at j)) (zero-add i) ∙ sym e ∙ not-true r q)

    pub one_passes : not r ≡ false → test (at i) ≡ true
    one_passes q = sym e ∙ not-false r q

  pub all_pass : ((i : ℕ) → i < n → test (at i) ≡ true) → every test (from at 0 n) ≡ true
  all_pass h = every-from at test 0 n (λ i k. ap (λ (j : ℕ). test (at j)) (zero-add i) ∙ h i k)

  pub each-passes : every test (from at 0 n) ≡ true → (i : ℕ) → i < n → test (at i) ≡ true
  each-passes h i l = go (test (at i)) refl
    where
      go : (b : Bool) → test (at i) ≡ b → test (at i) ≡ true
      go true e = e
      go false e = not-both (every test (from at 0 n)) h (every-fails at test 0 n i l (ap (λ (j : ℕ). test (at j)) (zero-add i) ∙ e))

  -- what fails among the first m fails among more
  pub fewer-fail : (m : ℕ) → m ≤ n → every test (from at 0 m) ≡ false → every test (from at 0 n) ≡ false
  fewer-fail m l h = go (every test (from at 0 n)) refl
    where
      go : (b : Bool) → every test (from at 0 n) ≡ b → every test (from at 0 n) ≡ false
      go true e =
          not-both (every test (from at 0 m))
          (every-from at test 0 m (λ i k. ap (λ (j : ℕ). test (at j)) (zero-add i) ∙ each-passes e i (omega (arith, k, l)))) h
      go false e = e
