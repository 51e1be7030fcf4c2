-- The laws of the highest number (02, L8), for a loop over an array that holds the live resources in front.
use Prim.Native.Nat.{ℕ, zero, suc, ◌+◌, ◌<◌, ◌≤◌}
use mathlib.Core.Path.{◌≡◌, refl, sym, ap, subst, ◌∙◌}
use mathlib.Core.Bool.{Bool, true, false, ◌&&◌}
use mathlib.Core.List.{List, [], ◌∷◌, ◌++◌}
use native.Mathlib.Numerals.{add-one}
use native.Mathlib.Omega.{arith}
use lib.Dec.{leb}
use lib.ListN.{length, get_or, take}
use lib.Seq.{take-suc}
use borrow.Author.Tests.{le-leb, lt-leb}
use Rattle.usage.specs.Tests.{every}
use Rattle.usage.proofs.Logic.{and-false}
use Rattle.monitor_sets.specs.Created.{highest_ok}

every-last : (test : ℕ → Bool) (l : List ℕ) (x : ℕ) → every test (l ++ (x ∷ [])) ≡ (every test l && test x)
unfolding every
every-last test [] x = go (test x)
  where
    go : (b : Bool) → (b && true) ≡ b
    go true = refl
    go false = refl
every-last test (y ∷ l) x = ap (λ (b : Bool). test y && b) (every-last test l x) ∙ go (test y)
  where
    go : (b : Bool) → (b && (every test l && test x)) ≡ ((b && every test l) && test x)
    go true = refl
    go false = refl

module _ (highest : ℕ) (l : List ℕ) where
  pub highest-none : true ≡ highest_ok highest 0 l
  unfolding highest_ok every
  highest-none = refl

  highest-next : (i : ℕ) → i < length l → highest_ok highest (i + 1) l ≡ (highest_ok highest i l && leb (get_or l i 0) highest)
  unfolding highest_ok
  highest-next i h =
      ap (λ (n : ℕ). every (λ y. leb y highest) (take n l)) (add-one i)
      ∙ ap (λ (k : List ℕ). every (λ y. leb y highest) k) (take-suc l i 0 h)
      ∙ every-last (λ y. leb y highest) (take i l) (get_or l i 0)

  pub highest-above : (i : ℕ) → i < length l → highest < get_or l i 0 → highest_ok highest (i + 1) l ≡ false
  highest-above i h g = highest-next i h ∙ and-false (highest_ok highest i l) (leb (get_or l i 0) highest) (lt-leb (get_or l i 0) highest g)

  pub highest-below : (i : ℕ) → i < length l → get_or l i 0 ≤ highest → highest_ok highest (i + 1) l ≡ highest_ok highest i l
  highest-below i h g = highest-next i h ∙ ap (λ (b : Bool). highest_ok highest i l && b) (le-leb (get_or l i 0) highest g) ∙ go (highest_ok highest i l)
    where
      go : (b : Bool) → (b && true) ≡ b
      go true = refl
      go false = refl

  -- none of the first n is above it, or one is
  pub highest-all : (n : ℕ) → n ≤ length l → ((i : ℕ) → i < n → get_or l i 0 ≤ highest) → highest_ok highest n l ≡ true
  highest-all zero b f = sym highest-none
  highest-all (suc n) b f =
      subst (λ (m : ℕ). highest_ok highest m l ≡ true) (add-one n)
      (highest-below n (omega arith) (f n (omega arith)) ∙ highest-all n (omega arith) (λ i h. f i (omega arith)))
