-- Laws of counting how often each node is a child, field by field.
use Prim.Native.Nat.{ℕ, zero, suc, ◌+◌, ◌<◌, ◌≤◌}
use mathlib.Core.Path.{◌≡◌, refl, sym, ap, ◌∙◌}
use mathlib.Core.Bool.{Bool, true, false, not}
use mathlib.Core.List.{List, []}
use native.Mathlib.Omega.{arith}
use native.Mathlib.Decide.{ℕ_discrete}
use lib.Dec.{eqb}
use lib.ListN.{length, get_or, set, replicate}
use lib.Seq.{get_or-set_same, get_or-set_other}
use borrow.Author.Tests.{eq-eqb, ne_eqb}
use Rattle.usage.specs.Valid.{times}
use Rattle.usage.specs.Past.{add_if}
use Rattle.usage.proofs.Logic.{false-true}
use Rattle.sheet_rules.specs.Code.{child_if}

pub zeros-at : (n c : ℕ) → get_or (replicate {A = ℕ} n 0) c 0 ≡ 0
zeros-at zero c = refl
zeros-at (suc n) zero = refl
zeros-at (suc n) (suc c) = zeros-at n c

pub times-few : (c : ℕ) (p : Bool) (x : ℕ) → times c (child_if p x []) ≤ 1
unfolding times
times-few c true x = go (eqb x c)
  where
    go : (b : Bool) → add_if b 0 ≤ 1
    go true = omega arith
    go false = omega arith
times-few c false x = omega arith

-- no child, one that there is no node of, and one that there is
module _ (l : List ℕ) (c : ℕ) where
  pub count_none : (child : Bool) (x : ℕ) → not child ≡ true → get_or l c 0 ≡ get_or l c 0 + times c (child_if child x [])
  unfolding times
  count_none true x e = false-true e
  count_none false x e = omega arith

  pub count-far : (child : Bool) (x : ℕ) → not child ≡ false → (x ≡ c → ⊥) → get_or l c 0 ≡ get_or l c 0 + times c (child_if child x [])
  unfolding times
  count-far true x e d = rw (ne_eqb x c d) (omega arith)
  count-far false x e d = false-true (sym e)

  pub count-one : (child : Bool) (x : ℕ) → not child ≡ false → x < length l
      → get_or (set l x (get_or l x 0 + 1)) c 0 ≡ get_or l c 0 + times c (child_if child x [])
  unfolding times
  count-one false x e h = false-true (sym e)
  count-one true x e h = go (ℕ_discrete c x)
    where
      go : Dec (c ≡ x) → get_or (set l x (get_or l x 0 + 1)) c 0 ≡ get_or l c 0 + add_if (eqb x c) 0
      go (yes q) =
          ap (λ (k : ℕ). get_or (set l x (get_or l x 0 + 1)) k 0) q ∙ get_or-set_same l x (get_or l x 0 + 1) 0 h
          ∙ ap (λ (k : ℕ). get_or l k 0 + 1) (sym q) ∙ sym (ap (λ (b : Bool). get_or l c 0 + add_if b 0) (eq-eqb x c (sym q)))
      go (no d) =
          get_or-set_other l x c (get_or l x 0 + 1) 0 d ∙ (let z : get_or l c 0 ≡ get_or l c 0 + 0 = omega arith in z)
          ∙ sym (ap (λ (b : Bool). get_or l c 0 + add_if b 0) (ne_eqb x c (λ q. d (sym q))))
