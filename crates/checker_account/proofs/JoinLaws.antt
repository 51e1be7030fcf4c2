-- What is in a table once a set is joined to it, and the empty table.
use Prim.Native.Nat.{ℕ, zero, suc, ◌^◌, ◌<◌}
use mathlib.Core.Path.{◌≡◌, refl, sym, ap, ◌∙◌, subst}
use mathlib.Core.Bool.{Bool, true, false}
use mathlib.Core.List.{List}
use mathlib.Core.Logic.{◌⊎◌, inl, inr}
use native.Mathlib.Decide.{ℕ_discrete}
use lib.Dec.{leb, lit<}
use lib.Bits.{bit_or, or_lt}
use lib.ListN.{length, get_or, set, replicate}
use lib.Seq.{get_or-set_same, get_or-set_other, set_out}
use borrow.Author.Tests.{leb-true, leb-false}
use Rattle.automaton.specs.Mask.{has}
use Rattle.checker_account.specs.Filling.{Wide}
use Rattle.checker_account.proofs.MaskLaws.{has_left, has_right, has_either}
use Rattle.checker_account.specs.Tables.{joined_at}

module _ (t : List ℕ) (i v : ℕ) where
  -- a member of an entry was there, or came with the set
  pub joined-found : (j d : ℕ) → has (get_or (joined_at t i v) j 0) d ≡ true → (has (get_or t j 0) d ≡ true) ⊎ ((j ≡ i) × (has v d ≡ true))
  unfolding joined_at
  joined-found j d h = go (leb (length t) i) refl
    where
      inside : i < length t → Dec (j ≡ i) → (has (get_or t j 0) d ≡ true) ⊎ ((j ≡ i) × (has v d ≡ true))
      inside l (yes e) =
          either
          (has_either (get_or t i 0) v d
          (ap (λ (n : ℕ). has n d)
          (sym (get_or-set_same t i (bit_or (get_or t i 0) v) 0 l) ∙ ap (λ (n : ℕ). get_or (set t i (bit_or (get_or t i 0) v)) n 0) (sym e))
          ∙ h))
        where
          either : (has (get_or t i 0) d ≡ true) ⊎ (has v d ≡ true) → (has (get_or t j 0) d ≡ true) ⊎ ((j ≡ i) × (has v d ≡ true))
          either (inl g) = inl (ap (λ (n : ℕ). has (get_or t n 0) d) e ∙ g)
          either (inr g) = inr (e, g)
      inside l (no n) = inl (ap (λ (m : ℕ). has m d) (sym (get_or-set_other t i j (bit_or (get_or t i 0) v) 0 n)) ∙ h)

      go : (b : Bool) → leb (length t) i ≡ b → (has (get_or t j 0) d ≡ true) ⊎ ((j ≡ i) × (has v d ≡ true))
      go true e = inl (ap (λ (u : List ℕ). has (get_or u j 0) d) (sym (set_out t i (bit_or (get_or t i 0) v) (leb-true (length t) i e))) ∙ h)
      go false e = inside (leb-false (length t) i e) (ℕ_discrete j i)

  -- where joining changes nothing, the set was there
  pub joined-still : i < length t → joined_at t i v ≡ t → (d : ℕ) → has v d ≡ true → has (get_or t i 0) d ≡ true
  unfolding joined_at
  joined-still l e d h =
      let f : bit_or (get_or t i 0) v ≡ get_or t i 0 = sym (get_or-set_same t i (bit_or (get_or t i 0) v) 0 l) ∙ ap (λ (u : List ℕ). get_or u i 0) e in
      ap (λ (n : ℕ). has n d) (sym f) ∙ has_right (get_or t i 0) v d h

-- ── The empty table ──

pub zeros : (n i : ℕ) → ◌≡◌ {A = ℕ} (get_or (replicate n 0) i 0) 0
zeros zero i = refl
zeros (suc n) zero = refl
zeros (suc n) (suc i) = zeros n i

pub zeros-wide : (n : ℕ) → Wide (replicate n 0)
zeros-wide n i = subst (λ (v : ℕ). v < 65536) (sym (zeros n i)) (lit< tt)

-- an entry below a bound, stored
set_below : (b : ℕ) (t : List ℕ) (i v : ℕ) → v < b → ((j : ℕ) → get_or t j 0 < b) → (j : ℕ) → get_or (set t i v) j 0 < b
set_below b t i v small w j = go (leb (length t) i) refl
  where
    inside : i < length t → Dec (j ≡ i) → get_or (set t i v) j 0 < b
    inside l (yes e) = subst (λ (n : ℕ). n < b) (sym (ap (λ (n : ℕ). get_or (set t i v) n 0) e ∙ get_or-set_same t i v 0 l)) small
    inside l (no d) = subst (λ (n : ℕ). n < b) (sym (get_or-set_other t i j v 0 d)) (w j)

    go : (a : Bool) → leb (length t) i ≡ a → get_or (set t i v) j 0 < b
    go true e = subst (λ (u : List ℕ). get_or u j 0 < b) (sym (set_out t i v (leb-true (length t) i e))) (w j)
    go false e = inside (leb-false (length t) i e) (ℕ_discrete j i)

pub set-wide : (t : List ℕ) (i v : ℕ) → v < 65536 → Wide t → Wide (set t i v)
set-wide t i v small w = set_below 65536 t i v small w

-- a set of numbers below n, joined to such sets
pub joined-below : (n : ℕ) (t : List ℕ) (i v : ℕ) → v < 2 ^ n → ((j : ℕ) → get_or t j 0 < 2 ^ n) → (j : ℕ) → get_or (joined_at t i v) j 0 < 2 ^ n
unfolding joined_at
joined-below n t i v small h = set_below (2 ^ n) t i (bit_or (get_or t i 0) v) (or_lt n (get_or t i 0) v (h i) small) h

-- what was in the table stays
pub joined_keeps : (t : List ℕ) (i v j d : ℕ) → has (get_or t j 0) d ≡ true → has (get_or (joined_at t i v) j 0) d ≡ true
unfolding joined_at
joined_keeps t i v j d h = go (leb (length t) i) refl
  where
    inside : i < length t → Dec (j ≡ i) → has (get_or (set t i (bit_or (get_or t i 0) v)) j 0) d ≡ true
    inside l (yes e) =
        ap (λ (n : ℕ). has (get_or (set t i (bit_or (get_or t i 0) v)) n 0) d) e
        ∙ ap (λ (n : ℕ). has n d) (get_or-set_same t i (bit_or (get_or t i 0) v) 0 l)
        ∙ has_left (get_or t i 0) v d (ap (λ (n : ℕ). has (get_or t n 0) d) (sym e) ∙ h)
    inside l (no n) = ap (λ (m : ℕ). has m d) (get_or-set_other t i j (bit_or (get_or t i 0) v) 0 n) ∙ h

    go : (b : Bool) → leb (length t) i ≡ b → has (get_or (set t i (bit_or (get_or t i 0) v)) j 0) d ≡ true
    go true e = ap (λ (u : List ℕ). has (get_or u j 0) d) (set_out t i (bit_or (get_or t i 0) v) (leb-true (length t) i e)) ∙ h
    go false e = inside (leb-false (length t) i e) (ℕ_discrete j i)
