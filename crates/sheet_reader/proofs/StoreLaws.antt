-- A table that is filled from the front with what a function gives at 0, 1, 2 and on: what holds in the loop, for numbers and for bytes.
use Prim.Native.Nat.{ℕ, suc, ◌+◌, ◌<◌, ◌≤◌}
use mathlib.Core.Path.{◌≡◌, refl, sym, ap, ◌∙◌}
use mathlib.Core.List.{List, [], ◌∷◌, ◌++◌}
use native.Mathlib.Omega.{arith}
use native.Mathlib.Nat.{zero-add}
use native.Mathlib.Numerals.{add-one}
use lib.ListN.{length, get_or, drop, set, length-set, get_or-append}
use lib.Seq.{drop-cons, set_at, append_snoc}
use Rattle.usage.specs.Tables.{from}
use Rattle.usage.proofs.TableLaws.{length_from, from-snoc, is-from}

-- the first i of m places are filled, and the others are as they were before
abbrev pub Filled : (ℕ → ℕ) → List ℕ → ℕ → List ℕ → ℕ → Type 0
Filled f before m table i = (i ≤ m) × ((length table ≡ length before) × (table ≡ from f 0 i ++ drop i before))

module _ (f : ℕ → ℕ) (before : List ℕ) (m : ℕ) where
  pub none_filled : Filled f before m before 0
  unfolding from
  none_filled = (omega arith, (refl, refl))

  module _ (table : List ℕ) (i : ℕ) (inv : Filled f before m table i) where
    pub one-filled : i < m → m ≤ length before → Filled f before m (set table i (f i)) (i + 1)
    one-filled h l = (omega arith, (length-set table i (f i) ∙ inv.1.0, rw inv.1.1 more))
      where
        more : set (from f 0 i ++ drop i before) i (f i) ≡ from f 0 (i + 1) ++ drop (i + 1) before
        more =
            rw (add-one i, drop-cons before i 0 (omega arith))
            (set_at (from f 0 i) (get_or before i 0) (drop (suc i) before) (f i) i (length_from f 0 i)
            ∙ sym (append_snoc (from f 0 i) (f i) (drop (suc i) before))
            ∙ ap (λ l. l ++ drop (suc i) before) (sym (from-snoc f 0 i ∙ ap (λ j. from f 0 i ++ (f j ∷ [])) (zero-add i))))

    pub all-filled : m ≤ i → table ≡ from f 0 m ++ drop m before
    all-filled h = let e : i ≡ m = let l = inv.0 in omega arith in rw e at inv.1.1

-- the values at the front of a list
pub from_front : (l p q : List ℕ) (n : ℕ) → l ≡ p ++ q → length p ≡ n → from (λ i. get_or l i 0) 0 n ≡ p
from_front l p q n e h =
    sym (is-from (λ i. get_or l i 0) 0 n p h (λ i k. sym (ap (λ s. get_or s i 0) e ∙ get_or-append p q 0 i (omega arith))))
