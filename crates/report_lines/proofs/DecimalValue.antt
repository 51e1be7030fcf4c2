-- A number is printed so that its digits have its value, and no number but 0 starts with a zero.
use Prim.Native.Nat.{ℕ, zero, suc, ◌+◌, ◌-◌, ◌*◌, ◌/◌, ◌%◌, ◌≤◌, ◌<◌}
use mathlib.Core.Path.{◌≡◌, refl, ap, ◌∙◌}
use mathlib.Core.Bool.{Bool, true, false}
use mathlib.Core.List.{List, [], ◌∷◌, ◌++◌}
use native.Mathlib.Omega.{arith}
use lib.Dec.{ltb}
use lib.ListN.{length, get_or, get_or-append}
use borrow.Author.Tests.{ltb-true, ltb-false}
use Rattle.report_lines.specs.Decimal.{digit_byte, decimal}
use Rattle.report_lines.proofs.DecimalLaws.{decimal-one, decimal-more, length-one, length_more}

-- the value of the digits bs after a number n
unfoldable pub value : ℕ → List ℕ → ℕ
value n [] = n
value n (b ∷ bs) = value (n * 10 + (b - 48)) bs

value-last : (n : ℕ) (bs : List ℕ) (b : ℕ) → value n (bs ++ (b ∷ [])) ≡ value n bs * 10 + (b - 48)
unfolding value
value-last n [] b = refl
value-last n (c ∷ bs) b = value-last (n * 10 + (c - 48)) bs b

value-one : (n : ℕ) → n < 10 → value 0 (decimal n) ≡ n
unfolding value
value-one n h = rw (decimal-one n h) (omega arith)

value-more : (n : ℕ) → 10 ≤ n → value 0 (decimal (n / 10)) ≡ n / 10 → value 0 (decimal n) ≡ n
value-more n h e = ap (value 0) (decimal-more n h) ∙ value-last 0 (decimal (n / 10)) (digit_byte (n % 10)) ∙ rw e (omega arith)

-- the first digit
lead-one : (n : ℕ) → 0 < n → n < 10 → 48 < get_or (decimal n) 0 0
lead-one n h l = rw (decimal-one n l) (omega arith)

lead-more : (n : ℕ) → 10 ≤ n → 0 < length (decimal (n / 10)) → 48 < get_or (decimal (n / 10)) 0 0 → 48 < get_or (decimal n) 0 0
lead-more n h l e = rw (decimal-more n h, get_or-append (decimal (n / 10)) (digit_byte (n % 10) ∷ []) 0 0 l) e

some_digit : (n : ℕ) → 0 < length (decimal n)
some_digit n = go (ltb n 10) refl
  where
    go : (b : Bool) → ltb n 10 ≡ b → 0 < length (decimal n)
    go true e = omega (arith, length-one n (ltb-true n 10 e))
    go false e = omega (arith, length_more n (ltb-false n 10 e))

-- by induction on a bound k of n
value-below : (k n : ℕ) → n ≤ k → value 0 (decimal n) ≡ n
value-below zero n h = value-one n (omega arith)
value-below (suc k) n h = go (ltb n 10) refl (value-below k (n / 10))
  where
    go : (b : Bool) → ltb n 10 ≡ b → (n / 10 ≤ k → value 0 (decimal (n / 10)) ≡ n / 10) → value 0 (decimal n) ≡ n
    go true e ih = value-one n (ltb-true n 10 e)
    go false e ih = let big : 10 ≤ n = ltb-false n 10 e in value-more n big (ih (omega arith))

lead-below : (k n : ℕ) → n ≤ k → 0 < n → 48 < get_or (decimal n) 0 0
lead-below zero n h l = absurd (omega arith)
lead-below (suc k) n h l = go (ltb n 10) refl (lead-below k (n / 10))
  where
    go : (b : Bool) → ltb n 10 ≡ b → (n / 10 ≤ k → 0 < n / 10 → 48 < get_or (decimal (n / 10)) 0 0) → 48 < get_or (decimal n) 0 0
    go true e ih = lead-one n l (ltb-true n 10 e)
    go false e ih = let big : 10 ≤ n = ltb-false n 10 e in lead-more n big (some_digit (n / 10)) (ih (omega arith) (omega arith))

pub decimal-value : (n : ℕ) → value 0 (decimal n) ≡ n
decimal-value n = value-below n n (omega arith)

pub no-leading-zero : (n : ℕ) → 0 < n → 48 < get_or (decimal n) 0 0
no-leading-zero n h = lead-below n n (omega arith) h
