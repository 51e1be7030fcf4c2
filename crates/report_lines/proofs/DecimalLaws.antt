-- Laws of decimal numbers.
use Prim.Native.Nat.{ℕ, zero, suc, ◌+◌, ◌*◌, ◌/◌, ◌%◌, ◌≤◌, ◌<◌}
use mathlib.Core.Path.{◌≡◌, refl, ap, ◌∙◌}
use mathlib.Core.Bool.{Bool, true, false}
use mathlib.Core.List.{List, [], ◌∷◌, ◌++◌}
use native.Mathlib.Omega.{arith}
use lib.Dec.{ltb}
use lib.ListN.{length, length-append}
use borrow.Author.Tests.{lt-ltb, le-ltb, ltb-true, ltb-false}
use Rattle.report_lines.specs.Decimal.{digit_byte, spelled, decimal}

-- one digit
pub decimal-one : (n : ℕ) → n < 10 → decimal n ≡ digit_byte n ∷ []
unfolding decimal spelled
decimal-one zero h = refl
decimal-one (suc n) h = rw (lt-ltb (suc n) 10 h)

pub length-one : (n : ℕ) → n < 10 → length (decimal n) ≡ 1
length-one n h = ap length (decimal-one n h)

-- more steps than are needed make no difference
spelled-more : (k m : ℕ) (b : Bool) (n : ℕ) → ltb n 10 ≡ b → n ≤ k → n ≤ m → spelled k b n ≡ spelled m b n
unfolding spelled
spelled-more zero zero b n e hk hm = refl
spelled-more zero (suc m) true n e hk hm = refl
spelled-more zero (suc m) false n e hk hm = let big : 10 ≤ n = ltb-false n 10 e in absurd (omega arith)
spelled-more (suc k) zero true n e hk hm = refl
spelled-more (suc k) zero false n e hk hm = let big : 10 ≤ n = ltb-false n 10 e in absurd (omega arith)
spelled-more (suc k) (suc m) true n e hk hm = refl
spelled-more (suc k) (suc m) false n e hk hm =
    let big : 10 ≤ n = ltb-false n 10 e in
    ap (λ (l : List ℕ). l ++ (digit_byte (n % 10) ∷ [])) (spelled-more k m (ltb (n / 10) 10) (n / 10) refl (omega arith) (omega arith))

-- the last digit after those of the tenth
pub decimal-more : (n : ℕ) → 10 ≤ n → decimal n ≡ decimal (n / 10) ++ (digit_byte (n % 10) ∷ [])
unfolding decimal spelled
decimal-more zero h = absurd (omega arith)
decimal-more (suc k) h = rw (le-ltb (suc k) 10 h)
    (ap (λ (l : List ℕ). l ++ (digit_byte (suc k % 10) ∷ []))
    (spelled-more k (suc k / 10) (ltb (suc k / 10) 10) (suc k / 10) refl (omega arith)
    (omega arith)))

pub length_more : (n : ℕ) → 10 ≤ n → length (decimal n) ≡ length (decimal (n / 10)) + 1
length_more n h = ap length (decimal-more n h) ∙ length-append (decimal (n / 10)) (digit_byte (n % 10) ∷ [])

-- ten to the power k
abbrev pub tens : ℕ → ℕ
tens zero = 1
tens (suc k) = 10 * tens k

-- a number below ten to the power k, for a k above 0, has at most k digits
pub length-below : (k n : ℕ) → n < tens (suc k) → length (decimal n) ≤ suc k
length-below zero n h = omega (arith, length-one n h)
length-below (suc k) n h = go (ltb n 10) refl (length-below k (n / 10))
  where
    go : (b : Bool) → ltb n 10 ≡ b → (n / 10 < tens (suc k) → length (decimal (n / 10)) ≤ suc k) → length (decimal n) ≤ suc (suc k)
    go true e ih = omega (arith, length-one n (ltb-true n 10 e))
    go false e ih = let l : n / 10 < tens (suc k) = omega arith in omega (arith, ih l, length_more n (ltb-false n 10 e))
