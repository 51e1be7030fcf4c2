-- Laws of one byte of a line: what the class of a digit says of the byte, and how large a value of so many digits is.
use Prim.Native.Nat.{ℕ, zero, suc, ◌+◌, ◌*◌, ◌^◌, ◌<◌, ◌≤◌}
use mathlib.Core.Path.{◌≡◌, refl}
use mathlib.Core.Bool.{Bool, true, false, cond}
use native.Mathlib.Omega.{arith}
use native.Mathlib.Nat.{pow-suc}
use native.Mathlib.Numerals.{add-one}
use lib.Dec.{eqb, ltb}
use borrow.Author.Tests.{ltb-true, ltb-false}
use Rattle.sheet_bytes.specs.Class.{class_of}
use Rattle.sheet_bytes.specs.Code.{safe_digits, value_room}

pub digit-byte : (b : ℕ) → class_of b ≡ 0 → (48 ≤ b) × (b < 58)
unfolding class_of
digit-byte b e = go (ltb b 48) (ltb b 58) refl refl e
  where
    low : (x y : Bool) → ◌≡◌ {A = ℕ} (cond x 1 (cond y 2 3)) 0 → ⊥
    low true y e = omega arith
    low false true e = omega arith
    low false false e = omega arith

    go : (x y : Bool) → ltb b 48 ≡ x → ltb b 58 ≡ y → ◌≡◌ {A = ℕ} (cond x (cond (eqb b 32) 1 (cond (eqb b 10) 2 3)) (cond y 0 3)) 0
        → (48 ≤ b) × (b < 58)
    go true y p q e = absurd (low (eqb b 32) (eqb b 10) e)
    go false true p q e = (ltb-false b 48 p, ltb-true b 58 q)
    go false false p q e = absurd (omega arith)

-- what is no digit, space or line feed
pub other-class : (b : ℕ) → (class_of b ≡ 0 → ⊥) → (class_of b ≡ 1 → ⊥) → (class_of b ≡ 2 → ⊥) → class_of b ≡ 3
unfolding class_of
other-class b f g h = go (ltb b 48) (eqb b 32) (eqb b 10) (ltb b 58) f g h
  where
    go : (x y z w : Bool) → (◌≡◌ {A = ℕ} (cond x (cond y 1 (cond z 2 3)) (cond w 0 3)) 0 → ⊥)
        → (◌≡◌ {A = ℕ} (cond x (cond y 1 (cond z 2 3)) (cond w 0 3)) 1 → ⊥)
        → (◌≡◌ {A = ℕ} (cond x (cond y 1 (cond z 2 3)) (cond w 0 3)) 2 → ⊥) → ◌≡◌ {A = ℕ} (cond x (cond y 1 (cond z 2 3)) (cond w 0 3)) 3
    go true true z w f g h = absurd (g refl)
    go true false true w f g h = absurd (h refl)
    go true false false w f g h = refl
    go false y z true f g h = absurd (f refl)
    go false y z false f g h = refl

-- fewer digits, smaller numbers
ten-pos : (n : ℕ) → 1 ≤ 10 ^ n
ten-pos zero = omega arith
ten-pos (suc n) = let h = ten-pos n in rw (pow-suc 10 n) (omega arith)

pub ten-le : (d n : ℕ) → d ≤ n → 10 ^ d ≤ 10 ^ n
ten-le zero n h = ten-pos n
ten-le (suc d) zero h = absurd (omega arith)
ten-le (suc d) (suc n) h = let l = ten-le d n (omega arith) in rw (pow-suc 10 d, pow-suc 10 n) (omega arith)

-- a value that another digit may follow is one that a field may have
pub safe-value : (d v : ℕ) → d ≤ safe_digits → v < 10 ^ d → v < value_room
safe-value d v h l = let m = ten-le d safe_digits h in omega arith

-- one more digit
pub one_more : (v d x : ℕ) → v < 10 ^ d → x < 10 → v * 10 + x < 10 ^ (d + 1)
one_more v d x h l = rw (add-one d, pow-suc) (omega arith)
