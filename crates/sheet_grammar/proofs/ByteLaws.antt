-- Laws of the tests of one place.
use Prim.Native.Nat.{ℕ, ◌+◌, ◌-◌, ◌<◌}
use mathlib.Core.Path.{◌≡◌, refl, ap}
use mathlib.Core.Bool.{Bool, true, false, cond}
use mathlib.Core.Option.{Option, none, some, some-injective}
use native.Mathlib.Omega.{arith}
use lib.Dec.{ltb}
use borrow.Author.Tests.{ltb-true, ltb-false, lt-ltb, le-ltb, eqb-true, eqb-false, eq-eqb}
use Rattle.usage.proofs.Logic.{none-some, false-true}
use Rattle.sheet_grammar.specs.Reader.{byte_is, digit_value}

pub is_true : (o : Option ℕ) (b : ℕ) → byte_is o b ≡ true → o ≡ some b
is_true none b e = false-true e
is_true (some c) b e = ap some (eqb-true c b e)

pub is_some : (o : Option ℕ) (b : ℕ) → o ≡ some b → byte_is o b ≡ true
is_some o b e = rw e (eq-eqb b b refl)

pub is_false : (o : Option ℕ) (b : ℕ) → byte_is o b ≡ false → o ≡ some b → ⊥
is_false none b e p = none-some p
is_false (some c) b e p = eqb-false c b e (some-injective c b p)

-- a digit's byte, and the digit of a byte
pub record Digit (o : Option ℕ) (d : ℕ) : Type 0 where
  pub byte : o ≡ some (48 + d)
  pub small : d < 10

pub digit-byte : (o : Option ℕ) (d : ℕ) → digit_value o ≡ some d → Digit o d
digit-byte none d e = none-some e
digit-byte (some b) d e = go (ltb b 48) (ltb b 58) refl refl e
  where
    go : (x y : Bool) → ltb b 48 ≡ x → ltb b 58 ≡ y → cond x none (cond y (some (b - 48)) none) ≡ some d → Digit (some b) d
    go true y p q e = none-some e
    go false true p q e =
        let f = some-injective (b - 48) d e in
        let l = ltb-false b 48 p in
        let m = ltb-true b 58 q in
        record { byte = ap some (let z : b ≡ 48 + d = omega arith in z); small = omega arith }
    go false false p q e = none-some e

pub digit-of : {d : ℕ} → d < 10 → digit_value (some (48 + d)) ≡ some d
digit-of {d} h = simp (le-ltb (48 + d) 48 (omega arith), lt-ltb (48 + d) 58 (omega arith)) (ap some (omega arith))
