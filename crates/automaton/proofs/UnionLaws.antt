-- One test for three numbers: their union as bits is below 8 exactly where each of them is.
use Prim.Native.Nat.{ℕ, ◌<◌, ◌≤◌}
use mathlib.Core.Path.{◌≡◌, refl, sym, ap, ◌∙◌}
use mathlib.Core.Bool.{Bool, true, false}
use mathlib.Core.List.{List}
use native.Mathlib.Omega.{arith}
use lib.Bits.{bit_or, or_lt}
use lib.Dec.{ltb}
use borrow.Author.Tests.{ltb-true, ltb-false, le-ltb}
use Rattle.usage.specs.Limits.{policies, states}
use Rattle.automaton.specs.Mask.{single}
use Rattle.automaton.specs.Code.{joined}
use Rattle.automaton.proofs.MaskLaws.{left_le, right_le}
use Rattle.automaton.proofs.RowLaws.{joined-none}

-- the numbers of an edge that has a place in the tables, and an end
pub record Placed (p q t : ℕ) : Type 0 where
  pub policy : p < policies
  pub state : q < states
  pub end : t < states

pub placed : (p q t : ℕ) → bit_or (bit_or p q) t < states → Placed p q t
placed p q t h =
    let l = left_le (bit_or p q) t in
    record {
      policy = omega (arith, left_le p q, l);
      state = omega (arith, right_le p q, l);
      end = omega (arith, right_le (bit_or p q) t);
    }

no_end : (t : ℕ) → states ≤ t → single t ≡ 0
unfolding single
no_end t h = rw (le-ltb t states h)

-- a number that is no policy or no state has no place
no_place : (s : List ℕ) (p q m : ℕ) → (p < policies → q < states → ⊥) → s ≡ joined s p q m
unfolding joined
no_place s p q m h = go (ltb p policies) refl (ltb q states) refl
  where
    go : (x : Bool) → ltb p policies ≡ x → (y : Bool) → ltb q states ≡ y → s ≡ joined s p q m
    go true e true f = absurd (h (ltb-true p policies e) (ltb-true q states f))
    go true e false f = rw (e, f) refl
    go false e y f = rw e refl

-- an edge without a place or an end changes nothing
pub not-placed : (s : List ℕ) (p q t : ℕ) → 8 ≤ bit_or (bit_or p q) t → s ≡ joined s p q (single t)
not-placed s p q t h = go (ltb t states) refl
  where
    go : (b : Bool) → ltb t states ≡ b → s ≡ joined s p q (single t)
    go true e =
        no_place s p q (single t) (λ hp hq. absurd (omega (arith, h, or_lt 3 (bit_or p q) t (or_lt 3 p q hp hq) (ltb-true t states e))))
    go false e = sym (joined-none s p q) ∙ ap (joined s p q) (sym (no_end t (ltb-false t states e)))
