-- The policies that a step is judged by, as a set.
use Prim.Native.Nat.{ℕ, zero, suc, ◌*◌, ◌/◌, ◌%◌, ◌^◌, ◌<◌}
use mathlib.Core.Path.{◌≡◌, sym, ap, ◌∙◌}
use mathlib.Core.Bool.{Bool, true, false, ◌&&◌, cond}
use native.Mathlib.Nat.{zero-mul}
use native.Mathlib.Decide.{ℕ_discrete}
use native.Mathlib.Omega.{arith}
use lib.Bits.{bit_and, and_mask}
use lib.Dec.{eqb}
use borrow.Author.Tests.{eq-eqb, ne_eqb}
use Rattle.usage.specs.Limits.{policies}
use Rattle.usage.specs.Past.{opening}
use Rattle.automaton.specs.Mask.{has, union}
use Rattle.automaton.proofs.MaskLaws.{has-zero, has-pow, mask_of-has, bit_shifted}
use Rattle.monitor_lean.specs.Lean.{Summary, opening_bit, mark_at, marked}

-- a bit of the marks, at the place of the policy
pub mark-shifted : (m i p : ℕ) → p < policies → bit_and (m / 2 ^ i) 1 * 2 ^ p % 2 ^ 8 ≡ cond (has m i) (2 ^ p) 0
unfolding has
mark-shifted m i p l = ap (λ (r : ℕ). r * 2 ^ p % 2 ^ 8) (and_mask (m / 2 ^ i) 1) ∙ go (m / 2 ^ i % 2) (omega arith)
  where
    go : (r : ℕ) → r < 2 → r * 2 ^ p % 2 ^ 8 ≡ cond (eqb r 1) (2 ^ p) 0
    go zero h = ap (λ (n : ℕ). n % 2 ^ 8) (zero-mul (2 ^ p))
    go (suc zero) h = bit_shifted p l
    go (suc (suc r)) h = absurd (omega arith)

-- an event: the policies whose marks have its action's bit
pub event-set : (m : Summary) (a q : ℕ) → q < policies → has (union policies (λ p. cond (mark_at m p a) (2 ^ p) 0)) q ≡ mark_at m q a
event-set m a q l = mask_of-has (λ p. mark_at m p a) q l

-- an opening: its own policy, if it is marked
pub opening-set : (m : Summary) (p q : ℕ) → p < policies → q < policies → (b : Bool) → b ≡ mark_at m p opening_bit
    → has (cond b (2 ^ p) 0) q ≡ marked m (opening p) q
opening-set m p q k l b e = go (ℕ_discrete p q) b e
  where
    go : Dec (p ≡ q) → (b : Bool) → b ≡ mark_at m p opening_bit → has (cond b (2 ^ p) 0) q ≡ (eqb p q && mark_at m q opening_bit)
    go (yes i) true e =
        has-pow p q k l ∙ eq-eqb p q i
        ∙ sym (ap (λ (c : Bool). c && mark_at m q opening_bit) (eq-eqb p q i) ∙ sym (e ∙ ap (λ (u : ℕ). mark_at m u opening_bit) i))
    go (yes i) false e =
        has-zero q ∙ sym (ap (λ (c : Bool). c && mark_at m q opening_bit) (eq-eqb p q i) ∙ sym (e ∙ ap (λ (u : ℕ). mark_at m u opening_bit) i))
    go (no d) true e = has-pow p q k l ∙ ne_eqb p q d ∙ sym (ap (λ (c : Bool). c && mark_at m q opening_bit) (ne_eqb p q d))
    go (no d) false e = has-zero q ∙ sym (ap (λ (c : Bool). c && mark_at m q opening_bit) (ne_eqb p q d))
