-- The two lowest of the pair policies.
use Prim.Native.Nat.{ℕ, ◌<◌}
use mathlib.Core.Path.{◌≡◌, refl}
use mathlib.Core.Bool.{Bool, true, not, ◌&&◌, ◌||◌, beq}
use lib.Count.{count_trailing_zeros}
use lib.Dec.{eqb, ltb}
use Rattle.automaton.specs.Mask.{has}
use Rattle.automaton.proofs.MaskLaws.{same_test, all-below, all-below-at}
pub use Rattle.automaton.proofs.PairSetLaws.{pair_set_lem, set-none, set_more}
use Rattle.monitor_pairs.specs.Which.{blocks_of}

-- p is in the set and none is below it; p is in it above the first, and none is between
abbrev pub is_first : ℕ → ℕ → Bool
is_first m p = has m p && all-below p (λ k. not (has m k))

abbrev pub is_second : ℕ → ℕ → Bool
is_second m p = has m p && (ltb (blocks_of m).first p && all-below p (λ k. not (has m k) || eqb k (blocks_of m).first))

firsts : ℕ → Bool
firsts m = all-below 8 (λ p. beq (is_first m p) (eqb p (blocks_of m).first))

seconds : ℕ → Bool
seconds m = all-below 8 (λ p. beq (is_second m p) (eqb p (blocks_of m).second))

first-test : all-below 256 firsts ≡ true
unfolding all-below firsts has blocks_of count_trailing_zeros
first-test = refl

second-test : all-below 256 seconds ≡ true
unfolding all-below seconds has blocks_of count_trailing_zeros
second-test = refl

-- the first block is that of the lowest number in the set
pub first_block : (m p : ℕ) → m < 256 → p < 8 → is_first m p ≡ eqb p (blocks_of m).first
unfolding firsts
first_block m p l h =
    same_test (is_first m p) (eqb p (blocks_of m).first)
    (all-below-at 8 (λ p. beq (is_first m p) (eqb p (blocks_of m).first)) (all-below-at 256 firsts first-test m l) p h)

-- the second that of the lowest above it
pub second_block : (m p : ℕ) → m < 256 → p < 8 → is_second m p ≡ eqb p (blocks_of m).second
unfolding seconds
second_block m p l h =
    same_test (is_second m p) (eqb p (blocks_of m).second)
    (all-below-at 8 (λ p. beq (is_second m p) (eqb p (blocks_of m).second)) (all-below-at 256 seconds second-test m l) p h)
