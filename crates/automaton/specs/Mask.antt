-- Sets of states as bit masks: bit q is set where state q is in the set.
use Rattle.std.specs.Prelude.{ℕ, zero, suc, ◌/◌, ◌%◌, ◌^◌, Bool, cond, eqb, ltb, leb}
use Rattle.std.specs.Int.Bits.{bit_or}
use Rattle.std.specs.Int.Count.{count_trailing_zeros}
use Rattle.usage.specs.Limits.{states}

-- q is in the set m
unfoldable pub has : ℕ → ℕ → Bool
has m q = eqb (m / 2 ^ q % 2) 1

-- the set of q alone; the empty set for a number that is no state
unfoldable pub single : ℕ → ℕ
single q = cond (ltb q states) (2 ^ q) 0

-- the union of the sets f 0, …, f (n - 1)
unfoldable pub union : ℕ → (ℕ → ℕ) → ℕ
union zero f = 0
union (suc n) f = bit_or (union n f) (f n)

-- an offending state, 6 or 7, is in the set
abbrev pub offends : ℕ → Bool
offends m = leb 64 m

-- the lowest number in a set that is not empty
abbrev pub lowest_in : ℕ → ℕ
lowest_in m = count_trailing_zeros 8 m
