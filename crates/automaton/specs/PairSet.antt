-- Pair policies as a bit set: bit p is set where policy p is a pair policy.
use Rattle.std.specs.Prelude.{ℕ, ◌-◌, ◌^◌, Bool, ◌&&◌, not, cond, List, eqb, ltb}
use Rattle.std.specs.Int.Bits.{bit_and, bit_or}
use Rattle.usage.specs.declared.Edge.{Edge}
use Rattle.usage.specs.Limits.{policies}
use Rattle.usage.specs.Tests.{is_pair}
use Rattle.automaton.specs.Mask.{union}

unfoldable pub pair_set : List Edge → ℕ
pair_set es = union policies (λ p. cond (is_pair es p) (2 ^ p) 0)

-- with an edge of policy p that has this `on`
unfoldable pub with_pair : ℕ → ℕ → ℕ → ℕ
with_pair m p on = cond (eqb on 3 && ltb p policies) (bit_or m (2 ^ p)) m

abbrev pub with_edge : ℕ → Edge → ℕ
with_edge m e = with_pair m e.policy e.on

-- a set without its lowest number
abbrev pub without_lowest : ℕ → ℕ
without_lowest m = bit_and m (m - 1)

-- more than two numbers are in the set
unfoldable pub many_in : ℕ → Bool
many_in m = not (eqb m 0) && (not (eqb (without_lowest m) 0) && not (eqb (without_lowest (without_lowest m)) 0))
