-- Which policies the blocks of sets belong to, by the set of pair policies.
use Rattle.std.specs.Prelude.{ℕ, cond, eqb}
use Rattle.std.specs.Int.Count.{count_trailing_zeros}
unfoldable pub use Rattle.automaton.specs.PairSet.{pair_set}
pub use Rattle.automaton.specs.PairSet.{with_edge, without_lowest}
use Rattle.monitor_pairs.specs.declared.which.Blocks.{Blocks}

-- the two lowest numbers of a set, which the two blocks of sets belong to; 8 where there is none
unfoldable pub blocks_of : ℕ → Blocks
blocks_of m = record { first = count_trailing_zeros 8 m; second = cond (eqb m 0) (count_trailing_zeros 8 m) (count_trailing_zeros 8 (without_lowest m)) }
