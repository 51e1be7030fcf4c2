-- What the test of a table of edges says (41): of one that an accepted sheet gives which policies are pair policies.
use Rattle.std.specs.Prelude.{ℕ, cond, Option, None, Some, List}
use Rattle.usage.specs.Tables.{edges_of, is_edge_table}
use Rattle.automaton.specs.PairSet.{pair_set}

unfoldable pub table_tested : List ℕ → Option ℕ
table_tested t = cond (is_edge_table t) (Some (pair_set (edges_of t))) None
