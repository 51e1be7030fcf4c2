use Prim.Native.Nat.{◌*◌}
use Rattle.usage.specs.Limits.{most_nodes}
use Rattle.usage.specs.Tables.{from, node_at_lem, nodes_of}
use Rattle.usage.specs.Valid.{times_child_lem}
use mathlib.Core.Path.{◌≡◌}
use Prim.Native.Nat.{ℕ, ◌+◌, ◌-◌, ◌≤◌, ◌<◌}
use lib.ListN.{get_or}
use Rattle.sheet_rules.proofs.tree.children_counted.Given as goal

abbrev pub invariant-loop-j : goal.invariant-loop-j
invariant-loop-j l =
    ((c : ℕ) → c < most_nodes → (get_or l.counts c 0 ≤ 2 * l.j)
    × (get_or l.counts c 0 + times_child_lem c (from (node_at_lem l.table) l.j (l.n - l.j)) ≡ times_child_lem c (nodes_of l.table)))
