use Rattle.usage.specs.Tables.{from, node_at_lem, nodes_of}
use Rattle.usage.specs.Valid.{times_child_lem}
use Prim.Native.Nat.{◌*◌, ◌+◌, ◌-◌, ◌≤◌}
use mathlib.Core.Path.{◌≡◌}
use Rattle.sheet_rules.proofs.tree.times_child.Given as goal

abbrev pub invariant-loop-j : goal.invariant-loop-j
invariant-loop-j l =
    ((l.count ≤ 2 * l.j) × (l.count + times_child_lem l.c (from (node_at_lem l.nodes) l.j (l.n - l.j)) ≡ times_child_lem l.c (nodes_of l.nodes)))
