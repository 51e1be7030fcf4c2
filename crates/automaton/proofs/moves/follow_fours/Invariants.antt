-- `follow_fours` meets its contract. The invariant: each table holds the ends of the first 4 * i edges.
use Prim.Native.Nat.{◌*◌, ◌≤◌}
use mathlib.Core.Bool.{true, false}
use mathlib.Core.Path.{◌≡◌}
use Rattle.usage.specs.Tables.{from, edge_at}
use Rattle.automaton.specs.Code.{edge_ends}
use Rattle.automaton.proofs.moves.follow_fours.Given as goal

abbrev pub invariant-loop-i : goal.invariant-loop-i
invariant-loop-i l =
    (l.i ≤ l.n) ×
    ((l.own ≡ edge_ends (from (edge_at l.edges) 0 (4 * l.i)) l.a l.seen.resource true l.seen.second) × (l.other ≡ edge_ends (from (edge_at l.edges) 0 (4 * l.i)) l.a l.seen.resource false l.seen.second))
