use Rattle.usage.specs.Tables.{nodes_of}
use Rattle.usage.specs.Tests.{above}
use mathlib.Core.Path.{◌≡◌}
use Rattle.sheet_rules.proofs.node_rules.inside.Given as goal

abbrev pub invariant-loop-j : goal.invariant-loop-j
invariant-loop-j g l = above (nodes_of l.nodes) g.test l.at l.j ≡ above (nodes_of l.nodes) g.test l.k l.k
