use Rattle.usage.specs.Tables.{nodes_of}
use Rattle.usage.specs.Tests.{some_below, gives_name_lem}
use mathlib.Core.Path.{◌≡◌}
use Rattle.sheet_rules.proofs.node_rules.given_below.Given as goal

abbrev pub invariant-loop-j : goal.invariant-loop-j
invariant-loop-j l = (some_below (gives_name_lem (nodes_of l.nodes) l.x) l.j ≡ some_below (gives_name_lem (nodes_of l.nodes) l.x) l.k)
