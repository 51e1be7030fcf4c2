use Prim.Native.Nat.{◌+◌, ◌*◌}
use mathlib.Core.Bool.{◌&&◌}
use lib.Dec.{eqb}
use lib.ListN.{get_or}
use Rattle.usage.specs.Limits.{node_fields}
use Rattle.usage.specs.Outline.{form_at}
use Rattle.usage.specs.Tables.{nodes_of}
use Rattle.usage.specs.Tests.{loop_at}
use Rattle.sheet_rules.proofs.node_rules.back_ok.Given as goal

-- node j is the loop that the back of node k names
abbrev pub ghost-inside : goal.ghost-inside
ghost-inside a = λ j. eqb j (get_or a.nodes.now (node_fields * a.k + 1) 0) && loop_at (form_at (nodes_of a.nodes.now) j)
