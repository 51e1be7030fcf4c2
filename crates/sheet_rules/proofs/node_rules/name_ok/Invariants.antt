use Prim.Native.Nat.{◌+◌, ◌*◌}
use lib.ListN.{get_or}
use Rattle.usage.specs.Limits.{node_fields}
use Rattle.usage.specs.Tables.{nodes_of}
use Rattle.usage.specs.Tests.{gives_name_lem}
use Rattle.sheet_rules.proofs.node_rules.name_ok.Given as goal

-- node j gives the name that node k uses
abbrev pub ghost-inside : goal.ghost-inside
ghost-inside a = gives_name_lem (nodes_of a.nodes.now) (get_or a.nodes.now (node_fields * a.k + 2) 0)
