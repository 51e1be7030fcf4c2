use mathlib.Core.Bool.{◌&&◌}
use Rattle.usage.specs.Tables.{nodes_of}
use Rattle.usage.specs.Tests.{place_ok, tree_ok_lem}
use Rattle.sheet_rules.proofs.ruled_sheet.Given as goal

-- what is asked of node k, by the table and the places that the closure holds
abbrev pub ghost-ruled_where : goal.ghost-ruled_where
ghost-ruled_where a = λ k. place_ok a.passes.1.now k && tree_ok_lem (nodes_of a.table.now) k
