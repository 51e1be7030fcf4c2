use Rattle.usage.specs.Tables.{nodes_of}
use Rattle.usage.specs.Tests.{tree_ok_lem}
use Rattle.sheet_rules.proofs.ruled.Given as goal

abbrev pub ghost-ruled_where : goal.ghost-ruled_where
ghost-ruled_where a = tree_ok_lem (nodes_of a.table.now)
