use Rattle.usage.specs.Tables.{nodes_of}
use Rattle.usage.specs.Tests.{back_ok_lem, name_ok_lem}
use Rattle.sheet_rules.proofs.ruled_first.Given as goal

abbrev pub ghost-ruled_where : goal.ghost-ruled_where
ghost-ruled_where a = back_ok_lem (nodes_of a.table.now)

abbrev pub ghost-ruled_where-2 : goal.ghost-ruled_where-2
ghost-ruled_where-2 a = name_ok_lem (nodes_of a.table.now)
