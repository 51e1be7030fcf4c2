use Rattle.usage.specs.Tables.{nodes_of}
use Rattle.usage.specs.Tests.{back_ok_lem, name_ok_lem}
use Rattle.sheet_rules.proofs.loops_and_names.Given as goal

abbrev pub ghost-each : goal.ghost-each
ghost-each a = back_ok_lem (nodes_of a.table.now)

abbrev pub ghost-each-2 : goal.ghost-each-2
ghost-each-2 a = name_ok_lem (nodes_of a.table.now)
