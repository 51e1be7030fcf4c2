use Rattle.sheet_rules.proofs.ruled_where.Given as goal

abbrev pub ghost-each : goal.ghost-each
ghost-each g a = g.test
