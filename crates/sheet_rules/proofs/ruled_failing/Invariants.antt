use Rattle.sheet_rules.specs.Rules.{all_but}
use Rattle.sheet_rules.proofs.ruled_failing.Given as goal

abbrev pub ghost-ruled_where : goal.ghost-ruled_where
ghost-ruled_where a = all_but a.passes.0.now
