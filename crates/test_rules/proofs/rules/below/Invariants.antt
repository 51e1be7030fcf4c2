use Rattle.std.specs.Prelude.{ltb}
use Rattle.test_rules.proofs.rules.below.Given as goal

abbrev pub ghost-ruled_where : goal.ghost-ruled_where
ghost-ruled_where a = λ k. ltb k a.passes.0.now
