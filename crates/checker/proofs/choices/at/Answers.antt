use mathlib.Core.Path.{sym, ap}
use mathlib.Core.Bool.{Bool}
use Rattle.checker_account.specs.Choices.{choice_at}
use Rattle.checker.proofs.choices.at.Goals as goal

pub returns : goal.returns
unfolding choice_at
returns c = let a = c.args in sym (ap (λ (b : Bool). choice_at b a.i) c.if-pair.false)
