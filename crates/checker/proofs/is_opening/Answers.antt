use Rattle.checker.proofs.SkipLaws.{not_opening}
use Rattle.checker.proofs.is_opening.Goals as goal

pub returns-in-Sandbox : goal.returns-in-Sandbox
returns-in-Sandbox c = rw c.in-Sandbox.is

pub returns-in_default : goal.returns-in_default
returns-in_default c = let a = c.args in not_opening a.p a.f c.in_default.not-Sandbox
