-- The verdict is right, so it is the only one; and what follows from it for the judge.
use Rattle.checker.specs.Promise.{outcome_verdict}
use Rattle.checker.proofs.PromiseLaws.{right-promised}
use Rattle.checker.proofs.check.Goals as goal

pub returns : goal.returns
returns c =
    let a = c.args in
    right-promised a.local a.edges.now a.nodes.now (outcome_verdict c.checked.result) c.checked.ensures
