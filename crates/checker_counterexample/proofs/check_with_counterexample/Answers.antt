use mathlib.Core.Path.{subst}
use Rattle.std.proofs.lemmas.Result.{err_from_is_err_and}
use Rattle.std.specs.Prelude.{Ok}
use Rattle.checker.specs.declared.Outcome.{Outcome}
use Rattle.checker.specs.Promise.{outcome_verdict, CheckPromise}
use Rattle.checker_counterexample.specs.Explained.{Explained}
use Rattle.checker_counterexample.proofs.ExplainedLaws.{named-explained}
use Rattle.checker_counterexample.proofs.check_with_counterexample.Goals as goal

pub returns-then-trace-lt-MOST_NUMBERS : goal.returns-then-trace-lt-MOST_NUMBERS
returns-then-trace-lt-MOST_NUMBERS c = Explained.too_small c.if-trace-lt-MOST_NUMBERS.true

pub returns-in_err-o : goal.returns-in_err-o
returns-in_err-o c =
    let p = err_from_is_err_and c.from_residual.result c.from_residual.ensures.1 in
    rw (p.1, p.2) (Explained.refused_with c.if-trace-lt-MOST_NUMBERS.false c.in_err-o.ensures)

pub returns-in-Accepted : goal.returns-in-Accepted
returns-in-Accepted c =
    let a = c.args in
    Explained.accepted c.if-trace-lt-MOST_NUMBERS.false
    (subst (λ (o : Outcome). CheckPromise a.local a.edges.now a.nodes.now (outcome_verdict (Ok o))) c.in-Accepted.is c.in_ok-o.ensures)

pub returns-in-Named : goal.returns-in-Named
returns-in-Named c =
    let a = c.args in
    named-explained c.if-trace-lt-MOST_NUMBERS.false
    (subst (λ (o : Outcome). CheckPromise a.local a.edges.now a.nodes.now (outcome_verdict (Ok o))) c.in-Named.is c.in_ok-o.ensures)
    c.named.ensures
