use mathlib.Core.Path.{subst}
use Rattle.std.proofs.lemmas.Result.{err_from_is_err_and}
use Rattle.std.specs.Prelude.{Result, Ok, Err}
use Rattle.usage.specs.declared.Reason.{Reason}
use Rattle.checker_trace.specs.declared.Length.{Length}
use Rattle.checker_trace.specs.Answer.{Told}
use Rattle.checker_counterexample.specs.Explained.{NamedBy}
use Rattle.checker_counterexample.proofs.named.Goals as goal

pub returns-in_err-l : goal.returns-in_err-l
returns-in_err-l c =
    let p = err_from_is_err_and c.from_residual.result c.from_residual.ensures.1 in
    rw (p.1, p.2) (NamedBy.told_refused c.in_err-l.ensures)

pub returns-in-Of : goal.returns-in-Of
returns-in-Of c =
    let a = c.args in
    NamedBy.told_shown (subst (λ (y : Length). Told a.local a.edges.now a.nodes.now a.p a.trace.now (Ok y) c.counterexample.new.trace)
    c.in-Of.is c.in_ok-l.ensures)

pub returns-in-Longer : goal.returns-in-Longer
returns-in-Longer c =
    let a = c.args in
    NamedBy.told_longer (subst (λ (y : Length). Told a.local a.edges.now a.nodes.now a.p a.trace.now (Ok y) c.counterexample.new.trace)
    c.in-Longer.is c.in_ok-l.ensures)
