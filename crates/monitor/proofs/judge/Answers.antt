-- The answer is the definition's, and so the one that the past says.
use mathlib.Core.Path.{sym, subst}
use Rattle.usage.specs.Tables.{edges_of}
use Rattle.usage.proofs.TableLaws.{decides-edge-table}
use Rattle.monitor_state.specs.Promise.{Promised}
use Rattle.monitor_state.proofs.Verdict.{judge-promised}
use Rattle.monitor.proofs.judge.Goals as goal

pub returns-clause-keeps : goal.returns-clause-keeps
returns-clause-keeps c past h ok R =
    let a = c.args in
    let t = a.edges.now in
    subst (Promised a.local (edges_of t) past h a.s a.step) (sym c.judge_lent-t.ensures)
    (judge-promised t ((decides-edge-table t).1 ok) a.local past h a.s R a.step)
