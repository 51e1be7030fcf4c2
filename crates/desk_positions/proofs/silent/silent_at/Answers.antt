use mathlib.Core.Path.{ap, ◌∙◌, subst}
use Rattle.outline_nodes.specs.Said.{said_by}
use Rattle.desk_positions.specs.Positions.{silent_by}
use Rattle.desk_positions.specs.Growth.{Within}
use Rattle.desk_positions.proofs.GrowthLaws.{none-grown, one-grown}
use Rattle.desk_positions.proofs.MoveLaws.{below, fine-at, pop-row, replace-row}
use Rattle.desk_positions.proofs.silent.silent_at.Goals as goal

pub returns-in-End-clause-by_index : goal.returns-in-End-clause-by_index
returns-in-End-clause-by_index c k l rest ls top w ok =
    let a = c.args in
    one-grown w _ _ (ap (λ x. silent_by (said_by x) l rest) c.in-End.is) (below a.top.row.cells a.top.below k l rest top)
    (c.pop.ensures ∙ pop-row a.top.row.cells a.top.below k l rest top) c.add.ensures

pub returns-in-Loop-clause-by_index : goal.returns-in-Loop-clause-by_index
returns-in-Loop-clause-by_index c k l rest ls top w ok =
    let a = c.args in
    let h = subst (λ x. Within (said_by x)) c.in-Loop.is ok in
    one-grown w _ _ (ap (λ x. silent_by (said_by x) l rest) c.in-Loop.is) (fine-at a.top.row.cells a.top.below k l rest top _ h)
    (c.replace.ensures ∙ replace-row a.top.row.cells a.top.below k l rest top _) c.add-in-Loop.ensures

pub returns-in-Back-clause-by_index : goal.returns-in-Back-clause-by_index
returns-in-Back-clause-by_index c k l rest ls top w ok =
    let a = c.args in
    let h = subst (λ x. Within (said_by x)) c.in-Back.is ok in
    one-grown w _ _ (ap (λ x. silent_by (said_by x) l rest) c.in-Back.is) (fine-at a.top.row.cells a.top.below k l rest top _ h)
    (c.replace-in-Back.ensures ∙ replace-row a.top.row.cells a.top.below k l rest top _) c.add-in-Back.ensures

pub returns-in-OnStatic-clause-by_index : goal.returns-in-OnStatic-clause-by_index
returns-in-OnStatic-clause-by_index c k l rest ls top w ok = none-grown w _ (ap (λ x. silent_by (said_by x) l rest) c.in-OnStatic.is)

pub returns-in-OnName-clause-by_index : goal.returns-in-OnName-clause-by_index
returns-in-OnName-clause-by_index c k l rest ls top w ok = none-grown w _ (ap (λ x. silent_by (said_by x) l rest) c.in-OnName.is)

pub returns-in-Fresh-clause-by_index : goal.returns-in-Fresh-clause-by_index
returns-in-Fresh-clause-by_index c k l rest ls top w ok = none-grown w _ (ap (λ x. silent_by (said_by x) l rest) c.in-Fresh.is)

pub returns-in-Sandbox-clause-by_index : goal.returns-in-Sandbox-clause-by_index
returns-in-Sandbox-clause-by_index c k l rest ls top w ok = none-grown w _ (ap (λ x. silent_by (said_by x) l rest) c.in-Sandbox.is)
