use Rattle.outline_nodes.specs.Said.{said_by}
use Rattle.desk_positions.specs.Positions.{stride_by}
use Rattle.desk_positions.specs.Moves.{step_of}
use Rattle.desk_positions.proofs.GrowthLaws.{none-grown}
use Rattle.desk_positions.proofs.StepLaws.{closing-none, retiring-none}
use mathlib.Core.Path.{ap, ◌∙◌}
use Rattle.desk_positions.proofs.strides.stride_at.Goals as goal

pub returns-in-Closing-clause-by_index : goal.returns-in-Closing-clause-by_index
returns-in-Closing-clause-by_index c k l rest ls top w ok =
    let o = said_by c.args.f in
    none-grown w _ (ap (λ x. stride_by o l rest (step_of x)) c.in-Closing.is ∙ closing-none o l rest _)

pub returns-in-Retiring-clause-by_index : goal.returns-in-Retiring-clause-by_index
returns-in-Retiring-clause-by_index c k l rest ls top w ok =
    let o = said_by c.args.f in
    none-grown w _ (ap (λ x. stride_by o l rest (step_of x)) c.in-Retiring.is ∙ retiring-none o l rest _)
