use mathlib.Core.Path.{ap}
use Rattle.usage.specs.Past.{event}
use Rattle.outline_nodes.specs.Said.{said_by}
use Rattle.desk_positions.specs.Positions.{stride_by}
use Rattle.desk_positions.proofs.GrowthLaws.{none-grown}
use Rattle.desk_positions.proofs.strides.event_at.Goals as goal

pub returns-in-End-clause-by_index : goal.returns-in-End-clause-by_index
returns-in-End-clause-by_index c k l rest ls top w ok = none-grown w _ (ap (λ x. stride_by (said_by x) l rest (event c.args.action c.args.res)) c.in-End.is)

pub returns-in-Sequence-clause-by_index : goal.returns-in-Sequence-clause-by_index
returns-in-Sequence-clause-by_index c k l rest ls top w ok = none-grown w _ (ap (λ x. stride_by (said_by x) l rest (event c.args.action c.args.res)) c.in-Sequence.is)

pub returns-in-Choice-clause-by_index : goal.returns-in-Choice-clause-by_index
returns-in-Choice-clause-by_index c k l rest ls top w ok = none-grown w _ (ap (λ x. stride_by (said_by x) l rest (event c.args.action c.args.res)) c.in-Choice.is)

pub returns-in-Loop-clause-by_index : goal.returns-in-Loop-clause-by_index
returns-in-Loop-clause-by_index c k l rest ls top w ok = none-grown w _ (ap (λ x. stride_by (said_by x) l rest (event c.args.action c.args.res)) c.in-Loop.is)

pub returns-in-Back-clause-by_index : goal.returns-in-Back-clause-by_index
returns-in-Back-clause-by_index c k l rest ls top w ok = none-grown w _ (ap (λ x. stride_by (said_by x) l rest (event c.args.action c.args.res)) c.in-Back.is)

pub returns-in-Sandbox-clause-by_index : goal.returns-in-Sandbox-clause-by_index
returns-in-Sandbox-clause-by_index c k l rest ls top w ok = none-grown w _ (ap (λ x. stride_by (said_by x) l rest (event c.args.action c.args.res)) c.in-Sandbox.is)
