use Rattle.desk_positions.proofs.CellLaws.{kept-none}
use Rattle.desk_positions.proofs.GrowthLaws.{none-grown}
use Rattle.desk_positions.proofs.StepLaws.{opening-none}
use Rattle.desk_positions.proofs.strides.opening_at.Goals as goal

pub returns-clause-by_index : goal.returns-clause-by_index
returns-clause-by_index c k l rest ls top w ok = none-grown w _ (opening-none c.args.f l rest c.args.p c.in_default.not-Sandbox)

pub returns-clause-rows_kept : goal.returns-clause-rows_kept
returns-clause-rows_kept c = kept-none _ _
