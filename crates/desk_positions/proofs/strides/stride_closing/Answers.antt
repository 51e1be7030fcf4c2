use mathlib.Core.List.{◌∷◌}
use mathlib.Core.Path.{ap, ap₂}
use Rattle.desk_positions.specs.Positions.{shut, stride_next}
use Rattle.desk_positions.specs.Rows.{popped}
use Rattle.desk_positions.specs.Moves.{step_of}
use Rattle.desk_positions.proofs.RowLaws.{popped-is}
use Rattle.desk_positions.proofs.GrowthLaws.{none-grown, one-grown}
use Rattle.desk_positions.proofs.StepLaws.{shut-event, shut-opening, shut-retiring, shut-other, shut-taken}
use native.Mathlib.Omega.{arith}
use mathlib.Core.Path.{sym, ◌∙◌}
use Rattle.desk_positions.proofs.strides.stride_closing.Goals as goal

pub returns-then-code-p-clause-grown : goal.returns-then-code-p-clause-grown
returns-then-code-p-clause-grown c ns p rest ls is fine dep num w =
    none-grown w _
    (ap (λ x. stride_next ns (step_of x) (shut p ∷ rest)) c.in-Closing.is ∙ shut-other ns p rest _ (λ e. c.if-code-p.true (omega arith)))

pub returns-else-code-p-clause-grown : goal.returns-else-code-p-clause-grown
returns-else-code-p-clause-grown c ns p rest ls is fine dep num w =
    let q = c.if-code-p.false in
    one-grown w _ _
    (ap (λ x. stride_next ns (step_of x) (shut p ∷ rest)) c.in-Closing.is ∙ shut-taken ns p rest _ (omega arith))
    (omega arith, fine.1.1)
    (c.pop.ensures ∙ ap₂ popped is (sym dep) ∙ popped-is (shut p) rest fine.0) c.add.ensures

pub returns-in-Event-clause-grown : goal.returns-in-Event-clause-grown
returns-in-Event-clause-grown c ns p rest ls is fine dep num w =
    none-grown w _ (ap (λ x. stride_next ns (step_of x) (shut p ∷ rest)) c.in-Event.is ∙ shut-event ns p rest _ _)

pub returns-in-Opening-clause-grown : goal.returns-in-Opening-clause-grown
returns-in-Opening-clause-grown c ns p rest ls is fine dep num w =
    none-grown w _ (ap (λ x. stride_next ns (step_of x) (shut p ∷ rest)) c.in-Opening.is ∙ shut-opening ns p rest _)

pub returns-in-Retiring-clause-grown : goal.returns-in-Retiring-clause-grown
returns-in-Retiring-clause-grown c ns p rest ls is fine dep num w =
    none-grown w _ (ap (λ x. stride_next ns (step_of x) (shut p ∷ rest)) c.in-Retiring.is ∙ shut-retiring ns p rest _)
