-- `read_step` meets its contract. The ranges are tested by `ranges`; what is left is the kind.
use mathlib.Core.Path.{sym, ap, ◌∙◌}
use lib.ListN.{get_elem?}
use Rattle.usage.specs.Judge.{step_kinds, step_of}
use Rattle.usage.proofs.Logic.{not-true, not-false}
use Rattle.monitor_state.proofs.StepLaws.{not-read, is_read, no_kind}
use Rattle.monitor_state.proofs.read_step.Goals as goal

pub returns-then-not-step_fits : goal.returns-then-not-step_fits
returns-then-not-step_fits c = sym (not-read _ (sym c.step_fits.ensures ∙ not-true _ c.if-not-step_fits.true-raw))

pub returns-in-0 : goal.returns-in-0
returns-in-0 c =
    sym (is_read _ _ (ap (get_elem? step_kinds) c.in-0.is)
    (sym c.step_fits.ensures ∙ not-false _ c.if-not-step_fits.false-raw))

pub returns-in-1 : goal.returns-in-1
returns-in-1 c =
    sym (is_read _ _ (ap (get_elem? step_kinds) c.in-1.is)
    (sym c.step_fits.ensures ∙ not-false _ c.if-not-step_fits.false-raw))

pub returns-in-2 : goal.returns-in-2
returns-in-2 c =
    sym (is_read _ _ (ap (get_elem? step_kinds) c.in-2.is)
    (sym c.step_fits.ensures ∙ not-false _ c.if-not-step_fits.false-raw))

pub returns-in-3 : goal.returns-in-3
returns-in-3 c =
    sym (is_read _ _ (ap (get_elem? step_kinds) c.in-3.is)
    (sym c.step_fits.ensures ∙ not-false _ c.if-not-step_fits.false-raw))

pub returns-in_default : goal.returns-in_default
unfolding step_of
returns-in_default c =
    let h = c.in_default.in_default-own.rest in
    rw (no_kind c.args.step.kind h.0.0.0.1 h.0.0.1 h.0.1 h.1)
