-- The full judge looks at all policies.
use mathlib.Core.Path.{◌∙◌}
use Rattle.monitor_state.proofs.LookedLaws.{all-looked-at, sized-by}
use Rattle.monitor.proofs.judge_lent.Goals as goal

pub returns : goal.returns
returns c =
    c.judge_looked.ensures.order_after
    ∙ sized-by _ _ _ _ _ c.told-pairs ∙ all-looked-at _ _ _ _
