-- The arrays hold the start, which stands for the empty past.
use mathlib.Core.Path.{sym, ap, subst}
use mathlib.Core.List.{[], ◌∷◌}
use Rattle.monitor_state.specs.declared.State.{State}
use Rattle.monitor_state.specs.Judge.{start_state, start_tracked, start_created, start_unclosed}
use Rattle.api_c.specs.Parts.{parts_of, holding}
use Rattle.api_c.specs.Past.{BeginsIn}
use Rattle.api_c.proofs.PastLaws.{begins}
use Rattle.api_c.proofs.start.wiforekun_start_parts.Goals as goal

pub returns : goal.returns
unfolding start_state start_tracked start_created start_unclosed holding
returns c =
    let e = ap (λ (s : State). parts_of s.tracked.sets s.tracked.pairs s.tracked.possible s.created.numbers s.unclosed.counts s.unclosed.order (0 ∷ 0 ∷ 0 ∷ 0 ∷ []))
    c.start-s.ensures.value in
    record { numbers_after = e; begins_in = subst BeginsIn (sym e) begins }
