-- The start is the definition's, stands for the empty past, and answers the same where the dynamic numbers are renamed in their order
-- and where retirings are added.
use mathlib.Core.Path.{refl}
use Rattle.monitor_state.specs.Judge.{start_state, start_tracked, start_created, start_unclosed}
use Rattle.monitor_state.proofs.StartLaws.{begin-represents}
use Rattle.monitor_state.proofs.AlikeLaws.{start-same}
use Rattle.monitor_state.proofs.OthersLaws.{others-kept}
use Rattle.monitor.proofs.start.Goals as goal

pub returns : goal.returns
unfolding start_state start_tracked start_created start_unclosed
returns c = record { value = refl; stands_for_nothing = begin-represents; same_answers = start-same; others_kept = others-kept }
