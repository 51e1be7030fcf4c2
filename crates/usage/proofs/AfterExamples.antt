-- Facts that a wrong definition of what a step leaves would break: an allowed step is part of the past, a violated or refused one is not; a
-- violation halts, and nothing else changes whether the state is halted.
use mathlib.Core.Path.{◌≡◌, refl}
use mathlib.Core.Bool.{true, false}
use mathlib.Core.List.{[], ◌∷◌}
use Rattle.usage.specs.declared.RawStep.{RawStep}
use Rattle.usage.specs.Past.{event, opening}
use Rattle.usage.specs.Answers.{allowed, violated, refused}
use Rattle.usage.specs.Judge.{step_of, past_after, halted_after}

abbrev read-three : RawStep
read-three = record { kind = 0; a = 2; b = 3 }

-- a step that is none
abbrev no_step : RawStep
no_step = record { kind = 4; a = 0; b = 0 }

joins-allowed : past_after (opening 0 ∷ []) read-three allowed ≡ event 2 3 ∷ opening 0 ∷ []
unfolding step_of
joins-allowed = refl

nothing-to-join : past_after (opening 0 ∷ []) no_step allowed ≡ opening 0 ∷ []
unfolding step_of
nothing-to-join = refl

leaves-violated : past_after (opening 0 ∷ []) read-three (violated 0) ≡ opening 0 ∷ []
leaves-violated = refl

leaves-refused : past_after (opening 0 ∷ []) read-three (refused 20) ≡ opening 0 ∷ []
leaves-refused = refl

runs_on : halted_after false allowed ≡ false
runs_on = refl

stays-halted : halted_after true allowed ≡ true
stays-halted = refl

halts : halted_after false (violated 7) ≡ true
halts = refl

refusal-runs-on : halted_after false (refused 24) ≡ false
refusal-runs-on = refl

refusal-stays-halted : halted_after true (refused 20) ≡ true
refusal-stays-halted = refl
