-- What acceptance promises of the judge: "What the check accepts, the judge never halts", over the whole trace, whichever past counts.
use Rattle.std.specs.Prelude.{ℕ, ◌<◌, ◌≤◌, ◌≡◌, Bool, length}
use mathlib.Core.List.{List, [], ◌∷◌, Memᴰ}
use Rattle.usage.specs.declared.Reason.{Reason}
use Rattle.usage.specs.Reasons.{number_of}
use Rattle.usage.specs.declared.Node.{Node}
use Rattle.usage.specs.declared.RawStep.{RawStep}
use Rattle.usage.specs.Limits.{resources, create, most_created, most_unclosed}
use Rattle.usage.specs.Past.{Step, event, opening, closing, retiring, Past, open_stack, live_in}
use Rattle.usage.specs.Retirings.{Rises, Added}
use Rattle.usage.specs.Outline.{IsTrace}
use Rattle.monitor_state.specs.declared.State.{State}
use Rattle.monitor_state.specs.declared.Answer.TheVariants.{Allowed}
use Rattle.monitor_state.specs.Judge.{judge_of, refuse, start_state}

-- a step as a routine hands it over
abbrev pub raw_of : Step → RawStep
raw_of (event a r) = record { kind = 0; a = a; b = r }
raw_of (opening p) = record { kind = 1; a = p; b = 0 }
raw_of (closing p) = record { kind = 2; a = p; b = 0 }
raw_of (retiring r) = record { kind = 3; a = r; b = 0 }

-- the past once these steps, the oldest first, have been added to it
unfoldable pub onto : List Step → Past → Past
onto [] past = past
onto (s ∷ steps) past = onto steps (s ∷ past)

-- resources that the judge takes: "a resource go to 4,294,967,295" (02, L9)
pub record Low (past : Past) : Type 0 where
  pub low : (a r : ℕ) → Memᴰ (event a r) past → r < resources

-- a create or an opening beyond the judge's limits, with its number
pub data Beyond (past : Past) : Step → ℕ → Type 0 where
  create_beyond : {r : ℕ} → most_created ≤ length (live_in past) → Beyond past (event create r) 30
  opening_beyond : {p : ℕ} → most_unclosed ≤ length (open_stack past) → Beyond past (opening p) 32

-- Handed to the judge one after the other, each with the state that the last one returned, every step is allowed up to the first
-- beyond the judge's limits, which is refused with its number. A step is allowed only where it is within them.
pub data Passes (t : List ℕ) (local : Bool) : Past → State → List Step → Type 0 where
  ended : {past : Past} {s : State} → Passes t local past s []
  allowed : {past : Past} {s : State} {step : Step} {steps : List Step} → ((n : ℕ) → Beyond past step n → ⊥)
      → (judge_of t local s (raw_of step)).answer ≡ Allowed → Passes t local (step ∷ past) (judge_of t local s (raw_of step)).state steps
      → Passes t local past s (step ∷ steps)
  beyond : {past : Past} {s : State} {step : Step} {steps : List Step} (r : Reason) → Beyond past step (number_of r)
      → judge_of t local s (raw_of step) ≡ refuse r s → Passes t local past s (step ∷ steps)

-- Every trace of the outline whose numbers the judge takes, from the judge's start: "for traces that create in rising order, with at most
-- one retiring added for each created resource, after the last step on it" (02, L8), and so with none.
abbrev pub NeverHalted : List ℕ → Bool → List Node → Type 0
NeverHalted t local ns =
    (steps more : List Step) → IsTrace ns (onto steps []) → Low (onto steps []) → Rises (onto steps []) → Added [] steps more
    → Passes t local [] start_state more
