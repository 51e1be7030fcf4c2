-- What a state that was never reached is judged by (02, L4).
use Rattle.std.specs.Prelude.{ℕ, ◌≡◌, Bool, List}
use Rattle.std.proofs.Math.Option.{some}
use Rattle.usage.specs.declared.RawStep.{RawStep}
use Rattle.usage.specs.Past.{Step, event, opening, closing, retiring}
use Rattle.usage.specs.Judge.{step_of}
use Rattle.monitor_state.specs.declared.State.{State}
use Rattle.monitor_state.specs.Judge.{with_tracked, judge_of}

-- "At an opening or closing", and at a retiring, which "like an opening, is judged by the stored sets" (02, L8)
abbrev pub NoEvent : Step → Type 0
NoEvent (event a r) = ⊥
NoEvent (opening p) = Unit {0}
NoEvent (closing p) = Unit {0}
NoEvent (retiring r) = Unit {0}

-- "a state not reached from the start is judged by its stored sets": whatever its instances' sets are, those of two resources too, the
-- answer is the same
abbrev pub JudgedByStored : Type 0
JudgedByStored = (t : List ℕ) (local : Bool) (s : State) (raw : RawStep) (step : Step) → step_of raw ≡ some step → NoEvent step
    → (sets pairs : List ℕ)
    → (judge_of t local (with_tracked s (record { sets = sets; pairs = pairs; possible = s.tracked.possible })) raw).answer
    ≡ (judge_of t local s raw).answer
