-- Retirings change no answer to another step (02, L8).
use Rattle.std.specs.Prelude.{Bool, List, map, ℕ}
use Rattle.usage.specs.declared.RawStep.{RawStep}
use Rattle.usage.specs.Retirings.{Between, SameOthers}
use Rattle.monitor_state.specs.declared.State.{State}
use Rattle.monitor_state.specs.Judge.{verdict_of, answers_of}

-- "before the first 30 without them, the other steps get the answers they got without": from this state, under every table of edges at all,
-- whichever past counts, and for every list of steps at all.
abbrev pub OthersKept : State → Type 0
OthersKept s =
    (t : List ℕ) (local : Bool) (raws more : List RawStep) → Between raws more
    → SameOthers raws (map verdict_of (answers_of t local s raws)) more (map verdict_of (answers_of t local s more))
