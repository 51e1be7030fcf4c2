-- What the judge promises of one step, from a state that stands for a past.
use Rattle.std.specs.Prelude.{◌≡◌, ℕ, Bool, false, List, []}
use Rattle.usage.specs.declared.Edge.{Edge}
use Rattle.usage.specs.declared.RawStep.{RawStep}
use Rattle.usage.specs.Past.{Past}
use Rattle.usage.specs.Judge.{Judged, past_after, halted_after}
use Rattle.usage.specs.Tables.{edges_of, EdgeTable}
use Rattle.usage.specs.declared.Reason.{Reason}
use Rattle.monitor_state.specs.declared.State.{State}
use Rattle.monitor_state.specs.declared.Answer.{Answer}
use Rattle.monitor_state.specs.declared.Answer.TheVariants.{Allowed, Violated, Refused}
use Rattle.monitor_state.specs.declared.Judgement.{Judgement}
use Rattle.monitor_state.specs.Judge.{verdict_of, halt}
use Rattle.monitor_state.specs.Represents.{Represents}

-- What a step that is not allowed leaves: a violated one "a halted state that is otherwise the one before the step", a refused
-- one the state before it.
abbrev pub Kept : State → Answer Reason → State → Type 0
Kept s Allowed t = Unit {0}
Kept s (Violated p) t = t ≡ halt s
Kept s (Refused n) t = t ≡ s

-- The answer is the right one after this past, and the state that is returned stands for the past that follows: with the step
-- if it was allowed, else the same one.
pub record Promised (local : Bool) (es : List Edge) (past : Past) (h : Bool) (s : State) (raw : RawStep) (j : Judgement) : Type 0 where
  pub answer : Judged local es past h raw (verdict_of j.answer)
  pub state : Represents local es (past_after past raw (verdict_of j.answer)) (halted_after h (verdict_of j.answer)) j.state
  pub kept : Kept s j.answer j.state

-- The promise of a step, over the past alone: for every past that the state stands for, under the edges of an accepted sheet.
abbrev pub Keeps : List ℕ → Bool → State → RawStep → Judgement → Type 0
Keeps t local s raw j =
    (past : Past) (h : Bool) → EdgeTable t → Represents local (edges_of t) past h s → Promised local (edges_of t) past h s raw j

-- The start stands for the empty past, whatever the edges and whichever past counts.
abbrev pub StandsForNothing : State → Type 0
StandsForNothing s = (local : Bool) (es : List Edge) → Represents local es [] false s
