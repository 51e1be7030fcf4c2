-- What the judge over lent arrays promises of a past: the form that demands 2 and 3 go by.
use Rattle.std.specs.Prelude.{ℕ, ◌≤◌, ◌≡◌, Bool, true, false, List, []}
use Rattle.usage.specs.declared.Edge.{Edge}
use Rattle.usage.specs.declared.RawStep.{RawStep}
use Rattle.usage.specs.Answers.{Verdict}
use Rattle.usage.specs.Past.{Past}
use Rattle.usage.specs.Judge.{Judged, past_after, halted_after}
use Rattle.usage.specs.Tables.{edges_of, EdgeTable}
use Rattle.monitor_state.specs.Represents.{Represents}
use Rattle.api_c.specs.Choice.{choice_of}
use Rattle.api_c.specs.Codes.{code_of}
use Rattle.api_c.specs.Parts.{Parts, is_held, held_in_lem}

-- the arrays hold a state that stands for this past
pub record StandsFor (local : Bool) (es : List Edge) (past : Past) (h : Bool) (p : Parts) : Type 0 where
  pub held : is_held p ≡ true
  pub represents : Represents local es past h (held_in_lem p)

-- The number that is answered is that of the right verdict after this past, and the arrays then stand for the past that follows: with the
-- step if it was allowed, else the same one.
pub record PromisedIn (local : Bool) (es : List Edge) (past : Past) (h : Bool) (raw : RawStep) (r : ℕ) (p : Parts) : Type 0 where
  pub verdict : Verdict
  pub told : r ≡ code_of verdict
  pub judged : Judged local es past h raw verdict
  pub state : StandsFor local es (past_after past raw verdict) (halted_after h verdict) p

-- The promise of a call that is lent p and leaves p': for every past that p stands for, under the edges of an accepted sheet and a number
-- that is a choice of past.
abbrev pub KeepsIn : List ℕ → ℕ → Parts → RawStep → ℕ → Parts → Type 0
KeepsIn t choice p raw r p' =
    (past : Past) (h : Bool) → choice ≤ 1 → EdgeTable t → StandsFor (choice_of choice) (edges_of t) past h p
    → PromisedIn (choice_of choice) (edges_of t) past h raw r p'

-- The start stands for the empty past, whatever the edges and whichever past counts.
abbrev pub BeginsIn : Parts → Type 0
BeginsIn p = (local : Bool) (es : List Edge) → StandsFor local es [] false p
