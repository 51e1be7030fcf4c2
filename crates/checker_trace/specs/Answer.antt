-- What is answered and written.
use Rattle.std.specs.Prelude.{ℕ, ◌*◌, ◌<◌, ◌≤◌, Bool, List, ◌⊎◌, length}
use Rattle.std.proofs.Math.Option.{Option, none, some}
use Rattle.usage.specs.Limits.{step_fields, most_shown}
use Rattle.usage.specs.Answers.{Verdict, violated, refused}
use Rattle.usage.specs.Past.{Past}
use Rattle.usage.specs.Check.{Shown}
use Rattle.usage.specs.Tables.{edges_of, nodes_of, EdgeTable, NodeTable}
use Rattle.checker_trace.specs.declared.Length.{Length}
use Rattle.checker_trace.specs.declared.Length.TheVariants.{Of, Longer}
use Rattle.usage.specs.declared.Reason.{Reason}
use Rattle.usage.specs.Reasons.{number_of}
use Rattle.std.specs.Prelude.{Result, Ok, Err}
use Rattle.checker_trace.specs.Steps.{laid}

-- "a lent trace table below 200 places": the numbers of that many steps
abbrev pub most_numbers : ℕ
most_numbers = most_shown * step_fields

-- Document 01's verdict for each answer to a call for policy p, and the length that is told with it: "The answer tells its length; if every
-- such trace is longer it says so".
abbrev pub length_verdict : ℕ → Result Length Reason → Verdict
length_verdict p (Ok l) = violated p
length_verdict p (Err r) = refused (number_of r)

abbrev pub length_told : Result Length Reason → Option ℕ
length_told (Ok (Of n)) = some n
length_told (Ok Longer) = none
length_told (Err r) = none

-- "a shortest trace that breaks the named policy while open, if one of at most 200 steps exists"; "The answer tells its length; if every
-- such trace is longer it says so, and then .. nothing is written"; "Places after the trace keep their contents"; "40 also covers a lent
-- trace table below 200 places". e and n are the tables of edges and nodes, t and t' the lent table before and after. Which of several
-- shortest traces is written is left free.
pub data ToldAs (local : Bool) (e n : List ℕ) (p : ℕ) (t : List ℕ) : Verdict → Option ℕ → List ℕ → Type 0 where
  too_small : length t < most_numbers → ToldAs local e n p t (refused 40) none t
  no_table : most_numbers ≤ length t → (EdgeTable e → ⊥) ⊎ (NodeTable n → ⊥) → ToldAs local e n p t (refused 41) none t
  longer : most_numbers ≤ length t → EdgeTable e → NodeTable n → Shown local (edges_of e) (nodes_of n) p none
      → ToldAs local e n p t (violated p) none t
  this_long : {past : Past} → most_numbers ≤ length t → EdgeTable e → NodeTable n → Shown local (edges_of e) (nodes_of n) p (some past)
      → ToldAs local e n p t (violated p) (some (length past)) (laid t past)

-- by the answer of the code
abbrev pub Told : Bool → List ℕ → List ℕ → ℕ → List ℕ → Result Length Reason → List ℕ → Type 0
Told local e n p t l = ToldAs local e n p t (length_verdict p l) (length_told l)
