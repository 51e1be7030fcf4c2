-- What the check with a counterexample promises: the check's verdict, and the trace.
use Rattle.std.specs.Prelude.{ℕ, ◌<◌, ◌≤◌, Bool, List, length}
use Rattle.std.proofs.Math.Option.{none, some}
use Rattle.usage.specs.Past.{Past}
use Rattle.usage.specs.Check as usage
use Rattle.usage.specs.Tables.{edges_of, nodes_of}
use Rattle.checker_trace.specs.Steps.{laid}
use Rattle.checker_trace.specs.Answer.{most_numbers}
use Rattle.checker_trace.specs.Answer as trace
use Rattle.checker_trace.specs.declared.Length.TheVariants as lengths
use Rattle.usage.specs.Answers.{Verdict, allowed, violated, refused}
use Rattle.checker_counterexample.specs.declared.Explanation.{Explanation}
use Rattle.checker_counterexample.specs.declared.Explanation.TheVariants.{Accepted, Shown, Longer}
use Rattle.std.specs.Prelude.{Result, Ok, Err}
use Rattle.usage.specs.declared.Reason.{Reason}
use Rattle.usage.specs.declared.Reason.TheVariants.{Room}
use Rattle.usage.specs.Reasons.{number_of}
use Rattle.checker.specs.Promise.{CheckPromise}

-- document 01's numbers for each answer, and how many steps were written
abbrev pub explanation_verdict : Result Explanation Reason → Verdict
explanation_verdict (Ok Accepted) = allowed
explanation_verdict (Ok (Shown p n)) = violated p
explanation_verdict (Ok (Longer p)) = violated p
explanation_verdict (Err r) = refused (number_of r)

abbrev pub steps_written_lem : Result Explanation Reason → ℕ
steps_written_lem (Ok Accepted) = 0
steps_written_lem (Ok (Shown p n)) = n
steps_written_lem (Ok (Longer p)) = 0
steps_written_lem (Err r) = 0

-- what `counterexample` tells, as an answer
pub data NamedBy (local : Bool) (e n : List ℕ) (p : ℕ) (t : List ℕ) : Result Explanation Reason → List ℕ → Type 0 where
  told_shown : {s : ℕ} {t' : List ℕ} → trace.Told local e n p t (Ok (lengths.Of s)) t' → NamedBy local e n p t (Ok (Shown p s)) t'
  told_longer : {t' : List ℕ} → trace.Told local e n p t (Ok lengths.Longer) t' → NamedBy local e n p t (Ok (Longer p)) t'
  told_refused : {r : Reason} {t' : List ℕ} → trace.Told local e n p t (Err r) t' → NamedBy local e n p t (Err r) t'

-- the check's own verdict is the one that the explanation tells
abbrev pub TellsVerdict : Bool → List ℕ → List ℕ → Result Explanation Reason → Type 0
TellsVerdict local e n x = CheckPromise local e n (explanation_verdict x)

-- e and n are the tables of edges and nodes, under a choice of past, t and t' the lent table before and after. "40 also covers a lent trace
-- table below 200 places"; else the check's own verdict, and where it names a policy what is shown with that
pub data Explained (local : Bool) (e n t : List ℕ) : Result Explanation Reason → List ℕ → Type 0 where
  too_small : length t < most_numbers → Explained local e n t (Err Room) t
  refused_with : {r : Reason} → most_numbers ≤ length t → TellsVerdict local e n (Err r) → Explained local e n t (Err r) t
  accepted : most_numbers ≤ length t → TellsVerdict local e n (Ok Accepted) → Explained local e n t (Ok Accepted) t
  longer : {p : ℕ} → most_numbers ≤ length t → TellsVerdict local e n (Ok (Longer p)) → usage.Shown local (edges_of e) (nodes_of n) p none
      → Explained local e n t (Ok (Longer p)) t
  this_long : {p : ℕ} {past : Past} → most_numbers ≤ length t → TellsVerdict local e n (Ok (Shown p (length past)))
      → usage.Shown local (edges_of e) (nodes_of n) p (some past)
      → Explained local e n t (Ok (Shown p (length past))) (laid t past)
