-- What the check promises, for all tables at all.
use Rattle.std.specs.Prelude.{Bool, ℕ, ◌≡◌, ◌↔◌, List}
use Rattle.usage.specs.Answers.{Verdict, allowed, violated, refused}
use Rattle.usage.specs.Check.{Checked}
use Rattle.usage.specs.Tables.{edges_of, nodes_of, EdgeTable, NodeTable}
use Rattle.checker.specs.declared.Outcome.{Outcome}
use Rattle.checker.specs.declared.Outcome.TheVariants.{Accepted, Named}
use Rattle.std.specs.Prelude.{Result, Ok, Err}
use Rattle.usage.specs.declared.Reason.{Reason}
use Rattle.usage.specs.Reasons.{number_of}
use Rattle.checker.specs.Accepted.{NeverHalted}

-- document 01's numbers for each answer
abbrev pub outcome_verdict : Result Outcome Reason → Verdict
outcome_verdict (Ok Accepted) = allowed
outcome_verdict (Ok (Named p)) = violated p
outcome_verdict (Err r) = refused (number_of r)

-- The right verdict of two lent tables and a choice of past: "41 a table lent to be used that, taken whole, no accepted sheet gives"; else
-- that of the outline under the edges. No two are right (`right_unique` of proofs/PromiseLaws).
pub data RightVerdict (local : Bool) (edges nodes : List ℕ) : Verdict → Type 0 where
  no_edges : (EdgeTable edges → ⊥) → RightVerdict local edges nodes (refused 41)
  no_nodes : (NodeTable nodes → ⊥) → RightVerdict local edges nodes (refused 41)
  checked : {v : Verdict} → EdgeTable edges → NodeTable nodes → Checked local (edges_of edges) (nodes_of nodes) v
      → RightVerdict local edges nodes v

-- The promise of whoever tells the verdict v of two lent tables and a choice of past. A verdict is right exactly where it is the one
-- that is told.
pub record CheckPromise (local : Bool) (edges nodes : List ℕ) (v : Verdict) : Type 0 where
  pub exact : (w : Verdict) → RightVerdict local edges nodes w ↔ (v ≡ w)
  -- "What the check accepts, the judge never halts"
  pub guarded : v ≡ allowed → NeverHalted edges local (nodes_of nodes)
