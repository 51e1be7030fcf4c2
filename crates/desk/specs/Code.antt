-- What the desk's own functions compute, where Calls.antt has no name for it.
use Rattle.std.specs.Prelude.{ℕ, suc, ◌≤◌, ◌≡◌, Bool, true, false, not, cond, List, eqb}
use Rattle.std.proofs.Math.Option.{Option}
use Rattle.desk_positions.specs.Positions.{Position, most_positions}
use Rattle.desk_positions.specs.Reading.{rows_ok_lem}
use Rattle.usage.specs.Check.{Checked}
use Rattle.usage.specs.Tables.{edges_of, nodes_of}
use Rattle.checker.specs.Summary.{Summary, Exact}
use Rattle.desk.specs.declared.Head.{Head}
use Rattle.desk.specs.Layout.{desk_bytes, Within}
use Rattle.desk.specs.Desk.{with_outline}
use Rattle.desk.specs.State.{local_in, edges_in, loaded_in, table_in, listed_in, Encodes}
use Rattle.desk.specs.Calls.{desk_code, plain, is_refused}
use Rattle.usage.specs.Reasons.{number_of}
use Rattle.usage.specs.Answers.{Verdict, allowed, violated, refused}
use Rattle.usage.specs.declared.Reason.{Reason}
use Rattle.monitor_state.specs.declared.Answer.{Answer}
use Rattle.monitor_state.specs.declared.Answer.TheVariants.{Allowed, Violated, Refused}

-- what is told of the judge's answer: a table of edges that the judge refuses is 42 at the desk, whose caller lends none
abbrev pub told : Answer Reason → Verdict
told Allowed = allowed
told (Violated p) = violated p
told (Refused r) = refused (cond (eqb (number_of r) 41) 42 (number_of r))

-- whether an answer to a step of this kind moves the positions
abbrev pub moves : Answer Reason → ℕ → Bool
moves Allowed kind = not (eqb kind 3)
moves (Violated p) kind = false
moves (Refused n) kind = false

-- the bytes list these positions, or tell that a limit is exceeded
pub record SettledIn (o : Option (List Position)) (k : ℕ) (b : List ℕ) : Type 0 where
  pub few : k ≤ suc most_positions
  pub lists : listed_in (table_in b) k ≡ o
  pub rows : k ≤ most_positions → rows_ok_lem (table_in b) k ≡ true

-- the greatest line that an answer has room for; a sheet's refusal has a much lower one
abbrev pub most_line : ℕ
most_line = 32767

-- the head once an outline of so many nodes is loaded, before the judge's numbers and the positions
unfoldable pub with_nodes : Head → ℕ → Head
with_nodes h n = record {
  policies = h.policies;
  edges = h.edges;
  nodes = n;
  positions = 0;
  halted = 0;
  count = 0;
  highest = 0;
  depth = 0;
}

-- An outline was kept: the number tells the check's verdict, and the bytes hold the outline with its exact summary.
pub record KeptOutline (b₀ : List ℕ) (h : Head) (nodes : List ℕ) (r : ℕ) (b : List ℕ) : Type 0 where
  pub verdict : Verdict
  pub summary : Summary
  pub checked : Checked (local_in h) (edges_of (edges_in b₀ h)) (nodes_of nodes) verdict
  pub exact : Exact (local_in h) (edges_of (edges_in b₀ h)) (nodes_of nodes) summary
  pub plainly : is_refused verdict ≡ false
  pub code : r ≡ desk_code (plain verdict)
  pub encodes : Encodes b (with_outline (loaded_in b₀ h) nodes summary)
  pub within : Within b₀ 0 desk_bytes b
