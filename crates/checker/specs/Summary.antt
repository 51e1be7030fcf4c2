-- The exact summary of an outline under a choice of past (02, L11), and what is told of it.
use Rattle.std.specs.Prelude.{ℕ, ◌^◌, ◌<◌, ◌≤◌, ◌≡◌, Bool, List, ◌++◌, length, get_or, drop}
use Rattle.std.specs.Prelude.{Result, Ok, Err}
use Rattle.usage.specs.declared.Reason.{Reason}
use Rattle.usage.specs.Reasons.{number_of}
use Rattle.usage.specs.declared.Edge.{Edge}
use Rattle.usage.specs.declared.Node.{Node}
use Rattle.usage.specs.Limits.{policies, actions}
use Rattle.usage.specs.Tests.{Decides}
use Rattle.usage.specs.Tables.{edges_of, nodes_of, EdgeTable, NodeTable}
use Rattle.usage.specs.Check.{Last, by_action, by_opening, CanBeLast}
use Rattle.automaton.specs.Mask.{has}
pub use Rattle.checker_tables.specs.Marks.{bit_of}

-- A summary is eight numbers, one for each policy: bits 0 to 31 are its marked actions, and bit 32 is its opening's mark. Any eight numbers
-- are a summary.
abbrev pub Summary : Type 0
Summary = List ℕ

abbrev pub opening_bit : ℕ
opening_bit = actions

-- how many bits a policy's number has
abbrev pub mark_bits : ℕ
mark_bits = 33

-- whether bit i of policy p is set
abbrev pub mark_at : Summary → ℕ → ℕ → Bool
mark_at m p i = has (get_or m p 0) i

-- what a summary tells of a last step
abbrev pub marks : Summary → ℕ → Last → Bool
marks m p last = mark_at m p (bit_of last)

-- the actions are 0 to 31
abbrev pub InTable : Last → Type 0
InTable (by_action a) = a < actions
InTable by_opening = Unit {0}

-- "for each policy, which actions, and whether its opening, can be the last step of a trace that leaves it open and not respected": each
-- bit of p's number decides its case, and there are no others
pub record MarksExact (local : Bool) (es : List Edge) (ns : List Node) (p n : ℕ) : Type 0 where
  pub bits : n < 2 ^ mark_bits
  pub tells : (last : Last) → InTable last → Decides (has n (bit_of last)) (CanBeLast local es ns p last)

-- "the exact summary". There is one only (`exact-unique` of proofs/SummaryLaws).
pub record Exact (local : Bool) (es : List Edge) (ns : List Node) (m : Summary) : Type 0 where
  pub numbers : length m ≡ policies
  pub each : (p : ℕ) → p < policies → MarksExact local es ns p (get_or m p 0)

-- the number that is told: 0, or that of a refusal
abbrev pub summary_number : Result (Unit {0}) Reason → ℕ
summary_number (Ok u) = 0
summary_number (Err r) = number_of r

-- The answer of whoever writes the exact summary into a lent table, and what the table then holds: 40 where it has less than eight places,
-- then 41 as for the check. Places behind the eighth keep their contents, and so do all where a number refuses.
pub data Summarized (local : Bool) (edges nodes t : List ℕ) : ℕ → List ℕ → Type 0 where
  too_small : length t < policies → Summarized local edges nodes t 40 t
  no_edges : policies ≤ length t → (EdgeTable edges → ⊥) → Summarized local edges nodes t 41 t
  no_nodes : policies ≤ length t → (NodeTable nodes → ⊥) → Summarized local edges nodes t 41 t
  told : {m : Summary} → policies ≤ length t → EdgeTable edges → NodeTable nodes → Exact local (edges_of edges) (nodes_of nodes) m
      → Summarized local edges nodes t 0 (m ++ drop policies t)
