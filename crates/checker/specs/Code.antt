-- What the check's own functions compute.
use Rattle.std.specs.Prelude.{ℕ, ◌+◌, ◌*◌, ◌/◌, ◌<◌, ◌≡◌, Bool, ◌&&◌, List, ◌⊎◌, eqb, false, length, get_or, drop}
use Rattle.usage.specs.Limits.{policies, edge_fields, node_fields}
use Rattle.std.specs.Prelude.{Option as Maybe, Some, None}
use Rattle.usage.specs.Answers.{Verdict, allowed, violated}
use Rattle.std.proofs.Math.Option.{Option, none, some}
use Rattle.usage.specs.Outline.{Form, end, static_event, named_event, sequence, choice, loop, back, fresh, sandbox}
use Rattle.usage.specs.Tests.{some_below}
use Rattle.usage.specs.Tables.{edges_of, nodes_of}
use Rattle.checker_account.specs.declared.Resources.{Resources}
use Rattle.checker_account.specs.Tables.{rows_in}
use Rattle.checker_account.specs.Filling.{forms_in}
use Rattle.checker_tables.specs.Search.{touched}
use Rattle.checker_tables.specs.Marks.{MarkedWith}
use Rattle.checker.specs.Summary.{MarksExact}

-- ── Policies that need no search: one that no sandbox opens is never open, and one that has no edge is never broken ──

-- a node of this form is a sandbox of policy p
abbrev pub is_opening_lem : ℕ → Option Form → Bool
is_opening_lem p none = false
is_opening_lem p (some end) = false
is_opening_lem p (some (static_event a s)) = false
is_opening_lem p (some (named_event a n)) = false
is_opening_lem p (some (sequence a b)) = false
is_opening_lem p (some (choice a b)) = false
is_opening_lem p (some (loop a)) = false
is_opening_lem p (some (back a)) = false
is_opening_lem p (some (fresh n b)) = false
is_opening_lem p (some (sandbox s b)) = eqb s p

-- some node of the flat table is one
unfoldable pub opens : List ℕ → ℕ → Bool
opens t p = some_below (λ k. is_opening_lem p (forms_in t k)) (length t / node_fields)

-- some edge of the flat table is of policy p
unfoldable pub has_edge_lem : List ℕ → ℕ → Bool
has_edge_lem t p = some_below (λ i. eqb (get_or t (edge_fields * i) 0) p) (length t / edge_fields)

-- some edge of policy p in the flat table is on the second resource (on 3)
unfoldable pub pair_in : List ℕ → ℕ → Bool
pair_in t p = some_below (λ i. eqb (get_or t (edge_fields * i) 0) p && eqb (get_or t (edge_fields * i + 3) 0) 3) (length t / edge_fields)

-- r tells whether a policy that needs a search is a pair policy
abbrev pub SoughtOf : List ℕ → List ℕ → ℕ → Maybe Bool → Type 0
SoughtOf edges nodes p None = (opens nodes p ≡ false) ⊎ (has_edge_lem edges p ≡ false)
SoughtOf edges nodes p (Some pair) = pair ≡ pair_in edges p

-- ── The lowest policy that was found ──

-- "The check accepts, or refuses with the lowest policy"
abbrev pub policy_verdict : Maybe ℕ → Verdict
policy_verdict None = allowed
policy_verdict (Some p) = violated p

-- ── Choices of watched resources that need no search: a static one that no event is on is among them ──

abbrev pub worth_of : List ℕ → Resources → Bool
worth_of nodes x = touched nodes x.first && touched nodes x.second

-- ── The marks of a policy ──

-- those with the resources x watched
abbrev pub MarkedIn : List ℕ → Bool → List ℕ → ℕ → Resources → ℕ → Type 0
MarkedIn nodes local rows p x marks = MarkedWith local (rows_in rows) p x (length nodes / node_fields) (forms_in nodes) marks

-- a lent table once the numbers of all policies are written
pub record MarksWritten (local : Bool) (edges nodes t t' : List ℕ) : Type 0 where
  pub same_length : length t' ≡ length t
  pub written : (p : ℕ) → p < policies → MarksExact local (edges_of edges) (nodes_of nodes) p (get_or t' p 0)
  pub kept : drop policies t' ≡ drop policies t
