-- What a node of a flat table says.
use Prim.Native.Nat.{ℕ, zero, suc, ◌/◌, ◌<◌, ◌≤◌}
use mathlib.Core.Path.{◌≡◌, refl, sym, ap}
use mathlib.Core.Option.{Option, none}
use mathlib.Core.List.{List, [], ◌∷◌}
use lib.ListN.{length, get_elem?}
use Rattle.std.specs.Prelude.{Option as Maybe, Some, None}
use Rattle.usage.specs.declared.Node.{Node}
use native.Mathlib.Nat.{le_of_suc-le-suc, not-suc-le-zero}
use Rattle.usage.specs.Limits.{node_fields, said, Kind}
use Rattle.usage.specs.Outline.{Form, node_kinds, form_of, form_in, form_at}
use Rattle.usage.specs.Tables.{node_at_lem, nodes_of}
use denote.Enum.Declared.{tag_of}
use Rattle.outline_nodes.specs.declared.NodeForm.{NodeForm}
use Rattle.outline_nodes.specs.Said.{said_by, said_if}
use Rattle.outline_nodes.specs.contracts.NodeForm.{the_type}
use Rattle.usage.proofs.TableLaws.{nodes-at, nodes-past}

module _ (t : List ℕ) (k : ℕ) where
  pub form-at : k < length t / node_fields → form_at (nodes_of t) k ≡ form_of (node_at_lem t k)
  form-at h = ap form_in (nodes-at t k h)

  pub form-past : length t / node_fields ≤ k → form_at (nodes_of t) k ≡ none
  form-past h = ap form_in (nodes-past t k h)

-- by the number of its kind
pub form-by : (n : Node) (k : ℕ) → n.kind ≡ k → said (get_elem? node_kinds k) n.a n.b ≡ form_of n
unfolding form_of
form-by n k e = sym (ap (λ (j : ℕ). said (get_elem? node_kinds j) n.a n.b) e)

past : (ks : List (Kind Form)) (k : ℕ) → length ks ≤ k → get_elem? ks k ≡ none
past [] k h = refl
past (x ∷ ks) zero h = absurd (not-suc-le-zero h)
past (x ∷ ks) (suc k) h = past ks k (le_of_suc-le-suc h)

-- a kind above 8 says nothing
pub no-form : (n : Node) → 8 < n.kind → form_of n ≡ none
unfolding form_of
no-form n h = ap (λ (o : Option (Kind Form)). said o n.a n.b) (past node_kinds n.kind h)

-- ── A match ──

-- what is said by a node that has a form, and by one that has none
pub said-some : {o : Maybe NodeForm} {f : NodeForm} → o ≡ Some f → said_if o ≡ said_by f
said-some e = ap said_if e

pub said-none : (o : Maybe NodeForm) → ((f : NodeForm) → o ≡ Some f → ⊥) → said_if o ≡ none
said-none None h = refl
said-none (Some f) h = absurd (h f refl)

-- the variants by their places
abbrev pub tag : NodeForm → ℕ
tag f = tag_of the_type f
