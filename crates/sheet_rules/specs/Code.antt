-- What only the functions compute: the fields of a node in a flat table, and the rules of a node (refusals 6, 7, 8).
use Rattle.std.specs.Prelude.{ℕ, ◌+◌, ◌*◌, Bool, true, false, cond, List, ◌∷◌, eqb, get_or}
use Rattle.std.proofs.Math.Option.{Option, none, some}
use Rattle.usage.specs.Limits.{node_fields}

-- x at the front where it is a child number
abbrev pub child_if : Bool → ℕ → List ℕ → List ℕ
child_if true x l = x ∷ l
child_if false x l = l

-- a field of node k, where the node is of that kind
abbrev pub field_of : List ℕ → ℕ → ℕ → ℕ → Option ℕ
field_of t k kind field = cond (eqb (get_or t (node_fields * k) 0) kind) (some (get_or t (node_fields * k + field) 0)) none

-- no node was found
abbrev pub is_nothing : Option ℕ → Bool
is_nothing (some k) = false
is_nothing none = true
