-- The flat table of a list of edges.
use Rattle.std.specs.Prelude.{ℕ, List, [], ◌∷◌}
use Rattle.usage.specs.declared.Edge.{Edge}

-- "An edge is a record of policy, from, action, on, who, to": the flat table of the edges, six numbers to each
unfoldable pub flat : List Edge → List ℕ
flat [] = []
flat (e ∷ es) = e.policy ∷ e.from ∷ e.action ∷ e.on ∷ e.who ∷ e.to ∷ flat es
