-- What only the functions behind the readers compute: which values of the buffer are stored.
use Rattle.std.specs.Prelude.{ℕ, ◌+◌, ◌*◌, ◌/◌, List, get_or}
use Rattle.usage.specs.Limits.{node_fields, edge_places, node_places, step_places}
use Rattle.usage.specs.Tables.{from}
use Rattle.sheet_fields.specs.declared.Kind.{Kind}
use Rattle.sheet_fields.specs.declared.Kind.TheVariants.{Policies, Trace, Outline}
use Rattle.sheet_fields.specs.Fields.{node_line_fields}

-- how many places the largest sheet fills
abbrev pub needed : Kind → ℕ
needed (Policies local) = edge_places
needed Trace = step_places
needed Outline = node_places

-- where the value that is stored at i stands: of edges all are stored, of a node's line its number or the others
abbrev pub edge_place : ℕ → ℕ
edge_place i = i

abbrev pub number_place : ℕ → ℕ
number_place i = i * node_line_fields

abbrev pub node_place : ℕ → ℕ
node_place i = i + i / node_fields + 1

-- the first m values that are stored
abbrev pub picked : (ℕ → ℕ) → List ℕ → ℕ → List ℕ
picked place values m = from (λ i. get_or values (place i) 0) 0 m
