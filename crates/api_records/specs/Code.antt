-- What the functions compute on the way from the records to the answer.
use Rattle.std.specs.Prelude.{ℕ, ◌+◌, ◌*◌, ◌<◌, ◌≤◌, ◌≡◌, List, [], ◌∷◌, length, set, take, replicate}
use Rattle.std.specs.Prelude.{Option as Maybe, Some, None}
use Rattle.usage.specs.declared.Edge.{Edge}
use Rattle.usage.specs.Limits.{most_edges, edge_fields, edge_places}
use Rattle.api_records.specs.declared.flat.Flat.{Flat}

-- ── The table of the records ──

-- the table of no record
unfoldable pub zeros : Flat
zeros = record { bytes = replicate edge_places 0; count = 0 }

-- six numbers stored from k on
abbrev pub record_stored : List ℕ → ℕ → Edge → List ℕ
record_stored t k e =
    set (set (set (set (set (set t k e.policy) (k + 1) e.from) (k + 2) e.action) (k + 3) e.on) (k + 4) e.who) (k + 5) e.to

-- the table with one record more
abbrev pub add_of : Flat → Edge → Flat
add_of f e = record { bytes = record_stored f.bytes (edge_fields * f.count) e; count = f.count + 1 }

-- the table with every record of the list, one after the other
unfoldable pub flat_of : Flat → List Edge → Flat
flat_of f [] = f
flat_of f (e ∷ es) = flat_of (add_of f e) es

-- the part of the table that holds records
abbrev pub flat_held : Flat → List ℕ
flat_held f = take (edge_fields * f.count) f.bytes

-- the table of the records; none where they are more than a sheet has
abbrev pub Flattened : List Edge → Maybe Flat → Type 0
Flattened es None = most_edges < length es
Flattened es (Some f) = (length es ≤ most_edges) × (f ≡ flat_of zeros es)
