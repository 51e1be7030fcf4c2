-- The ranges of a kind as the functions hold them.
use Rattle.std.specs.Prelude.{ℕ, zero, suc, ◌+◌, ◌-◌, ◌*◌, min, Bool, false, ◌&&◌, cond, Option, None, Some, List, [], ◌∷◌, ◌++◌, get_or}
use Rattle.std.proofs.Math.Option as math
use Rattle.std.specs.Int.Bits.{bit_and, bit_or}
use Rattle.usage.specs.declared.Edge.{Edge}
use Rattle.usage.specs.Limits.{policies, states, actions, statics, edge_fields, Kind, ◌to◌, within}
use Rattle.usage.specs.Tests.{every, edge_ok}
use Rattle.usage.specs.Tables.{from, edge_at}
use Rattle.automaton.specs.PairSet.{pair_set, with_edge}
use Rattle.sheet_fields.specs.declared.Span.{Span}
use Rattle.sheet_fields.specs.declared.Spans.{Spans}

abbrev pub spans_of : {A : Type 0} → math.Option (Kind A) → Option Spans
spans_of math.none = None
spans_of (math.some k) = Some (record { a = record { least = k.a.least; most = k.a.most }; b = record { least = k.b.least; most = k.b.most } })

abbrev pub in_span : Span → ℕ → Bool
in_span s v = within (s.least to s.most) v

abbrev pub in_spans : Option Spans → ℕ → ℕ → Bool
in_spans None a b = false
in_spans (Some s) a b = in_span s.a a && in_span s.b b

-- ── Edges tested one after the other ──

-- which policies of these edges are pair policies, where each edge is in range; and with one more
unfoldable pub tested : List Edge → Option ℕ
tested es = cond (every edge_ok es) (Some (pair_set es)) None

abbrev pub tested_with : Option ℕ → Edge → Option ℕ
tested_with None e = None
tested_with (Some m) e = cond (edge_ok e) (Some (with_edge m e)) None

-- of the first n edges of a table
abbrev pub tested_in : List ℕ → ℕ → Option ℕ
tested_in t n = tested (from (edge_at t) 0 n)

-- ── Edges tested eight at a time ──

-- a block's edges, and its bytes
abbrev pub block_edges : ℕ
block_edges = 8

abbrev pub block_bytes : ℕ
block_bytes = block_edges * edge_fields

-- a list so many times
unfoldable pub repeated : ℕ → List ℕ → List ℕ
repeated zero l = []
repeated (suc n) l = l ++ repeated n l

-- the highest number of each field of an edge, 2 for `on`; and all bits at `on`, which is 0 or the next field, `who`, is
abbrev pub field_most : List ℕ
field_most = (policies - 1) ∷ (states - 1) ∷ (actions - 1) ∷ 2 ∷ (statics - 1) ∷ (states - 1) ∷ []

abbrev pub field_paired : List ℕ
field_paired = 0 ∷ 0 ∷ 0 ∷ 255 ∷ 0 ∷ 0 ∷ []

-- What is wrong with a byte x of an edge, y being the next one: how far it is above m, the highest number of its field; and where the
-- mask has all bits, the lesser of the two, one of which must be 0. Nothing is wrong where this is 0.
abbrev pub byte_fault : ℕ → ℕ → ℕ → ℕ → ℕ
byte_fault x y m mask = bit_or (x - m) (bit_and (min x y) mask)

-- that of byte j of the block from place k on
abbrev pub fault_at : List ℕ → ℕ → List ℕ → List ℕ → ℕ → ℕ
fault_at t k most masks j = byte_fault (get_or t (k + j) 0) (get_or t (k + j + 1) 0) (get_or most j 0) (get_or masks j 0)

-- those of the first n bytes, joined
unfoldable pub faults : List ℕ → ℕ → List ℕ → List ℕ → ℕ → ℕ
faults t k most masks zero = 0
faults t k most masks (suc n) = bit_or (faults t k most masks n) (fault_at t k most masks n)
