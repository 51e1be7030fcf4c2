-- The values of one line of a sheet, and which are in the ranges of their fields (refusal 3).
use Rattle.std.specs.Prelude.{ℕ, suc, Bool, ◌&&◌, List, eqb, ltb, length, get_or}
use Rattle.std.proofs.Math.ListN.{get_elem?}
use Rattle.usage.specs.declared.Edge.{Edge}
use Rattle.usage.specs.declared.Node.{Node}
use Rattle.usage.specs.declared.RawStep.{RawStep}
use Rattle.usage.specs.Limits.{most_nodes, edge_fields, node_fields, step_fields}
use Rattle.usage.specs.Judge.{step_kinds}
use Rattle.usage.specs.Tests.{edge_ok, node_ok, fits}
use Rattle.usage.specs.Tables.{edge_at, step_at_lem}
use Rattle.sheet_fields.specs.declared.Kind.{Kind}
use Rattle.sheet_fields.specs.declared.Kind.TheVariants.{Policies, Trace, Outline}

-- "`policy from action on who to`"
abbrev pub edge_of : List ℕ → Edge
edge_of vs = edge_at vs 0

abbrev pub edge_line_lem : List ℕ → Bool
edge_line_lem vs = edge_ok (edge_of vs)

-- "`kind a b` ..: kind 0 event (action 0 to 31, resource ..), 1 open (policy 0 to 7, 0), 2 close (policy 0 to 7, 0)", each in its range
unfoldable pub step_ok : RawStep → Bool
step_ok s = fits (get_elem? step_kinds s.kind) s.a s.b

abbrev pub step_line_lem : List ℕ → Bool
step_line_lem vs = step_ok (step_at_lem vs 0)

-- "`node kind a b`"; "node, child and back numbers range over 0 to 63"
abbrev pub node_of : List ℕ → Node
node_of vs = record { kind = get_or vs 1 0; a = get_or vs 2 0; b = get_or vs 3 0 }

abbrev pub node_line_lem : List ℕ → Bool
node_line_lem vs = ltb (get_or vs 0 0) most_nodes && node_ok (node_of vs)

-- a node's line holds its number before the numbers of the record
abbrev pub node_line_fields : ℕ
node_line_fields = suc node_fields

-- as many values as the line has fields, each in its range
abbrev pub line_fits_lem : Kind → List ℕ → Bool
line_fits_lem (Policies local) vs = eqb (length vs) edge_fields && edge_line_lem vs
line_fits_lem Trace vs = eqb (length vs) step_fields && step_line_lem vs
line_fits_lem Outline vs = eqb (length vs) node_line_fields && node_line_lem vs
