-- The three sheets.
use Rattle.std.specs.Prelude.{ℕ, Bool, true, false, not, List, map}
use Rattle.usage.specs.Limits.{most_edges, most_steps, most_nodes, edge_fields, step_fields}
use Rattle.usage.specs.Tests.{three_pairs}
use Rattle.sheet_fields.specs.declared.Kind.{Kind}
use Rattle.sheet_fields.specs.declared.Kind.TheVariants.{Policies, Trace, Outline}
use Rattle.sheet_fields.specs.Fields.{edge_of, edge_line_lem, step_line_lem, node_line_lem, node_line_fields}
use Rattle.sheet_lines.specs.Bytes.{bytes}
use Rattle.sheet_lines.specs.Sheet.{Sheet, starts_with}

-- The names line says which past the policies see: "A policy sheet whose names line is `local from action on who to` has this meaning
-- for all its policies", that of their sandbox; "Older sheets keep the whole past" (02, L7).
abbrev pub policy_names_lem : Bool → List ℕ
policy_names_lem true = bytes "local from action on who to\n"
policy_names_lem false = bytes "policy from action on who to\n"

-- "At most two policies may be such" (02, L10): of the edges of these lines
abbrev pub has_few_pairs : List (List ℕ) → Bool
has_few_pairs rows = not (three_pairs (map edge_of rows))

-- "`policy from action on who to`, at most 256 value lines". Nothing but the names line differs.
abbrev pub policy_sheet : Bool → Sheet
policy_sheet local =
    record { names = policy_names_lem local; most = most_edges; fields = edge_fields; in_range_lem = edge_line_lem; together = has_few_pairs }

-- whether a text is a sheet of local policies
unfoldable pub is_local : List ℕ → Bool
is_local text = starts_with (policy_names_lem true) text

-- "`kind a b`, at most 2,000 value lines"
abbrev pub trace_sheet : Sheet
trace_sheet = record { names = bytes "kind a b\n"; most = most_steps; fields = step_fields; in_range_lem = step_line_lem; together = λ rows. true }

-- "`node kind a b`, nodes 0, 1, 2 and on in order"
abbrev pub outline_sheet : Sheet
outline_sheet =
    record { names = bytes "node kind a b\n"; most = most_nodes; fields = node_line_fields; in_range_lem = node_line_lem; together = λ rows. true }

-- by their names in the code
abbrev pub sheet_of : Kind → Sheet
sheet_of (Policies local) = policy_sheet local
sheet_of Trace = trace_sheet
sheet_of Outline = outline_sheet
