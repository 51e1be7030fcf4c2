-- The text of a policy sheet: "its own names line, single spaces, no leading zeros" (02, L12).
use Rattle.std.specs.Prelude.{ℕ, Bool}
use mathlib.Core.List.{List, ◌++◌, map, flatten}
use Rattle.usage.specs.declared.Edge.{Edge}
use Rattle.sheet_lines.specs.Sheets.{policy_names_lem}
use Rattle.report_lines.specs.Lines.{values_line}
use Rattle.sheet_writer.specs.Order.{edge_values, earlier, sorted}

unfoldable pub edge_text : Edge → List ℕ
edge_text e = values_line (edge_values e)

unfoldable pub edges_text : List Edge → List ℕ
edges_text es = flatten (map edge_text es)

-- the one sheet of a set of edges; which past they see, its names line says
unfoldable pub sheet_text : Bool → List Edge → List ℕ
sheet_text local es = policy_names_lem local ++ edges_text (sorted earlier es)
