-- What the program that reads an expression prints: its outline sheet, so that it can be handed to the second program at once.
use Rattle.std.specs.Prelude.{ℕ, suc, ◌+◌, ◌*◌}
use mathlib.Core.List.{List, [], ◌∷◌, ◌++◌, flatten}
use Rattle.usage.specs.declared.Node.{Node}
use Rattle.usage.specs.Limits.{most_nodes}
use Rattle.usage.specs.Tables.{nodes_of}
use Rattle.sheet_lines.specs.Sheet.{Result, accepted, refused}
use Rattle.sheet_expression.specs.Expression.{expression_of}
use Rattle.report_lines.specs.Lines.{names_line, node_names_line, node_names_room, numbered_row_lem, refusal_row}

-- a node as a line of an outline sheet: `node kind a b`
abbrev pub numbered_node : ℕ → Node → List ℕ
numbered_node k n = numbered_row_lem k n.kind n.a n.b

-- "nodes 0, 1, 2 and on in order"
unfoldable pub numbered_nodes : ℕ → List Node → List ℕ
numbered_nodes k [] = []
numbered_nodes k (n ∷ ns) = numbered_node k n ++ numbered_nodes (suc k) ns

unfoldable pub outline_text : List Node → List ℕ
outline_text ns = node_names_line ++ numbered_nodes 0 ns

-- a refused expression is printed as the second program prints a refused outline
unfoldable pub nodes_printed : Result → List ℕ
nodes_printed (accepted rows) = outline_text (nodes_of (flatten rows))
nodes_printed (refused r) = names_line ++ refusal_row 5 r

-- the whole output
abbrev pub expression_printed : List ℕ → List ℕ
expression_printed text = nodes_printed (expression_of text)

-- ── The lent buffer ──

-- the bytes of a node's line at most, as `61 4 62 63` and its line feed
abbrev pub longest_node_row : ℕ
longest_node_row = 11

abbrev pub expression_room : ℕ
expression_room = node_names_room + most_nodes * longest_node_row
