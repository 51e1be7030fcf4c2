-- What reading an outline typed as an expression gives (02, L13).
use Rattle.std.specs.Prelude.{ℕ, ◌<◌, ◌≤◌, cond, ltb, length}
use Rattle.std.proofs.Math.Option.{Option, none, some}
use mathlib.Core.List.{List, [], ◌∷◌, map, Memᴰ}
use Rattle.usage.specs.declared.Node.{Node}
use Rattle.usage.specs.Limits.{most_nodes, node_places, longest_sheet}
use Rattle.usage.specs.Answers.{Refusal}
use Rattle.usage.specs.Valid.{NodeOk, BackOk, NameOk, All, Lowest}
use Rattle.usage.specs.Tests.{every, node_ok, ruled}
use Rattle.sheet_lines.specs.Sheet.{Result, accepted, refuse_at}
use Rattle.sheet_reader.specs.Readers.{roomy}
use Rattle.sheet_grammar.specs.Tree.{Tree}
use Rattle.sheet_grammar.specs.Grammar.{ExpressionLine, most_nested}
use Rattle.sheet_grammar.specs.Outcome.{Out, ok, bad, Outcome}
use Rattle.sheet_grammar.specs.Nodes.{tree_size, tree_nodes}
use Rattle.sheet_grammar.specs.Reader.{line_of}

-- "get the node table": the values that a node has in it, as on the line of an outline sheet after its number
abbrev pub node_row : Node → List ℕ
node_row n = n.kind ∷ n.a ∷ n.b ∷ []

abbrev pub table_rows : List Node → List (List ℕ)
table_rows ns = map node_row ns

-- every node is in the ranges of its kind
abbrev pub NodesOk : List Node → Type 0
NodesOk ns = (n : Node) → Memᴰ n ns → NodeOk n

-- ── To be read ──

-- a line of the grammar within the limits: not refused by 5, 15, 16 or 17
pub record FewNodes (text : List ℕ) (t : Tree) : Type 0 where
  pub short : length text ≤ longest_sheet
  pub is_line : ExpressionLine most_nested text t
  pub few : tree_size t ≤ most_nodes

-- "Exactly the lines of this grammar are read, those that 5, 16, 17, 3, 7 or 8 refuses apart": "5 comes first, with line 0; 15, 16 and 17
-- have line 1; then 15 .., or 16 ..; then 17 more than 64 nodes; then 3, 7 and 8 as for a sheet, with line 1."
pub data ReadAs (text : List ℕ) : Result → Type 0 where
  too_long : longest_sheet < length text → ReadAs text (refuse_at 0 5)
  no_line : {c i : ℕ} → length text ≤ longest_sheet → Outcome most_nested text (bad c i) → ReadAs text (refuse_at 1 c)
  too_many : {t : Tree} → length text ≤ longest_sheet → ExpressionLine most_nested text t → most_nodes < tree_size t
      → ReadAs text (refuse_at 1 17)
  bad_field : {t : Tree} {n : Node} → FewNodes text t → Memᴰ n (tree_nodes t) → (NodeOk n → ⊥) → ReadAs text (refuse_at 1 3)
  bad_back : {t : Tree} {k : ℕ} → FewNodes text t → NodesOk (tree_nodes t) → Lowest (tree_nodes t) (BackOk (tree_nodes t)) k
      → ReadAs text (refuse_at 1 7)
  bad_name : {t : Tree} {k : ℕ} → FewNodes text t → NodesOk (tree_nodes t) → All (tree_nodes t) (BackOk (tree_nodes t))
      → Lowest (tree_nodes t) (NameOk (tree_nodes t)) k → ReadAs text (refuse_at 1 8)
  is_read : {t : Tree} → FewNodes text t → NodesOk (tree_nodes t) → All (tree_nodes t) (BackOk (tree_nodes t))
      → All (tree_nodes t) (NameOk (tree_nodes t)) → ReadAs text (accepted (table_rows (tree_nodes t)))

-- ── To be computed ──

abbrev pub by_rule : Option Refusal → List Node → Result
by_rule none ns = accepted (table_rows ns)
by_rule (some r) ns = refuse_at 1 r.number

abbrev pub by_nodes : List Node → Result
by_nodes ns = cond (every node_ok ns) (by_rule (ruled ns) ns) (refuse_at 1 3)

abbrev pub by_line : Out → Result
by_line (bad c i) = refuse_at 1 c
by_line (ok t e) = cond (ltb most_nodes (tree_size t)) (refuse_at 1 17) (by_nodes (tree_nodes t))

unfoldable pub expression_of : List ℕ → Result
expression_of text = cond (ltb longest_sheet (length text)) (refuse_at 0 5) (by_line (line_of most_nested text))

-- into a table of so many places: 40 before all others, as for a sheet
unfoldable pub expression_into : ℕ → List ℕ → Result
expression_into places text = roomy places node_places (expression_of text)
