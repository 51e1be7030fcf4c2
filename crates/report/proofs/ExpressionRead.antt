-- What is printed of an accepted expression is an outline sheet, and reading it gives the table that reading the expression gives.
use Prim.Native.Nat.{ℕ, zero, suc, ◌+◌, ◌<◌, ◌≤◌}
use mathlib.Core.Path.{◌≡◌, refl, sym, ap, ◌∙◌}
use mathlib.Core.Bool.{true}
use mathlib.Core.Option.{none}
use mathlib.Core.List.{List, [], ◌∷◌, ◌++◌, map, tail, flatten, append_assoc, Memᴰ}
use native.Mathlib.Omega.{arith}
use lib.Dec.{ltb}
use lib.ListN.{length, length-append}
use borrow.Author.Tests.{lt-ltb}
use Rattle.usage.specs.declared.Node.{Node}
use Rattle.usage.specs.Limits.{most_nodes}
use Rattle.usage.specs.Valid.{NodeOk}
use Rattle.usage.specs.Tests.{node_ok, ruled_sheet}
use Rattle.usage.specs.Tables.{from, nodes_of}
use Rattle.usage.proofs.Logic.{and_both}
use Rattle.usage.proofs.ValidLaws.{decides-node}
use Rattle.usage.proofs.RuledLaws.{decides-shaped}
use Rattle.sheet_fields.specs.Fields.{node_line_lem}
use Rattle.sheet_bytes.specs.Class.{class_of}
use Rattle.sheet_bytes.specs.Code.{value_limit}
use Rattle.sheet_bytes.specs.Line.{lines_of}
use Rattle.sheet_bytes.specs.Grammar.{one_space, Values, next_value}
use Rattle.sheet_bytes.proofs.FaultLaws.{decides-values}
use Rattle.sheet_lines.specs.Sheet.{Result, accepted, followed, value_lines, sheet}
use Rattle.sheet_lines.specs.Sheets.{outline_sheet}
use Rattle.sheet_lines.proofs.ScanLaws.{fed}
use Rattle.sheet_reader.specs.Readers.{ruled_result, ruled_rows}
use Rattle.sheet_reader.proofs.WrittenLaws.{nothing_left, names-read}
use Rattle.sheet_reader.proofs.OutlineLaws.{first}
use Rattle.sheet_reader.proofs.Converse.{places-ruled}
use Rattle.sheet_grammar.specs.Nodes.{tree_nodes}
use Rattle.sheet_expression.specs.Expression.{node_row, table_rows, expression_of}
use Rattle.sheet_expression.proofs.ExpressionLaws.{Accepted, accepted-line}
use Rattle.sheet_expression.proofs.TableLaws.{rows-nodes}
use Rattle.report_lines.specs.Decimal.{decimal}
use Rattle.report_lines.specs.Lines.{node_names_line, field, row, numbered_row_lem}
use Rattle.report_lines.proofs.RowLaws.{length-node-names}
use Rattle.report.specs.Expression.{numbered_node, numbered_nodes, outline_text, nodes_printed, expression_printed}
use Rattle.sheet_writer.proofs.FieldLaws.{decimal-value, space-line}
use Rattle.report.proofs.CounterexampleRead.{three_bytes, row_line, three-values}
use Rattle.report.proofs.ExpressionLaws.{node-small, nodes-short}

-- ── A printed node is one line ──

-- the bytes of a line of four numbers
abbrev four_bytes : ℕ → ℕ → ℕ → ℕ → List ℕ
four_bytes n a b c = decimal n ++ (32 ∷ three_bytes a b c)

numbered-line : (n a b c : ℕ) → n < value_limit → a < value_limit → b < value_limit → c < value_limit → (bs : List ℕ)
    → lines_of (numbered_row_lem n a b c ++ bs) ≡ fed (four_bytes n a b c) ∷ lines_of bs
unfolding numbered_row_lem
numbered-line n a b c hn ha hb hc bs =
    ap lines_of (append_assoc (field n 32) (row a b c) bs)
    ∙ space-line n hn (row a b c ++ bs) (three_bytes a b c) (lines_of bs) (row_line a b c ha hb hc bs)

four-values : (n a b c : ℕ) → n < value_limit → a < value_limit → b < value_limit → c < value_limit → Values (n ∷ a ∷ b ∷ c ∷ []) (four_bytes n a b c)
unfolding class_of
four-values n a b c hn ha hb hc = next_value (decimal-value n hn) (one_space 32 refl) (three-values a b c ha hb hc)

-- ── The lines of an outline sheet ──

-- the values of the lines of nodes that are numbered from k on
unfoldable line_values : ℕ → List Node → List (List ℕ)
line_values k [] = []
line_values k (n ∷ ns) = (k ∷ node_row n) ∷ line_values (suc k) ns

values-tails : (k : ℕ) (ns : List Node) → map tail (line_values k ns) ≡ table_rows ns
unfolding line_values
values-tails k [] = refl
values-tails k (n ∷ ns) = ap (λ (l : List (List ℕ)). node_row n ∷ l) (values-tails (suc k) ns)

values-numbers : (k : ℕ) (ns : List Node) → map first (line_values k ns) ≡ from (λ i. i) k (length ns)
unfolding line_values from
values-numbers k [] = refl
values-numbers k (n ∷ ns) = ap (λ (l : List ℕ). k ∷ l) (values-numbers (suc k) ns)

node-read : (line left k : ℕ) (n : Node) (bs : List ℕ) → k < most_nodes → NodeOk n
    → value_lines outline_sheet line (suc left) (lines_of (numbered_node k n ++ bs))
    ≡ followed (k ∷ node_row n) (value_lines outline_sheet (suc line) left (lines_of bs))
unfolding value_lines
node-read line left k n bs l h =
    let s = node-small n h in
    let x = s.kind in
    let y = s.a in
    let z = s.b in
    let w = (decides-values outline_sheet.fields (fed (four_bytes k n.kind n.a n.b)) (k ∷ node_row n)).1 record {
      is_ended = refl;
      has = four-values k n.kind n.a n.b (omega arith) (omega arith) (omega arith) (omega arith);
      all_fields = refl;
    } in
    let ranged : node_line_lem (k ∷ node_row n) ≡ true = and_both (ltb k most_nodes) (node_ok n) (lt-ltb k most_nodes l) ((decides-node n).1 h) in
    ap (value_lines outline_sheet line (suc left))
    (numbered-line k n.kind n.a n.b (omega arith) (omega arith) (omega arith) (omega arith) bs) ∙ rw (w, ranged) refl

nodes-read : (line left k : ℕ) (ns : List Node) → length ns ≤ left → k + length ns ≤ most_nodes
    → ((n : Node) → Memᴰ n ns → NodeOk n)
    → value_lines outline_sheet line left (lines_of (numbered_nodes k ns)) ≡ accepted (line_values k ns)
unfolding numbered_nodes line_values
nodes-read line left k [] few l f = nothing_left outline_sheet line left
nodes-read line zero k (n ∷ ns) few l f = absurd (omega arith)
nodes-read line (suc left) k (n ∷ ns) few l f =
    node-read line left k n (numbered_nodes (suc k) ns) (omega arith) (f n (Memᴰ.head refl))
    ∙ ap (followed (k ∷ node_row n)) (nodes-read (suc line) left (suc k) ns (omega arith) (omega arith) (λ x p. f x (Memᴰ.tail p)))

-- ── The whole sheet ──

module _ (text : List ℕ) (rows : List (List ℕ)) (e : expression_of text ≡ accepted rows) where
  sheet-read : (a : Accepted text rows)
      → sheet outline_sheet (outline_text (tree_nodes a.tree)) ≡ accepted (line_values 0 (tree_nodes a.tree))
  unfolding outline_text node_names_line
  sheet-read a =
      let ns = tree_nodes a.tree in
      let few = a.outline.few in
      let short = nodes-short 0 ns (omega arith) a.outline.fields in
      let m = length-node-names in
      names-read outline_sheet (numbered_nodes 0 ns) (omega (arith, length-append node_names_line (numbered_nodes 0 ns)))
      ∙ nodes-read 2 most_nodes 0 ns (omega arith) (omega arith) a.outline.fields

  -- reading the printed sheet gives the table that reading the expression gives
  pub expression-printed-read : ruled_result (sheet outline_sheet (expression_printed text)) ≡ accepted rows
  unfolding nodes_printed ruled_result
  expression-printed-read =
      let a = accepted-line text rows e in
      let ns = tree_nodes a.tree in
      let is : nodes_of (flatten rows) ≡ ns = ap (λ (r : List (List ℕ)). nodes_of (flatten r)) a.rows_are ∙ rows-nodes ns in
      let tails : map tail (line_values 0 ns) ≡ rows = values-tails 0 ns ∙ sym a.rows_are in
      let clean : ruled_sheet (map first (line_values 0 ns)) (nodes_of (flatten (map tail (line_values 0 ns)))) ≡ none =
      rw (values-numbers 0 ns, tails, is) (places-ruled (length ns) ns refl ((decides-shaped ns).1 a.outline.shaped)) in
      ap (λ (r : Result). ruled_result (sheet outline_sheet (nodes_printed r))) e
      ∙ ap (λ (l : List Node). ruled_result (sheet outline_sheet (outline_text l))) is
      ∙ ap ruled_result (sheet-read a)
      ∙ ap (λ o. ruled_rows o (line_values 0 ns)) clean
      ∙ ap (λ (r : List (List ℕ)). accepted r) tails
