-- Laws of what the program that reads an expression prints.
use Prim.Native.Nat.{ℕ, zero, suc, ◌+◌, ◌-◌, ◌*◌, ◌/◌, ◌<◌, ◌≤◌}
use mathlib.Core.Path.{◌≡◌, refl, ap, ◌∙◌}
use mathlib.Core.List.{List, [], ◌∷◌, ◌++◌, flatten, Memᴰ}
use native.Mathlib.Omega.{arith}
use native.Mathlib.Numerals.{add-one}
use native.Mathlib.Nat.{sub-zero}
use lib.ListN.{length, get_elem?, take, length-append}
use borrow.Author.Tests.{le-ltb}
use Rattle.usage.specs.declared.Node.{Node}
use Rattle.usage.specs.Limits.{most_nodes, node_fields, fit}
use Rattle.usage.specs.Outline.{node_kinds}
use Rattle.usage.specs.Valid.{NodeOk}
use Rattle.usage.specs.Tables.{from, node_at_lem, nodes_of, NodeTable}
use Rattle.sheet_lines.specs.Sheet.{refused}
use Rattle.sheet_expression.specs.Expression.{expression_of}
use Rattle.sheet_expression.proofs.AnswerLaws.{HoldsTree, expression-low}
use Rattle.sheet_expression.proofs.TableLaws.{expression-table}
use Rattle.report_lines.specs.Lines.{names_line, row}
use Rattle.report_lines.proofs.RowLaws.{row-nine, numbered-eleven}
use Rattle.report.specs.Output.{fronted, length_put, put}
use Rattle.report.specs.Expression.{numbered_node, numbered_nodes, outline_text, nodes_printed, expression_printed, longest_node_row}
use Rattle.report.specs.Expression.{expression_room}
use Rattle.report.proofs.OutputLaws.{Printed}

-- ── The lines of nodes ──

-- of the nodes of a table from i on
abbrev pub nodes_left : List ℕ → ℕ → List ℕ
nodes_left t i = numbered_nodes i (from (node_at_lem t) i (length t / node_fields - i))

module _ (t : List ℕ) where
  pub all-nodes-left : numbered_nodes 0 (nodes_of t) ≡ nodes_left t 0
  unfolding nodes_of
  all-nodes-left = let e : length t / node_fields - 0 ≡ length t / node_fields = omega arith in rw e

  pub no-node-left : (i : ℕ) → length t / node_fields ≤ i → nodes_left t i ≡ []
  unfolding numbered_nodes from
  no-node-left i h = let e : length t / node_fields - i ≡ 0 = omega arith in rw e

  pub next-node-left : (i : ℕ) (n : Node) → n ≡ node_at_lem t i → i < length t / node_fields
      → nodes_left t i ≡ numbered_node i n ++ nodes_left t (i + 1)
  unfolding numbered_nodes from
  next-node-left i n e h =
      let k : length t / node_fields - i ≡ suc (length t / node_fields - (i + 1)) = omega arith in rw (e, k, add-one i)

-- ── The room ──

-- the numbers of a node are small
pub record Small (n : Node) : Type 0 where
  pub kind : n.kind < 10
  pub a : n.a < 100
  pub b : n.b < 100

small_by : (k a b : ℕ) → fit (get_elem? node_kinds k) a b → (k < 10) × ((a < 100) × (b < 100))
small_by zero a b (x, y) = let h = x.most in let g = y.most in (omega arith, (omega arith, omega arith))
small_by (suc zero) a b (x, y) = let h = x.most in let g = y.most in (omega arith, (omega arith, omega arith))
small_by (suc (suc zero)) a b (x, y) = let h = x.most in let g = y.most in (omega arith, (omega arith, omega arith))
small_by (suc (suc (suc zero))) a b (x, y) = let h = x.most in let g = y.most in (omega arith, (omega arith, omega arith))
small_by (suc (suc (suc (suc zero)))) a b (x, y) = let h = x.most in let g = y.most in (omega arith, (omega arith, omega arith))
small_by (suc (suc (suc (suc (suc zero))))) a b (x, y) = let h = x.most in let g = y.most in (omega arith, (omega arith, omega arith))
small_by (suc (suc (suc (suc (suc (suc zero)))))) a b (x, y) =
    let h = x.most in let g = y.most in (omega arith, (omega arith, omega arith))
small_by (suc (suc (suc (suc (suc (suc (suc zero))))))) a b (x, y) =
    let h = x.most in let g = y.most in (omega arith, (omega arith, omega arith))
small_by (suc (suc (suc (suc (suc (suc (suc (suc zero)))))))) a b (x, y) =
    let h = x.most in let g = y.most in (omega arith, (omega arith, omega arith))
small_by (suc (suc (suc (suc (suc (suc (suc (suc (suc k))))))))) a b f = absurd f

pub node-small : (n : Node) → NodeOk n → Small n
unfolding NodeOk
node-small n h = let z = small_by n.kind n.a n.b h in record { kind = z.0; a = z.1.0; b = z.1.1 }

pub nodes-short : (k : ℕ) (ns : List Node) → k + length ns ≤ most_nodes → ((n : Node) → Memᴰ n ns → NodeOk n)
    → length (numbered_nodes k ns) ≤ length ns * longest_node_row
unfolding numbered_nodes
nodes-short k [] h f = omega arith
nodes-short k (n ∷ ns) h f =
    let s = node-small n (f n (Memᴰ.head refl)) in
    let l = numbered-eleven k n.kind n.a n.b (omega arith) s.kind s.a s.b in
    let m = nodes-short (suc k) ns (omega arith) (λ x p. f x (Memᴰ.tail p)) in
    omega (arith, length-append (numbered_node k n) (numbered_nodes (suc k) ns))

table-short : (t : List ℕ) → NodeTable t → length (numbered_nodes 0 (nodes_of t)) ≤ most_nodes * longest_node_row
table-short t v =
    let f = v.outline.few in
    let l = nodes-short 0 (nodes_of t) (omega arith) v.outline.fields in
    omega arith

module _ (text table : List ℕ) (n : ℕ) (h : HoldsTree text table n) where
  held-flat : take (n * node_fields - 0) table ≡ flatten h.rows
  held-flat = ap (λ (k : ℕ). take k table) (sub-zero (n * node_fields)) ∙ h.flat

  pub held-short : length (numbered_nodes 0 (nodes_of (take (n * node_fields - 0) table))) ≤ most_nodes * longest_node_row
  held-short = rw held-flat (table-short (flatten h.rows) (expression-table text h.rows h.result))

  -- ── The whole output ──

  pub printed-nodes : (buffer : List ℕ) {r : ℕ} {after : List ℕ} → expression_room ≤ length buffer
      → r ≡ length (outline_text (nodes_of (take (n * node_fields - 0) table)))
      → after ≡ fronted buffer (outline_text (nodes_of (take (n * node_fields - 0) table)))
      → Printed expression_room buffer (expression_printed text) r after
  unfolding length_put put nodes_printed
  printed-nodes buffer l er eo =
      rw (le-ltb (length buffer) expression_room l, h.result) (rw held-flat at er, rw held-flat at eo)

module _ (text : List ℕ) (line number : ℕ) (e : expression_of text ≡ refused record { line = line; number = number }) where
  pub refused-short : length (row line 5 number) ≤ 9
  refused-short =
      let l = expression-low text record { line = line; number = number } e in
      let a = l.0 in
      let b = l.1 in
      row-nine line 5 number (omega arith) (omega arith) (omega arith)

  pub printed-refusal : (buffer : List ℕ) {r : ℕ} {after : List ℕ} → expression_room ≤ length buffer
      → (r ≡ length (names_line ++ row line 5 number)) × (after ≡ fronted buffer (names_line ++ row line 5 number))
      → Printed expression_room buffer (expression_printed text) r after
  unfolding length_put put nodes_printed
  printed-refusal buffer l (er, eo) = rw (le-ltb (length buffer) expression_room l, e) (er, eo)
