-- Every valid table of edges or nodes is what some accepted sheet gives.
use Prim.Native.Nat.{ℕ, zero, suc, ◌+◌, ◌*◌, ◌/◌, ◌<◌, ◌≤◌}
use mathlib.Core.Path.{◌≡◌, refl, sym, ap, ◌∙◌, fun_ext}
use mathlib.Core.Bool.{Bool, true, not, ◌&&◌}
use mathlib.Core.Option.{none}
use mathlib.Core.List.{List, ◌∷◌, ◌++◌, map, tail, flatten}
use native.Mathlib.Omega.{arith}
use native.Mathlib.Nat.{zero-add, add-zero, add-suc, suc-add, mul-suc}
use lib.Dec.{ltb}
use lib.ListN.{length, get_or, take, drop, length-take, length-drop, length-append, take-append-drop, drop_of_length-le}
use lib.Seq.{drop-drop}
use borrow.Author.Tests.{eq-eqb, lt-ltb}
use Rattle.usage.specs.declared.Edge.{Edge}
use Rattle.usage.specs.declared.Node.{Node}
use Rattle.usage.specs.Limits.{most_nodes, most_digits, longest_sheet, edge_fields, node_fields, edge_places, node_places}
use Rattle.usage.specs.Tests.{edge_ok, three_pairs, node_ok, tree_ok_lem, place_ok, is_some, ruled_by, ruled_sheet}
use Rattle.usage.specs.Tables.{from, edge_at, edges_of, node_at_lem, nodes_of, EdgeTable, NodeTable, is_edge_table, is_node_table}
use Rattle.usage.proofs.Logic.{and_both}
use Rattle.usage.proofs.ValidLaws.{decides-edge, decides-few, decides-node}
use Rattle.usage.proofs.RuledLaws.{decides-shaped}
use Rattle.usage.proofs.TableLaws.{length_from, get_elem-from, edges-length, nodes-length, edges-member, nodes-member, decides-edge-table}
use Rattle.usage.proofs.TableLaws.{decides-node-table}
use Rattle.sheet_fields.specs.Fields.{edge_of, node_line_lem, node_line_fields}
use Rattle.sheet_fields.proofs.RangeLaws.{cell, cell-first, edge-of-cells}
use Rattle.sheet_bytes.specs.Code.{value_limit}
use Rattle.sheet_lines.specs.Sheet.{Sheet, Result, accepted, sheet}
use Rattle.sheet_lines.specs.Sheets.{policy_sheet, is_local, outline_sheet}
use Rattle.sheet_lines.proofs.NamesLaws.{accepted-choice, names-short}
use Rattle.sheet_lines.proofs.AcceptLaws.{Together, Rows, no_row, row, flat-length}
use Rattle.sheet_lines.proofs.PairsLaws.{few-together}
use Rattle.sheet_reader.specs.Readers.{ruled_result, ruled_rows, policies_into, outline_into}
use Rattle.sheet_fields.proofs.BelowLaws.{Below, more-below, edge-below, node-below}
use Rattle.sheet_reader.proofs.OutlineLaws.{first}
use Rattle.sheet_reader.proofs.TableLaws.{ruled-kept}
use Rattle.sheet_reader.proofs.Written.{written, written-line}
use Rattle.sheet_reader.proofs.WrittenLaws.{RowsBelow, none_below, row_below, written_read, lines-length}

-- a sheet that gives the table
pub record Given (into : List ℕ → Result) (t : List ℕ) : Type 0 where
  pub text : List ℕ
  pub rows : List (List ℕ)
  pub accepts : into text ≡ accepted rows
  pub table : flatten rows ≡ t

-- ── A sheet of n lines ──

-- a line of a sheet, in range, whose values fit a byte
record LineOk (s : Sheet) (vs : List ℕ) : Type 0 where
  fields : length vs ≡ s.fields
  ranged : s.in_range_lem vs ≡ true
  small : Below 256 vs

module _ (s : Sheet) (line : ℕ → List ℕ) where
  record Good (i n : ℕ) : Type 0 where
    rows : Rows s (from line i n)
    small : RowsBelow value_limit (from line i n)

  rows-good : (n i : ℕ) → ((j : ℕ) → i ≤ j → j < i + n → LineOk s (line j)) → Good i n
  unfolding from
  rows-good zero i h = record { rows = no_row; small = none_below }
  rows-good (suc n) i h =
      let o = h i (omega arith) (omega arith) in
      let r = rows-good n (suc i) (λ j a b. h j (omega arith) (omega arith)) in
      record {
        rows =
            row o.fields o.ranged r.rows;
        small = row_below (more-below value_limit (omega arith) o.small) r.small;
      }

  -- the sheet that is written from n such lines is accepted with these lines
  lines-given : (n : ℕ) → 0 < s.fields → n ≤ s.most → length s.names + n * s.fields * suc most_digits ≤ longest_sheet
      → ((j : ℕ) → j < n → LineOk s (line j)) → Together s (from line 0 n)
      → sheet s (written s (from line 0 n)) ≡ accepted (from line 0 n)
  lines-given n f few short h together =
      let rows = from line 0 n in
      let g = rows-good n 0 (λ j a b. h j (omega arith)) in
      let count : length rows ≡ n = length_from line 0 n in
      let flat : length (flatten rows) ≡ n * s.fields = flat-length s g.rows ∙ ap (λ m. m * s.fields) count in
      let long = lines-length s f g.rows in
      written_read s rows f g.rows together g.small (omega arith)
      (omega (arith, length-append s.names (flatten (map written-line rows))))

-- ── Records of a table ──

-- record i of a table, w numbers to a record
abbrev part : ℕ → List ℕ → ℕ → List ℕ
part w t i = take w (drop (w * i) t)

parts-flat : (w : ℕ) (t : List ℕ) (n i : ℕ) → length t ≡ w * (i + n) → flatten (from (part w t) i n) ≡ drop (w * i) t
unfolding from flatten
parts-flat w t zero i h = let e : length t ≡ w * i = h ∙ ap (λ j. w * j) (add-zero i) in sym (drop_of_length-le t {i = w * i} (omega arith))
parts-flat w t (suc n) i h =
    ap (λ l. part w t i ++ l)
    (parts-flat w t n (suc i) (h ∙ ap (λ j. w * j) (add-suc i n ∙ sym (suc-add i n))) ∙ ap (λ m. drop m t) (mul-suc w i)
    ∙ sym (drop-drop w (w * i) t))
    ∙ take-append-drop w (drop (w * i) t)

pub map-from : {A B : Type 0} (g : A → B) (f : ℕ → A) (k n : ℕ) → map g (from f k n) ≡ from (λ i. g (f i)) k n
unfolding from
map-from g f k zero = refl
map-from {A} {B} g f k (suc n) = ap (λ (l : List B). g (f k) ∷ l) (map-from g f (suc k) n)

-- ── Edges ──

edge_row : (local : Bool) (t : List ℕ) → EdgeTable t → (i : ℕ)
    → i < length t / edge_fields → LineOk (policy_sheet local) (part edge_fields t i)
edge_row local t v i l =
    let w = v.whole in
    let k : length (part edge_fields t i)
    ≡ edge_fields = omega (arith, length-take edge_fields (drop (edge_fields * i) t), length-drop (edge_fields * i) t) in
    let m = ap edge_ok (edge-of-cells (edge_fields * i) t) ∙ (decides-edge (edge_at t i)).1
    (v.edges.each (edge_at t i) ((edges-member t (edge_at t i)).1 (i, l, refl))) in
    record { fields = k; ranged = m; small = edge-below (part edge_fields t i) k m }

-- at most two of the policies are pair policies, as the table's edges say
rows-together : (local : Bool) (t : List ℕ) → EdgeTable t
    → Together (policy_sheet local) (from (part edge_fields t) 0 (length t / edge_fields))
unfolding edges_of
rows-together local t v =
    let n = length t / edge_fields in
    let same : map edge_of (from (part edge_fields t) 0 n) ≡ edges_of t = map-from edge_of (part edge_fields t) 0 n
    ∙ ap (λ (f : ℕ → Edge). from f 0 n) (fun_ext (λ i. edge-of-cells (edge_fields * i) t)) in
    few-together local (from (part edge_fields t) 0 n)
    (ap (λ (es : List Edge). not (three_pairs es)) same ∙ (decides-few (edges_of t) v.edges.each).1 v.edges.few_pairs)

-- whichever past the policies see
pub edges_given : (local : Bool) (t : List ℕ) → is_edge_table t ≡ true
    → (g : Given (policies_into edge_places) t) × (is_local g.text ≡ local)
unfolding policies_into
edges_given local t e =
    let v = (decides-edge-table t).0 e in
    let n = length t / edge_fields in
    let w = v.whole in
    let few = v.edges.few in
    let many = edges-length t in
    let rows = from (part edge_fields t) 0 n in
    let s = policy_sheet local in
    let long = names-short local in
    let read = lines-given s (part edge_fields t) n (omega arith) (omega arith) (omega arith) (edge_row local t v)
    (rows-together local t v) in
    let choice = accepted-choice local (written s rows) rows read in (
      record {
        text = written s rows;
        rows = rows;
        accepts = ap (λ (l : Bool). sheet (policy_sheet l) (written s rows)) choice ∙ read;
        table = parts-flat edge_fields t n 0 (omega arith);
      },
      choice,
    )

-- ── Nodes ──

-- the line of node i: its place, and its three numbers
abbrev node_row : List ℕ → ℕ → List ℕ
node_row t i = i ∷ part node_fields t i

node-ranged : (t : List ℕ) (i : ℕ) → i < most_nodes → node_ok (node_at_lem t i) ≡ true → node_line_lem (node_row t i) ≡ true
node-ranged t i h e =
    let p = part node_fields t i in
    and_both (ltb i most_nodes) (node_ok (record { kind = get_or p 0 0; a = get_or p 1 0; b = get_or p 2 0 })) (lt-ltb i most_nodes h)
    (rw (
      cell-first (node_fields * i) t node_fields (omega arith),
      cell (node_fields * i) t node_fields 1 (omega arith),
      cell (node_fields * i) t node_fields 2 (omega arith),
    ) e)

node-row-ok : (t : List ℕ) → NodeTable t → (i : ℕ) → i < length t / node_fields → LineOk outline_sheet (node_row t i)
node-row-ok t v i l =
    let w = v.whole in
    let few = v.outline.few in
    let many = nodes-length t in
    let k : length (node_row t i) ≡ node_line_fields = omega (
      arith,
      length-take node_fields (drop (node_fields * i) t),
      length-drop
          (node_fields * i) t,
    ) in
    let ok = (decides-node (node_at_lem t i)).1 (v.outline.fields (node_at_lem t i) ((nodes-member t (node_at_lem t i)).1 (i, l, refl))) in
    let m = node-ranged t i (omega arith) ok in
    record { fields = k; ranged = m; small = node-below (node_row t i) k m }

-- the numbers 0, 1, 2 and on are their places
in_place : (n k : ℕ) → k < n → place_ok (from (λ i. i) 0 n) k ≡ true
in_place n k h = ap (λ o. is_some o k) (get_elem-from (λ i. i) 0 n k h) ∙ eq-eqb (0 + k) k (zero-add k)

pub places-ruled : (n : ℕ) (ns : List Node) → length ns ≡ n → ruled_by (tree_ok_lem ns) ns ≡ none → ruled_sheet (from (λ i. i) 0 n) ns ≡ none
places-ruled n ns l e =
    let places = from (λ i. i) 0 n in
    ruled-kept (tree_ok_lem ns) (λ k. place_ok places k && tree_ok_lem ns k) ns
    (λ k h q. and_both (place_ok places k) (tree_ok_lem ns k) (in_place n k (omega arith)) q) e

pub nodes_given : (t : List ℕ) → is_node_table t ≡ true → Given (outline_into node_places) t
unfolding outline_into ruled_result
nodes_given t e =
    let v = (decides-node-table t).0 e in
    let n = length t / node_fields in
    let w = v.whole in
    let few = v.outline.few in
    let many = nodes-length t in
    let rows = from (node_row t) 0 n in
    let read = lines-given outline_sheet (node_row t) n (omega arith) (omega arith) (omega arith) (node-row-ok t v)
    (λ k. refl) in
    let same : flatten (map tail rows) ≡ t = ap flatten (map-from tail (node_row t) 0 n) ∙ parts-flat node_fields t n 0 (omega arith) in
    let numbers : map first rows ≡ from (λ i. i) 0 n = map-from first (node_row t) 0 n in
    let clean : ruled_sheet (map first rows) (nodes_of (flatten (map tail rows))) ≡ none =
    rw (numbers, same) (places-ruled n (nodes_of t) many ((decides-shaped (nodes_of t)).1 v.outline.shaped)) in
    record {
      text = written outline_sheet rows;
      rows = map tail rows;
      accepts = ap ruled_result read ∙ ap (λ o. ruled_rows o rows) clean;
      table = same;
    }
