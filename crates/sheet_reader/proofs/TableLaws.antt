-- What an accepted sheet of policies or outline stores is a table that may be lent to be used (else 41).
use Prim.Native.Nat.{ℕ, zero, suc, ◌+◌, ◌*◌, ◌/◌, ◌%◌, ◌<◌}
use mathlib.Core.Path.{◌≡◌, refl, sym, ap, ◌∙◌}
use mathlib.Core.Bool.{Bool, true, ◌&&◌}
use mathlib.Core.Option.{Option, none, some}
use mathlib.Core.List.{List, ◌∷◌, ◌++◌, map, tail, flatten, Memᴰ}
use native.Mathlib.Omega.{arith}
use lib.Dec.{eqb, ltb, leb}
use lib.ListN.{length, get_or, length-map, get_or-append}
use lib.Seq.{get_or-append-add}
use borrow.Author.Tests.{eq-eqb, le-leb}
use Rattle.usage.specs.declared.Edge.{Edge}
use Rattle.usage.specs.declared.Node.{Node}
use Rattle.usage.specs.Limits.{most_nodes, edge_fields, node_fields, edge_places, node_places}
use Rattle.usage.specs.Policy.{EdgeOk}
use Rattle.usage.specs.Answers.{Refusal}
use Rattle.sheet_fields.specs.Fields.{edge_of}
use Rattle.usage.specs.Tests.{every, edge_ok, node_ok, tree_ok_lem, back_ok_lem, name_ok_lem, place_ok, lowest_failing, or_else, numbered, no_nodes, ruled_by}
use Rattle.usage.specs.Tests.{ruled_sheet, is_none, outline_ok}
use Rattle.usage.specs.Tables.{from, edge_at, edges_of, is_edge_table, node_at_lem, nodes_of, is_node_table}
use Rattle.usage.proofs.Logic.{clash, and_both, and_right}
use Rattle.sheet_lines.specs.Sheet.{Result, accepted, refused, sheet}
use Rattle.sheet_lines.specs.Sheets.{has_few_pairs, policy_sheet, is_local, outline_sheet}
use Rattle.sheet_reader.specs.Readers.{policies_read, ruled_result, ruled_rows, policies_into, outline_into}
use Rattle.sheet_lines.proofs.AcceptLaws.{Rows, no_row, row, Accepted, sheet-accepted, sheet-together, flat-length}
use Rattle.usage.proofs.RuledLaws.{lowest-none, none-lowest}
use Rattle.usage.proofs.ValidLaws.{decides-edge, decides-few}
use Rattle.usage.proofs.TableLaws.{length_from, is-from, member-from, edges-length, decides-edge-table}
use Rattle.sheet_fields.proofs.EveryLaws.{all_pass}
use Rattle.sheet_lines.proofs.PairsLaws.{no-lines-few}
use Rattle.sheet_reader.proofs.ReaderLaws.{within-room}
use Rattle.sheet_reader.proofs.OutlineLaws.{Four, four, is-four, first, nodes-size}

-- ── Edges ──

module _ (vs rest : List ℕ) (k : length vs ≡ edge_fields) where
  here : (j : ℕ) → j < edge_fields → get_or (vs ++ rest) j 0 ≡ get_or vs j 0
  here j h = get_or-append vs rest 0 j (omega arith)

  after : (m j : ℕ) → m ≡ edge_fields + j → get_or (vs ++ rest) m 0 ≡ get_or rest j 0
  after m j e = ap (λ i. get_or (vs ++ rest) i 0) index ∙ get_or-append-add vs rest j 0
    where
      index : m ≡ length vs + j
      index = omega arith

  first_edge : edge_at (vs ++ rest) 0 ≡ edge_at vs 0
  first_edge =
      rw (
        here 0 (omega arith),
        here 1 (omega arith),
        here 2 (omega arith),
        here 3 (omega arith),
        here 4 (omega arith),
        here 5
            (omega arith),
      ) refl

  later_edge : (i : ℕ) → edge_at (vs ++ rest) (suc i) ≡ edge_at rest i
  later_edge i = rw (
    after (edge_fields * suc i) (edge_fields * i) (omega arith),
    after (edge_fields * suc i + 1) (edge_fields * i + 1) (omega arith),
    after (edge_fields * suc i + 2) (edge_fields * i + 2) (omega arith),
    after (edge_fields * suc i + 3) (edge_fields * i + 3) (omega arith),
    after (edge_fields * suc i + 4) (edge_fields * i + 4) (omega arith),
    after (edge_fields * suc i + 5) (edge_fields * i + 5) (omega arith),
  ) refl

abbrev no_edge : Edge
no_edge = record { policy = 0; «from» = 0; action = 0; on = 0; who = 0; to = 0 }

module _ (local : Bool) where
  edge-ok : {rows : List (List ℕ)} → Rows (policy_sheet local) rows → (i : ℕ) → i < length rows
      → edge_ok (edge_at (flatten rows) i) ≡ true
  unfolding flatten
  edge-ok no_row i h = absurd (omega arith)
  edge-ok (row {vs} {rows} k m r) zero h = ap edge_ok (first_edge vs (flatten rows) k) ∙ m
  edge-ok (row {vs} {rows} k m r) (suc i) h = ap edge_ok (later_edge vs (flatten rows) k i) ∙ edge-ok r i (omega arith)

  -- the lines' edges are the table's
  edge-of-row : {rows : List (List ℕ)} → Rows (policy_sheet local) rows → (i : ℕ) → i < length rows
      → get_or (map edge_of rows) i no_edge ≡ edge_at (flatten rows) i
  unfolding flatten
  edge-of-row no_row i h = absurd (omega arith)
  edge-of-row (row {vs} {rows} k m r) zero h = sym (first_edge vs (flatten rows) k)
  edge-of-row (row {vs} {rows} k m r) (suc i) h = edge-of-row r i (omega arith) ∙ sym (later_edge vs (flatten rows) k i)

  rows-edges : {rows : List (List ℕ)} → Accepted (policy_sheet local) rows → has_few_pairs rows ≡ true → is_edge_table (flatten rows) ≡ true
  unfolding edges_of
  rows-edges {rows} a p =
      let t = flatten rows in
      let size = flat-length (policy_sheet local) a.each in
      let few = a.few in
      let n = length t / edge_fields in
      let count : length (map edge_of rows) ≡ n = omega (arith, length-map rows edge_of) in
      let same : map edge_of rows ≡ edges_of t = is-from (edge_at t) no_edge n (map edge_of rows) count
      (λ i l. edge-of-row a.each i (omega arith)) in
      let each : (e : Edge) → Memᴰ e (edges_of t) → EdgeOk e = λ e m.
      let r = member-from (edge_at t) 0 n e m in
      let l = r.1 in
      (decides-edge e).0 (ap edge_ok r.2 ∙ edge-ok a.each (0 + r.0) (omega arith)) in
      (decides-edge-table t).1 record {
        whole = omega arith;
        edges = record {
          few = omega (arith, edges-length t);
          each = each;
          few_pairs = (decides-few (edges_of t) each).0 (rw same at p);
        };
      }

-- every accepted sheet of policies stores a valid table of edges
pub policies-valid : (places : ℕ) (text : List ℕ) (rows : List (List ℕ)) → policies_into places text ≡ accepted rows
    → is_edge_table (flatten rows) ≡ true
unfolding policies_into
policies-valid places text rows e =
    let local = is_local text in
    let read = (within-room places edge_places (policies_read text) rows e).1 in
    rows-edges local (sheet-accepted (policy_sheet local) text rows read)
    (sheet-together (policy_sheet local) text rows (no-lines-few local) read)

-- ── Nodes ──

node_ok_lem : {rows : List (List ℕ)} → Rows outline_sheet rows → (i : ℕ) → i < length rows → node_ok (node_at_lem (flatten (map tail rows)) i) ≡ true
unfolding flatten
node_ok_lem no_row i h = absurd (omega arith)
node_ok_lem (row {vs} {rows} k m r) i h = go (node_ok_lem r) vs (is-four vs k) m i h
  where
    go : ((j : ℕ) → j < length rows → node_ok (node_at_lem (flatten (map tail rows)) j) ≡ true) → (us : List ℕ) → Four us
        → outline_sheet.in_range_lem us ≡ true
        → (i : ℕ) → i < suc (length rows) → node_ok (node_at_lem (tail us ++ flatten (map tail rows)) i) ≡ true
    go ih us (four a b c d) m zero h = and_right (ltb a most_nodes) (node_ok (record { kind = b; a = c; b = d })) m
    go ih us (four a b c d) m (suc i) h = ap node_ok later ∙ ih i (omega arith)
      where
        step : (m j : ℕ) → m ≡ suc (suc (suc j)) → get_or (b ∷ c ∷ d ∷ flatten (map tail rows)) m 0 ≡ get_or (flatten (map tail rows)) j 0
        step m j e = ap (λ i. get_or (b ∷ c ∷ d ∷ flatten (map tail rows)) i 0) e

        later : node_at_lem (b ∷ c ∷ d ∷ flatten (map tail rows)) (suc i) ≡ node_at_lem (flatten (map tail rows)) i
        later =
            rw (
              step (node_fields * suc i) (node_fields * i) (omega arith),
              step (node_fields * suc i + 1) (node_fields * i + 1)
                  (omega arith),
              step (node_fields * suc i + 2) (node_fields * i + 2) (omega arith),
            ) refl

-- a rule in the place of 6 that asks no more of the nodes refuses no more
pub ruled-kept : (test test' : ℕ → Bool) (ns : List Node) → ((k : ℕ) → k < length ns → test k ≡ true → test' k ≡ true)
    → ruled_by test ns ≡ none → ruled_by test' ns ≡ none
unfolding ruled_by
ruled-kept test test' ns f e =
    go (no_nodes ns) (lowest_failing test 0 (length ns)) (lowest_failing test' 0 (length ns))
    (or_else (numbered 7 (lowest_failing (back_ok_lem ns) 0 (length ns))) (numbered 8 (lowest_failing (name_ok_lem ns) 0 (length ns))))
    (λ q. none-lowest test' 0 (length ns) (λ i a b. f i (omega arith) (lowest-none test 0 (length ns) i q a b))) e
  where
    go : (x : Option Refusal) (y z : Option ℕ) (w : Option Refusal) → (y ≡ none → z ≡ none) → or_else x (or_else (numbered 6 y) w) ≡ none
        → or_else x (or_else (numbered 6 z) w) ≡ none
    go (some x) y z w f e = clash (cc)
    go none (some y) z w f e = clash (cc)
    go none none z w f e = ap (λ o. or_else (numbered 6 o) w) (f refl) ∙ e

rows-nodes : {rows : List (List ℕ)} → Accepted outline_sheet rows → ruled_sheet (map first rows) (nodes_of (flatten (map tail rows))) ≡ none
    → is_node_table (flatten (map tail rows)) ≡ true
unfolding is_node_table outline_ok nodes_of
rows-nodes {rows} a e =
    let t = flatten (map tail rows) in
    let size = nodes-size a.each in
    let few = a.few in
    let n = length t / node_fields in
    let ns = from (node_at_lem t) 0 n in
    let shaped = ruled-kept (λ k. place_ok (map first rows) k && tree_ok_lem ns k) (tree_ok_lem ns) ns
    (λ k h q. and_right (place_ok (map first rows) k) (tree_ok_lem ns k) q) e in
    and_both (eqb (length t % node_fields) 0) (leb (length ns) most_nodes && (every node_ok ns && is_none (ruled_by (tree_ok_lem ns) ns)))
    (eq-eqb (length t % node_fields) 0 (omega arith))
    (and_both (leb (length ns) most_nodes) (every node_ok ns && is_none (ruled_by (tree_ok_lem ns) ns))
    (le-leb (length ns) most_nodes (omega (arith, length_from (node_at_lem t) 0 n)))
    (and_both (every node_ok ns) (is_none (ruled_by (tree_ok_lem ns) ns))
    (all_pass node_ok (node_at_lem t) n (λ i l. node_ok_lem a.each i (omega arith)))
    (ap is_none shaped)))

-- every accepted outline sheet stores a valid table of nodes
pub outline-valid : (places : ℕ) (text : List ℕ) (rows : List (List ℕ)) → outline_into places text ≡ accepted rows
    → is_node_table (flatten rows) ≡ true
unfolding outline_into ruled_result
outline-valid places text rows e = go (sheet outline_sheet text) refl
    (within-room places node_places (ruled_result (sheet outline_sheet text)) rows e).1
  where
    by : (all : List (List ℕ)) → Accepted outline_sheet all → (o : Option Refusal)
        → ruled_sheet (map first all) (nodes_of (flatten (map tail all))) ≡ o
        → ruled_rows o all ≡ accepted rows → is_node_table (flatten rows) ≡ true
    by all a none q e = let z : map tail all ≡ rows = cc in rw (← z) (rows-nodes a q)
    by all a (some r) q e = clash (cc)

    go : (r : Result) → sheet outline_sheet text ≡ r → ruled_result r ≡ accepted rows → is_node_table (flatten rows) ≡ true
    go (accepted all) q e =
        by all (sheet-accepted outline_sheet text all q) (ruled_sheet (map first all) (nodes_of (flatten (map tail all)))) refl e
    go (refused r) q e = clash (cc)
