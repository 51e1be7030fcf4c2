-- What a reader's answer says of its sheet, for those who lend it a table of zeros.
use Prim.Native.Nat.{ℕ, ◌*◌, ◌≤◌}
use mathlib.Core.Path.{◌≡◌, refl, sym, ap, ◌∙◌}
use mathlib.Core.Bool.{Bool}
use mathlib.Core.Option.{Option, none, some}
use mathlib.Core.List.{List, map, tail, flatten}
use native.Mathlib.Omega.{arith}
use lib.ListN.{length, take, drop, replicate, length-replicate, length-map}
use lib.Seq.{take_at}
use Rattle.usage.specs.Limits.{most_nodes, node_fields, edge_places, node_places, step_places}
use Rattle.usage.specs.Answers.{Refusal}
use Rattle.usage.specs.Tests.{ruled_sheet}
use Rattle.usage.specs.Tables.{nodes_of, EdgeTable, NodeTable}
use Rattle.usage.proofs.Logic.{clash}
use Rattle.usage.proofs.TableLaws.{decides-edge-table, decides-node-table}
use Rattle.sheet_lines.specs.Sheet.{Sheet, Result, accepted, refused, sheet}
use Rattle.sheet_lines.specs.Answer.{count, refusal, answered}
use Rattle.sheet_lines.specs.Sheets.{policy_sheet, is_local, trace_sheet, outline_sheet}
use Rattle.sheet_lines.proofs.AcceptLaws.{Accepted, sheet-accepted, flat-length}
use Rattle.sheet_reader.specs.Readers.{policies_read, ruled_result, ruled_rows, policies_into, trace_into, outline_into, stored}
use Rattle.sheet_reader.specs.Readers.{PolicyAnswer, has_edges, has_refusal, policies_answered}
use Rattle.sheet_reader.proofs.ReaderLaws.{refusal-result, edges-answered, refusal-answered}
use Rattle.sheet_reader.proofs.OutlineLaws.{first, nodes-size}
use Rattle.sheet_reader.proofs.TableLaws.{policies-valid, outline-valid}

-- n lines were stored: the sheet is accepted, and its values are the first of the table
pub record Holds (s : Sheet) (text table : List ℕ) (n : ℕ) : Type 0 where
  pub rows : List (List ℕ)
  pub result : sheet s text ≡ accepted rows
  pub flat : take (n * s.fields) table ≡ flatten rows
  pub few : n ≤ s.most

module _ (s : Sheet) (text before table : List ℕ) where
  holds : (r : Result) → r ≡ sheet s text → (n : ℕ) → count n ≡ answered r → table ≡ stored r before → Holds s text table n
  unfolding answered stored
  holds (accepted rows) k n e t =
      let a = sheet-accepted s text rows (sym k) in
      let m : n ≡ length rows = cc in
      record {
        rows = rows;
        result = sym k;
        flat = ap (take (n * s.fields)) t
            ∙ take_at (flatten rows) (drop (length (flatten rows)) before) (n * s.fields)
            (flat-length s a.each ∙ ap (λ (i : ℕ). i * s.fields) (sym m));
        few = rw m a.few;
      }
  holds (refused r) k n e t = clash (cc)

-- ── The tables that are lent: as many zeros as a sheet has values at most ──

abbrev pub zeros : ℕ → List ℕ
zeros n = replicate n 0

module _ (text : List ℕ) where
  policies-into : policies_into (length (zeros edge_places)) text ≡ policies_read text
  unfolding policies_into
  policies-into = ap (λ (p : ℕ). policies_into p text) (length-replicate {A = ℕ} edge_places 0)

  trace-into : trace_into (length (zeros step_places)) text ≡ sheet trace_sheet text
  unfolding trace_into
  trace-into = ap (λ (p : ℕ). trace_into p text) (length-replicate {A = ℕ} step_places 0)

  -- what is answered of the sheet of policies
  abbrev Policies-answered : PolicyAnswer
  Policies-answered = policies_answered (is_local text) (policies_into (length (zeros edge_places)) text)

  pub policies-held : (table : List ℕ) (n : ℕ) (local : Bool) → has_edges n local ≡ Policies-answered
      → table ≡ stored (policies_into (length (zeros edge_places)) text) (zeros edge_places)
      → Holds (policy_sheet (is_local text)) text table n
  policies-held table n local e t =
      let r = policies_into (length (zeros edge_places)) text in
      holds (policy_sheet (is_local text)) text (zeros edge_places) table r policies-into n (edges-answered (is_local text) r n local e).0 t

  -- the choice that is answered is that of the names line
  pub policies-choice : (n : ℕ) (local : Bool) → has_edges n local ≡ Policies-answered → local ≡ is_local text
  policies-choice n local e = (edges-answered (is_local text) (policies_into (length (zeros edge_places)) text) n local e).1

  pub trace-held : (table : List ℕ) (n : ℕ) → count n ≡ answered (trace_into (length (zeros step_places)) text)
      → table ≡ stored (trace_into (length (zeros step_places)) text) (zeros step_places) → Holds trace_sheet text table n
  trace-held table n e t = holds trace_sheet text (zeros step_places) table (trace_into (length (zeros step_places)) text) trace-into n e t

  module _ (line number : ℕ) where
    pub policies-refused : has_refusal record { line = line; number = number } ≡ Policies-answered
        → policies_read text ≡ refused record { line = line; number = number }
    policies-refused e =
        let r = policies_into (length (zeros edge_places)) text in
        refusal-result (policies_read text) line number
        (refusal-answered (is_local text) r record { line = line; number = number } e ∙ ap answered policies-into)

    pub trace-refused : refusal record { line = line; number = number } ≡ answered (trace_into (length (zeros step_places)) text)
        → sheet trace_sheet text ≡ refused record { line = line; number = number }
    trace-refused e = refusal-result (sheet trace_sheet text) line number (e ∙ ap answered trace-into)

-- what an accepted sheet of policies gives is never refused with 41
pub accepted-edges : (text : List ℕ) (rows : List (List ℕ)) → policies_read text ≡ accepted rows → EdgeTable (flatten rows)
unfolding policies_into
accepted-edges text rows e = (decides-edge-table (flatten rows)).0 (policies-valid edge_places text rows e)

-- ── An outline ──

-- n nodes were stored: the sheet is accepted, and their values are the first of the table
pub record HoldsNodes (text table : List ℕ) (n : ℕ) : Type 0 where
  pub rows : List (List ℕ)
  pub result : ruled_result (sheet outline_sheet text) ≡ accepted rows
  pub flat : take (n * node_fields) table ≡ flatten rows
  pub few : n ≤ most_nodes

-- how many nodes an accepted outline has, and how many numbers
abbrev Sized : List (List ℕ) → Type 0
Sized rows = (length rows ≤ most_nodes) × (length (flatten rows) ≡ length rows * node_fields)

nodes-sized : (text : List ℕ) (rows : List (List ℕ)) → ruled_result (sheet outline_sheet text) ≡ accepted rows → Sized rows
unfolding ruled_result
nodes-sized text rows e = go (sheet outline_sheet text) refl e
  where
    by : (all : List (List ℕ)) → Accepted outline_sheet all → (o : Option Refusal) → ruled_rows o all ≡ accepted rows → Sized rows
    by all a none e =
        let z : map tail all ≡ rows = cc in
        let f : length all ≤ most_nodes = a.few in
        let m = length-map all tail in
        let l = nodes-size a.each in
        rw (← z) (omega arith, omega arith)
    by all a (some r) e = clash (cc)

    go : (r : Result) → sheet outline_sheet text ≡ r → ruled_result r ≡ accepted rows → Sized rows
    go (accepted all) q e = by all (sheet-accepted outline_sheet text all q)
        (ruled_sheet (map first all) (nodes_of (flatten (map tail all)))) e
    go (refused r) q e = clash (cc)

module _ (text : List ℕ) where
  outline-into : outline_into (length (zeros node_places)) text ≡ ruled_result (sheet outline_sheet text)
  unfolding outline_into
  outline-into = ap (λ (p : ℕ). outline_into p text) (length-replicate {A = ℕ} node_places 0)

  pub outline-held : (table : List ℕ) (n : ℕ) → count n ≡ answered (outline_into (length (zeros node_places)) text)
      → table ≡ stored (outline_into (length (zeros node_places)) text) (zeros node_places) → HoldsNodes text table n
  unfolding answered stored
  outline-held table n e t = go (outline_into (length (zeros node_places)) text) outline-into e t
    where
      go : (r : Result) → r ≡ ruled_result (sheet outline_sheet text) → count n ≡ answered r → table ≡ stored r (zeros node_places)
          → HoldsNodes text table n
      go (accepted rows) k e t =
          let m : n ≡ length rows = cc in
          let z = nodes-sized text rows (sym k) in
          let f = z.0 in
          let l = z.1 in
          record {
            rows = rows;
            result = sym k;
            flat = ap (take (n * node_fields)) t ∙ take_at (flatten rows) (drop (length (flatten rows)) (zeros node_places))
                (n * node_fields) (omega arith);
            few = omega arith;
          }
      go (refused r) k e t = clash (cc)

  pub outline-refused-as : (line number : ℕ)
      → refusal record { line = line; number = number } ≡ answered (outline_into (length (zeros node_places)) text)
      → ruled_result (sheet outline_sheet text) ≡ refused record { line = line; number = number }
  outline-refused-as line number e = refusal-result (ruled_result (sheet outline_sheet text)) line number (e ∙ ap answered outline-into)

-- what an accepted outline gives is never refused with 41
pub accepted-nodes : (text : List ℕ) (rows : List (List ℕ)) → ruled_result (sheet outline_sheet text) ≡ accepted rows
    → NodeTable (flatten rows)
unfolding outline_into
accepted-nodes text rows e = (decides-node-table (flatten rows)).0 (outline-valid node_places text rows e)
