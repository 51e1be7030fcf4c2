-- The text of edges is read back as these edges, and is short enough for a sheet.
use Prim.Native.Nat.{ℕ, zero, suc, ◌+◌, ◌*◌, ◌/◌, ◌<◌, ◌≤◌}
use mathlib.Core.Path.{◌≡◌, refl, sym, ap, ◌∙◌}
use mathlib.Core.Bool.{Bool, true, not}
use mathlib.Core.List.{List, [], ◌∷◌, ◌++◌, map, flatten, append_assoc, Memᴰ}
use native.Mathlib.Omega.{arith}
use lib.ListN.{length, get_or, length-append}
use Rattle.usage.specs.declared.Edge.{Edge}
use Rattle.usage.specs.Limits.{longest_sheet, edge_fields}
use Rattle.usage.specs.Policy.{EdgeOk, EdgesOk}
use Rattle.usage.specs.Tables.{from, edge_at, edges_of}
use Rattle.usage.specs.Tests.{three_pairs}
use Rattle.usage.proofs.ValidLaws.{decides-edge, decides-few}
use Rattle.usage.proofs.EdgeSetLaws.{few-among}
use Rattle.usage.proofs.TableLaws.{is-from}
use Rattle.sheet_fields.specs.Fields.{edge_of, edge_line_lem}
use Rattle.sheet_bytes.specs.Class.{class_of}
use Rattle.sheet_bytes.specs.Code.{value_limit}
use Rattle.sheet_bytes.specs.Line.{lines_of}
use Rattle.sheet_bytes.specs.Grammar.{one_space, Values, last_value, next_value}
use Rattle.sheet_bytes.proofs.FaultLaws.{decides-values}
use Rattle.sheet_lines.specs.Sheet.{Sheet, after_line, accepted, followed, value_lines, sheet}
use Rattle.sheet_lines.specs.Sheets.{policy_names_lem, has_few_pairs, policy_sheet}
use Rattle.sheet_lines.proofs.ScanLaws.{fed}
use Rattle.sheet_lines.proofs.AcceptLaws.{asking, Together}
use Rattle.sheet_lines.proofs.PairsLaws.{few-together}
use Rattle.sheet_lines.proofs.NamesLaws.{names-short}
use Rattle.sheet_fields.proofs.BelowLaws.{Below, one_below, more-below, edge-below}
use Rattle.sheet_reader.proofs.WrittenLaws.{nothing_left, names-read}
use Rattle.report_lines.specs.Decimal.{decimal}
use Rattle.report_lines.specs.Lines.{field, values_text, values_line, values_room}
use Rattle.report_lines.proofs.DecimalLaws.{length-below}
use Rattle.report_lines.proofs.PutLaws.{length-field}
use Rattle.sheet_writer.specs.Order.{edge_values, earlier, sorted}
use Rattle.sheet_writer.specs.Text.{edge_text, edges_text, sheet_text}
use Rattle.sheet_writer.proofs.FieldLaws.{decimal-value, space-line, feed-line}
use Rattle.sheet_writer.proofs.OrderLaws.{sorted-members, sorted-length, edges-ordered}

-- ── A line of values ──

-- its bytes without the line feed
values-bytes : ℕ → List ℕ → List ℕ
values-bytes v [] = decimal v
values-bytes v (w ∷ vs) = decimal v ++ (32 ∷ values-bytes w vs)

values-line : (v : ℕ) (vs bs : List ℕ) → Below value_limit (v ∷ vs) → lines_of (values_text v vs ++ bs) ≡ fed (values-bytes v vs) ∷ lines_of bs
unfolding values_text values-bytes
values-line v [] bs (one_below h b) = feed-line v h bs
values-line v (w ∷ vs) bs (one_below h b) =
    ap lines_of (append_assoc (field v 32) (values_text w vs) bs)
    ∙ space-line v h (values_text w vs ++ bs) (values-bytes w vs) (lines_of bs) (values-line w vs bs b)

values-written : (v : ℕ) (vs : List ℕ) → Below value_limit (v ∷ vs) → Values (v ∷ vs) (values-bytes v vs)
unfolding values-bytes class_of
values-written v [] (one_below h b) = last_value (decimal-value v h)
values-written v (w ∷ vs) (one_below h b) = next_value (decimal-value v h) (one_space 32 refl) (values-written w vs b)

line_read : (s : Sheet) (line left : ℕ) (vs bs : List ℕ) → length vs ≡ s.fields → 0 < s.fields → s.in_range_lem vs ≡ true
    → s.together (vs ∷ []) ≡ true → Below value_limit vs
    → value_lines s line (suc left) (lines_of (values_line vs ++ bs)) ≡ followed vs (value_lines (after_line s vs) (suc line) left (lines_of bs))
unfolding value_lines
line_read s line left [] bs k f m t b = absurd (omega arith)
line_read s line left (v ∷ vs) bs k f m t b =
    let w = (decides-values s.fields (fed (values-bytes v vs)) (v ∷ vs)).1 record {
      is_ended = refl;
      has = values-written v vs b;
      all_fields = k;
    } in
    ap (value_lines s line (suc left)) (values-line v vs bs b) ∙ rw (w, m, t) refl

-- at most three digits and a byte after each value
values_length : (v : ℕ) (vs : List ℕ) → Below 256 (v ∷ vs) → length (values_text v vs) ≤ 4 * length (v ∷ vs)
unfolding values_text
values_length v [] (one_below h b) = omega (arith, length-field v 10, length-below 2 v (omega arith))
values_length v (w ∷ vs) (one_below h b) =
    omega (
      arith,
      length-append (field v 32) (values_text w vs),
      length-field v 32,
      length-below 2 v (omega arith),
      values_length w vs b,
    )

-- ── Edges ──

edge-ranged : (e : Edge) → EdgeOk e → edge_line_lem (edge_values e) ≡ true
edge-ranged e ok = (decides-edge e).1 ok

edge-small : (e : Edge) → EdgeOk e → Below 256 (edge_values e)
edge-small e ok = edge-below (edge_values e) refl (edge-ranged e ok)

pub edge-length : (e : Edge) → EdgeOk e → length (edge_text e) ≤ values_room
unfolding edge_text
edge-length e ok = omega (arith, values_length e.policy (e.from ∷ e.action ∷ e.on ∷ e.who ∷ e.to ∷ []) (edge-small e ok))

-- every edge is in range
abbrev pub AllOk : List Edge → Type 0
AllOk es = (e : Edge) → Memᴰ e es → EdgeOk e

pub edges-length : (es : List Edge) → AllOk es → length (edges_text es) ≤ values_room * length es
unfolding edges_text flatten
edges-length [] h = omega arith
edges-length (e ∷ es) h =
    omega (
      arith,
      length-append (edge_text e) (edges_text es),
      edge-length e (h e (Memᴰ.head refl)),
      edges-length es (λ f m. h f (Memᴰ.tail m)),
    )

edges-read : (s : Sheet) (f : List (List ℕ) → Bool) → s.fields ≡ edge_fields → ((vs : List ℕ) → s.in_range_lem vs ≡ edge_line_lem vs)
    → (line left : ℕ) (es : List Edge) → AllOk es → Together (asking s f) (map edge_values es) → length es ≤ left
    → value_lines (asking s f) line left (lines_of (edges_text es)) ≡ accepted (map edge_values es)
unfolding edges_text flatten edge_text
edges-read s f six ranged line left [] h t few = nothing_left (asking s f) line left
edges-read s f six ranged line zero (e ∷ es) h t few = absurd (omega arith)
edges-read s f six ranged line (suc left) (e ∷ es) h t few =
    let ok = h e (Memᴰ.head refl) in
    line_read (asking s f) line left (edge_values e) (edges_text es) (sym six) (omega arith) (ranged (edge_values e) ∙ edge-ranged e ok) (t 1)
    (more-below value_limit (omega arith) (edge-small e ok))
    ∙ ap (followed (edge_values e)) (edges-read s (λ rows. f (edge_values e ∷ rows)) six ranged (suc line) left es
    (λ g m. h g (Memᴰ.tail m)) (λ k. t (suc k)) (omega arith))

-- the edges of the lines
edges-back : (es : List Edge) → map edge_of (map edge_values es) ≡ es
edges-back [] = refl
edges-back (e ∷ es) = ap (λ (l : List Edge). e ∷ l) (edges-back es)

edges-together : (local : Bool) (es : List Edge) → EdgesOk es → Together (policy_sheet local) (map edge_values es)
edges-together local es ok =
    few-together local (map edge_values es)
    (ap (λ (l : List Edge). not (three_pairs l)) (edges-back es) ∙ (decides-few es ok.each).1 ok.few_pairs)

-- ── A sheet ──

pub sorted-ok : (es : List Edge) → EdgesOk es → EdgesOk (sorted earlier es)
sorted-ok es ok =
    let few = ok.few in
    let back : (e : Edge) → Memᴰ e (sorted earlier es) → Memᴰ e es = λ e m. (sorted-members earlier edges-ordered es e).0 m in
    record {
      few = omega (arith, sorted-length earlier es);
      each = λ e m. ok.each e (back e m);
      few_pairs = few-among back ok.few_pairs;
    }

-- how long the text is
pub sheet-short : (local : Bool) (es : List Edge) → EdgesOk es → length (sheet_text local es) ≤ longest_sheet
unfolding sheet_text
sheet-short local es ok =
    let k = sorted-ok es ok in
    let few = k.few in
    omega (
      arith,
      length-append (policy_names_lem local) (edges_text (sorted earlier es)),
      names-short local,
      edges-length (sorted earlier es) k.each,
    )

-- the text is accepted, with the edges in their order
pub sheet-read : (local : Bool) (es : List Edge) → EdgesOk es
    → sheet (policy_sheet local) (sheet_text local es) ≡ accepted (map edge_values (sorted earlier es))
unfolding sheet_text
sheet-read local es ok =
    let k = sorted-ok es ok in
    names-read (policy_sheet local) (edges_text (sorted earlier es)) (sheet-short local es ok)
    ∙ edges-read (policy_sheet local) has_few_pairs refl (λ vs. refl) 2 (policy_sheet local).most (sorted earlier es) k.each
    (edges-together local (sorted earlier es) k) k.few

-- ── The edges of their values ──

values-size : (es : List Edge) → length (flatten (map edge_values es)) ≡ length es * edge_fields
unfolding flatten
values-size [] = refl
values-size (e ∷ es) = omega (arith, values-size es)

-- an edge of no sheet
no_edge : Edge
no_edge = record { policy = 0; «from» = 0; action = 0; on = 0; who = 0; to = 0 }

values-at : (es : List Edge) (i : ℕ) → i < length es → get_or es i no_edge ≡ edge_at (flatten (map edge_values es)) i
unfolding flatten
values-at [] i h = absurd (omega arith)
values-at (e ∷ es) zero h = refl
values-at (e ∷ es) (suc i) h = values-at es i (omega arith) ∙ sym later
  where
    rest : List ℕ
    rest = flatten (map edge_values es)

    step : (m j : ℕ) → m ≡ suc (suc (suc (suc (suc (suc j))))) → get_or (edge_values e ++ rest) m 0 ≡ get_or rest j 0
    step m j q = ap (λ k. get_or (edge_values e ++ rest) k 0) q

    later : edge_at (edge_values e ++ rest) (suc i) ≡ edge_at rest i
    later =
        rw (
          step (edge_fields * suc i) (edge_fields * i) (omega arith),
          step (edge_fields * suc i + 1) (edge_fields * i + 1) (omega arith),
          step (edge_fields * suc i + 2) (edge_fields * i + 2) (omega arith),
          step (edge_fields * suc i + 3) (edge_fields * i + 3) (omega arith),
          step (edge_fields * suc i + 4) (edge_fields * i + 4) (omega arith),
          step (edge_fields * suc i + 5) (edge_fields * i + 5) (omega arith),
        ) refl

pub values-edges : (es : List Edge) → edges_of (flatten (map edge_values es)) ≡ es
unfolding edges_of
values-edges es =
    let t = flatten (map edge_values es) in
    let n : length t / edge_fields ≡ length es = omega (arith, values-size es) in
    ap (from (edge_at t) 0) n ∙ sym (is-from (edge_at t) no_edge (length es) es refl (values-at es))
