-- An outline that is loaded, from what the functions tell.
use Prim.Native.Nat.{ℕ, ◌+◌, ◌-◌, ◌*◌, ◌/◌, ◌<◌, ◌≤◌}
use mathlib.Core.Path.{◌≡◌, refl, sym, ap, ap₂, ◌∙◌, subst}
use mathlib.Core.Bool.{Bool, true, false, ◌&&◌, cond}
use mathlib.Core.Option.{Option, none, some}
use mathlib.Core.List.{List, [], ◌∷◌, ◌++◌, flatten}
use mathlib.Core.Logic.{◌⊎◌, inl, inr}
use native.Mathlib.Omega.{arith}
use lib.Dec.{eqb}
use lib.ListN.{length, get_or, take, drop, drop_of_length-le}
use borrow.Author.Tests.{ne_eqb}
use Rattle.usage.specs.declared.Edge.{Edge}
use Rattle.usage.specs.declared.Node.{Node}
use Rattle.usage.specs.Limits.{policies, edge_fields, node_fields, node_places}
use Rattle.usage.specs.Answers.{Verdict, allowed, violated, refused}
use Rattle.usage.specs.Check.{Checked}
use Rattle.usage.specs.Tables.{edges_of, nodes_of, is_edge_table, is_node_table, NodeTable}
use Rattle.usage.proofs.Logic.{and_both}
use Rattle.usage.proofs.TableLaws.{nodes-length, decides-edge-table, decides-node-table}
use Rattle.sheet_lines.specs.Sheet.{Result, accepted, sheet, refused as sheet-refused}
use Rattle.sheet_lines.specs.Sheets.{outline_sheet}
use Rattle.sheet_reader.specs.Readers.{ruled_result, outline_into}
use Rattle.sheet_reader.proofs.RefusalLaws.{outline-low}
use Rattle.sheet_reader.proofs.AnswerLaws.{HoldsNodes, accepted-nodes}
use Rattle.monitor_state.specs.declared.State.{State}
use Rattle.monitor_state.specs.Judge.{start_state}
use Rattle.checker.specs.Promise.{RightVerdict, CheckPromise}
use Rattle.checker.specs.Summary.{Summary, Exact, Summarized}
use Rattle.desk_positions.specs.Positions.{Position, most_positions, start_positions}
use Rattle.desk_positions.specs.Reading.{rows_ok_lem}
use Rattle.desk.specs.declared.Head.{Head}
use Rattle.desk.specs.Layout.{desk_bytes, edges_at, nodes_at, summary_at, rows_at, byte_at, wide_at, numbers_in, Put, Within}
use Rattle.desk.specs.JudgeBytes.{head_with, Stored}
use Rattle.desk.specs.State.{local_in, edges_in, nodes_in, summary_in, table_in, listed_in, outlined_in, loaded_in, head_ok_lem, is_listed_lem, rows_fit, Encodes}
use Rattle.desk.specs.State.{desk_of}
use Rattle.desk.specs.Desk.{is_busy_lem, with_outline, LoadsOutline}
use Rattle.desk.specs.Calls.{desk_code, plain, is_refused, LeavesBytes, Called, called, ByOutline, loaded}
use Rattle.desk.specs.Code.{most_line, SettledIn, with_nodes, KeptOutline}
use Rattle.desk_positions.proofs.CopyLaws.{bytes-local, wides-local, numbers-kept, put_all}
use Rattle.desk.proofs.StepLaws.{head-parts, parts-head, listed-parts, positions-is, nodes-same, table_same, outlined-is, left-encodes}

-- ── What is left ──

module _ (b b₁ b₂ b₃ b' nodes marks : List ℕ) (h : Head) (k : ℕ) (ok : head_ok_lem h ≡ true) (pol : h.policies ≡ 0 → ⊥)
    (valid : is_node_table nodes ≡ true) (room : length nodes ≤ node_places)
    (p₁ : Put byte_at 1 b nodes_at (length nodes) nodes b₁) (p₂ : Put wide_at 8 b₁ summary_at policies marks b₂) (eight : length marks ≡ policies)
    (w : Within b₂ rows_at desk_bytes b₃) (settled : SettledIn (start_positions (nodes_of nodes)) k b₃) where
  abbrev g : Head
  g = with_nodes h (length nodes / node_fields)

  module _ (st : Stored b₃ g start_state k b') where
    table : NodeTable nodes
    table = (decides-node-table nodes).0 valid

    some-nodes : 0 < length nodes / node_fields
    some-nodes = subst (λ (n : ℕ). 0 < n) (nodes-length nodes) table.outline.shaped.some_node

    good : head_ok_lem g ≡ true
    unfolding with_nodes
    good =
        let p = head-parts h ok in
        parts-head g (record {
          policies = p.policies;
          edges = p.edges;
          nodes = omega arith;
          positions = omega arith;
          halted = omega arith;
        })

    policies-same : g.policies ≡ h.policies
    unfolding with_nodes
    policies-same = refl

    edges-same : edges_in b₃ g ≡ edges_in b h
    unfolding edges_in with_nodes
    edges-same =
        let p = (head-parts h ok).edges in
        numbers-kept byte_at 1 bytes-local b b₃ edges_at (edge_fields * h.edges)
        (λ m x y. w.outside m (inl (omega arith)) ∙ p₂.outside m (inl (omega arith)) ∙ p₁.outside m (inl (omega arith)))

    nodes-put : nodes_in b₃ g ≡ nodes
    unfolding nodes_in with_nodes
    nodes-put =
        let z : node_fields * (length nodes / node_fields) ≡ length nodes = let x = table.whole in omega arith in
        ap (λ (n : ℕ). numbers_in byte_at 1 nodes_at n b₃) z
        ∙ numbers-kept byte_at 1 bytes-local b₁ b₃ nodes_at (length nodes)
        (λ m x y. w.outside m (inl (omega arith)) ∙ p₂.outside m (inl (omega arith)))
        ∙ put_all byte_at 1 b nodes_at (length nodes) nodes b₁ p₁ refl

    summary-put : summary_in b₃ ≡ marks
    unfolding summary_in
    summary-put =
        numbers-kept wide_at 8 wides-local b₂ b₃ summary_at policies (λ m x y. w.outside m (inl (omega arith)))
        ∙ put_all wide_at 8 b₁ summary_at policies marks b₂ p₂ eight

    nodes-are : g.nodes ≡ length nodes / node_fields
    unfolding with_nodes
    nodes-are = refl

    outlined : outlined_in b' (head_with g start_state k)
        ≡ some record { nodes = nodes; summary = marks; positions = start_positions (nodes_of nodes) }
    outlined =
        outlined-is b₃ b₃ b' g start_state k good st (λ m x y. refl)
        ∙ ap (λ x. cond x none (some record { nodes = nodes_in b₃ g; summary = summary_in b₃; positions = listed_in (table_in b₃) k }))
        (ne_eqb g.nodes 0 (λ e. let x = some-nodes in omega (arith, nodes-are)))
        ∙ ap₂ (λ (n m : List ℕ). some record { nodes = n; summary = m; positions = listed_in (table_in b₃) k }) nodes-put summary-put
        ∙ ap (λ (p : Option (List Position)). some record { nodes = nodes; summary = marks; positions = p }) settled.lists

    fit : rows_fit b' (head_with g start_state k) ≡ true
    unfolding rows_fit
    fit = go (is_listed_lem g') refl
      where
        g' : Head
        g' = head_with g start_state k

        go : (x : Bool) → is_listed_lem g' ≡ x → cond (is_listed_lem g') (is_node_table (nodes_in b' g') && rows_ok_lem (table_in b') g'.positions) true ≡ true
        go false q = ap (λ x. cond x (is_node_table (nodes_in b' g') && rows_ok_lem (table_in b') g'.positions) true) q
        go true q =
            ap (λ x. cond x (is_node_table (nodes_in b' g') && rows_ok_lem (table_in b') g'.positions) true) q
            ∙ and_both (is_node_table (nodes_in b' g')) (rows_ok_lem (table_in b') g'.positions)
            (ap is_node_table (nodes-same b₃ b₃ b' g start_state k good st (λ m x y. refl) ∙ nodes-put) ∙ valid)
            (ap₂ rows_ok_lem (table_same b₃ b₃ b' g start_state k good st (λ m x y. refl)) (positions-is g start_state k)
            ∙ settled.rows (subst (λ (n : ℕ). n ≤ most_positions) (positions-is g start_state k) (listed-parts g' q).few))

    outline-stored : Encodes b' (with_outline (loaded_in b h) nodes marks) × Within b 0 desk_bytes b'
    unfolding loaded_in
    outline-stored = (encodes, record { long = st.long ∙ w.long ∙ p₂.long ∙ p₁.long; outside = outside })
      where
        encodes : Encodes b' (with_outline (loaded_in b h) nodes marks)
        encodes =
            subst (λ (n : ℕ). Encodes b' (some record {
              edges = edges_in b h;
              local = eqb n 2;
              outline = some record { nodes = nodes; summary = marks; positions = start_positions (nodes_of nodes) };
              judge = start_state;
            })) policies-same
            (subst (λ (t : List ℕ). Encodes b' (some record {
              edges = t;
              local = local_in g;
              outline = some record { nodes = nodes; summary = marks; positions = start_positions (nodes_of nodes) };
              judge = start_state;
            })) edges-same
            (left-encodes b₃ b₃ b' g start_state k good st (λ m x y. refl) (λ e. pol (sym policies-same ∙ e)) settled.few fit _ outlined))

        outside : (m : ℕ) → (m < 0) ⊎ (desk_bytes ≤ m) → get_or b' m 0 ≡ get_or b m 0
        outside m (inl x) = absurd (omega arith)
        outside m (inr x) =
            st.behind m (omega arith) ∙ w.outside m (inr x) ∙ p₂.outside m (inr (omega arith)) ∙ p₁.outside m (inr (omega arith))

  pub outline-kept : (g' : Head) (s : State) → g' ≡ g → s ≡ start_state → Stored b₃ g' s k b'
      → Encodes b' (with_outline (loaded_in b h) nodes marks) × Within b 0 desk_bytes b'
  outline-kept g' s e f st =
      outline-stored (subst (λ (s : State). Stored b₃ g s k b') f (subst (λ (g : Head). Stored b₃ g s k b') e st))

-- ── The check and the summary ──

module _ (local : Bool) (edges nodes : List ℕ) (e : is_edge_table edges ≡ true) (n : is_node_table nodes ≡ true) where
  pub right-checked : (v : Verdict) → CheckPromise local edges nodes v → Checked local (edges_of edges) (nodes_of nodes) v
  right-checked v p = go v ((p.exact v).1 refl)
    where
      go : (v : Verdict) → RightVerdict local edges nodes v → Checked local (edges_of edges) (nodes_of nodes) v
      go _ (RightVerdict.no_edges f) = absurd (f ((decides-edge-table edges).0 e))
      go _ (RightVerdict.no_nodes f) = absurd (f ((decides-node-table nodes).0 n))
      go _ (RightVerdict.checked a b c) = c

  pub right-summary : (t t' : List ℕ) (r : ℕ) → length t ≡ policies → Summarized local edges nodes t r t'
      → Exact local (edges_of edges) (nodes_of nodes) t'
  right-summary t t' r l (Summarized.too_small h) = absurd (omega arith)
  right-summary t t' r l (Summarized.no_edges h f) = absurd (f ((decides-edge-table edges).0 e))
  right-summary t t' r l (Summarized.no_nodes h f) = absurd (f ((decides-node-table nodes).0 n))
  right-summary t t' r l (Summarized.told {m} h a b x) = subst (Exact local (edges_of edges) (nodes_of nodes)) (sym (ap (λ (d : List ℕ). m ++ d) (drop_all t l) ∙ append-nil m)) x
    where
      drop_all : (t : List ℕ) → length t ≡ policies → drop policies t ≡ []
      drop_all t l = drop_of_length-le t {i = policies} (omega arith)

      append-nil : (m : List ℕ) → m ++ [] ≡ m
      append-nil [] = refl
      append-nil (x ∷ m) = ap (λ (r : List ℕ). x ∷ r) (append-nil m)

-- a verdict of the check is no refusal
pub plain-verdict : {local : Bool} {es : List Edge} {ns : List Node} (v : Verdict) → Checked local es ns v → is_refused v ≡ false
plain-verdict allowed c = refl
plain-verdict (violated p) c = refl
plain-verdict (refused n) c = absurd (none-refused c)
  where
    none-refused : {local : Bool} {es : List Edge} {ns : List Node} {n : ℕ} → Checked local es ns (refused n) → ⊥
    none-refused = elim [ ]

pub kept-outline : (b : List ℕ) (h : Head) (nodes : List ℕ) (r : ℕ) (b' : List ℕ) (v : Verdict) (m : Summary) (edges : List ℕ) → edges ≡ edges_in b h
    → is_edge_table (edges_in b h) ≡ true → is_node_table nodes ≡ true → CheckPromise (local_in h) edges nodes v → (t : List ℕ) (z : ℕ) → length t ≡ policies
    → Summarized (local_in h) edges nodes t z m → r ≡ desk_code (plain v) → Encodes b' (with_outline (loaded_in b h) nodes m) → Within b 0 desk_bytes b'
    → KeptOutline b h nodes r b'
kept-outline b h nodes r b' v m edges is e n check t z l sum code enc w =
    let c = right-checked (local_in h) (edges_in b h) nodes e n v (subst (λ (x : List ℕ). CheckPromise (local_in h) x nodes v) is check) in
    record {
      verdict = v;
      summary = m;
      checked = c;
      exact = right-summary (local_in h) (edges_in b h) nodes e n t m z l (subst (λ (x : List ℕ). Summarized (local_in h) x nodes t z m) is sum);
      plainly = plain-verdict v c;
      code = code;
      encodes = enc;
      within = w;
    }

-- ── The sheet of an outline ──

-- a table of nodes has room for them
pub node-room : (t : List ℕ) → is_node_table t ≡ true → length t ≤ node_places
node-room t e =
    let d = (decides-node-table t).0 e in
    let f = d.outline.few in
    let x = d.whole in
    let y = nodes-length t in
    omega arith

-- the nodes that are lent are those of the sheet
pub nodes-read : (text table : List ℕ) (n : ℕ) (k : HoldsNodes text table n) → take (node_fields * n - 0) (drop 0 table) ≡ flatten k.rows
nodes-read text table n k = ap (λ (i : ℕ). take i table) (let z : node_fields * n - 0 ≡ n * node_fields = omega arith in z) ∙ k.flat

pub nodes-valid : (text table : List ℕ) (n : ℕ) (k : HoldsNodes text table n) → is_node_table (take (node_fields * n - 0) (drop 0 table)) ≡ true
nodes-valid text table n k =
    ap is_node_table (nodes-read text table n k) ∙ (decides-node-table (flatten k.rows)).1 (accepted-nodes text k.rows k.result)

outline-into : (text : List ℕ) (r : Result) → ruled_result (sheet outline_sheet text) ≡ r → outline_into node_places text ≡ r
unfolding outline_into
outline-into text r e = e

pub outline-line : (text : List ℕ) (line number : ℕ) → ruled_result (sheet outline_sheet text) ≡ sheet-refused record { line = line; number = number }
    → line ≤ most_line
outline-line text line number e = let p = (outline-low text record { line = line; number = number } e).line in omega arith

module _ (text b : List ℕ) (h : Head) (l : desk_bytes ≤ length b) (is : desk_of b ≡ some (some (loaded_in b h))) where
  pub outline_busy : is_busy_lem (some (loaded_in b h)) ≡ true → Called (ByOutline text) b (desk_code (plain (refused 52))) b
  outline_busy e = called l is (loaded (LoadsOutline.busy e)) refl

  module _ (free : is_busy_lem (some (loaded_in b h)) ≡ false) where
    pub outline-no-sheet : (line number : ℕ) → ruled_result (sheet outline_sheet text) ≡ sheet-refused record { line = line; number = number }
        → Called (ByOutline text) b (desk_code (record { verdict = refused number; lean = false; line = line })) b
    outline-no-sheet line number e =
        called l is (loaded (LoadsOutline.no_sheet {r = record { line = line; number = number }} free (outline-into text _ e))) refl

    pub outline-loaded : (nodes : List ℕ) (rows : List (List ℕ)) (r : ℕ) (b' : List ℕ) → ruled_result (sheet outline_sheet text) ≡ accepted rows
        → nodes ≡ flatten rows → KeptOutline b h nodes r b' → Called (ByOutline text) b r b'
    unfolding loaded_in
    outline-loaded nodes rows r b' e f k =
        subst (λ (r : ℕ). Called (ByOutline text) b r b') (sym k.code)
        (called l is
        (loaded (LoadsOutline.loads {d = loaded_in b h} {rows = rows} {v = k.verdict} {m = k.summary} free (outline-into text _ e)
        (subst (λ (t : List ℕ). Checked (local_in h) (edges_of (edges_in b h)) (nodes_of t) k.verdict) f k.checked)
        (subst (λ (t : List ℕ). Exact (local_in h) (edges_of (edges_in b h)) (nodes_of t) k.summary) f k.exact)))
        (subst (λ (x : Bool). LeavesBytes x b (with_outline (loaded_in b h) (flatten rows) k.summary) b') (sym k.plainly) (
          k.within.long,
          subst (λ (t : List ℕ). Encodes b' (with_outline (loaded_in b h) t k.summary)) f k.encodes,
          λ m x. k.within.outside m (inr x),
        )))
