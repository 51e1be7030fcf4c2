-- A step, from what the functions tell: off the outline and on it.
use Prim.Native.Nat.{ℕ, zero, suc, ◌*◌, ◌<◌, ◌≤◌}
use mathlib.Core.Path.{◌≡◌, refl, sym, ap, ap₂, ◌∙◌, subst}
use mathlib.Core.Bool.{Bool, true, false, not, ◌&&◌, cond}
use mathlib.Core.Option.{Option, none, some}
use mathlib.Core.List.{List, [], ◌∷◌}
use mathlib.Core.Logic.{inl, inr}
use native.Mathlib.Omega.{arith}
use lib.Dec.{eqb, leb, ltb}
use lib.ListN.{length, get_or}
use borrow.Author.Tests.{eq-eqb, ne_eqb, leb-true, le-leb, ltb-true}
use Rattle.usage.specs.declared.RawStep.{RawStep}
use Rattle.usage.specs.Limits.{policies, most_edges, most_nodes, edge_fields, node_fields}
use Rattle.usage.specs.declared.Node.{Node}
use Rattle.usage.specs.Past.{Step}
use Rattle.usage.specs.Judge.{step_of}
use Rattle.usage.specs.Valid.{OutlineOk}
use Rattle.usage.specs.Tables.{nodes_of, is_node_table}
use Rattle.usage.proofs.TableLaws.{decides-node-table}
use Rattle.desk_positions.specs.Positions.{Position, stride_all, next_positions}
use Rattle.desk_positions.specs.Growth.{Tabled, step_from}
use Rattle.desk_positions.specs.Reading.{rows_ok_lem, positions_in}
use Rattle.desk_positions.proofs.ReadingLaws.{reads-tabled}
use Rattle.desk.specs.Desk.{on_positions, outline_after}
use Rattle.desk_positions.specs.Positions.{is_any}
use Rattle.desk.proofs.OutlineLaws.{step_from_lem, kind-low, looks_on, listed-few}
use Rattle.usage.proofs.Logic.{and_left, and_right, and_both, false-true, none-some}
use Rattle.usage.specs.declared.Reason.{Reason}
use Rattle.monitor_state.specs.declared.State.{State}
use Rattle.monitor_state.specs.declared.Answer.{Answer}
use Rattle.monitor_state.specs.declared.Answer.TheVariants.{Allowed, Violated, Refused}
use Rattle.monitor_state.specs.declared.Judgement.{Judgement}
use Rattle.monitor_state.proofs.LookedLaws.{looks-alike}
use Rattle.monitor_lean.specs.Lean.{Looks, judge_by}
use Rattle.desk_positions.specs.Positions.{most_positions}
use Rattle.desk_positions.specs.Rows.{table_bytes}
use Rattle.desk.specs.declared.Head.{Head}
use Rattle.desk.specs.Layout.{desk_bytes, edges_at, nodes_at, summary_at, created_at, rows_at, byte_at, wide_at, head_in_lem, Within}
use Rattle.desk.specs.JudgeBytes.{judge_in, head_with, Small, Stored}
use Rattle.desk.specs.State.{local_in, edges_in, nodes_in, summary_in, table_in, listed_in, outlined_in, loaded_in, desk_by, desk_in, head_ok_lem}
use Rattle.desk.specs.State.{is_listed_lem, rows_fit, encoded_by, is_encoded, Encodes, looks_of, exceeded}
use Rattle.desk.specs.Desk.{Outlined, stays_on, looks_by, outline_for}
use Rattle.desk.specs.Promise.{is_refusal_lem}
use Rattle.desk.specs.Calls.{desk_code, given_by, Called, ByStep}
use Rattle.desk.specs.Code.{told, moves, SettledIn}
use Rattle.desk_positions.proofs.CopyLaws.{bytes-local, wides-local, numbers-kept}
use Rattle.desk.proofs.CallLaws.{encoded-is, desk-is, step-refused, step-stored}
use Rattle.desk.proofs.JudgedLaws.{taken-small, none-refused}
use Rattle.desk.proofs.OutlineLaws.{off-stays, off-for, looks-off, off_head}

-- ── The head ──

pub record HeadParts (h : Head) : Type 0 where
  pub policies : h.policies ≤ 2
  pub edges : h.edges ≤ most_edges
  pub nodes : h.nodes ≤ most_nodes
  pub positions : h.positions ≤ exceeded
  pub halted : h.halted ≤ 1

pub head-parts : (h : Head) → head_ok_lem h ≡ true → HeadParts h
unfolding head_ok_lem
head-parts h e =
    let a = leb h.policies 2 in
    let b = leb h.edges most_edges in
    let c = leb h.nodes most_nodes in
    let d = leb h.positions exceeded in
    let f = leb h.halted 1 in
    let e₁ = and_right a (b && (c && (d && f))) e in
    let e₂ = and_right b (c && (d && f)) e₁ in
    let e₃ = and_right c (d && f) e₂ in
    record {
      policies = leb-true _ _ (and_left a (b && (c && (d && f))) e);
      edges = leb-true _ _ (and_left b (c && (d && f)) e₁);
      nodes = leb-true _ _ (and_left c (d && f) e₂);
      positions = leb-true _ _ (and_left d f e₃);
      halted = leb-true _ _ (and_right d f e₃);
    }

pub parts-head : (h : Head) → HeadParts h → head_ok_lem h ≡ true
unfolding head_ok_lem
parts-head h p =
    and_both _ _ (le-leb _ _ p.policies) (and_both _ _ (le-leb _ _ p.edges) (and_both _ _ (le-leb _ _ p.nodes)
    (and_both _ _ (le-leb _ _ p.positions) (le-leb _ _ p.halted))))

flag-most : (x : Bool) → cond x 1 0 ≤ 1
flag-most true = omega arith
flag-most false = omega arith

-- ── The desk that is left ──

module _ (b b₁ b' : List ℕ) (h : Head) (s : State) (k : ℕ) (ok : head_ok_lem h ≡ true) (st : Stored b₁ h s k b')
    (low : (m : ℕ) → edges_at ≤ m → m < created_at → get_or b₁ m 0 ≡ get_or b m 0) where
  abbrev g : Head
  g = head_with h s k

  same_low : (m : ℕ) → edges_at ≤ m → m < created_at → get_or b' m 0 ≡ get_or b m 0
  same_low m x y = st.between m x y ∙ low m x y

  edges-same : edges_in b' g ≡ edges_in b h
  unfolding edges_in head_with
  edges-same =
      let p = (head-parts h ok).edges in
      numbers-kept byte_at 1 bytes-local b b' edges_at (edge_fields * h.edges) (λ m x y. same_low m x (omega arith))

  pub nodes-same : nodes_in b' g ≡ nodes_in b h
  unfolding nodes_in head_with
  nodes-same =
      let p = (head-parts h ok).nodes in
      numbers-kept byte_at 1 bytes-local b b' nodes_at (node_fields * h.nodes) (λ m x y. same_low m (omega arith) (omega arith))

  summary-same : summary_in b' ≡ summary_in b
  unfolding summary_in
  summary-same = numbers-kept wide_at 8 wides-local b b' summary_at policies (λ m x y. same_low m (omega arith) (omega arith))

  pub table_same : table_in b' ≡ table_in b₁
  unfolding table_in
  table_same = numbers-kept byte_at 1 bytes-local b₁ b' rows_at table_bytes (λ m x y. st.behind m x)

  pub outlined-is : outlined_in b' g
      ≡ cond (eqb h.nodes 0) none (some record { nodes = nodes_in b h; summary = summary_in b; positions = listed_in (table_in b₁) k })
  unfolding outlined_in head_with
  outlined-is =
      ap₂ (λ (ns : List ℕ) (t : List ℕ). cond (eqb h.nodes 0) none (some record { nodes = ns; summary = summary_in b'; positions = listed_in t k }))
      nodes-same table_same
      ∙ ap (λ (m : List ℕ). cond (eqb h.nodes 0) none (some record { nodes = nodes_in b h; summary = m; positions = listed_in (table_in b₁) k }))
      summary-same

  pub left-encodes : (h.policies ≡ 0 → ⊥) → k ≤ exceeded → rows_fit b' g ≡ true → (o : Option Outlined) → outlined_in b' g ≡ o
      → Encodes b' (some record { edges = edges_in b h; local = local_in h; outline = o; judge = s })
  unfolding is_encoded desk_in desk_by loaded_in head_with
  left-encodes pol l fit o e =
      let p = head-parts h ok in
      let good : head_ok_lem g ≡ true = parts-head g (record {
        policies = p.policies;
        edges = p.edges;
        nodes = p.nodes;
        positions = l;
        halted = flag-most s.halted;
      }) in
      record {
        form = ap (encoded_by b') st.head ∙ encoded-is b' g st.head pol ∙ and_both (head_ok_lem g) (rows_fit b' g) good fit;
        desk = desk-is b' g st.head pol ∙ rw (edges-same, e, st.judge);
      }

-- ── Off the outline ──

listed : (h : Head) (s : State) → is_listed_lem (head_with h s h.positions) ≡ is_listed_lem h
unfolding is_listed_lem head_with
listed h s = refl

whole : (b : List ℕ) (h : Head)
    → cond (eqb h.nodes 0) none (some record { nodes = nodes_in b h; summary = summary_in b; positions = listed_in (table_in b) h.positions })
    ≡ outlined_in b h
unfolding outlined_in
whole b h = refl

module _ (b : List ℕ) (h : Head) (raw : RawStep) (l : desk_bytes ≤ length b) (is : head_in_lem b ≡ h) (pol : h.policies ≡ 0 → ⊥)
    (ok : head_ok_lem h ≡ true) (off : is_listed_lem h ≡ false) where
  not-rows : (b : List ℕ) (h : Head) → is_listed_lem h ≡ false → rows_fit b h ≡ true
  unfolding rows_fit
  not-rows b h e = rw e

  enc : encoded_by b h ≡ true
  enc = encoded-is b h is pol ∙ and_both (head_ok_lem h) (rows_fit b h) ok (not-rows b h off)

  stays : stays_on (outlined_in b h) (step_of raw) ≡ false
  stays = off-stays (outlined_in b h) (off_head b h off (head-parts h ok).positions) (step_of raw)

  abbrev full : Judgement
  full = judge_by (looks_of false (summary_in b)) (edges_in b h) (local_in h) (judge_in b h) raw

  same : full ≡ judge_by (looks_by (stays_on (loaded_in b h).outline (step_of raw)) (loaded_in b h).outline) (loaded_in b h).edges (loaded_in b h).local (loaded_in b h).judge raw
  unfolding loaded_in
  same =
      ap (λ (looks : Looks). judge_by looks (edges_in b h) (local_in h) (judge_in b h) raw)
      (sym (looks-off (outlined_in b h) (stays_on (outlined_in b h) (step_of raw)) stays))

  pub off-refused : (j : Judgement) → j ≡ full → is_refusal_lem j.answer ≡ true → Called (ByStep raw) b (desk_code (given_by (told j.answer) false)) b
  off-refused j e r = step-refused b h raw l is pol enc false same j e r

  pub off_small : (j : Judgement) → j ≡ full → is_refusal_lem j.answer ≡ false → Small j.state
  off_small j e r =
      subst (λ (k : Judgement). Small k.state) (sym e)
      (taken-small (looks_of false (summary_in b)) (edges_in b h) (local_in h) (judge_in b h) raw
      (ap (λ (k : Judgement). is_refusal_lem k.answer) (sym e) ∙ r))

  pub off-stored : (j : Judgement) → j ≡ full → is_refusal_lem j.answer ≡ false → (b' : List ℕ) → Stored b h j.state h.positions b'
      → Called (ByStep raw) b (desk_code (given_by (told j.answer) false)) b'
  unfolding loaded_in
  off-stored j e r b' st =
      step-stored b h raw l is pol enc false same j e r stays b' (
        st.long,
        left-encodes b b b' h j.state h.positions ok st (λ m x y. refl) pol (head-parts h ok).positions fit
            (outline_for j.answer (outlined_in b h) (step_of raw)) kept,
        λ m x. st.behind m (omega arith),
      )
    where
      g : Head
      g = head_with h j.state h.positions

      fit : rows_fit b' g ≡ true
      fit = not-rows b' g (listed h j.state ∙ off)

      kept : outlined_in b' g ≡ outline_for j.answer (outlined_in b h) (step_of raw)
      kept =
          outlined-is b b b' h j.state h.positions ok st (λ m x y. refl) ∙ whole b h
          ∙ sym (off-for j.answer (outlined_in b h) (off_head b h off (head-parts h ok).positions) (step_of raw))

pub positions-is : (h : Head) (s : State) (k : ℕ) → (head_with h s k).positions ≡ k
unfolding head_with
positions-is h s k = refl

-- ── The tests of 42 ──

module _ (b : List ℕ) (h : Head) (is : head_in_lem b ≡ h) (pol : h.policies ≡ 0 → ⊥) where
  pub encoded-head : encoded_by b h ≡ true → head_ok_lem h ≡ true
  encoded-head enc = and_left (head_ok_lem h) (rows_fit b h) (sym (encoded-is b h is pol) ∙ enc)

  module _ (on : is_listed_lem h ≡ true) where
    pub rows-unfit : (is_node_table (nodes_in b h) && rows_ok_lem (table_in b) h.positions) ≡ false → rows_fit b h ≡ false
    unfolding rows_fit
    rows-unfit e = rw (on, e)

    pub rows-encoded : head_ok_lem h ≡ true → is_node_table (nodes_in b h) ≡ true → rows_ok_lem (table_in b) h.positions ≡ true → encoded_by b h ≡ true
    unfolding rows_fit
    rows-encoded ok p q =
        encoded-is b h is pol ∙ and_both (head_ok_lem h) (rows_fit b h) ok
        (ap (λ x. cond x (is_node_table (nodes_in b h) && rows_ok_lem (table_in b) h.positions) true) on
        ∙ and_both (is_node_table (nodes_in b h)) (rows_ok_lem (table_in b) h.positions) p q)

-- ── On the outline ──

pub record ListedParts (h : Head) : Type 0 where
  pub nodes : 0 < h.nodes
  pub positions : 0 < h.positions
  pub few : h.positions ≤ most_positions

pub listed-parts : (h : Head) → is_listed_lem h ≡ true → ListedParts h
unfolding is_listed_lem
listed-parts h e =
    let a = ltb 0 h.nodes in
    let b = ltb 0 h.positions in
    let c = leb h.positions most_positions in
    record {
      nodes = ltb-true _ _ (and_left a (b && c) e);
      positions = ltb-true _ _ (and_left b c (and_right a (b && c) e));
      few = leb-true _ _ (and_right b c (and_right a (b && c) e));
    }

module _ (b : List ℕ) (h : Head) (raw : RawStep) (l : desk_bytes ≤ length b) (is : head_in_lem b ≡ h) (pol : h.policies ≡ 0 → ⊥)
    (enc : encoded_by b h ≡ true) (on : is_listed_lem h ≡ true) (lean : Bool) (retires : raw.kind ≡ 3 → lean ≡ true)
    (strides : (raw.kind ≡ 3 → ⊥) → (ls : List Position) → OutlineOk (nodes_of (nodes_in b h)) → Tabled ls h.positions (table_in b)
    → lean ≡ is_any (stride_all (nodes_of (nodes_in b h)) (step_from raw.kind raw.a raw.b) ls)) where
  abbrev ns : List Node
  ns = nodes_of (nodes_in b h)

  abbrev ls : List Position
  ls = positions_in (table_in b) h.positions

  abbrev u : Outlined
  u = record { nodes = nodes_in b h; summary = summary_in b; positions = some ls }

  both : (head_ok_lem h && rows_fit b h) ≡ true
  both = sym (encoded-is b h is pol) ∙ enc

  pub ok : head_ok_lem h ≡ true
  ok = and_left (head_ok_lem h) (rows_fit b h) both

  fits : (is_node_table (nodes_in b h) && rows_ok_lem (table_in b) h.positions) ≡ true
  unfolding rows_fit
  fits = ap (λ x. cond x (is_node_table (nodes_in b h) && rows_ok_lem (table_in b) h.positions) true) (sym on) ∙ and_right (head_ok_lem h) (rows_fit b h) both

  pub valid : OutlineOk ns
  valid = ((decides-node-table (nodes_in b h)).0 (and_left (is_node_table (nodes_in b h)) (rows_ok_lem (table_in b) h.positions) fits)).outline

  outlined : outlined_in b h ≡ some u
  unfolding outlined_in listed_in
  outlined =
      let p = listed-parts h on in
      let x = p.nodes in
      let y = p.few in
      rw (ne_eqb h.nodes 0 (λ e. omega arith), ne_eqb h.positions exceeded (λ e. omega arith))

  tabled : Tabled ls h.positions (table_in b)
  tabled =
      reads-tabled (table_in b) h.positions (listed-parts h on).few (and_right (is_node_table (nodes_in b h)) (rows_ok_lem (table_in b) h.positions) fits)

  any-is : (raw.kind ≡ 3 → ⊥) → is_any (stride_all ns (step_from raw.kind raw.a raw.b) ls) ≡ lean
  any-is kind = sym (strides kind ls valid tabled)

  any-listed : raw.kind ≡ 3 → is_any ls ≡ lean
  any-listed k = go ls refl
    where
      long : (x : List Position) → ls ≡ x → length x ≡ h.positions
      long x e = ap length (sym e) ∙ sym tabled.number

      go : (x : List Position) → ls ≡ x → is_any x ≡ lean
      go [] e = absurd (let p = (listed-parts h on).positions in omega (arith, long [] e))
      go (y ∷ x) e = sym (retires k)

  -- which judge the definition asks, where the numbers are a step
  pub on-stays : (step : Step) → step_of raw ≡ some step → stays_on (outlined_in b h) (step_of raw) ≡ lean
  unfolding stays_on
  on-stays step e = ap (λ (v : Option Outlined). stays_on v (step_of raw)) outlined ∙ ap (on_positions ns (some ls)) (e ∙ ap some (step_from_lem raw step e)) ∙ at raw.kind refl
    where
      too-high : (k : ℕ) → raw.kind ≡ suc (suc (suc (suc k))) → ⊥
      too-high k q = let p = kind-low raw step e in omega arith

      at : (k : ℕ) → raw.kind ≡ k → on_positions ns (some ls) (some (step_from k raw.a raw.b)) ≡ lean
      at zero q = subst (λ (k : ℕ). is_any (stride_all ns (step_from k raw.a raw.b) ls) ≡ lean) q (any-is (λ z. omega arith))
      at (suc zero) q = subst (λ (k : ℕ). is_any (stride_all ns (step_from k raw.a raw.b) ls) ≡ lean) q (any-is (λ z. omega arith))
      at (suc (suc zero)) q = subst (λ (k : ℕ). is_any (stride_all ns (step_from k raw.a raw.b) ls) ≡ lean) q (any-is (λ z. omega arith))
      at (suc (suc (suc zero))) q = any-listed q
      at (suc (suc (suc (suc k)))) q = absurd (too-high k q)

  abbrev asked : Judgement
  asked = judge_by (looks_of lean (summary_in b)) (edges_in b h) (local_in h) (judge_in b h) raw

  on_same : asked
      ≡ judge_by (looks_by (stays_on (loaded_in b h).outline (step_of raw)) (loaded_in b h).outline) (loaded_in b h).edges (loaded_in b h).local (loaded_in b h).judge raw
  unfolding loaded_in
  on_same = go (step_of raw) refl
    where
      go : (o : Option Step) → step_of raw ≡ o
          → asked ≡ judge_by (looks_by (stays_on (outlined_in b h) (step_of raw)) (outlined_in b h)) (edges_in b h) (local_in h) (judge_in b h) raw
      go none e =
          looks-alike (looks_of lean (summary_in b)) (looks_by (stays_on (outlined_in b h) (step_of raw)) (outlined_in b h)) (edges_in b h) (local_in h)
          (judge_in b h) raw (λ step q. none-some (sym e ∙ q))
      go (some step) e =
          ap (λ (looks : Looks). judge_by looks (edges_in b h) (local_in h) (judge_in b h) raw)
          (sym (ap₂ looks_by (on-stays step e) outlined ∙ looks_on u lean))

  module _ (j : Judgement) (e : j ≡ asked) where
    pub on-refused : is_refusal_lem j.answer ≡ true → Called (ByStep raw) b (desk_code (given_by (told j.answer) lean)) b
    on-refused r = step-refused b h raw l is pol enc lean on_same j e r

    module _ (r : is_refusal_lem j.answer ≡ false) where
      pub on-small : Small j.state
      on-small =
          subst (λ (k : Judgement). Small k.state) (sym e)
          (taken-small (looks_of lean (summary_in b)) (edges_in b h) (local_in h) (judge_in b h) raw
          (ap (λ (k : Judgement). is_refusal_lem k.answer) (sym e) ∙ r))

      read : (step : Step) × (step_of raw ≡ some step)
      read = go (step_of raw) refl
        where
          go : (o : Option Step) → step_of raw ≡ o → (step : Step) × (step_of raw ≡ some step)
          go (some step) q = (step, q)
          go none q =
              false-true (sym r ∙ ap (λ (k : Judgement). is_refusal_lem k.answer) e
              ∙ none-refused (looks_of lean (summary_in b)) (edges_in b h) (local_in h) (judge_in b h) raw q)

      -- what is left, from the outline that is left
      left : (b₁ b' : List ℕ) (k : ℕ) → Stored b₁ h j.state k b' → Within b created_at desk_bytes b₁ → k ≤ exceeded
          → rows_fit b' (head_with h j.state k) ≡ true
          → some record { nodes = nodes_in b h; summary = summary_in b; positions = listed_in (table_in b₁) k }
          ≡ outline_for j.answer (some u) (step_of raw)
          → Called (ByStep raw) b (desk_code (given_by (told j.answer) lean)) b'
      unfolding loaded_in
      left b₁ b' k st w few fit same =
          step-stored b h raw l is pol enc lean on_same j e r (on-stays read.0 read.1) b' (
            st.long ∙ w.long,
            left-encodes b b₁ b' h j.state k ok st (λ m x y. w.outside m (inl (omega arith))) pol few fit
                (outline_for j.answer (outlined_in b h) (step_of raw))
                (outlined-is b b₁ b' h j.state k ok st (λ m x y. w.outside m (inl (omega arith)))
                ∙ ap (λ x. cond x none (some record { nodes = nodes_in b h; summary = summary_in b; positions = listed_in (table_in b₁) k }))
                (ne_eqb h.nodes 0 (λ z. let p = (listed-parts h on).nodes in omega arith))
                ∙ same ∙ ap (λ (v : Option Outlined). outline_for j.answer v (step_of raw)) (sym outlined)),
            λ m x. st.behind m (omega arith) ∙ w.outside m (inr x),
          )

      nodes-good : is_node_table (nodes_in b h) ≡ true
      nodes-good = and_left (is_node_table (nodes_in b h)) (rows_ok_lem (table_in b) h.positions) fits

      rows_left : (b₁ b' : List ℕ) (k : ℕ) → Stored b₁ h j.state k b' → Within b created_at desk_bytes b₁
          → (k ≤ most_positions → rows_ok_lem (table_in b₁) k ≡ true) → rows_fit b' (head_with h j.state k) ≡ true
      unfolding rows_fit
      rows_left b₁ b' k st w good = go (is_listed_lem (head_with h j.state k)) refl
        where
          g : Head
          g = head_with h j.state k

          go : (x : Bool) → is_listed_lem g ≡ x → cond (is_listed_lem g) (is_node_table (nodes_in b' g) && rows_ok_lem (table_in b') g.positions) true ≡ true
          go false q = ap (λ x. cond x (is_node_table (nodes_in b' g) && rows_ok_lem (table_in b') g.positions) true) q
          go true q =
              ap (λ x. cond x (is_node_table (nodes_in b' g) && rows_ok_lem (table_in b') g.positions) true) q
              ∙ and_both (is_node_table (nodes_in b' g)) (rows_ok_lem (table_in b') g.positions)
              (ap is_node_table (nodes-same b b₁ b' h j.state k ok st (λ m x y. w.outside m (inl (omega arith)))) ∙ nodes-good)
              (ap₂ rows_ok_lem (table_same b b₁ b' h j.state k ok st (λ m x y. w.outside m (inl (omega arith)))) (positions-is h j.state k)
              ∙ good (subst (λ (n : ℕ). n ≤ most_positions) (positions-is h j.state k) (listed-parts g q).few))

      -- "Refused steps and retirings move no position"
      pub on-kept : moves j.answer raw.kind ≡ false → (b' : List ℕ) → Stored b h j.state h.positions b'
          → Called (ByStep raw) b (desk_code (given_by (told j.answer) lean)) b'
      on-kept q b' st =
          left b b' h.positions st untouched (head-parts h ok).positions
          (rows_left b b' h.positions st untouched (λ z. and_right (is_node_table (nodes_in b h)) (rows_ok_lem (table_in b) h.positions) fits))
          (listed-again ∙ stay j.answer q r)
        where
          untouched : Within b created_at desk_bytes b
          untouched = record { long = refl; outside = λ m x. refl }

          listed-again : some record { nodes = nodes_in b h; summary = summary_in b; positions = listed_in (table_in b) h.positions } ≡ some u
          listed-again =
              ap (λ (p : Option (List Position)). some record { nodes = nodes_in b h; summary = summary_in b; positions = p })
              (listed-few (table_in b) h.positions (listed-parts h on).few)

          retired : (k : ℕ) → raw.kind ≡ k → not (eqb k 3) ≡ false → outline_after (some u) (some (step_from k raw.a raw.b)) ≡ some u
          retired zero z p = false-true (sym p)
          retired (suc zero) z p = false-true (sym p)
          retired (suc (suc zero)) z p = false-true (sym p)
          retired (suc (suc (suc k))) z p = refl

          stay : (a : Answer Reason) → moves a raw.kind ≡ false → is_refusal_lem a ≡ false → some u ≡ outline_for a (some u) (step_of raw)
          stay Allowed p x =
              sym (ap (outline_after (some u)) (read.1 ∙ ap some (step_from_lem raw read.0 read.1)) ∙ retired raw.kind refl p)
          stay (Violated n) p x = refl
          stay (Refused n) p x = refl

      -- where it leads
      pub on-moved : moves j.answer raw.kind ≡ true → (b₁ b' : List ℕ) (k : ℕ) → Within b created_at desk_bytes b₁
          → ((xs : List Position) → OutlineOk ns → Tabled xs h.positions (table_in b)
          → SettledIn (next_positions ns (step_from raw.kind raw.a raw.b) xs) k b₁) → Stored b₁ h j.state k b'
          → Called (ByStep raw) b (desk_code (given_by (told j.answer) lean)) b'
      on-moved q b₁ b' k w settles st =
          left b₁ b' k st w settled.few (rows_left b₁ b' k st w settled.rows)
          (ap (λ (p : Option (List Position)). some record { nodes = nodes_in b h; summary = summary_in b; positions = p }) settled.lists
          ∙ led j.answer q)
        where
          step : Step
          step = step_from raw.kind raw.a raw.b

          no-retiring : (a : Answer Reason) → moves a raw.kind ≡ true → raw.kind ≡ 3 → ⊥
          no-retiring Allowed p z = false-true (sym (ap not (eq-eqb raw.kind 3 z)) ∙ p)
          no-retiring (Violated n) p z = false-true p
          no-retiring (Refused n) p z = false-true p

          settled : SettledIn (next_positions ns step ls) k b₁
          settled = settles ls valid tabled

          plainly : (n : ℕ) → raw.kind ≡ n → (n ≡ 3 → ⊥) → n ≤ 3
              → outline_after (some u) (some (step_from n raw.a raw.b))
              ≡ some record { nodes = nodes_in b h; summary = summary_in b; positions = next_positions ns (step_from n raw.a raw.b) ls }
          plainly zero z d c = refl
          plainly (suc zero) z d c = refl
          plainly (suc (suc zero)) z d c = refl
          plainly (suc (suc (suc zero))) z d c = absurd (d refl)
          plainly (suc (suc (suc (suc n)))) z d c = absurd (omega arith)

          led : (a : Answer Reason) → moves a raw.kind ≡ true
              → some record { nodes = nodes_in b h; summary = summary_in b; positions = next_positions ns step ls } ≡ outline_for a (some u) (step_of raw)
          led Allowed p =
              sym (ap (outline_after (some u)) (read.1 ∙ ap some (step_from_lem raw read.0 read.1))
              ∙ plainly raw.kind refl (no-retiring Allowed p) (kind-low raw read.0 read.1))
          led (Violated n) p = false-true p
          led (Refused n) p = false-true p
