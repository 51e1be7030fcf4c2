-- Loads, from what the functions tell.
use Prim.Native.Nat.{ℕ, ◌*◌, ◌<◌, ◌≤◌}
use mathlib.Core.Path.{◌≡◌, refl, sym, ap, ap₂, ◌∙◌, subst}
use mathlib.Core.Bool.{Bool, true, false, not, ◌&&◌, cond}
use mathlib.Core.Option.{none, some}
use mathlib.Core.List.{List, flatten}
use mathlib.Core.Logic.{◌⊎◌, inl, inr}
use native.Mathlib.Omega.{arith}
use lib.Dec.{eqb, ltb}
use lib.ListN.{length, get_or, take}
use borrow.Author.Tests.{ne_eqb}
use Rattle.usage.specs.Limits.{most_edges, edge_fields, edge_places}
use Rattle.usage.specs.Answers.{refused}
use Rattle.usage.specs.Tables.{is_edge_table, is_node_table}
use Rattle.usage.proofs.Logic.{and_left, and_right, and-false}
use Rattle.sheet_lines.specs.Sheet.{Result, refused as sheet-refused}
use Rattle.sheet_lines.specs.Sheets.{is_local, policy_sheet}
use Rattle.sheet_reader.specs.Readers.{policies_read, policies_into}
use Rattle.sheet_reader.proofs.RefusalLaws.{sheet-low}
use Rattle.sheet_reader.proofs.AnswerLaws.{Holds}
use Rattle.monitor_state.specs.declared.State.{State}
use Rattle.monitor_state.specs.Judge.{state_ok_lem, live_ok, unclosed_ok, created_ok, highest_ok, order_ok_lem, start_state, start_created, start_unclosed}
use Rattle.desk_positions.specs.Reading.{rows_ok_lem}
use Rattle.desk.specs.declared.Head.{Head}
use Rattle.desk.specs.Layout.{desk_bytes, edges_at, byte_at, head_in_lem, Put, Within}
use Rattle.desk.specs.JudgeBytes.{judge_in, head_with, Small, Stored}
use Rattle.desk.specs.State.{local_in, edges_in, nodes_in, table_in, outlined_in, loaded_in, desk_by, desk_in, head_ok_lem, is_listed_lem, rows_fit}
use Rattle.desk.specs.State.{encoded_by, is_encoded, is_sound_lem, desk_of, Encodes}
use Rattle.desk.specs.Desk.{is_busy_lem, with_policies, LoadsPolicies}
use Rattle.desk.specs.Calls.{desk_code, plain, Called, called, ByPolicies, loaded}
use Rattle.desk.specs.Code.{most_line}
use Rattle.desk_positions.proofs.CopyLaws.{put_all}
use Rattle.desk.proofs.CallLaws.{desk-is}
use Rattle.desk.proofs.StepLaws.{parts-head, left-encodes}

-- ── 42 ──

pub state-parts : (s : State) (x y : Bool)
    → x ≡ (created_ok s.created.count s.created.numbers && highest_ok s.created.highest s.created.count s.created.numbers)
    → y ≡ order_ok_lem s.unclosed.depth s.unclosed.order s.unclosed.counts → (x && y) ≡ state_ok_lem s
unfolding state_ok_lem live_ok unclosed_ok
state-parts s x y p q = ap₂ (λ a b. a && b) p q

module _ (b : List ℕ) (h : Head) where
  abbrev whole : Bool
  whole = encoded_by b h && is_sound_lem (desk_by b h)

  pub desk-none : h.policies ≡ 0 → true ≡ whole
  unfolding encoded_by desk_by is_sound_lem
  desk-none e = rw e

  module _ (pol : h.policies ≡ 0 → ⊥) where
    pub desk-some : whole ≡ ((head_ok_lem h && rows_fit b h) && (is_edge_table (edges_in b h) && state_ok_lem (judge_in b h)))
    unfolding encoded_by desk_by is_sound_lem loaded_in
    desk-some = rw (ne_eqb _ _ pol)

    pub desk-head : head_ok_lem h ≡ false → false ≡ whole
    desk-head e = sym (desk-some ∙ rw e)

    pub desk-rows : is_listed_lem h ≡ true → (is_node_table (nodes_in b h) && rows_ok_lem (table_in b) h.positions) ≡ false → false ≡ whole
    unfolding rows_fit
    desk-rows e f = sym (desk-some ∙ rw (e, f, and-false (head_ok_lem h) false refl))

    pub desk-sound : head_ok_lem h ≡ true → rows_fit b h ≡ true → (is_edge_table (edges_in b h) && state_ok_lem (judge_in b h)) ≡ whole
    desk-sound e f = sym (desk-some ∙ rw (e, f))

  pub rows_on : is_listed_lem h ≡ true → (is_node_table (nodes_in b h) && rows_ok_lem (table_in b) h.positions) ≡ true → rows_fit b h ≡ true
  unfolding rows_fit
  rows_on e f = rw (e, f)

  pub rows-off : is_listed_lem h ≡ false → rows_fit b h ≡ true
  unfolding rows_fit
  rows-off e = rw e

module _ (b : List ℕ) (h : Head) (is : head_in_lem b ≡ h) where
  pub no-desk-of : whole b h ≡ false → desk_of b ≡ none
  unfolding desk_of is_encoded desk_in
  no-desk-of e = rw (is, e)

  pub desk-of : whole b h ≡ true → desk_of b ≡ some (desk_in b)
  unfolding desk_of is_encoded desk_in
  desk-of e = rw (is, e)

  pub desk-by : desk_by b h ≡ desk_in b
  unfolding desk_in
  desk-by = ap (desk_by b) (sym is)

  -- a desk at which policies are loaded
  pub loaded-desk : (h.policies ≡ 0 → ⊥) → whole b h ≡ true
      → (desk_of b ≡ some (some (loaded_in b h))) × (desk_by b h ≡ some (loaded_in b h)) × (head_ok_lem h ≡ true) × (is_edge_table (edges_in b h) ≡ true)
  loaded-desk pol e =
      let f = sym (desk-some b h pol) ∙ e in (
        desk-of e ∙ ap some (desk-is b h is pol),
        desk-by ∙ desk-is b h is pol,
        and_left (head_ok_lem h) (rows_fit b h) (and_left (head_ok_lem h && rows_fit b h) (is_edge_table (edges_in b h) && state_ok_lem (judge_in b h)) f),
        and_left (is_edge_table (edges_in b h)) (state_ok_lem (judge_in b h)) (and_right (head_ok_lem h && rows_fit b h) (is_edge_table (edges_in b h) && state_ok_lem (judge_in b h)) f),
      )

-- ── 52 ──

module _ (h : Head) (b : List ℕ) where
  pub busy-is : (not (eqb h.policies 0) && (ltb 0 h.depth && not (eqb h.halted 1))) ≡ is_busy_lem (desk_by b h)
  unfolding desk_by loaded_in judge_in
  busy-is = go (eqb h.policies 0)
    where
      go : (x : Bool) → (not x && (ltb 0 h.depth && not (eqb h.halted 1))) ≡ is_busy_lem (cond x none (some (loaded_in b h)))
      go true = refl
      go false = refl

-- ── Policies ──

pub start_small : (s : State) → s ≡ start_state → Small s
unfolding start_state start_created start_unclosed
start_small s e = rw e (omega arith, omega arith)

abbrev policies_head : ℕ → Bool → Head
policies_head n local =
    record { policies = cond local 2 1; edges = n; nodes = 0; positions = 0; halted = 0; count = 0; highest = 0; depth = 0 }

some-policies : (local : Bool) → ◌≡◌ {A = ℕ} (cond local 2 1) 0 → ⊥
some-policies true e = omega arith
some-policies false e = omega arith

few-policies : (local : Bool) → cond local 2 1 ≤ 2
few-policies true = omega arith
few-policies false = omega arith

local-again : (local : Bool) → eqb (cond local 2 1) 2 ≡ local
local-again true = refl
local-again false = refl

no-list : (n : ℕ) (local : Bool) (s : State) (b : List ℕ) → rows_fit b (head_with (policies_head n local) s 0) ≡ true
unfolding rows_fit is_listed_lem head_with
no-list n local s b = refl

no_outline : (n : ℕ) (local : Bool) (s : State) (b : List ℕ) → outlined_in b (head_with (policies_head n local) s 0) ≡ none
unfolding outlined_in head_with
no_outline n local s b = refl

edges-put : (b b₁ rows : List ℕ) (n : ℕ) (local : Bool) → Put byte_at 1 b edges_at (edge_fields * n) rows b₁ → length rows ≡ edge_fields * n
    → edges_in b₁ (policies_head n local) ≡ rows
unfolding edges_in
edges-put b b₁ rows n local p l = put_all byte_at 1 b edges_at (edge_fields * n) rows b₁ p l

pub policies-stored : (b b₁ b' rows : List ℕ) (n : ℕ) (local : Bool) (h : Head) (s : State) → n ≤ most_edges → length rows ≡ edge_fields * n
    → Put byte_at 1 b edges_at (edge_fields * n) rows b₁ → h ≡ policies_head n local → s ≡ start_state → Stored b₁ h s 0 b'
    → Encodes b' (with_policies rows local) × Within b 0 desk_bytes b'
policies-stored b b₁ b' rows n local h s few l p e f st = (encodes, record { long = st.long ∙ p.long; outside = outside })
  where
    st₁ : Stored b₁ (policies_head n local) start_state 0 b'
    st₁ = subst (λ (s : State). Stored b₁ (policies_head n local) s 0 b') f (subst (λ (h : Head). Stored b₁ h s 0 b') e st)

    good : head_ok_lem (policies_head n local) ≡ true
    good = parts-head (policies_head n local) (record {
      policies = few-policies local;
      edges = few;
      nodes = omega arith;
      positions = omega arith;
      halted = omega arith;
    })

    encodes : Encodes b' (with_policies rows local)
    encodes =
        subst (λ (x : Bool). Encodes b' (with_policies rows x)) (local-again local)
        (subst (λ (t : List ℕ). Encodes b' (with_policies t (local_in (policies_head n local)))) (edges-put b b₁ rows n local p l)
        (left-encodes b₁ b₁ b' (policies_head n local) start_state 0 good st₁ (λ m x y. refl) (some-policies local) (omega arith)
        (no-list n local start_state b') none (no_outline n local start_state b')))

    outside : (m : ℕ) → (m < 0) ⊎ (desk_bytes ≤ m) → get_or b' m 0 ≡ get_or b m 0
    outside m (inl x) = absurd (omega arith)
    outside m (inr x) = st.behind m (omega arith) ∙ p.outside m (inr (omega arith))

-- ── The sheet of policies ──

policies-into : (text : List ℕ) (r : Result) → policies_read text ≡ r → policies_into edge_places text ≡ r
unfolding policies_into
policies-into text r e = e

pub policies-line : (text : List ℕ) (line number : ℕ) → policies_read text ≡ sheet-refused record { line = line; number = number } → line ≤ most_line
policies-line text line number e = let p = (sheet-low (policy_sheet (is_local text)) text record { line = line; number = number } e).line in omega arith

module _ (text b : List ℕ) (l : desk_bytes ≤ length b) (is : desk_of b ≡ some (desk_in b)) where
  pub policies_busy : is_busy_lem (desk_in b) ≡ true → Called (ByPolicies text) b (desk_code (plain (refused 52))) b
  policies_busy e = called l is (loaded (LoadsPolicies.busy e)) refl

  module _ (free : is_busy_lem (desk_in b) ≡ false) where
    pub policies-no-sheet : (line number : ℕ) → policies_read text ≡ sheet-refused record { line = line; number = number }
        → Called (ByPolicies text) b (desk_code (record { verdict = refused number; lean = false; line = line })) b
    policies-no-sheet line number e =
        called l is (loaded (LoadsPolicies.no_sheet {r = record { line = line; number = number }} free (policies-into text _ e))) refl

    pub policies-loaded : (n : ℕ) (local : Bool) (table b' : List ℕ) → Holds (policy_sheet (is_local text)) text table n → local ≡ is_local text
        → Encodes b' (with_policies (take (edge_fields * n) table) local) → Within b 0 desk_bytes b' → Called (ByPolicies text) b 0 b'
    policies-loaded n local table b' k e enc w =
        let flat : take (edge_fields * n) table ≡ flatten k.rows = ap (λ (i : ℕ). take i table) (let z : edge_fields * n ≡ n * 6 = omega arith in z) ∙ k.flat in
        called l is (loaded (LoadsPolicies.loads {rows = k.rows} free (policies-into text _ k.result))) (
          w.long,
          subst (λ (t : List ℕ). Encodes b' (with_policies t (is_local text))) flat (subst (λ (x : Bool). Encodes b' (with_policies (take (edge_fields * n) table) x)) e enc),
          λ m x. w.outside m (inr x),
        )
