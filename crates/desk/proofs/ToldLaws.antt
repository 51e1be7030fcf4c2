-- From what is told of a step and the bytes that it left to what the call answers and leaves.
use Prim.Native.Nat.{ℕ, ◌*◌, ◌<◌, ◌≤◌}
use mathlib.Core.Path.{◌≡◌, sym, ap, ◌∙◌, subst}
use mathlib.Core.Bool.{Bool, true, false}
use mathlib.Core.List.{List}
use mathlib.Core.Logic.{◌⊎◌, inl, inr}
use native.Mathlib.Omega.{arith}
use Rattle.usage.specs.declared.RawStep.{RawStep}
use Rattle.usage.specs.Limits.{most_nodes, node_fields}
use Rattle.usage.specs.declared.Reason.{Reason}
use Rattle.monitor_state.specs.declared.Answer.{Answer}
use Rattle.monitor_state.specs.declared.Sizes.{Sizes}
use Rattle.monitor_state.specs.declared.Judgement.{Judgement}
use Rattle.monitor_state.specs.declared.Told.{Told}
use Rattle.usage.specs.Past.{Step}
use Rattle.usage.specs.Valid.{OutlineOk}
use Rattle.usage.specs.Tables.{nodes_of}
use Rattle.desk_positions.specs.Positions.{Position, next_positions}
use Rattle.desk_positions.specs.Growth.{Tabled}
use Rattle.desk_positions.specs.Rows.{table_bytes}
use Rattle.desk_positions.proofs.CopyLaws.{bytes-local, numbers-kept}
use Rattle.desk.specs.declared.Head.{Head}
use Rattle.desk.specs.Layout.{desk_bytes, edges_at, nodes_at, created_at, rows_at, byte_at, head_in_lem, Within}
use Rattle.desk.specs.JudgeBytes.{head_for, head_with, SmallSizes, Small, JudgedIn, Stored}
use Rattle.desk.specs.State.{nodes_in, table_in}
use Rattle.desk.specs.Promise.{is_refusal_lem}
use Rattle.desk.specs.Calls.{desk_code, given_by, Called, ByStep}
use Rattle.desk.specs.Code.{told, moves, SettledIn}
use Rattle.desk.proofs.JudgeByteLaws.{all-stored, arrays-kept}

module _ (b b₁ : List ℕ) (j : Judgement) (t : Told Reason) (q : JudgedIn j b t b₁) where
  pub told-refusal : {x : Bool} → is_refusal_lem t.answer ≡ x → is_refusal_lem j.answer ≡ x
  told-refusal e = ap is_refusal_lem (sym q.answer) ∙ e

  pub told-small : Small j.state → SmallSizes t.sizes
  told-small s = subst SmallSizes (sym q.sizes) s

  pub told-moves : (raw : RawStep) {x : Bool} → moves t.answer raw.kind ≡ x → moves j.answer raw.kind ≡ x
  told-moves raw e = ap (λ (a : Answer Reason). moves a raw.kind) (sym q.answer) ∙ e

  module _ (raw : RawStep) (lean : Bool) (r : ℕ) (code : r ≡ desk_code (given_by (told t.answer) lean)) where
    is_code : desk_code (given_by (told j.answer) lean) ≡ r
    is_code = sym (code ∙ ap (λ (a : Answer Reason). desk_code (given_by (told a) lean)) q.answer)

    pub called-refused : is_refusal_lem t.answer ≡ true → Called (ByStep raw) b (desk_code (given_by (told j.answer) lean)) b
        → Called (ByStep raw) b r b₁
    called-refused e g =
        subst (λ (x : List ℕ). Called (ByStep raw) b r x) (sym (q.refused e)) (subst (λ (n : ℕ). Called (ByStep raw) b n b) is_code g)

    pub called-taken : (b₂ : List ℕ) → Called (ByStep raw) b (desk_code (given_by (told j.answer) lean)) b₂ → Called (ByStep raw) b r b₂
    called-taken b₂ g = subst (λ (n : ℕ). Called (ByStep raw) b n b₂) is_code g

  module _ (n : is_refusal_lem t.answer ≡ false) where
    -- the head is written at once
    pub told-stored : (b₂ : List ℕ) (h : Head) (k : ℕ) → head_in_lem b₂ ≡ head_for h t.sizes k → Within b₁ 0 edges_at b₂
        → Stored b h j.state k b₂
    unfolding head_with
    told-stored b₂ h k e w = all-stored b b₁ b₂ h j.state k (q.taken n) w (e ∙ ap (λ (z : Sizes). head_for h z k) q.sizes)

    -- or after the positions
    module _ (b₂ : List ℕ) (v : Within b₁ rows_at desk_bytes b₂) where
      pub moved-stored : (b₃ : List ℕ) (h : Head) (k : ℕ) → head_in_lem b₃ ≡ head_for h t.sizes k → Within b₂ 0 edges_at b₃
          → Stored b₂ h j.state k b₃
      unfolding head_with
      moved-stored b₃ h k e w =
          all-stored b₂ b₂ b₃ h j.state k (arrays-kept b b₁ b₂ j.state (q.taken n) v) w (e ∙ ap (λ (z : Sizes). head_for h z k) q.sizes)

      pub moved-within : Within b created_at desk_bytes b₂
      moved-within = record {
        long = v.long ∙ (q.taken n).within.long;
        outside = λ m o. v.outside m (rows m o) ∙ (q.taken n).within.outside m (arrays m o);
      }
        where
          rows : (m : ℕ) → (m < created_at) ⊎ (desk_bytes ≤ m) → (m < rows_at) ⊎ (desk_bytes ≤ m)
          rows m (inl h) = inl (omega arith)
          rows m (inr h) = inr h

          arrays : (m : ℕ) → (m < created_at) ⊎ (desk_bytes ≤ m) → (m < created_at) ⊎ (rows_at ≤ m)
          arrays m (inl h) = inl h
          arrays m (inr h) = inr (omega arith)

    pub told-nodes : (h : Head) → h.nodes ≤ most_nodes → nodes_in b₁ h ≡ nodes_in b h
    unfolding nodes_in
    told-nodes h k =
        numbers-kept byte_at 1 bytes-local b b₁ nodes_at (node_fields * h.nodes) (λ m x y. (q.taken n).within.outside m (inl (omega arith)))

    pub told-table : table_in b₁ ≡ table_in b
    unfolding table_in
    told-table = numbers-kept byte_at 1 bytes-local b b₁ rows_at table_bytes (λ m x y. (q.taken n).within.outside m (inr x))

    -- what is told of the positions after what was left is told of those before it
    pub told-settles : (h : Head) → h.nodes ≤ most_nodes → (step : Step) (k : ℕ) (b₂ : List ℕ)
        → ((xs : List Position) → OutlineOk (nodes_of (nodes_in b₁ h)) → Tabled xs h.positions (table_in b₁)
        → SettledIn (next_positions (nodes_of (nodes_in b₁ h)) step xs) k b₂)
        → (xs : List Position) → OutlineOk (nodes_of (nodes_in b h)) → Tabled xs h.positions (table_in b)
        → SettledIn (next_positions (nodes_of (nodes_in b h)) step xs) k b₂
    told-settles h l step k b₂ f xs =
        subst (λ (ns : List ℕ). OutlineOk (nodes_of ns) → Tabled xs h.positions (table_in b) → SettledIn (next_positions (nodes_of ns) step xs) k b₂)
        (told-nodes h l)
        (subst (λ (ts : List ℕ). OutlineOk (nodes_of (nodes_in b₁ h)) → Tabled xs h.positions ts → SettledIn (next_positions (nodes_of (nodes_in b₁ h)) step xs) k b₂)
        told-table (f xs))
