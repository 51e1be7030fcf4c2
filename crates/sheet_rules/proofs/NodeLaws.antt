-- Laws of one node of a flat table: its form, its children, and what it says of loops and names, by its kind.
use Prim.Native.Nat.{ℕ, zero, suc, ◌+◌, ◌-◌, ◌*◌, ◌/◌, ◌<◌, ◌≤◌}
use mathlib.Core.Path.{◌≡◌, refl, sym, ap, ◌∙◌}
use mathlib.Core.Bool.{Bool, true, false, cond, ◌&&◌, and-true}
use mathlib.Core.Option.{Option, none, some}
use mathlib.Core.List.{List, []}
use native.Mathlib.Omega.{arith}
use native.Mathlib.Nat.{sub-zero}
use native.Mathlib.Numerals.{add-one}
use lib.Dec.{eqb, ltb}
use lib.ListN.{length, get_or}
use borrow.Author.Tests.{eq-eqb, ne_eqb}
use Rattle.usage.specs.declared.Node.{Node}
use Rattle.usage.specs.Limits.{node_fields}
use Rattle.usage.specs.Outline.{Form, node_kinds, form_of, form_in, form_at}
use Rattle.usage.specs.Past.{add_if}
use Rattle.usage.specs.Valid.{children_of, times, times_child_lem}
use Rattle.usage.specs.Tests.{every, between, target, uses, gives, project, is_some, loop_at, is_child_lem, above, some_below, gives_name_lem}
use Rattle.usage.specs.Tables.{from, node_at_lem, nodes_of}
use Rattle.sheet_rules.specs.Code.{child_if, field_of}
use Rattle.usage.proofs.TableLaws.{nodes-at}
use Rattle.sheet_fields.proofs.RangeLaws.{past_end}

-- ── Node k of a flat table ──

pub form-at : (t : List ℕ) (k : ℕ) → k < length t / node_fields → form_at (nodes_of t) k ≡ form_of (node_at_lem t k)
form-at t k h = ap form_in (nodes-at t k h)

-- ── By kind ──

pub by_kind : (P : ℕ → Type 0) → P 0 → P 1 → P 2 → P 3 → P 4 → P 5 → P 6 → P 7 → P 8 → ((k : ℕ) → 9 ≤ k → P k) → (k : ℕ) → P k
by_kind P p0 p1 p2 p3 p4 p5 p6 p7 p8 p zero = p0
by_kind P p0 p1 p2 p3 p4 p5 p6 p7 p8 p (suc zero) = p1
by_kind P p0 p1 p2 p3 p4 p5 p6 p7 p8 p (suc (suc zero)) = p2
by_kind P p0 p1 p2 p3 p4 p5 p6 p7 p8 p (suc (suc (suc zero))) = p3
by_kind P p0 p1 p2 p3 p4 p5 p6 p7 p8 p (suc (suc (suc (suc zero)))) = p4
by_kind P p0 p1 p2 p3 p4 p5 p6 p7 p8 p (suc (suc (suc (suc (suc zero))))) = p5
by_kind P p0 p1 p2 p3 p4 p5 p6 p7 p8 p (suc (suc (suc (suc (suc (suc zero)))))) = p6
by_kind P p0 p1 p2 p3 p4 p5 p6 p7 p8 p (suc (suc (suc (suc (suc (suc (suc zero))))))) = p7
by_kind P p0 p1 p2 p3 p4 p5 p6 p7 p8 p (suc (suc (suc (suc (suc (suc (suc (suc zero)))))))) = p8
by_kind P p0 p1 p2 p3 p4 p5 p6 p7 p8 p (suc (suc (suc (suc (suc (suc (suc (suc (suc k))))))))) =
    p (suc (suc (suc (suc (suc (suc (suc (suc (suc k))))))))) (omega arith)

no-form : (k a b : ℕ) → 9 ≤ k → form_of (record { kind = k; a = a; b = b }) ≡ none
unfolding form_of
no-form k a b h = rw (past_end node_kinds k h) refl

-- a kind above 8 is none of these
other : (k m : ℕ) → 9 ≤ k → m < 9 → eqb k m ≡ false
other k m h l = ne_eqb k m (λ e. absurd (apart e))
  where
    apart : k ≡ m → ⊥
    apart e = omega arith

module _ (a b : ℕ) where
  pub no-children : (k : ℕ) → (k ≡ 3 → ⊥) → (k ≡ 4 → ⊥) → (k ≡ 5 → ⊥) → (k ≡ 7 → ⊥) → (k ≡ 8 → ⊥)
      → children_of (form_of (record { kind = k; a = a; b = b })) ≡ []
  unfolding form_of
  no-children = by_kind
      (λ k. (k ≡ 3 → ⊥) → (k ≡ 4 → ⊥) → (k ≡ 5 → ⊥) → (k ≡ 7 → ⊥) → (k ≡ 8 → ⊥) → children_of (form_of (record { kind = k; a = a; b = b }))
      ≡ [])
      (λ h3 h4 h5 h7 h8. refl)
      (λ h3 h4 h5 h7 h8. refl)
      (λ h3 h4 h5 h7 h8. refl)
      (λ h3 h4 h5 h7 h8. absurd (h3 refl))
      (λ h3 h4 h5 h7 h8. absurd (h4 refl))
      (λ h3 h4 h5 h7 h8. absurd (h5 refl))
      (λ h3 h4 h5 h7 h8. refl)
      (λ h3 h4 h5 h7 h8. absurd (h7 refl))
      (λ h3 h4 h5 h7 h8. absurd (h8 refl))
      (λ k h h3 h4 h5 h7 h8. ap children_of (no-form k a b h))

  pub loop-kind : (k : ℕ) → loop_at (form_of (record { kind = k; a = a; b = b })) ≡ eqb k 5
  unfolding form_of
  loop-kind = by_kind (λ k. loop_at (form_of (record { kind = k; a = a; b = b })) ≡ eqb k 5)
      refl refl refl refl refl refl refl refl refl
      (λ k h. ap loop_at (no-form k a b h) ∙ sym (other k 5 h (omega arith)))

  -- What a form says of a loop's number or of a name, it says in the field x of kind m alone.
  module _ (f : Form → Option ℕ) (m x : ℕ) (l : m < 9) where
    abbrev Said : ℕ → Type 0
    Said k = project f (form_of (record { kind = k; a = a; b = b })) ≡ cond (eqb k m) (some x) none

    pub said-kind : Said 0 → Said 1 → Said 2 → Said 3 → Said 4 → Said 5 → Said 6 → Said 7 → Said 8 → (k : ℕ) → Said k
    said-kind p0 p1 p2 p3 p4 p5 p6 p7 p8 = by_kind Said p0 p1 p2 p3 p4 p5 p6 p7 p8
        (λ k h. ap (project f) (no-form k a b h) ∙ sym (ap (λ z. cond z (some x) none) (other k m h l)))

  pub target-kind : (k : ℕ) → project target (form_of (record { kind = k; a = a; b = b })) ≡ cond (eqb k 6) (some a) none
  unfolding form_of
  target-kind = said-kind target 6 a (omega arith) refl refl refl refl refl refl refl refl refl

  pub uses-kind : (k : ℕ) → project uses (form_of (record { kind = k; a = a; b = b })) ≡ cond (eqb k 2) (some b) none
  unfolding form_of
  uses-kind = said-kind uses 2 b (omega arith) refl refl refl refl refl refl refl refl refl

  pub gives-kind : (k : ℕ) → project gives (form_of (record { kind = k; a = a; b = b })) ≡ cond (eqb k 7) (some a) none
  unfolding form_of
  gives-kind = said-kind gives 7 a (omega arith) refl refl refl refl refl refl refl refl refl

-- ── Children ──

pub times-two : (c : ℕ) (p q : Bool) (x y : ℕ) → times c (child_if p x (child_if q y [])) ≡ times c (child_if p x []) + times c
    (child_if q y [])
unfolding times
times-two c true q x y = add-first (eqb x c) (times c (child_if q y []))
  where
    add-first : (z : Bool) (n : ℕ) → add_if z n ≡ add_if z 0 + n
    add-first true n = omega arith
    add-first false n = omega arith
times-two c false q x y = omega arith

pub between-two : (k n : ℕ) (p q : Bool) (x y : ℕ)
    → between k n (child_if p x (child_if q y [])) ≡ between k n (child_if p x []) && between k n (child_if q y [])
unfolding between every
between-two k n true q x y = sym (ap (λ z. z && every (λ c. ltb k c && ltb c n) (child_if q y [])) (and-true (ltb k x && ltb x n)))
between-two k n false q x y = refl

-- ── Ways down the table ──

pred : (j : ℕ) → 0 < j → j ≡ suc (j - 1)
pred j h = omega arith

module _ (ns : List Node) (test : ℕ → Bool) (at j : ℕ) (h : 0 < j) where
  pub found-above : is_child_lem ns (j - 1) at ≡ true → test (j - 1) ≡ true → above ns test at j ≡ true
  unfolding above
  found-above c e = ap (above ns test at) (pred j h) ∙ rw (c, e) refl

  pub up_above : is_child_lem ns (j - 1) at ≡ true → test (j - 1) ≡ false → above ns test at j ≡ above ns test (j - 1) (j - 1)
  unfolding above
  up_above c e = ap (above ns test at) (pred j h) ∙ rw (c, e) refl

  pub on-above : is_child_lem ns (j - 1) at ≡ false → above ns test at j ≡ above ns test at (j - 1)
  unfolding above
  on-above c = ap (above ns test at) (pred j h) ∙ rw c refl

  pub found_below : test (j - 1) ≡ true → some_below test j ≡ true
  unfolding some_below
  found_below e = ap (some_below test) (pred j h) ∙ rw e refl

  pub on_below : test (j - 1) ≡ false → some_below test j ≡ some_below test (j - 1)
  unfolding some_below
  on_below e = ap (some_below test) (pred j h) ∙ rw e refl

-- ── What node j of a flat table says ──

module _ (t : List ℕ) (k kind field : ℕ) where
  pub other-kind : (get_or t (node_fields * k) 0 ≡ kind → ⊥) → field_of t k kind field ≡ none
  other-kind e = ap (λ z. cond z (some (get_or t (node_fields * k + field) 0)) none) (ne_eqb (get_or t (node_fields * k) 0) kind e)

  pub this-kind : get_or t (node_fields * k) 0 ≡ kind → field_of t k kind field ≡ some (get_or t (node_fields * k + field) 0)
  this-kind e = ap (λ z. cond z (some (get_or t (node_fields * k + field) 0)) none) (eq-eqb (get_or t (node_fields * k) 0) kind e)

module _ (t : List ℕ) (j : ℕ) (h : j < length t / node_fields) where
  pub loop-at : loop_at (form_at (nodes_of t) j) ≡ eqb (get_or t (node_fields * j) 0) 5
  loop-at = ap loop_at (form-at t j h) ∙ loop-kind (node_at_lem t j).a (node_at_lem t j).b (node_at_lem t j).kind

  pub target_at : project target (form_at (nodes_of t) j) ≡ field_of t j 6 1
  target_at = ap (project target) (form-at t j h) ∙ target-kind (node_at_lem t j).a (node_at_lem t j).b (node_at_lem t j).kind

  pub uses-at : project uses (form_at (nodes_of t) j) ≡ field_of t j 2 2
  uses-at = ap (project uses) (form-at t j h) ∙ uses-kind (node_at_lem t j).a (node_at_lem t j).b (node_at_lem t j).kind

  pub gives_at : project gives (form_at (nodes_of t) j) ≡ field_of t j 7 1
  gives_at = ap (project gives) (form-at t j h) ∙ gives-kind (node_at_lem t j).a (node_at_lem t j).b (node_at_lem t j).kind

  pub name-at : (x : ℕ) → gives_name_lem (nodes_of t) x j ≡ is_some (field_of t j 7 1) x
  unfolding gives_name_lem
  name-at x = ap (λ o. is_some o x) gives_at

  pub child-at : (c : ℕ) → is_child_lem (nodes_of t) j c ≡ ltb 0 (times c (children_of (form_of (node_at_lem t j))))
  unfolding is_child_lem
  child-at c = ap (λ f. ltb 0 (times c (children_of f))) (form-at t j h)

-- one more node counted
pub times_more : (t : List ℕ) (c n j : ℕ) → j < n
    → times_child_lem c (from (node_at_lem t) j (n - j)) ≡ times c (children_of (form_of (node_at_lem t j))) + times_child_lem c
    (from (node_at_lem t) (j + 1) (n - (j + 1)))
unfolding from times_child_lem
times_more t c n j h = ap (λ m. times_child_lem c (from (node_at_lem t) j m)) left ∙ rw (add-one j) refl
  where
    left : n - j ≡ suc (n - (j + 1))
    left = omega arith

pub times-begin : (t : List ℕ) (c : ℕ) → times_child_lem c (from (node_at_lem t) 0 (length t / node_fields - 0)) ≡ times_child_lem c (nodes_of t)
unfolding nodes_of
times-begin t c = rw (sub-zero (length t / node_fields)) refl

pub times-end : (t : List ℕ) (c n j : ℕ) → n ≤ j → times_child_lem c (from (node_at_lem t) j (n - j)) ≡ 0
unfolding from times_child_lem
times-end t c n j h = ap (λ m. times_child_lem c (from (node_at_lem t) j m)) left
  where
    left : n - j ≡ 0
    left = omega arith
