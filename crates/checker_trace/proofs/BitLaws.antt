-- Sets of nodes as bits: one node, and the set with what its nodes lead to.
use Prim.Native.Nat.{ℕ, zero, suc, ◌*◌, ◌/◌, ◌%◌, ◌^◌, ◌<◌, ◌≤◌}
use mathlib.Core.Path.{◌≡◌, refl, sym, ap, ◌∙◌, subst}
use mathlib.Core.Bool.{Bool, true, false, cond, beq}
use mathlib.Core.List.{List}
use mathlib.Core.Logic.{◌⊎◌, inl, inr}
use native.Mathlib.Omega.{arith}
use native.Mathlib.Nat.{one-mul}
use native.Mathlib.Decide.{dec_le}
use lib.Dec.{eqb, lit<}
use lib.Pow.{shl_exact}
use lib.ListN.{length}
use borrow.Author.Tests.{eqb-true, eq-eqb, lt-ltb, le-ltb}
use Rattle.usage.specs.Limits.{most_nodes, node_fields}
use Rattle.outline_nodes.specs.declared.NodeForm.{NodeForm}
use Rattle.outline_nodes.specs.declared.NodeForm.TheVariants.{End, OnStatic, OnName, Sequence, Choice}
use Rattle.outline_nodes.specs.declared.NodeForm.TheVariants.{Loop, Back, Fresh, Sandbox}
use Rattle.outline_nodes.specs.Said.{said_by}
use Rattle.usage.proofs.Logic.{by_cases, last-or-lower}
use Rattle.automaton.specs.Mask.{has}
use Rattle.checker_account.proofs.MaskLaws.{has_left, has_right, has_either, has_none}
use Rattle.automaton.proofs.MaskLaws.{all-below, all-below-at, same_test, left_le}
use Rattle.checker_lengths.specs.declared.Entry.{Entry}
use Rattle.checker_lengths.specs.Filling.{form_here}
use Rattle.checker_trace.specs.declared.Names.{Names}
use Rattle.checker_trace.specs.declared.Spot.{Spot}
use Rattle.checker_trace.specs.Code.{bit_of, join_if, leads_of, leads_from, spread_to, Spreads, begins, further}

abbrev pub names_of : List ℕ → Names
names_of l = record { numbers = l }

abbrev pub spot : ℕ → ℕ → Spot
spot i n = record { at = i; next = n }

-- ── One node ──

bit_in : (k : ℕ) → k < most_nodes → bit_of k ≡ 2 ^ k
unfolding bit_of
bit_in k l = ap (λ (b : Bool). cond b (2 ^ k) 0) (lt-ltb k most_nodes l)

pub no-bit : (k : ℕ) → most_nodes ≤ k → bit_of k ≡ 0
unfolding bit_of
no-bit k l = ap (λ (b : Bool). cond b (2 ^ k) 0) (le-ltb k most_nodes l)

pub shl-bit : (k : ℕ) → k < most_nodes → 1 * 2 ^ k % 2 ^ 64 ≡ bit_of k
shl-bit k l = shl_exact {a = 1} 1 k 64 (lit< tt) (omega arith) ∙ one-mul (2 ^ k) ∙ sym (bit_in k l)

pow-test : all-below most_nodes (λ k. all-below most_nodes (λ j. beq (has (2 ^ k) j) (eqb k j))) ≡ true
unfolding all-below has
pow-test = refl

pow-has : (k j : ℕ) → k < most_nodes → j < most_nodes → has (2 ^ k) j ≡ eqb k j
pow-has k j l m =
    same_test (has (2 ^ k) j) (eqb k j)
    (all-below-at most_nodes (λ j. beq (has (2 ^ k) j) (eqb k j))
    (all-below-at most_nodes (λ k. all-below most_nodes (λ j. beq (has (2 ^ k) j) (eqb k j))) pow-test k l) j m)

pub bit_at : (k : ℕ) → k < most_nodes → has (bit_of k) k ≡ true
bit_at k l = ap (λ (s : ℕ). has s k) (bit_in k l) ∙ pow-has k k l l ∙ eq-eqb k k refl

pub bit_is : (k j : ℕ) → j < most_nodes → has (bit_of k) j ≡ true → k ≡ j
bit_is k j m h = go (dec_le most_nodes k)
  where
    go : Dec (most_nodes ≤ k) → k ≡ j
    go (yes l) = has_none j (sym (ap (λ (s : ℕ). has s j) (no-bit k l)) ∙ h)
    go (no l) = eqb-true k j (sym (pow-has k j (omega arith) m) ∙ sym (ap (λ (s : ℕ). has s j) (bit_in k (omega arith))) ∙ h)

-- ── Spreading ──

join-ge : (b : Bool) (s v : ℕ) → s ≤ join_if b s v
unfolding join_if
join-ge true s v = left_le s v
join-ge false s v = omega arith

join-has : (b : Bool) (s v j : ℕ) → has s j ≡ true → has (join_if b s v) j ≡ true
unfolding join_if
join-has true s v j h = has_left s v j h
join-has false s v j h = h

join-either : (b : Bool) (s v j : ℕ) → has (join_if b s v) j ≡ true → (has s j ≡ true) ⊎ ((b ≡ true) × (has v j ≡ true))
unfolding join_if
join-either true s v j h = by_cases (has_either s v j h) (λ a. inl a) (λ a. inr (refl, a))
join-either false s v j h = inl h

join-still : (b : Bool) (s v j : ℕ) → b ≡ true → join_if b s v ≡ s → has v j ≡ true → has s j ≡ true
unfolding join_if
join-still true s v j e f h = subst (λ (u : ℕ). has u j ≡ true) f (has_right s v j h)
join-still false s v j e f h = absurd (omega (arith, apart e))
  where
    apart : false ≡ true → ◌≡◌ {A = ℕ} 0 1
    apart e = cc

module _ (t nodes : List ℕ) (e : Entry) where
  pub spread-ge : (n s : ℕ) → s ≤ spread_to t nodes e n s
  unfolding spread_to
  spread-ge zero s = omega arith
  spread-ge (suc n) s =
      let l = spread-ge n s in
      omega (arith, join-ge (has (spread_to t nodes e n s) n) (spread_to t nodes e n s) (leads_from t e (form_here nodes n)))

  pub spread-has : (n s j : ℕ) → has s j ≡ true → has (spread_to t nodes e n s) j ≡ true
  unfolding spread_to
  spread-has zero s j h = h
  spread-has (suc n) s j h = join-has (has (spread_to t nodes e n s) n) (spread_to t nodes e n s) (leads_from t e (form_here nodes n)) j
      (spread-has n s j h)

  -- where nothing is added, nothing was added on the way
  spread_same : (n s : ℕ) → spread_to t nodes e (suc n) s ≡ s → spread_to t nodes e n s ≡ s
  unfolding spread_to
  spread_same n s h =
      omega (arith, spread-ge n s, join-ge (has (spread_to t nodes e n s) n) (spread_to t nodes e n s) (leads_from t e (form_here nodes n)), h)

  pub spread-still : (n s : ℕ) → spread_to t nodes e n s ≡ s → (k : ℕ) → k < n → has s k ≡ true → (j : ℕ)
      → has (leads_from t e (form_here nodes k)) j ≡ true → has s j ≡ true
  unfolding spread_to
  spread-still zero s h k l a j b = absurd (omega arith)
  spread-still (suc n) s h k l a j b =
      let g = spread_same n s h in
      by_cases (last-or-lower k n l)
      (λ f. join-still (has s n) s (leads_from t e (form_here nodes n)) j (subst (λ (i : ℕ). has s i ≡ true) f a)
      (subst (λ (u : ℕ). join_if (has u n) u (leads_from t e (form_here nodes n)) ≡ s) g h)
      (subst (λ (i : ℕ). has (leads_from t e (form_here nodes i)) j ≡ true) f b))
      (λ m. spread-still n s g k m a j b)

  module _ (P : ℕ → Type 0) where
    spread-all : (n s : ℕ) → n ≤ most_nodes → ((j : ℕ) → j < most_nodes → has s j ≡ true → P j)
        → ((k : ℕ) → k < n → P k → (j : ℕ) → j < most_nodes → has (leads_from t e (form_here nodes k)) j ≡ true → P j)
        → (j : ℕ) → j < most_nodes → has (spread_to t nodes e n s) j ≡ true → P j
    unfolding spread_to
    spread-all zero s few h f j l a = h j l a
    spread-all (suc n) s few h f j l a =
        let ih = spread-all n s (omega arith) h (λ k m. f k (omega arith)) in
        by_cases (join-either (has (spread_to t nodes e n s) n) (spread_to t nodes e n s) (leads_from t e (form_here nodes n)) j a)
        (λ b. ih j l b)
        (λ b. f n (omega arith) (ih n (omega arith) b.0) j l b.1)

    -- what holds of the entry's node, and of all that a node leads to that it holds of, holds of the closure
    pub spreads-all : {s : ℕ} → Spreads t nodes e s → length nodes / node_fields ≤ most_nodes → P e.node
        → ((k : ℕ) → k < length nodes / node_fields → P k → (j : ℕ) → j < most_nodes → has
        (leads_from t e (form_here nodes k)) j ≡ true → P j) → (j : ℕ)
        → j < most_nodes → has s j ≡ true → P j
    spreads-all begins few h f j l a = subst P (bit_is e.node j l a) h
    spreads-all (further {s = s} d) few h f j l a = spread-all
        (length nodes / node_fields) s few (λ i m b. spreads-all d few h f i m b) f j l a

  pub spreads-node : {s : ℕ} → Spreads t nodes e s → e.node < most_nodes → has s e.node ≡ true
  spreads-node begins l = bit_at e.node l
  spreads-node (further {s = s} d) l = spread-has (length nodes / node_fields) s e.node (spreads-node d l)

-- a node of another form leads nowhere
pub no-leads : (t : List ℕ) (e : Entry) (f : NodeForm) → ((a b : ℕ) → f ≡ Sequence a b → ⊥) → ((a b : ℕ) → f ≡ Choice a b → ⊥) → ((a : ℕ) → f ≡ Loop a → ⊥) → ((a : ℕ) → f ≡ Back a → ⊥) → 0 ≡ leads_from t e (said_by f)
unfolding leads_of
no-leads t e End h3 h4 h5 h6 = refl
no-leads t e (OnStatic a s) h3 h4 h5 h6 = refl
no-leads t e (OnName a n) h3 h4 h5 h6 = refl
no-leads t e (Sequence a b) h3 h4 h5 h6 = absurd (h3 a b refl)
no-leads t e (Choice a b) h3 h4 h5 h6 = absurd (h4 a b refl)
no-leads t e (Loop a) h3 h4 h5 h6 = absurd (h5 a refl)
no-leads t e (Back a) h3 h4 h5 h6 = absurd (h6 a refl)
no-leads t e (Fresh n b) h3 h4 h5 h6 = refl
no-leads t e (Sandbox s b) h3 h4 h5 h6 = refl
