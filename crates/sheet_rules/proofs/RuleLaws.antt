-- Laws of the rules of an outline over a flat table of nodes, one for each way of the code.
use Prim.Native.Nat.{ℕ, zero, suc, ◌+◌, ◌-◌, ◌*◌, ◌/◌, ◌<◌, ◌≤◌}
use mathlib.Core.Path.{◌≡◌, refl, sym, ap, ◌∙◌}
use mathlib.Core.Bool.{Bool, true, false, not, ◌&&◌, and-true}
use mathlib.Core.Option.{none, some}
use mathlib.Core.List.{List, [], ◌∷◌}
use native.Mathlib.Omega.{arith}
use native.Mathlib.Nat.{sub-zero}
use native.Mathlib.Numerals.{add-one}
use lib.Dec.{eqb}
use lib.ListN.{length, get_or, get_elem?}
use Rattle.usage.specs.Limits.{node_fields}
use Rattle.usage.specs.Outline.{form_at}
use Rattle.usage.specs.Tests.{back_ok_lem, name_ok_lem, place_ok, is_some, loop_at, above, some_below, gives_name_lem, first_of, lowest_failing}
use Rattle.usage.specs.Tables.{nodes_of}
use Rattle.usage.proofs.Logic.{clash}
use Rattle.sheet_fields.proofs.RangeLaws.{past_end}
use Rattle.sheet_rules.proofs.NodeLaws.{target_at, uses-at, gives_at, other-kind, this-kind}

-- ── One node ──

module _ (t : List ℕ) (k : ℕ) (h : k < length t / node_fields) where
  -- node k lies inside the loop that its back names
  pub back-none : (get_or t (node_fields * k) 0 ≡ 6 → ⊥) → back_ok_lem (nodes_of t) k ≡ true
  unfolding back_ok_lem
  back-none e = rw (target_at t k h, other-kind t k 6 1 e) refl

  pub back-some : get_or t (node_fields * k) 0 ≡ 6
      → back_ok_lem (nodes_of t) k ≡ above (nodes_of t) (λ j. eqb j (get_or t (node_fields * k + 1) 0) && loop_at (form_at (nodes_of t) j)) k k
  unfolding back_ok_lem
  back-some e = rw (target_at t k h, this-kind t k 6 1 e) refl

  -- by the kind: a node uses a name, or gives one, or does neither
  pub name-used : get_or t (node_fields * k) 0 ≡ 2
      → name_ok_lem (nodes_of t) k ≡ above (nodes_of t) (gives_name_lem (nodes_of t) (get_or t (node_fields * k + 2) 0)) k k
  unfolding name_ok_lem
  name-used e = rw (uses-at t k h, gives_at t k h, this-kind t k 2 2 e, other-kind t k 7 1 (λ q. absurd (two-seven e q)))
      (and-true (above (nodes_of t) (gives_name_lem (nodes_of t) (get_or t (node_fields * k + 2) 0)) k k))
    where
      two-seven : {n : ℕ} → n ≡ 2 → n ≡ 7 → ⊥
      two-seven e q = omega arith

  pub name-given : get_or t (node_fields * k) 0 ≡ 7
      → name_ok_lem (nodes_of t) k ≡ not (some_below (gives_name_lem (nodes_of t) (get_or t (node_fields * k + 1) 0)) k)
  unfolding name_ok_lem
  name-given e = rw (uses-at t k h, gives_at t k h, other-kind t k 2 2 (λ q. absurd (seven-two e q)), this-kind t k 7 1 e) refl
    where
      seven-two : {n : ℕ} → n ≡ 7 → n ≡ 2 → ⊥
      seven-two e q = omega arith

  pub no-name : (get_or t (node_fields * k) 0 ≡ 2 → ⊥) → (get_or t (node_fields * k) 0 ≡ 7 → ⊥) → name_ok_lem (nodes_of t) k ≡ true
  unfolding name_ok_lem
  no-name d e = rw (uses-at t k h, gives_at t k h, other-kind t k 2 2 d, other-kind t k 7 1 e) refl

element : (l : List ℕ) (k : ℕ) → k < length l → get_elem? l k ≡ some (get_or l k 0)
element [] k h = absurd (omega arith)
element (x ∷ l) zero h = refl
element (x ∷ l) (suc k) h = element l k (omega arith)

pub place_none : (l : List ℕ) (k : ℕ) → length l ≤ k → place_ok l k ≡ false
place_none l k h = ap (λ o. is_some o k) (past_end l k h)

pub place-some : (l : List ℕ) (k : ℕ) → k < length l → place_ok l k ≡ eqb (get_or l k 0) k
place-some l k h = ap (λ o. is_some o k) (element l k h)

-- ── The lowest node that fails a test ──

module _ (test : ℕ → Bool) (n : ℕ) where
  pub lowest-begin : lowest_failing test 0 (n - 0) ≡ lowest_failing test 0 n
  lowest-begin = ap (lowest_failing test 0) (sub-zero n)

  module _ (k : ℕ) where
    pub lowest-end : n ≤ k → lowest_failing test k (n - k) ≡ none
    unfolding lowest_failing
    lowest-end h = ap (lowest_failing test k) left
      where
        left : n - k ≡ 0
        left = omega arith

    module _ (h : k < n) where
      left : n - k ≡ suc (n - (k + 1))
      left = omega arith

      pub lowest-here : test k ≡ false → lowest_failing test k (n - k) ≡ some k
      unfolding lowest_failing
      lowest-here e = ap (lowest_failing test k) left ∙ ap (λ z. first_of z k (lowest_failing test (suc k) (n - (k + 1)))) e

      pub lowest-more : test k ≡ true → lowest_failing test k (n - k) ≡ lowest_failing test (k + 1) (n - (k + 1))
      unfolding lowest_failing
      lowest-more e =
          ap (lowest_failing test k) left ∙ ap (λ z. first_of z k (lowest_failing test (suc k) (n - (k + 1)))) e
          ∙ ap (λ m. lowest_failing test m (n - (k + 1)))
          (sym (add-one k))

pub lowest-below : (test : ℕ → Bool) (k m j : ℕ) → lowest_failing test k m ≡ some j → j < k + m
unfolding lowest_failing
lowest-below test k zero j e = clash (cc)
lowest-below test k (suc m) j e = go (test k) (lowest-below test (suc k) m j) e
  where
    go : (z : Bool) → (lowest_failing test (suc k) m ≡ some j → j < suc k + m) → first_of z k (lowest_failing test (suc k) m) ≡ some j
        → j < k + suc m
    go true ih q = let l = ih q in omega arith
    go false ih q = let z : k ≡ j = cc in omega arith
