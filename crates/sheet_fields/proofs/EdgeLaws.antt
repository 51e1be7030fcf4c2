-- When a table of edges is one that an accepted sheet gives, edge by edge.
use Prim.Native.Nat.{ℕ, zero, suc, ◌+◌, ◌-◌, ◌/◌, ◌%◌, ◌<◌, ◌≤◌}
use mathlib.Core.Path.{◌≡◌, refl, sym, ap, ap₂, ◌∙◌}
use mathlib.Core.Bool.{Bool, true, false, not, ◌&&◌, cond}
use mathlib.Core.List.{List, [], ◌∷◌, ◌++◌}
use native.Mathlib.Nat.{zero-add, add-zero, add-suc}
use native.Mathlib.Numerals.{add-one}
use native.Mathlib.Omega.{arith}
use lib.Dec.{eqb, leb}
use lib.ListN.{length}
use borrow.Author.Tests.{eq-eqb, ne_eqb, le-leb, lt-leb}
use Rattle.usage.specs.declared.Edge.{Edge}
use Rattle.usage.specs.Limits.{most_edges, edge_fields}
use Rattle.usage.specs.Tests.{every, edge_ok, three_pairs, edges_ok}
use Rattle.usage.specs.Tables.{from, edge_at, edges_of, is_edge_table}
use Rattle.usage.proofs.Logic.{clash, and-false}
use Rattle.usage.proofs.TableLaws.{edges-length, from-snoc}
use Rattle.automaton.specs.PairSet.{pair_set, with_pair, with_edge, many_in}
use Rattle.automaton.proofs.PairSetLaws.{set-none, with-edge, many-three}
use Rattle.std.specs.Prelude.{Option, None, Some}
use Rattle.std.specs.Option.{is_some}
use Rattle.sheet_fields.specs.TableTest.{table_tested}
use Rattle.sheet_fields.specs.Code.{tested, tested_with, tested_in}

-- ── One edge after the other ──

every-snoc : {A : Type 0} (t : A → Bool) (l : List A) (x : A) → every t (l ++ (x ∷ [])) ≡ cond (t x) (every t l) false
unfolding every
every-snoc t [] x = go (t x)
  where
    go : (b : Bool) → (b && true) ≡ cond b true false
    go true = refl
    go false = refl
every-snoc t (y ∷ l) x = ap (λ (b : Bool). t y && b) (every-snoc t l x) ∙ go (t y) (t x)
  where
    go : (a b : Bool) → (a && cond b (every t l) false) ≡ cond b (a && every t l) false
    go true true = refl
    go true false = refl
    go false true = refl
    go false false = refl

tested-snoc : (es : List Edge) (e : Edge) → tested_with (tested es) e ≡ tested (es ++ (e ∷ []))
unfolding tested
tested-snoc es e = rw (every-snoc edge_ok es e, ← with-edge es e) (go (every edge_ok es) (edge_ok e) refl)
  where
    go : (a b : Bool) → edge_ok e ≡ b → tested_with (cond a (Some (pair_set es)) None) e
        ≡ cond (cond b a false) (Some (with_edge (pair_set es) e)) None
    go true true q = rw q refl
    go true false q = rw q refl
    go false true q = refl
    go false false q = refl

module _ (t : List ℕ) where
  pub tested-none : Some 0 ≡ tested_in t 0
  unfolding tested from every
  tested-none = ap (λ (m : ℕ). Some m) (set-none t)

  last : (i : ℕ) → from (edge_at t) 0 i ++ (edge_at t i ∷ []) ≡ from (edge_at t) 0 (i + 1)
  last i = ap (λ (j : ℕ). from (edge_at t) 0 i ++ (edge_at t j ∷ [])) (sym (zero-add i)) ∙ sym (from-snoc (edge_at t) 0 i)
      ∙ ap (from (edge_at t) 0) (sym (add-one i))

  pub tested-more : (i : ℕ) (s : Option ℕ) → s ≡ tested_in t i → tested_with s (edge_at t i) ≡ tested_in t (i + 1)
  tested-more i s e = ap (λ (u : Option ℕ). tested_with u (edge_at t i)) e ∙ tested-snoc (from (edge_at t) 0 i) (edge_at t i) ∙ ap tested (last i)

  -- an edge in range that is not on 3 changes nothing
  abbrev pub Plain : ℕ → Type 0
  Plain i = (edge_ok (edge_at t i) ≡ true) × ((edge_at t i).on ≡ 3 → ⊥)

  plain-edge : (i : ℕ) (s : Option ℕ) → Plain i → tested_with s (edge_at t i) ≡ s
  unfolding with_pair
  plain-edge i None h = refl
  plain-edge i (Some m) (ok, d) = rw (ok, ne_eqb (edge_at t i).on 3 d) refl

  -- what is out of range stays so
  tested-stays : (i n : ℕ) → tested_in t i ≡ None → tested_in t (i + n) ≡ None
  tested-stays i zero e = ap (tested_in t) (add-zero i) ∙ e
  tested-stays i (suc n) e =
      ap (tested_in t) (add-suc i n ∙ sym (add-one (i + n))) ∙ sym (tested-more (i + n) None (sym (tested-stays i n e)))

  pub tested-later : (i j : ℕ) → i ≤ j → tested_in t i ≡ None → tested_in t j ≡ None
  tested-later i j l e = let q : i + (j - i) ≡ j = omega arith in rw q at (tested-stays i (j - i) e)

  pub tested-one : (i : ℕ) → Plain i → tested_in t i ≡ tested_in t (i + 1)
  tested-one i h = sym (plain-edge i (tested_in t i) h) ∙ tested-more i (tested_in t i) refl

  pub tested-plain : (i n : ℕ) → ((k : ℕ) → k < n → Plain (i + k)) → tested_in t i ≡ tested_in t (i + n)
  tested-plain i zero h = ap (tested_in t) (sym (add-zero i))
  tested-plain i (suc n) h =
      tested-plain i n (λ k l. h k (omega arith))
      ∙ sym (plain-edge (i + n) (tested_in t (i + n)) (h n (omega arith)))
      ∙ tested-more (i + n) (tested_in t (i + n)) refl
      ∙ ap (tested_in t) (add-one (i + n) ∙ sym (add-suc i n))

  -- ── A whole table ──

  abbrev size : ℕ
  size = length t / edge_fields

  refused : is_edge_table t ≡ false → table_tested t ≡ None
  unfolding table_tested
  refused e = ap (λ (b : Bool). cond b (Some (pair_set (edges_of t))) None) e

  pub not-whole : (length t % edge_fields ≡ 0 → ⊥) → table_tested t ≡ None
  unfolding is_edge_table
  not-whole h = refused (ap (λ b. b && edges_ok (edges_of t)) (ne_eqb (length t % edge_fields) 0 h))

  pub too_long : most_edges < size → table_tested t ≡ None
  unfolding is_edge_table edges_ok
  too_long h =
      refused (and-false (eqb (length t % edge_fields) 0) _
      (ap (λ b. b && (every edge_ok (edges_of t) && not (three_pairs (edges_of t))))
      (ap (λ (n : ℕ). leb n most_edges) (edges-length t) ∙ lt-leb size most_edges h)))

  module _ (w : length t % edge_fields ≡ 0) (l : size ≤ most_edges) where
    -- so many whole edges make a table where each is in range, and few are pair policies
    table_is : is_edge_table t ≡ (every edge_ok (edges_of t) && not (many_in (pair_set (edges_of t))))
    unfolding is_edge_table edges_ok
    table_is =
        ap (λ b. b && (leb (length (edges_of t)) most_edges && (every edge_ok (edges_of t) && not (three_pairs (edges_of t)))))
        (eq-eqb (length t % edge_fields) 0 w)
        ∙ ap (λ b. b && (every edge_ok (edges_of t) && not (three_pairs (edges_of t))))
        (ap (λ (n : ℕ). leb n most_edges) (edges-length t) ∙ le-leb size most_edges l)
        ∙ ap (λ b. every edge_ok (edges_of t) && not b) (sym (many-three (edges_of t)))

    pub out_of_range : tested_in t size ≡ None → table_tested t ≡ None
    unfolding edges_of tested
    out_of_range e = refused (table_is ∙ ap (λ (b : Bool). b && not (many_in (pair_set (edges_of t)))) (go (every edge_ok (edges_of t)) e))
      where
        go : (b : Bool) → cond b (Some (pair_set (edges_of t))) None ≡ None → b ≡ false
        go true q = clash (cc)
        go false q = refl

    module _ (m : ℕ) (e : Some m ≡ tested_in t size) where
      told : (every edge_ok (edges_of t) ≡ true) × (m ≡ pair_set (edges_of t))
      unfolding edges_of tested
      told = go (every edge_ok (edges_of t)) e
        where
          go : (b : Bool) → Some m ≡ cond b (Some (pair_set (edges_of t))) None → (b ≡ true) × (m ≡ pair_set (edges_of t))
          go true q = (refl, cc)
          go false q = clash (cc)

      pub too-many-pairs : many_in m ≡ true → table_tested t ≡ None
      too-many-pairs h = refused (table_is ∙ and-false (every edge_ok (edges_of t)) _ (ap not (ap many_in (sym told.1) ∙ h)))

      pub good-table : many_in m ≡ false → Some m ≡ table_tested t
      unfolding table_tested
      good-table h =
          ap (λ (k : ℕ). Some k) told.1
          ∙ sym (ap (λ (b : Bool). cond b (Some (pair_set (edges_of t))) None)
          (table_is ∙ ap₂ (λ (a b : Bool). a && not b) told.0 (ap many_in (sym told.1) ∙ h)))

  -- the test says whether it is a table, and of one which policies are pair policies
  pub table_fits : is_some (table_tested t) ≡ is_edge_table t
  unfolding table_tested
  table_fits = go (is_edge_table t)
    where
      go : (b : Bool) → is_some (cond b (Some (pair_set (edges_of t))) None) ≡ b
      go true = refl
      go false = refl

  pub no-table : table_tested t ≡ None → is_edge_table t ≡ false
  no-table e = sym table_fits ∙ ap is_some e

  pub some-table : (m : ℕ) → table_tested t ≡ Some m → (is_edge_table t ≡ true) × (m ≡ pair_set (edges_of t))
  unfolding table_tested
  some-table m e = go (is_edge_table t) e
    where
      go : (b : Bool) → cond b (Some (pair_set (edges_of t))) None ≡ Some m → (b ≡ true) × (m ≡ pair_set (edges_of t))
      go true q = (refl, cc)
      go false q = clash (cc)
