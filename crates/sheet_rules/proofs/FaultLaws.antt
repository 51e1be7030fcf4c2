-- The laws of a whole table of nodes: every node in range, and the refusal by what is found.
use Prim.Native.Nat.{ℕ, suc, ◌-◌, ◌/◌, ◌%◌, ◌<◌, ◌≤◌}
use mathlib.Core.Path.{◌≡◌, refl, sym, ap, ◌∙◌}
use mathlib.Core.Bool.{Bool, true, false, not, ◌&&◌}
use mathlib.Core.Option.{Option, none, some}
use mathlib.Core.List.{List}
use native.Mathlib.Omega.{arith}
use lib.Dec.{leb}
use lib.ListN.{length}
use borrow.Author.Tests.{eq-eqb, ne_eqb, le-leb, lt-leb}
use Rattle.usage.specs.Limits.{most_nodes, node_fields, node_places}
use Rattle.usage.specs.Answers.{Refusal}
use Rattle.usage.specs.Tests.{every, node_ok, tree_ok_lem, back_ok_lem, name_ok_lem, lowest_failing, or_else, numbered, no_nodes, ruled_by, is_none, outline_ok}
use Rattle.usage.specs.Tables.{from, nodes_of, is_node_table}
use Rattle.usage.proofs.TableLaws.{nodes-length}
use Rattle.usage.proofs.Logic.{false-true}
use Rattle.sheet_rules.specs.Code.{is_nothing}
use Rattle.sheet_rules.specs.Rules.{all_but}
use Rattle.sheet_rules.specs.Faults.{fault}
use Rattle.usage.proofs.RuledLaws.{First, none-lowest, some-lowest}
use Rattle.std.specs.Prelude.{Result as Returned, Ok, Err, Option as Maybe, Some, None}
use Rattle.std.specs.Result.{is_ok}
use Rattle.usage.specs.declared.Node.{Node}
use Rattle.usage.specs.declared.SheetRefusal.{SheetRefusal}

-- ── The refusal ──

module _ (t : List ℕ) where
  pub no-nodes : length t < node_fields → no_nodes (nodes_of t) ≡ some record { line = 2; number = 9 }
  unfolding nodes_of from
  no-nodes h = rw empty refl
    where
      empty : length t / node_fields ≡ 0
      empty = omega arith

  pub some-nodes : node_fields ≤ length t → no_nodes (nodes_of t) ≡ none
  unfolding nodes_of from
  some-nodes h = rw one refl
    where
      one : length t / node_fields ≡ suc (length t / node_fields - 1)
      one = omega arith

  -- 7 and then 8
  abbrev pub later : Option Refusal
  later = or_else (numbered 7 (lowest_failing (back_ok_lem (nodes_of t)) 0 (length t / node_fields)))
      (numbered 8 (lowest_failing (name_ok_lem (nodes_of t)) 0 (length t / node_fields)))

  -- by what each part says
  pub by-parts : (test : ℕ → Bool) {a b : Option Refusal} → a ≡ no_nodes (nodes_of t)
      → b ≡ numbered 6 (lowest_failing test 0 (length t / node_fields)) → or_else a (or_else b later) ≡ ruled_by test (nodes_of t)
  unfolding ruled_by
  by-parts test e f = rw (e, f, nodes-length t) refl

-- of n nodes the lowest that fails a test, or none does
abbrev pub LowestFailing : (ℕ → Bool) → ℕ → Maybe ℕ → Type 0
LowestFailing test n None = (k : ℕ) → k < n → test k ≡ true
LowestFailing test n (Some k) = First test 0 n k

-- The rules by any rule for 6 are those where the lowest node that fails it fails alone: whoever finds that node needs no more than
-- `ruled_failing`.
pub ruled-failing : (test : ℕ → Bool) (ns : List Node) (o : Maybe ℕ) → LowestFailing test (length ns) o
    → ruled_by (all_but o) ns ≡ ruled_by test ns
unfolding ruled_by
ruled-failing test ns None f =
    rw (none-lowest test 0 (length ns) (λ k l h. f k (omega arith)), none-lowest (all_but None) 0 (length ns) (λ k l h. refl)) refl
ruled-failing test ns (Some k) f = rw (some-lowest test 0 (length ns) k f, some-lowest (all_but (Some k)) 0 (length ns) k alone) refl
  where
    alone : First (all_but (Some k)) 0 (length ns) k
    alone = record {
      from-k = f.from-k;
      before = f.before;
      failing = ap not (eq-eqb k k refl);
      passing = λ j l h. ap not (ne_eqb k j (λ e. absurd (omega (arith, e))));
    }

-- ── A table that is lent to be used ──

module _ (t : List ℕ) where
  pub part_left : (length t % node_fields ≡ 0 → ⊥) → is_node_table t ≡ false
  unfolding is_node_table
  part_left e = ap (λ z. z && outline_ok (nodes_of t)) (ne_eqb (length t % node_fields) 0 e)

  module _ (e : length t % node_fields ≡ 0) where
    whole : is_node_table t ≡ leb (length t / node_fields) most_nodes
        && (every node_ok (nodes_of t) && is_none (ruled_by (tree_ok_lem (nodes_of t)) (nodes_of t)))
    unfolding is_node_table outline_ok
    whole =
        ap (λ z. z && (leb (length (nodes_of t)) most_nodes
        && (every node_ok (nodes_of t) && is_none (ruled_by (tree_ok_lem (nodes_of t)) (nodes_of t))))) (eq-eqb (length t % node_fields) 0 e)
        ∙ ap (λ n. leb n most_nodes && (every node_ok (nodes_of t) && is_none (ruled_by (tree_ok_lem (nodes_of t)) (nodes_of t)))) (nodes-length t)

    pub too-many-nodes : node_places < length t → is_node_table t ≡ false
    too-many-nodes h =
        whole ∙ ap (λ z. z && (every node_ok (nodes_of t) && is_none (ruled_by (tree_ok_lem (nodes_of t)) (nodes_of t))))
        (lt-leb (length t / node_fields) most_nodes (omega arith))

    module _ (h : length t ≤ node_places) where
      few_nodes : is_node_table t ≡ every node_ok (nodes_of t) && is_none (ruled_by (tree_ok_lem (nodes_of t)) (nodes_of t))
      few_nodes =
          whole ∙ ap (λ z. z && (every node_ok (nodes_of t) && is_none (ruled_by (tree_ok_lem (nodes_of t)) (nodes_of t))))
          (le-leb (length t / node_fields) most_nodes (omega arith))

      pub no-fit : every node_ok (nodes_of t) ≡ false → is_node_table t ≡ false
      no-fit q = few_nodes ∙ ap (λ z. z && is_none (ruled_by (tree_ok_lem (nodes_of t)) (nodes_of t))) q

      pub fit : every node_ok (nodes_of t) ≡ true → is_node_table t ≡ is_none (ruled_by (tree_ok_lem (nodes_of t)) (nodes_of t))
      fit q = few_nodes ∙ ap (λ z. z && is_none (ruled_by (tree_ok_lem (nodes_of t)) (nodes_of t))) q

-- ── A table whose nodes are in their ranges ──

module _ (t : List ℕ) where
  -- the rule for 6 holds of every node where none fails it
  pub six-none : is_nothing (lowest_failing (tree_ok_lem (nodes_of t)) 0 (length t / node_fields)) ≡ true
      → numbered 6 (lowest_failing (tree_ok_lem (nodes_of t)) 0 (length t / node_fields)) ≡ none
  six-none e = go (lowest_failing (tree_ok_lem (nodes_of t)) 0 (length t / node_fields)) e
    where
      go : (o : Option ℕ) → is_nothing o ≡ true → numbered 6 o ≡ none
      go (some k) e = false-true e
      go none e = refl

  pub few-nodes : length t < node_fields → is_none (ruled_by (tree_ok_lem (nodes_of t)) (nodes_of t)) ≡ false
  few-nodes h = sym (ap is_none (by-parts t (tree_ok_lem (nodes_of t)) (sym (no-nodes t h)) refl))

  module _ (h : node_fields ≤ length t) where
    ruled-six : (b : Option Refusal) → b ≡ numbered 6 (lowest_failing (tree_ok_lem (nodes_of t)) 0 (length t / node_fields))
        → ruled_by (tree_ok_lem (nodes_of t)) (nodes_of t) ≡ or_else b (later t)
    ruled-six b e = sym (by-parts t (tree_ok_lem (nodes_of t)) (sym (some-nodes t h)) e)

    pub six-fails : is_nothing (lowest_failing (tree_ok_lem (nodes_of t)) 0 (length t / node_fields)) ≡ false
        → is_none (ruled_by (tree_ok_lem (nodes_of t)) (nodes_of t)) ≡ false
    six-fails e = go (lowest_failing (tree_ok_lem (nodes_of t)) 0 (length t / node_fields)) refl e
      where
        go : (o : Option ℕ) → lowest_failing (tree_ok_lem (nodes_of t)) 0 (length t / node_fields) ≡ o → is_nothing o ≡ false
            → is_none (ruled_by (tree_ok_lem (nodes_of t)) (nodes_of t)) ≡ false
        go (some k) q e = ap is_none (ruled-six _ (ap (numbered 6) (sym q)))
        go none q e = false-true (sym e)

    pub six-holds : is_nothing (lowest_failing (tree_ok_lem (nodes_of t)) 0 (length t / node_fields)) ≡ true
        → is_none (ruled_by (tree_ok_lem (nodes_of t)) (nodes_of t)) ≡ is_none (later t)
    six-holds e = ap is_none (ruled-six none (sym (six-none e)))

-- a result is fine where it is no refusal
pub fine : (r : Returned (Unit {0}) SheetRefusal) → is_ok r ≡ is_none (fault r)
fine (Ok u) = refl
fine (Err r) = refl
