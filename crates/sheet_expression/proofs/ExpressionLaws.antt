-- `expression_of` answers what 02, L13 says, and nothing else does.
use Prim.Native.Nat.{ℕ, ◌≤◌}
use mathlib.Core.Path.{◌≡◌, refl, sym, ap, subst, ◌∙◌}
use mathlib.Core.Bool.{Bool, true, false, ◌&&◌, cond}
use mathlib.Core.Option.{Option}
use mathlib.Core.List.{List, [], ◌∷◌, Memᴰ}
use mathlib.Core.Logic.{◌↔◌}
use native.Mathlib.Omega.{arith}
use lib.Dec.{ltb}
use lib.ListN.{length}
use borrow.Author.Tests.{ltb-true, ltb-false, lt-ltb, le-ltb}
use Rattle.usage.specs.Limits.{most_nodes, longest_sheet}
use Rattle.usage.specs.Answers.{Refusal}
use Rattle.usage.specs.Outline.{no_names}
use Rattle.usage.specs.Valid.{TreeOk, Ruled, OutlineOk}
use Rattle.usage.specs.Tests.{Decides, every, node_ok, ruled}
use Rattle.usage.proofs.Logic.{false-true, clash}
use Rattle.usage.proofs.Decides.{refutes, refuted, d-every}
use Rattle.usage.proofs.ValidLaws.{decides-node}
use Rattle.usage.proofs.RuledLaws.{ruled-answers, answers-ruled}
use Rattle.sheet_lines.specs.Sheet.{Result, accepted, refuse_at}
use Rattle.sheet_grammar.specs.Tree.{Tree}
use Rattle.sheet_grammar.specs.Grammar.{ExpressionLine, most_nested}
use Rattle.sheet_grammar.specs.Outcome.{Out, ok, bad, Outcome}
use Rattle.sheet_grammar.specs.Reader.{line_of}
use Rattle.sheet_grammar.specs.Nodes.{tree_size, tree_nodes}
use Rattle.sheet_grammar.proofs.ExactLaws.{accepts, unambiguous}
use Rattle.sheet_grammar.proofs.DecidedLaws.{outcome, decided}
use Rattle.sheet_grammar.proofs.NodeLaws.{nodes-length, nodes-tree, nodes-some}
use Rattle.sheet_expression.specs.Expression.{table_rows, NodesOk, FewNodes, ReadAs, by_rule, by_nodes, by_line, expression_of}

-- a node that fails a test, where not all pass
some-fails : {A : Type 0} {P : A → Type 0} (test : A → Bool) → ((x : A) → Decides (test x) (P x)) → (xs : List A) → every test xs ≡ false
    → (x : A) × Memᴰ x xs × (P x → ⊥)
unfolding every
some-fails test d [] e = false-true (sym e)
some-fails {A} {P} test d (x ∷ xs) e = go (test x) refl e (some-fails test d xs)
  where
    go : (b : Bool) → test x ≡ b → (b && every test xs) ≡ false → (every test xs ≡ false → (y : A) × Memᴰ y xs × (P y → ⊥))
        → (y : A) × Memᴰ y (x ∷ xs) × (P y → ⊥)
    go true q e rest = let (y, m, f) = rest e in (y, Memᴰ.tail m, f)
    go false q e rest = (x, Memᴰ.head refl, refutes (d x) q)

outcome-line : {n : ℕ} {s : List ℕ} {t : Tree} {e : ℕ} → Outcome n s (ok t e) → ExpressionLine n s t
outcome-line (Outcome.is_line l) = l

module _ (text : List ℕ) where
  ruled-by : {t : Tree} → FewNodes text t → NodesOk (tree_nodes t) → {o : Option Refusal} → Ruled (tree_nodes t) (TreeOk (tree_nodes t)) o
      → ReadAs text (by_rule o (tree_nodes t))
  ruled-by {t} a d (Ruled.no_node e) =
      absurd (let h = nodes-some t in let z : length (tree_nodes t) ≡ 0 = ap length e in let y : ⊥ = omega arith in y)
  ruled-by {t} a d (Ruled.bad_tree h w) = absurd (w.fails (nodes-tree t _ w.is_node))
  ruled-by a d (Ruled.bad_back h x w) = ReadAs.bad_back a d w
  ruled-by a d (Ruled.bad_name h x y w) = ReadAs.bad_name a d y w
  ruled-by a d (Ruled.accepted h x y w) = ReadAs.is_read a d y w

  nodes-by : (t : Tree) → FewNodes text t → (x : Bool) → every node_ok (tree_nodes t) ≡ x
      → ReadAs text (cond x (by_rule (ruled (tree_nodes t)) (tree_nodes t)) (refuse_at 1 3))
  nodes-by t a true e = ruled-by a ((d-every node_ok decides-node (tree_nodes t)).0 e) (ruled-answers (tree_nodes t))
  nodes-by t a false e = let (n, m, f) = some-fails node_ok decides-node (tree_nodes t) e in ReadAs.bad_field a m f

  size-by : (t : Tree) → length text ≤ longest_sheet → ExpressionLine most_nested text t → (x : Bool) → ltb most_nodes (tree_size t) ≡ x
      → ReadAs text (cond x (refuse_at 1 17) (by_nodes (tree_nodes t)))
  size-by t a b true e = ReadAs.too_many a b (ltb-true _ _ e)
  size-by t a b false e = nodes-by t (record { short = a; is_line = b; few = ltb-false _ _ e }) (every node_ok (tree_nodes t)) refl

  line-by : length text ≤ longest_sheet → (o : Out) → Outcome most_nested text o → ReadAs text (by_line o)
  line-by a (bad c i) p = ReadAs.no_line a p
  line-by a (ok t e) p = size-by t a (outcome-line p) (ltb most_nodes (tree_size t)) refl

  length-by : (x : Bool) → ltb longest_sheet (length text) ≡ x → ReadAs text (cond x (refuse_at 0 5) (by_line (line_of most_nested text)))
  length-by true e = ReadAs.too_long (ltb-true _ _ e)
  length-by false e = line-by (ltb-false _ _ e) (line_of most_nested text) (outcome most_nested text)

  pub expression-read : ReadAs text (expression_of text)
  unfolding expression_of
  expression-read = length-by (ltb longest_sheet (length text)) refl

  -- ── And nothing else ──

  line_known : {t : Tree} → FewNodes text t → expression_of text ≡ by_nodes (tree_nodes t)
  unfolding expression_of
  line_known {t} a = rw (le-ltb longest_sheet (length text) a.short, accepts a.is_line, le-ltb most_nodes (tree_size t) a.few)

  all_fit : (t : Tree) → NodesOk (tree_nodes t) → every node_ok (tree_nodes t) ≡ true
  all_fit t f = (d-every node_ok decides-node (tree_nodes t)).1 f

  pub read-expression : {r : Result} → ReadAs text r → expression_of text ≡ r
  unfolding expression_of
  read-expression (ReadAs.too_long a) = rw (lt-ltb longest_sheet (length text) a)
  read-expression (ReadAs.no_line {c} {i} a p) = rw (le-ltb longest_sheet (length text) a, (decided most_nested text (bad c i)).1 p)
  read-expression (ReadAs.too_many {t} a b c) = rw (le-ltb longest_sheet (length text) a, accepts b, lt-ltb most_nodes (tree_size t) c)
  read-expression (ReadAs.bad_field {t} {n} a m f) =
      line_known a ∙ rw (refuted (every node_ok (tree_nodes t)) (d-every node_ok decides-node (tree_nodes t)) (λ g. f (g n m)))
  read-expression (ReadAs.bad_back {t} a d w) =
      line_known a ∙ rw (all_fit t d, answers-ruled (tree_nodes t) (Ruled.bad_back (nodes-some t) (nodes-tree t) w))
  read-expression (ReadAs.bad_name {t} a d x w) =
      line_known a ∙ rw (all_fit t d, answers-ruled (tree_nodes t) (Ruled.bad_name (nodes-some t) (nodes-tree t) x w))
  read-expression (ReadAs.is_read {t} a d x w) =
      line_known a ∙ rw (all_fit t d, answers-ruled (tree_nodes t) (Ruled.accepted (nodes-some t) (nodes-tree t) x w))

  pub decides-expression : (r : Result) → (expression_of text ≡ r) ↔ ReadAs text r
  decides-expression r = (λ e. subst (λ (x : Result). ReadAs text x) e expression-read, λ x. read-expression x)

  -- ── What is accepted ──

  -- the tree of an accepted line, whose nodes are an outline that a sheet could give
  pub record Accepted (rows : List (List ℕ)) : Type 0 where
    pub tree : Tree
    pub is_line : ExpressionLine most_nested text tree
    pub rows_are : rows ≡ table_rows (tree_nodes tree)
    pub outline : OutlineOk (tree_nodes tree)

  accepted-by : {r : Result} {rows : List (List ℕ)} → ReadAs text r → r ≡ accepted rows → Accepted rows
  accepted-by (ReadAs.too_long a) e = clash (cc)
  accepted-by (ReadAs.no_line a p) e = clash (cc)
  accepted-by (ReadAs.too_many a b c) e = clash (cc)
  accepted-by (ReadAs.bad_field a m f) e = clash (cc)
  accepted-by (ReadAs.bad_back a d w) e = clash (cc)
  accepted-by (ReadAs.bad_name a d x w) e = clash (cc)
  accepted-by (ReadAs.is_read {t} a d x w) e =
      record {
        tree = t;
        is_line = a.is_line;
        rows_are = cc;
        outline = record {
          few = (let n = nodes-length no_names 0 t in let f = a.few in omega arith);
          fields = d;
          shaped = record { some_node = nodes-some t; tree = nodes-tree t; backs = x; names = w };
        };
      }

  pub accepted-line : (rows : List (List ℕ)) → expression_of text ≡ accepted rows → Accepted rows
  accepted-line rows e = accepted-by expression-read e

  -- ── Which lines are refused ──

  -- "those that 5, 16, 17, 3, 7 or 8 refuses apart": a line of the grammar, of any depth, is never refused with 15
  pub never-wrong : {m i : ℕ} {t : Tree} → ExpressionLine m text t → Outcome most_nested text (bad 15 i) → ⊥
  never-wrong l (Outcome.wrong w s) = w.here (record { deep = _; line = text; tree = _; is_line = l; like = λ k h. refl })

-- "each in one way"
pub one_way : (m n : ℕ) (text : List ℕ) (t u : Tree) → ExpressionLine m text t → ExpressionLine n text u → t ≡ u
one_way m n text t u a b = unambiguous a b
