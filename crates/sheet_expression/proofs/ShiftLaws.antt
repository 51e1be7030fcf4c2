-- A tree numbered one higher: its nodes are those moved up; and so the nodes that a sign joins.
use Prim.Native.Nat.{ℕ, suc, ◌+◌, ◌<◌, ◌≤◌}
use mathlib.Core.Path.{◌≡◌, refl, sym, ap, ap₂, ◌∙◌}
use mathlib.Core.Bool.{true, false, cond}
use mathlib.Core.Option.{Option, none, some}
use mathlib.Core.List.{List, [], ◌∷◌, ◌++◌, map}
use native.Mathlib.Omega.{arith}
use native.Mathlib.Decide.{ℕ_discrete}
use native.Mathlib.Nat.{suc-add}
use native.Mathlib.Numerals.{add-one}
use lib.Dec.{eqb, ltb}
use borrow.Author.Tests.{lt-ltb, le-ltb, eq-eqb, ne_eqb}
use Rattle.usage.specs.declared.Node.{Node}
use Rattle.usage.specs.Outline.{give, given_or}
use Rattle.sheet_grammar.specs.Tree.{Tree, end, static_event, named_event, sequence, choice, loop, back, fresh, sandbox}
use Rattle.sheet_grammar.specs.Grammar.{Sign, plus, dot, joined_by}
use Rattle.sheet_grammar.proofs.RangeLaws.{below_more, below-give}
use Rattle.sheet_grammar.specs.Nodes.{tree_size, Loops, LoopsBelow, back_to, node_with, nodes_from}
use Rattle.sheet_grammar.proofs.NodeLaws.{size-pos}
use Rattle.sheet_expression.specs.Code.{up_one, moved_a_lem, moved_b_lem, shifted}
use Rattle.sheet_expression.proofs.ListingLaws.{map-append}

up_suc : (x : ℕ) → x < 255 → up_one x ≡ suc x
unfolding up_one
up_suc x l = omega arith

-- the number of a loop that moves, or not
moved : ℕ → ℕ → ℕ
moved s i = cond (ltb i s) i (suc i)

move_some : ℕ → Option ℕ → Option ℕ
move_some s none = none
move_some s (some i) = some (moved s i)

-- the same loops, moved
abbrev Moves : ℕ → Loops → Loops → Type 0
Moves s loops loops' = (l : ℕ) → loops' l ≡ move_some s (loops l)

moves-give : (loops loops' : Loops) (s k m : ℕ) → s ≤ k → Moves s loops loops' → Moves s (give loops m k) (give loops' m (suc k))
unfolding give move_some moved
moves-give loops loops' s k m h f l = go (ℕ_discrete l m)
  where
    go : Dec (l ≡ m) → given_or (eqb l m) (suc k) (loops' l) ≡ move_some s (given_or (eqb l m) k (loops l))
    go (yes x) = rw (eq-eqb l m x, le-ltb k s h)
    go (no x) = rw (ne_eqb l m x) (f l)

back-moves : (s k : ℕ) (o o' : Option ℕ) → s ≤ k → k < 255 → ((i : ℕ) → o ≡ some i → i < k) → o' ≡ move_some s o
    → node_with 6 (back_to o' (suc k)) 0 ≡ shifted s (node_with 6 (back_to o k) 0)
unfolding shifted moved_a_lem moved_b_lem move_some moved
back-moves s k none o' h l f e = rw (e, le-ltb k s h, up_suc k l)
back-moves s k (some i) o' h l f e = let g = f i refl in rw (e, up_suc i (omega arith))

node-two : (kind k n : ℕ) (s : ℕ) → (ltb kind 3 ≡ false) → (ltb kind 5 ≡ true) → (ltb kind 6 ≡ true) → suc k + n < 255
    → node_with kind (suc (suc k)) (suc (suc k) + n) ≡ shifted s (node_with kind (suc k) (suc k + n))
unfolding shifted moved_a_lem moved_b_lem
node-two kind k n s a b c l = rw (a, b, c, up_suc (suc k) (omega arith), up_suc (suc k + n) l, suc-add (suc k) n)

two-moves : (s k n : ℕ) (kind : ℕ) (xs ys xs' ys' : List Node)
    → node_with kind (suc (suc k)) (suc (suc k) + n) ≡ shifted s (node_with kind (suc k) (suc k + n)) → xs' ≡ map (shifted s) xs
    → ys' ≡ map (shifted s) ys
    → node_with kind (suc (suc k)) (suc (suc k) + n) ∷ (xs' ++ ys') ≡ map (shifted s) (node_with kind (suc k) (suc k + n) ∷ (xs ++ ys))
two-moves s k n kind xs ys xs' ys' e f g =
    ap₂ (λ (x : Node) (l : List Node). x ∷ l) e (ap₂ (λ (l m : List Node). l ++ m) f g ∙ sym (map-append (shifted s) xs ys))

one-moves : (s : ℕ) (m n : Node) (xs xs' : List Node) → n ≡ shifted s m → xs' ≡ map (shifted s) xs → n ∷ xs' ≡ map (shifted s) (m ∷ xs)
one-moves s m n xs xs' e f = ap₂ (λ (x : Node) (l : List Node). x ∷ l) e f

loop-moves : (s k : ℕ) → suc k < 255 → node_with 5 (suc (suc k)) 0 ≡ shifted s (node_with 5 (suc k) 0)
unfolding shifted moved_a_lem moved_b_lem
loop-moves s k l = rw (up_suc (suc k) l)

fresh-moves : (s k n : ℕ) → suc k < 255 → node_with 7 n (suc (suc k)) ≡ shifted s (node_with 7 n (suc k))
unfolding shifted moved_a_lem moved_b_lem
fresh-moves s k n l = rw (up_suc (suc k) l)

sandbox-moves : (s k n : ℕ) → suc k < 255 → node_with 8 n (suc (suc k)) ≡ shifted s (node_with 8 n (suc k))
unfolding shifted moved_a_lem moved_b_lem
sandbox-moves s k n l = rw (up_suc (suc k) l)

leaf-moves : (s : ℕ) (kind a b : ℕ) → ltb kind 3 ≡ true → node_with kind a b ≡ shifted s (node_with kind a b)
unfolding shifted moved_a_lem moved_b_lem
leaf-moves s kind a b e = rw e

shift : (s : ℕ) (loops loops' : Loops) (k : ℕ) (t : Tree) → s ≤ k → k + tree_size t < 256 → LoopsBelow loops k → Moves s loops loops'
    → nodes_from loops' (suc k) t ≡ map (shifted s) (nodes_from loops k t)
unfolding nodes_from tree_size
shift s loops loops' k end h l f g = one-moves s _ _ [] [] (leaf-moves s 0 0 0 refl) refl
shift s loops loops' k (static_event a r) h l f g = one-moves s _ _ [] [] (leaf-moves s 1 a r refl) refl
shift s loops loops' k (named_event a n) h l f g = one-moves s _ _ [] [] (leaf-moves s 2 a n refl) refl
shift s loops loops' k (sequence t u) h l f g =
    let p = size-pos u in
    two-moves s k (tree_size t) 3 (nodes_from loops (suc k) t) (nodes_from loops (suc k + tree_size t) u) (nodes_from loops' (suc (suc k)) t)
    (nodes_from loops' (suc (suc k) + tree_size t) u)
    (node-two 3 k (tree_size t) s refl refl refl (omega arith))
    (shift s loops loops' (suc k) t (omega arith) (omega arith) (below_more f (omega arith)) g)
    (ap (λ (j : ℕ). nodes_from loops' j u) (suc-add (suc k) (tree_size t))
    ∙ shift s loops loops' (suc k + tree_size t) u (omega arith) (omega arith) (below_more f (omega arith)) g)
shift s loops loops' k (choice t u) h l f g =
    let p = size-pos u in
    two-moves s k (tree_size t) 4 (nodes_from loops (suc k) t) (nodes_from loops (suc k + tree_size t) u) (nodes_from loops' (suc (suc k)) t)
    (nodes_from loops' (suc (suc k) + tree_size t) u)
    (node-two 4 k (tree_size t) s refl refl refl (omega arith))
    (shift s loops loops' (suc k) t (omega arith) (omega arith) (below_more f (omega arith)) g)
    (ap (λ (j : ℕ). nodes_from loops' j u) (suc-add (suc k) (tree_size t))
    ∙ shift s loops loops' (suc k + tree_size t) u (omega arith) (omega arith) (below_more f (omega arith)) g)
shift s loops loops' k (loop m t) h l f g =
    let p = size-pos t in
    one-moves s _ _ (nodes_from (give loops m k) (suc k) t) (nodes_from (give loops' m (suc k)) (suc (suc k)) t)
    (loop-moves s k (omega arith))
    (shift s (give loops m k) (give loops' m (suc k)) (suc k) t (omega arith) (omega arith) (below-give m f)
    (moves-give loops loops' s k m h g))
shift s loops loops' k (back m) h l f g =
    one-moves s _ _ [] [] (back-moves s k (loops m) (loops' m) h (omega arith) (λ i e. f m i e) (g m)) refl
shift s loops loops' k (fresh n t) h l f g =
    let p = size-pos t in
    one-moves s _ _ (nodes_from loops (suc k) t) (nodes_from loops' (suc (suc k)) t) (fresh-moves s k n (omega arith))
    (shift s loops loops' (suc k) t (omega arith) (omega arith) (below_more f (omega arith)) g)
shift s loops loops' k (sandbox n t) h l f g =
    let p = size-pos t in
    one-moves s _ _ (nodes_from loops (suc k) t) (nodes_from loops' (suc (suc k)) t) (sandbox-moves s k n (omega arith))
    (shift s loops loops' (suc k) t (omega arith) (omega arith) (below_more f (omega arith)) g)

-- ── What a sign joins ──

-- loops below s stay
stays : (loops : Loops) (s : ℕ) → LoopsBelow loops s → Moves s loops loops
unfolding move_some moved
stays loops s f l = go (loops l) refl
  where
    go : (o : Option ℕ) → loops l ≡ o → o ≡ move_some s o
    go none e = refl
    go (some i) e = rw (lt-ltb i s (f l i e))

abbrev pub kind_of : Sign → ℕ
kind_of plus = 4
kind_of dot = 3

pub joins : (l : Sign) (loops : Loops) (k : ℕ) (t u : Tree) → k + tree_size t + tree_size u < 64 → LoopsBelow loops k
    → node_with (kind_of l) (k + 1) (k + tree_size t + 1) ∷ map (shifted k) (nodes_from loops k t ++ nodes_from loops (k + tree_size t) u)
    ≡ nodes_from loops k (joined_by l t u)
unfolding nodes_from
joins l loops k t u h f =
    ap (λ (xs : List Node). node_with (kind_of l) (k + 1) (k + tree_size t + 1) ∷ xs)
    (map-append (shifted k) (nodes_from loops k t) (nodes_from loops (k + tree_size t) u)
    ∙ ap₂ (λ (xs ys : List Node). xs ++ ys) (sym (shift k loops loops k t (omega arith) (omega arith) f (stays loops k f)))
    (sym (shift k loops loops (k + tree_size t) u (omega arith) (omega arith) (below_more f (omega arith)) (stays loops k f))
    ∙ ap (λ (j : ℕ). nodes_from loops j u) (sym (suc-add k (tree_size t)))))
    ∙ go l
  where
    go : (l : Sign)
        → node_with (kind_of l) (k + 1) (k + tree_size t + 1) ∷ (nodes_from loops (suc k) t ++ nodes_from loops (suc k + tree_size t) u)
        ≡ nodes_from loops k (joined_by l t u)
    go plus =
        ap₂ (λ (a b : ℕ). node_with 4 a b ∷ (nodes_from loops (suc k) t ++ nodes_from loops (suc k + tree_size t) u)) (add-one k)
        (add-one (k + tree_size t) ∙ sym (suc-add k (tree_size t)))
    go dot =
        ap₂ (λ (a b : ℕ). node_with 3 a b ∷ (nodes_from loops (suc k) t ++ nodes_from loops (suc k + tree_size t) u)) (add-one k)
        (add-one (k + tree_size t) ∙ sym (suc-add k (tree_size t)))
