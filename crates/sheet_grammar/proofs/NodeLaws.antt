-- The node table of a tree: its length; it is a tree as refusal 6 asks; and a back is refused with 7 exactly where no loop of its label is
-- around it.
use Prim.Native.Nat.{ℕ, zero, suc, ◌+◌, ◌<◌, ◌≤◌}
use mathlib.Core.Path.{◌≡◌, refl, sym, ap, subst, ◌∙◌}
use mathlib.Core.Option.{Option, none, some, some-injective}
use mathlib.Core.List.Memᴰ
use mathlib.Core.List.{List, [], ◌∷◌, ◌++◌, append-nil, Memᴰ}
use mathlib.Core.Logic.{◌⊎◌, inl, inr, ◌↔◌}
use native.Mathlib.Omega.{arith}
use native.Mathlib.Decide.{dec_lt, ℕ_discrete}
use lib.Dec.{eqb}
use lib.ListN.{get_elem?, length, length-append}
use borrow.Author.Tests.{eq-eqb, ne_eqb}
use Rattle.usage.specs.declared.Node.{Node}
use Rattle.usage.specs.Past.{add_if}
use Rattle.usage.specs.Outline.{Form, form_of, form_in, Is, no_names, give}
use Rattle.usage.specs.Valid.{children, Child, times, times_child_lem, due, TreeOk, Inside, directly, deeper, BackOk, All}
use Rattle.usage.proofs.Logic.{by_cases, none-some, clash}
use Rattle.usage.proofs.FormLaws.{one_form, exists}
use Rattle.sheet_grammar.specs.Tree.{Tree, end, static_event, named_event, sequence, choice, loop, back, fresh, sandbox}
use Rattle.sheet_grammar.specs.Nodes.{tree_size, Loops, back_to, nodes_from, tree_nodes, Free}
use Rattle.sheet_grammar.proofs.SliceLaws.{Slice, nil, cons, slice-split, slice-length, slice_front}

-- ── How many ──

pub size-pos : (t : Tree) → 0 < tree_size t
unfolding tree_size
size-pos end = omega arith
size-pos (static_event a r) = omega arith
size-pos (named_event a n) = omega arith
size-pos (sequence t u) = omega arith
size-pos (choice t u) = omega arith
size-pos (loop l t) = omega arith
size-pos (back l) = omega arith
size-pos (fresh n t) = omega arith
size-pos (sandbox p t) = omega arith

pub nodes-length : (loops : Loops) (k : ℕ) (t : Tree) → length (nodes_from loops k t) ≡ tree_size t
unfolding tree_size nodes_from
nodes-length loops k end = refl
nodes-length loops k (static_event a r) = refl
nodes-length loops k (named_event a n) = refl
nodes-length loops k (sequence t u) =
    omega (
      arith,
      length-append (nodes_from loops (suc k) t) (nodes_from loops (suc k + tree_size t) u),
      nodes-length loops
          (suc k) t,
      nodes-length loops (suc k + tree_size t) u,
    )
nodes-length loops k (choice t u) =
    omega (
      arith,
      length-append (nodes_from loops (suc k) t) (nodes_from loops (suc k + tree_size t) u),
      nodes-length loops
          (suc k) t,
      nodes-length loops (suc k + tree_size t) u,
    )
nodes-length loops k (loop l t) = ap suc (nodes-length (give loops l k) (suc k) t)
nodes-length loops k (back l) = refl
nodes-length loops k (fresh n t) = ap suc (nodes-length loops (suc k) t)
nodes-length loops k (sandbox p t) = ap suc (nodes-length loops (suc k) t)

-- ── How often each number is a child ──

times-append : (c : ℕ) (xs ys : List Node) → times_child_lem c (xs ++ ys) ≡ times_child_lem c xs + times_child_lem c ys
unfolding times_child_lem
times-append c [] ys = omega arith
times-append c (n ∷ xs) ys = omega (arith, times-append c xs ys)

-- x is 1 for the numbers after k and before e, and 0 for all others
pub record Counts (c k e x : ℕ) : Type 0 where
  pub not-before : c ≤ k → x ≡ 0
  pub between : k < c → c < e → x ≡ 1
  pub not_after : e ≤ c → x ≡ 0

leaf-counts : (c k : ℕ) → Counts c k (suc k) 0
leaf-counts c k = record { not-before = λ l. refl; between = λ l m. omega arith; not_after = λ l. refl }

one-counts : (c k e y : ℕ) → suc k < e → Counts c (suc k) e y → Counts c k e (add_if (eqb (suc k) c) 0 + y)
one-counts c k e y l n = go (ℕ_discrete (suc k) c)
  where
    go : Dec (suc k ≡ c) → Counts c k e (add_if (eqb (suc k) c) 0 + y)
    go (yes p) =
        rw (eq-eqb (suc k) c p) (let z = n.not-before (omega arith) in
        record { not-before = λ a. omega arith; between = λ a b. omega arith; not_after = λ a. omega arith })
    go (no p) =
        rw (ne_eqb (suc k) c p) (record {
          not-before = λ a. omega (arith, n.not-before (omega arith));
          between = λ a b. omega
              (arith, n.between (omega arith) b);
          not_after = λ a. omega (arith, n.not_after a);
        })

two-counts : (c k m e x y : ℕ) → suc k < m → m < e → Counts c (suc k) m x → Counts c m e y
    → Counts c k e (add_if (eqb (suc k) c) (add_if (eqb m c) 0) + (x + y))
two-counts c k m e x y l h p q = go (ℕ_discrete (suc k) c) (ℕ_discrete m c) (dec_lt c m)
  where
    go : Dec (suc k ≡ c) → Dec (m ≡ c) → Dec (c < m) → Counts c k e (add_if (eqb (suc k) c) (add_if (eqb m c) 0) + (x + y))
    go (yes a) (yes b) d = absurd (let z : ⊥ = omega arith in z)
    go (yes a) (no b) d =
        rw (eq-eqb (suc k) c a, ne_eqb m c b) (let u = p.not-before (omega arith) in let v = q.not-before (omega arith) in
        record { not-before = λ i. omega arith; between = λ i j. omega arith; not_after = λ i. omega arith })
    go (no a) (yes b) d =
        rw (ne_eqb (suc k) c a, eq-eqb m c b) (let u = p.not_after (omega arith) in let v = q.not-before (omega arith) in
        record { not-before = λ i. omega arith; between = λ i j. omega arith; not_after = λ i. omega arith })
    go (no a) (no b) (yes d) =
        rw (ne_eqb (suc k) c a, ne_eqb m c b) (let v = q.not-before (omega arith) in
        record {
          not-before = λ i. omega (arith, p.not-before (omega arith));
          between = λ i j. omega (arith, p.between (omega arith) d);
          not_after = λ i. omega arith;
        })
    go (no a) (no b) (no d) =
        rw (ne_eqb (suc k) c a, ne_eqb m c b) (let u = p.not_after (omega arith) in
        record {
          not-before = λ i. omega arith;
          between = λ i j. omega (arith, q.between (omega arith) j);
          not_after = λ i. omega
              (arith, q.not_after i);
        })

leaf-at : (c k : ℕ) → Counts c k (k + 1) 0
leaf-at c k = subst (λ (e : ℕ). Counts c k e 0) (let z : suc k ≡ k + 1 = omega arith in z) (leaf-counts c k)

one_at : (c k : ℕ) (t : Tree) (y : ℕ) → Counts c (suc k) (suc k + tree_size t) y
    → Counts c k (k + suc (tree_size t)) (add_if (eqb (suc k) c) 0 + y)
one_at c k t y p =
    let h = size-pos t in
    subst (λ (e : ℕ). Counts c k e (add_if (eqb (suc k) c) 0 + y)) (let z : suc k + tree_size t ≡ k + suc (tree_size t) = omega arith in z)
    (one-counts c k (suc k + tree_size t) y (omega arith) p)

two_at : (c k : ℕ) (t u : Tree) (x y : ℕ) {z : ℕ} → Counts c (suc k) (suc k + tree_size t) x
    → Counts c (suc k + tree_size t) (suc k + tree_size t + tree_size u) y → z ≡ x + y
    → Counts c k (k + suc (tree_size t + tree_size u)) (add_if (eqb (suc k) c) (add_if (eqb (suc k + tree_size t) c) 0) + z)
two_at c k t u x y {z} p q e =
    let h = size-pos t in
    let g = size-pos u in
    rw e (subst (λ (f : ℕ). Counts c k f (add_if (eqb (suc k) c) (add_if (eqb (suc k + tree_size t) c) 0) + (x + y)))
    (let w : suc k + tree_size t + tree_size u ≡ k + suc (tree_size t + tree_size u) = omega arith in w)
    (two-counts c k (suc k + tree_size t) (suc k + tree_size t + tree_size u) x y (omega arith) (omega arith) p q))

pub nodes-count : (c : ℕ) (loops : Loops) (k : ℕ) (t : Tree) → Counts c k (k + tree_size t) (times_child_lem c (nodes_from loops k t))
unfolding tree_size nodes_from times_child_lem times form_of
nodes-count c loops k end = leaf-at c k
nodes-count c loops k (static_event a r) = leaf-at c k
nodes-count c loops k (named_event a n) = leaf-at c k
nodes-count c loops k (sequence t u) =
    two_at c k t u _ _ (nodes-count c loops (suc k) t) (nodes-count c loops (suc k + tree_size t) u)
    (times-append c (nodes_from loops (suc k) t) (nodes_from loops (suc k + tree_size t) u))
nodes-count c loops k (choice t u) =
    two_at c k t u _ _ (nodes-count c loops (suc k) t) (nodes-count c loops (suc k + tree_size t) u)
    (times-append c (nodes_from loops (suc k) t) (nodes_from loops (suc k + tree_size t) u))
nodes-count c loops k (loop l t) = one_at c k t _ (nodes-count c (give loops l k) (suc k) t)
nodes-count c loops k (back l) = leaf-at c k
nodes-count c loops k (fresh n t) = one_at c k t _ (nodes-count c loops (suc k) t)
nodes-count c loops k (sandbox p t) = one_at c k t _ (nodes-count c loops (suc k) t)

-- ── Where the children stand ──

-- the node at a place says this
pub says : {ns : List Node} {k : ℕ} {n : Node} (f : Form) → get_elem? ns k ≡ some n → form_of n ≡ some f → Is ns k f
says f h e = record { form = ap form_in h ∙ e }

-- the children of a node of a known form
child-in : {ns : List Node} {k c : ℕ} (f : Form) → Is ns k f → Child ns k c → Memᴰ c (children f)
child-in {ns} {k} {c} f i m = subst (λ (g : Form). Memᴰ c (children g)) (one_form m.is i) m.listed

only_child : {c a : ℕ} → Memᴰ c (a ∷ []) → c ≡ a
only_child m = by_cases (Memᴰ.cases_cons m) (λ e. e) (λ n. absurd (Memᴰ.not-nil n))

either_child : {c a b : ℕ} → Memᴰ c (a ∷ b ∷ []) → (c ≡ a) ⊎ (c ≡ b)
either_child m = by_cases (Memᴰ.cases_cons m) (λ e. inl e) (λ n. inr (only_child n))

-- the nodes of a tree in a table, from k up to e
abbrev pub Holds : List Node → Loops → ℕ → Tree → ℕ → Type 0
Holds ns loops k t e = Slice ns k (nodes_from loops k t) e

pub holds-end : {ns : List Node} (loops : Loops) (k : ℕ) (t : Tree) {e : ℕ} → Holds ns loops k t e → e ≡ k + tree_size t
holds-end loops k t p = slice-length p ∙ ap (λ (n : ℕ). k + n) (nodes-length loops k t)

-- a node with one child, and one with two
pub record One (ns : List Node) (n : Node) (loops : Loops) (k : ℕ) (t : Tree) (e : ℕ) : Type 0 where
  pub here : get_elem? ns k ≡ some n
  pub child : Holds ns loops (suc k) t e

pub record Two (ns : List Node) (n : Node) (loops : Loops) (k : ℕ) (t u : Tree) (e : ℕ) : Type 0 where
  pub here : get_elem? ns k ≡ some n
  pub left : Holds ns loops (suc k) t (suc k + tree_size t)
  pub right : Holds ns loops (suc k + tree_size t) u e

pub one-held : {ns : List Node} (n : Node) (loops : Loops) (k : ℕ) (t : Tree) {e : ℕ} → Slice ns k (n ∷ nodes_from loops (suc k) t) e
    → One ns n loops k t e
one-held n loops k t (cons h p) = record { here = h; child = p }

pub two-held : {ns : List Node} (n : Node) (loops : Loops) (k : ℕ) (t u : Tree) {e : ℕ}
    → Slice ns k (n ∷ (nodes_from loops (suc k) t ++ nodes_from loops (suc k + tree_size t) u)) e → Two ns n loops k t u e
two-held {ns} n loops k t u {e} (cons h p) =
    let r = slice-split (nodes_from loops (suc k) t) (nodes_from loops (suc k + tree_size t) u) p in
    let m = holds-end loops (suc k) t r.left in
    record {
      here = h;
      left = subst (λ (j : ℕ). Holds ns loops (suc k) t j) m r.left;
      right = subst (λ (j : ℕ). Slice ns j (nodes_from loops (suc k + tree_size t) u) e) m r.right;
    }

-- the children of each of these nodes are greater, and among these nodes
abbrev Within : List Node → ℕ → ℕ → Type 0
Within ns k e = (j c : ℕ) → k ≤ j → j < e → Child ns j c → (j < c) × (c < e)

leaf-within : {ns : List Node} {k e : ℕ} {n : Node} (f : Form) → get_elem? ns k ≡ some n → form_of n ≡ some f → children f ≡ [] → e ≡ suc k
    → Within ns k e
leaf-within {ns} {k} f h x y z j c a b m =
    let i : j ≡ k = omega arith in
    absurd (Memᴰ.not-nil (subst (λ (l : List ℕ). Memᴰ c l) y (child-in f (says f h x) (subst (λ (p : ℕ). Child ns p c) i m))))

one-within : {ns : List Node} {k e : ℕ} {n : Node} (f : Form) → get_elem? ns k ≡ some n → form_of n ≡ some f → children f ≡ suc k ∷ []
    → suc k < e → Within ns (suc k) e → Within ns k e
one-within {ns} {k} {e} f h x y l w j c a b m = go (ℕ_discrete j k)
  where
    go : Dec (j ≡ k) → (j < c) × (c < e)
    go (yes i) =
        let z = only_child (subst (λ (l : List ℕ). Memᴰ c l) y (child-in f (says f h x) (subst (λ (p : ℕ). Child ns p c) i m))) in
        (omega arith, omega arith)
    go (no i) = w j c (omega arith) b m

two-within : {ns : List Node} {k d e : ℕ} {n : Node} (f : Form) → get_elem? ns k ≡ some n → form_of n ≡ some f → children f ≡ suc k ∷ d ∷ []
    → suc k < d → d < e → Within ns (suc k) d → Within ns d e → Within ns k e
two-within {ns} {k} {d} {e} f h x y l l' w v j c a b m = go (ℕ_discrete j k) (dec_lt j d)
  where
    go : Dec (j ≡ k) → Dec (j < d) → (j < c) × (c < e)
    go (yes i) o =
        by_cases (either_child (subst (λ (l : List ℕ). Memᴰ c l) y (child-in f (says f h x) (subst (λ (p : ℕ). Child ns p c) i m))))
        (λ z. (omega arith, omega arith)) (λ z. (omega arith, omega arith))
    go (no i) (yes o) = let z = w j c (omega arith) o m in (z.0, omega arith)
    go (no i) (no o) = v j c (omega arith) b m

pub tree-within : {ns : List Node} (loops : Loops) (k : ℕ) (t : Tree) {e : ℕ} → Holds ns loops k t e → Within ns k e
unfolding nodes_from tree_size form_of
tree-within loops k end (cons h nil) = leaf-within Form.end h refl refl refl
tree-within loops k (static_event a r) (cons h nil) = leaf-within (Form.static_event a r) h refl refl refl
tree-within loops k (named_event a n) (cons h nil) = leaf-within (Form.named_event a n) h refl refl refl
tree-within loops k (sequence t u) p =
    let r = two-held _ loops k t u p in
    two-within (Form.sequence (suc k) (suc k + tree_size t)) r.here refl refl (omega (arith, size-pos t))
    (omega (arith, size-pos u, holds-end loops (suc k + tree_size t) u r.right)) (tree-within loops (suc k) t r.left)
    (tree-within loops (suc k + tree_size t) u r.right)
tree-within loops k (choice t u) p =
    let r = two-held _ loops k t u p in
    two-within (Form.choice (suc k) (suc k + tree_size t)) r.here refl refl (omega (arith, size-pos t))
    (omega (arith, size-pos u, holds-end loops (suc k + tree_size t) u r.right)) (tree-within loops (suc k) t r.left)
    (tree-within loops (suc k + tree_size t) u r.right)
tree-within loops k (loop l t) p =
    let r = one-held _ (give loops l k) k t p in
    one-within (Form.loop (suc k)) r.here refl refl (omega (arith, size-pos t, holds-end (give loops l k) (suc k) t r.child))
    (tree-within (give loops l k) (suc k) t r.child)
tree-within loops k (back l) (cons h nil) = leaf-within (Form.back (back_to (loops l) k)) h refl refl refl
tree-within loops k (fresh n t) p =
    let r = one-held _ loops k t p in
    one-within (Form.fresh n (suc k)) r.here refl refl (omega (arith, size-pos t, holds-end loops (suc k) t r.child))
    (tree-within loops (suc k) t r.child)
tree-within loops k (sandbox q t) p =
    let r = one-held _ loops k t p in
    one-within (Form.sandbox q (suc k)) r.here refl refl (omega (arith, size-pos t, holds-end loops (suc k) t r.child))
    (tree-within loops (suc k) t r.child)

-- ── Refusals 9 and 6 never occur ──

pub whole-held : (t : Tree) → Holds (tree_nodes t) no_names 0 t (tree_size t)
whole-held t =
    subst (λ (e : ℕ). Holds (tree_nodes t) no_names 0 t e) (nodes-length no_names 0 t)
    (subst (λ (ns : List Node). Slice ns 0 (tree_nodes t) (length (tree_nodes t))) (append-nil (tree_nodes t)) (slice_front (tree_nodes t) []))

pub nodes-tree : (t : Tree) → All (tree_nodes t) (TreeOk (tree_nodes t))
nodes-tree t k l =
    let n = nodes-length no_names 0 t in
    let w = tree-within no_names 0 t (whole-held t) in
    record {
      greater = λ c m. (w k c (omega arith) (omega arith) m).0;
      exist = λ c m. let h = (w k c (omega arith) (omega arith) m).1 in omega arith;
      once = once k (omega arith);
    }
  where
    once : (k : ℕ) → k < tree_size t → times_child_lem k (tree_nodes t) ≡ due k
    once zero h = (nodes-count zero no_names 0 t).not-before (omega arith)
    once (suc k) h = (nodes-count (suc k) no_names 0 t).between (omega arith) (omega arith)

pub nodes-some : (t : Tree) → 0 < length (tree_nodes t)
nodes-some t = omega (arith, nodes-length no_names 0 t, size-pos t)

-- ── Backs (refusal 7) ──

given-none : (loops : Loops) (m k l : ℕ) → (l ≡ m → ⊥) → loops l ≡ none → give loops m k l ≡ none
unfolding give
given-none loops m k l x e = rw (ne_eqb l m x) e

-- a back of a label that means nothing says its own number
pub free_back : {ns : List Node} {l : ℕ} (loops : Loops) (k : ℕ) {t : Tree} {e : ℕ} → Free l t → Holds ns loops k t e → loops l ≡ none
    → (j : ℕ) × Is ns j (Form.back j)
unfolding nodes_from tree_size form_of
free_back loops k Free.here (cons h nil) x = (k, says (Form.back k) h (rw x))
free_back loops k (Free.first {t} {u} f) p x = free_back loops (suc k) f (two-held _ loops k t u p).left x
free_back loops k (Free.second {t} {u} f) p x = free_back loops (suc k + tree_size t) f (two-held _ loops k t u p).right x
free_back loops k (Free.left {t} {u} f) p x = free_back loops (suc k) f (two-held _ loops k t u p).left x
free_back loops k (Free.right {t} {u} f) p x = free_back loops (suc k + tree_size t) f (two-held _ loops k t u p).right x
free_back {l} loops k (Free.in_loop {m} {t} n f) p x =
    free_back (give loops m k) (suc k) f (one-held _ (give loops m k) k t p).child (given-none loops m k l n x)
free_back loops k (Free.in_fresh {t} f) p x = free_back loops (suc k) f (one-held _ loops k t p).child x
free_back loops k (Free.in_sandbox {t} f) p x = free_back loops (suc k) f (one-held _ loops k t p).child x

-- each label means a loop that node k lies inside
abbrev Around : List Node → Loops → ℕ → Type 0
Around ns loops k = (l i : ℕ) → loops l ≡ some i → (b : ℕ) × Is ns i (Form.loop b) × Inside ns k i

-- and every label that a tree leaves open means one
abbrev Known : Loops → Tree → Type 0
Known loops t = (l : ℕ) → Free l t → (i : ℕ) × (loops l ≡ some i)

abbrev From : List Node → ℕ → ℕ → Type 0
From ns k e = (j : ℕ) → k ≤ j → j < e → BackOk ns j

around-child : {ns : List Node} {loops : Loops} {k c : ℕ} → Child ns k c → Around ns loops k → Around ns loops c
around-child m f l i e = let r = f l i e in (r.0, r.1, deeper m r.2)

around-loop : {ns : List Node} {loops : Loops} {k c : ℕ} (m : ℕ) → Is ns k (Form.loop c) → Child ns k c → Around ns loops k
    → Around ns (give loops m k) c
unfolding give
around-loop {ns} {loops} {k} {c} m is ch f l i e = go (ℕ_discrete l m)
  where
    go : Dec (l ≡ m) → (b : ℕ) × Is ns i (Form.loop b) × Inside ns c i
    go (yes x) =
        let q : k ≡ i = some-injective k i (rw (eq-eqb l m x) at e) in
        subst (λ (j : ℕ). (b : ℕ) × Is ns j (Form.loop b) × Inside ns c j) q (c, is, directly ch)
    go (no x) = let r = f l i (rw (ne_eqb l m x) at e) in (r.0, r.1, deeper ch r.2)

known-loop : {loops : Loops} {t : Tree} (m k : ℕ) → Known loops (loop m t) → Known (give loops m k) t
unfolding give
known-loop {loops} {t} m k f l x = go (ℕ_discrete l m)
  where
    go : Dec (l ≡ m) → (i : ℕ) × (give loops m k l ≡ some i)
    go (yes e) = (k, rw (eq-eqb l m e))
    go (no e) = let r = f l (Free.in_loop e x) in (r.0, rw (ne_eqb l m e) r.1)

-- a node that is no back is no bad one
no-back : {ns : List Node} {k : ℕ} (f : Form) → Is ns k f → ((a : ℕ) → f ≡ Form.back a → ⊥) → BackOk ns k
no-back f i x = record { target = λ a j. absurd (x a (one_form i j)) }

from-leaf : {ns : List Node} {k : ℕ} → BackOk ns k → From ns k (suc k)
from-leaf {ns} {k} b j l m = subst (λ (x : ℕ). BackOk ns x) (let z : k ≡ j = omega arith in z) b

from_more : {ns : List Node} {k e : ℕ} → BackOk ns k → From ns (suc k) e → From ns k e
from_more {ns} {k} {e} b f j l m = go (ℕ_discrete k j)
  where
    go : Dec (k ≡ j) → BackOk ns j
    go (yes x) = subst (λ (x : ℕ). BackOk ns x) x b
    go (no x) = f j (omega arith) m

from-append : {ns : List Node} {k d e : ℕ} → From ns k d → From ns d e → From ns k e
from-append {ns} {k} {d} {e} f g j l m = go (dec_lt j d)
  where
    go : Dec (j < d) → BackOk ns j
    go (yes x) = f j l x
    go (no x) = g j (omega arith) m

first-child : {ns : List Node} {k : ℕ} (f : Form) (c : ℕ) (cs : List ℕ) → Is ns k f → children f ≡ c ∷ cs → Child ns k c
first-child f c cs i e = record { form = f; is = i; listed = rw e (Memᴰ.head refl) }

second-child : {ns : List Node} {k : ℕ} (f : Form) (b c : ℕ) → Is ns k f → children f ≡ b ∷ c ∷ [] → Child ns k c
second-child f b c i e = record { form = f; is = i; listed = rw e (Memᴰ.tail (Memᴰ.head refl)) }

back_found : {ns : List Node} {k a i : ℕ} → Is ns k (Form.back a) → a ≡ i → (b : ℕ) × Is ns i (Form.loop b) × Inside ns k i → BackOk ns k
back_found {ns} {k} {a} {i} is e m =
    record { target = λ c j. subst (λ (x : ℕ). (b : ℕ) × Is ns x (Form.loop b) × Inside ns k x) (sym e ∙ same (one_form is j)) m }
  where
    same : {x y : ℕ} → Form.back x ≡ Form.back y → x ≡ y
    same p = cc

pub backs-from : {ns : List Node} (loops : Loops) (k : ℕ) (t : Tree) {e : ℕ} → Holds ns loops k t e → Around ns loops k → Known loops t
    → From ns k e
unfolding nodes_from tree_size form_of
backs-from loops k end (cons h nil) a x = from-leaf (no-back Form.end (says Form.end h refl) (λ b e. clash (cc)))
backs-from loops k (static_event b r) (cons h nil) a x =
    from-leaf (no-back (Form.static_event b r) (says (Form.static_event b r) h refl) (λ b e. clash (cc)))
backs-from loops k (named_event b n) (cons h nil) a x =
    from-leaf (no-back (Form.named_event b n) (says (Form.named_event b n) h refl) (λ b e. clash (cc)))
backs-from loops k (sequence t u) p a x =
    let r = two-held _ loops k t u p in
    let i = says (Form.sequence (suc k) (suc k + tree_size t)) r.here refl in
    let c = first-child (Form.sequence (suc k) (suc k + tree_size t)) (suc k) ((suc k + tree_size t) ∷ []) i refl in
    let d = second-child (Form.sequence (suc k) (suc k + tree_size t)) (suc k) (suc k + tree_size t) i refl in
    from_more (no-back (Form.sequence (suc k) (suc k + tree_size t)) i (λ b e. clash (cc)))
    (from-append (backs-from loops (suc k) t r.left (around-child c a) (λ l f. x l (Free.first f)))
    (backs-from loops (suc k + tree_size t) u r.right (around-child d a) (λ l f. x l (Free.second f))))
backs-from loops k (choice t u) p a x =
    let r = two-held _ loops k t u p in
    let i = says (Form.choice (suc k) (suc k + tree_size t)) r.here refl in
    let c = first-child (Form.choice (suc k) (suc k + tree_size t)) (suc k) ((suc k + tree_size t) ∷ []) i refl in
    let d = second-child (Form.choice (suc k) (suc k + tree_size t)) (suc k) (suc k + tree_size t) i refl in
    from_more (no-back (Form.choice (suc k) (suc k + tree_size t)) i (λ b e. clash (cc)))
    (from-append (backs-from loops (suc k) t r.left (around-child c a) (λ l f. x l (Free.left f)))
    (backs-from loops (suc k + tree_size t) u r.right (around-child d a) (λ l f. x l (Free.right f))))
backs-from loops k (loop l t) p a x =
    let r = one-held _ (give loops l k) k t p in
    let i = says (Form.loop (suc k)) r.here refl in
    let c = first-child (Form.loop (suc k)) (suc k) [] i refl in
    from_more (no-back (Form.loop (suc k)) i (λ b e. clash (cc))) (backs-from (give loops l k) (suc k) t r.child (around-loop l i c a)
    (known-loop l k x))
backs-from {ns} loops k (back l) (cons h nil) a x =
    let r = x l Free.here in
    let m = a l r.0 r.1 in
    from-leaf (back_found (says (Form.back (back_to (loops l) k)) h refl) (ap (λ (o : Option ℕ). back_to o k) r.1) m)
backs-from loops k (fresh n t) p a x =
    let r = one-held _ loops k t p in
    let i = says (Form.fresh n (suc k)) r.here refl in
    let c = first-child (Form.fresh n (suc k)) (suc k) [] i refl in
    from_more (no-back (Form.fresh n (suc k)) i (λ b e. clash (cc)))
    (backs-from loops (suc k) t r.child (around-child c a) (λ l f. x l (Free.in_fresh f)))
backs-from loops k (sandbox q t) p a x =
    let r = one-held _ loops k t p in
    let i = says (Form.sandbox q (suc k)) r.here refl in
    let c = first-child (Form.sandbox q (suc k)) (suc k) [] i refl in
    from_more (no-back (Form.sandbox q (suc k)) i (λ b e. clash (cc)))
    (backs-from loops (suc k) t r.child (around-child c a) (λ l f. x l (Free.in_sandbox f)))

-- "7 lowest back not inside a loop node of that number": none is refused exactly where every back has a loop of its label around it
pub backs-good : (t : Tree) → ((l : ℕ) → Free l t → ⊥) → All (tree_nodes t) (BackOk (tree_nodes t))
backs-good t x k l =
    backs-from no_names 0 t (whole-held t) (λ m i e. none-some e) (λ m f. absurd (x m f)) k (omega arith)
    (omega (arith, nodes-length no_names 0 t))

pub backs-bad : (t : Tree) (l : ℕ) → Free l t → All (tree_nodes t) (BackOk (tree_nodes t)) → ⊥
backs-bad t l f a =
    let (j, i) = free_back no_names 0 f (whole-held t) refl in
    let r = (a j (exists i)).target j i in
    let e = one_form i r.1 in
    clash (cc)

pub backs : (t : Tree) → All (tree_nodes t) (BackOk (tree_nodes t)) ↔ ((l : ℕ) → Free l t → ⊥)
backs t = (λ a l f. backs-bad t l f a, λ x. backs-good t x)
