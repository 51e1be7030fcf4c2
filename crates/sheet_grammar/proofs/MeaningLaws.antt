-- The runs of a tree are those of its node table: the parts of the one stand for those of the other, one by one.
use Prim.Native.Nat.{ℕ, suc, ◌+◌, ◌≤◌}
use mathlib.Core.Path.{◌≡◌, refl, sym, ap, subst, ◌∙◌}
use mathlib.Core.Option.{Option, none, some, some-injective}
use mathlib.Core.List.{List, [], ◌∷◌}
use mathlib.Core.Logic.{◌↔◌}
use native.Mathlib.Decide.{ℕ_discrete}
use borrow.Author.Tests.{eq-eqb, ne_eqb}
use Rattle.usage.specs.declared.Node.{Node}
use Rattle.usage.specs.Limits.{statics, create}
use Rattle.usage.specs.Past.{event, opening, Past, Occurs}
use Rattle.usage.specs.Outline.{Form, form_of, Is, Names, no_names, give, Part, node, close, Run, Advance, Runs, started, moved, IsTrace}
use Rattle.usage.proofs.Logic.{none-some}
use Rattle.usage.proofs.FormLaws.{one_form}
use Rattle.sheet_grammar.specs.Tree.{Tree, end, static_event, named_event, sequence, choice, loop, back, fresh, sandbox}
use Rattle.sheet_grammar.specs.Nodes.{tree_size, Loops, back_to, nodes_from, tree_nodes}
use Rattle.sheet_grammar.specs.Meaning.{LabelledLoop, MeansLoop, TreePart, TreeRun, TreeAdvance, TreeRuns, TreeTrace}
use Rattle.sheet_grammar.proofs.SliceLaws.{nil, cons}
use Rattle.sheet_grammar.proofs.NodeLaws.{says, Holds, one-held, two-held, whole-held}

-- a run of a tree with the part of a tree in front
abbrev Front : Tree → Past → Names → List LabelledLoop → List TreePart → Tree → Type 0
Front root past names around ys t = TreeRuns root (record { past = past; parts = TreePart.tree t names around ∷ ys })

module _ (ns : List Node) where
  -- the nodes of a tree stand in the table from k on
  data At (loops : Loops) (k : ℕ) (t : Tree) : Type 0 where
    at : {after : ℕ} → Holds ns loops k t after → At loops k t

  -- what the node of a tree says, and where its children stand
  data Stands (loops : Loops) (k : ℕ) : Tree → Form → Type 0 where
    is-end : Stands loops k end Form.end
    is_static : {a r : ℕ} → Stands loops k (static_event a r) (Form.static_event a r)
    is_name : {a n : ℕ} → Stands loops k (named_event a n) (Form.named_event a n)
    is-sequence : {t u : Tree} {a b : ℕ} → At loops a t → At loops b u → Stands loops k (sequence t u) (Form.sequence a b)
    is_choice : {t u : Tree} {a b : ℕ} → At loops a t → At loops b u → Stands loops k (choice t u) (Form.choice a b)
    is_loop : {l : ℕ} {t : Tree} {a : ℕ} → At (give loops l k) a t → Stands loops k (loop l t) (Form.loop a)
    is-back : {l a : ℕ} → back_to (loops l) k ≡ a → Stands loops k (back l) (Form.back a)
    is-fresh : {n : ℕ} {t : Tree} {b : ℕ} → At loops b t → Stands loops k (fresh n t) (Form.fresh n b)
    is-sandbox : {p : ℕ} {t : Tree} {b : ℕ} → At loops b t → Stands loops k (sandbox p t) (Form.sandbox p b)

  record Found (loops : Loops) (k : ℕ) (t : Tree) : Type 0 where
    form : Form
    is : Is ns k form
    stands : Stands loops k t form

  held_found : (loops : Loops) (k : ℕ) (t : Tree) {e : ℕ} → Holds ns loops k t e → Found loops k t
  unfolding nodes_from tree_size form_of
  held_found loops k end (cons h nil) = record { form = Form.end; is = says Form.end h refl; stands = is-end }
  held_found loops k (static_event a r) (cons h nil) =
      record { form = Form.static_event a r; is = says (Form.static_event a r) h refl; stands = is_static }
  held_found loops k (named_event a n) (cons h nil) =
      record { form = Form.named_event a n; is = says (Form.named_event a n) h refl; stands = is_name }
  held_found loops k (sequence t u) p =
      let r = two-held _ loops k t u p in
      let f = Form.sequence (suc k) (suc k + tree_size t) in
      record { form = f; is = says f r.here refl; stands = is-sequence (at r.left) (at r.right) }
  held_found loops k (choice t u) p =
      let r = two-held _ loops k t u p in
      let f = Form.choice (suc k) (suc k + tree_size t) in
      record { form = f; is = says f r.here refl; stands = is_choice (at r.left) (at r.right) }
  held_found loops k (loop l t) p =
      let r = one-held _ (give loops l k) k t p in
      record { form = Form.loop (suc k); is = says (Form.loop (suc k)) r.here refl; stands = is_loop (at r.child) }
  held_found loops k (back l) (cons h nil) =
      let f = Form.back (back_to (loops l) k) in
      record { form = f; is = says f h refl; stands = is-back refl }
  held_found loops k (fresh n t) p =
      let r = one-held _ loops k t p in
      record { form = Form.fresh n (suc k); is = says (Form.fresh n (suc k)) r.here refl; stands = is-fresh (at r.child) }
  held_found loops k (sandbox q t) p =
      let r = one-held _ loops k t p in
      record { form = Form.sandbox q (suc k); is = says (Form.sandbox q (suc k)) r.here refl; stands = is-sandbox (at r.child) }

  found : {loops : Loops} {k : ℕ} {t : Tree} → At loops k t → Found loops k t
  found {loops} {k} {t} (at h) = held_found loops k t h

  -- by the form that the node has
  standing : {loops : Loops} {k : ℕ} {t : Tree} {f : Form} → At loops k t → Is ns k f → Stands loops k t f
  standing {loops} {k} {t} a i = let x = found a in subst (Stands loops k t) (one_form x.is i) x.stands

  -- ── What the labels mean ──

  -- the numbers of the labels are those of the loops around
  data Numbers : Loops → List LabelledLoop → Type 0 where
    no_loop : Numbers no_names []
    one_more : {loops : Loops} {around : List LabelledLoop} {l k : ℕ} {t : Tree} → Numbers loops around → At loops k (loop l t)
        → Numbers (give loops l k) (record { label = l; body = t } ∷ around)

  -- the loop that a label means, in the table and among the loops around
  record Meant (l i : ℕ) (around : List LabelledLoop) : Type 0 where
    body : Tree
    outer : List LabelledLoop
    loops : Loops
    means : MeansLoop l around body outer
    numbers : Numbers loops outer
    stands : At loops i (loop l body)

  by_number : {loops : Loops} {around : List LabelledLoop} (l i : ℕ) → Numbers loops around → loops l ≡ some i → Meant l i around
  unfolding give
  by_number l i no_loop e = none-some e
  by_number l i (one_more {loops} {around} {l = m} {k} {t} n a) e = go (ℕ_discrete l m) (λ h. by_number l i n h)
    where
      go : Dec (l ≡ m) → (loops l ≡ some i → Meant l i around) → Meant l i (record { label = m; body = t } ∷ around)
      go (yes x) f =
          let q : k ≡ i = some-injective k i (rw (eq-eqb l m x) at e) in
          subst (λ (j : ℕ). Meant l i (record { label = j; body = t } ∷ around)) x
          record {
            body = _;
            outer = _;
            loops = _;
            means = MeansLoop.innermost;
            numbers = n;
            stands = subst (λ (j : ℕ). At loops i (loop j t)) (sym x) (subst (λ (j : ℕ). At loops j (loop m t)) q a);
          }
      go (no x) f =
          let r = f (rw (ne_eqb l m x) at e) in
          record { body = _; outer = _; loops = _; means = MeansLoop.further x r.means; numbers = r.numbers; stands = r.stands }

  -- and the other way
  record Meaning (l : ℕ) (loops : Loops) (t : Tree) (outer : List LabelledLoop) : Type 0 where
    number : ℕ
    inner : Loops
    is : loops l ≡ some number
    numbers : Numbers inner outer
    stands : At inner number (loop l t)

  by-label : {loops : Loops} {around outer : List LabelledLoop} {l : ℕ} {t : Tree} → Numbers loops around → MeansLoop l around t outer
      → Meaning l loops t outer
  unfolding give
  by-label {outer = outer} {l = l} {t = t} no_loop x4 = elim x4 [ ]
  by-label {l = l} (one_more {loops} {k = k} n a) MeansLoop.innermost =
      record { number = k; inner = _; is = rw (eq-eqb l l refl); numbers = n; stands = a }
  by-label {l = l} (one_more {l = m} n a) (MeansLoop.further x d) =
      let r = by-label n d in
      record { number = r.number; inner = _; is = rw (ne_eqb l m x) r.is; numbers = r.numbers; stands = r.stands }

  -- ── Parts that stand for each other ──

  data SamePart : Part → TreePart → Type 0 where
    same-node : {loops : Loops} {around : List LabelledLoop} {k : ℕ} {t : Tree} {names : Names} → Numbers loops around → At loops k t
        → SamePart (node k names) (TreePart.tree t names around)
    same-close : {p : ℕ} → SamePart (close p) (TreePart.close p)

  data SameParts : List Part → List TreePart → Type 0 where
    no_part : SameParts [] []
    part : {x : Part} {y : TreePart} {xs : List Part} {ys : List TreePart} → SamePart x y → SameParts xs ys → SameParts (x ∷ xs) (y ∷ ys)

  data Same : Run → TreeRun → Type 0 where
    same : {past : Past} {xs : List Part} {ys : List TreePart} → SameParts xs ys
        → Same (record { past = past; parts = xs }) (record { past = past; parts = ys })

  -- ── A move of the table's run ──

  data Follows (root : Tree) (r : Run) : Type 0 where
    follow : {q : TreeRun} → TreeRuns root q → Same r q → Follows root r

  -- from a run with the part of a tree in front, by what its node says
  module _ {root : Tree} {past : Past} {names : Names} {loops : Loops} {around : List LabelledLoop} {k : ℕ} {xs : List Part}
      {ys : List TreePart} (n : Numbers loops around) (s : SameParts xs ys) where
    then-ends : {t : Tree} → Stands loops k t Form.end → Front root past names around ys t
        → Follows root (record { past = past; parts = xs })
    then-ends is-end x = follow (TreeRuns.moved x TreeAdvance.ends) (same s)

    then-static : {t : Tree} {a r : ℕ} → Stands loops k t (Form.static_event a r) → Front root past names around ys t
        → Follows root (record { past = event a r ∷ past; parts = xs })
    then-static is_static x = follow (TreeRuns.moved x TreeAdvance.fires_static) (same s)

    then-name : {t : Tree} {a m r : ℕ} → Stands loops k t (Form.named_event a m) → Front root past names around ys t → names m ≡ some r
        → Follows root (record { past = event a r ∷ past; parts = xs })
    then-name is_name x e = follow (TreeRuns.moved x (TreeAdvance.fires_name e)) (same s)

    then-both : {t : Tree} {a b : ℕ} → Stands loops k t (Form.sequence a b) → Front root past names around ys t
        → Follows root (record { past = past; parts = node a names ∷ node b names ∷ xs })
    then-both (is-sequence h g) x =
        follow (TreeRuns.moved x TreeAdvance.sequences) (same (part (same-node n h) (part (same-node n g) s)))

    then-left : {t : Tree} {a b : ℕ} → Stands loops k t (Form.choice a b) → Front root past names around ys t
        → Follows root (record { past = past; parts = node a names ∷ xs })
    then-left (is_choice h g) x = follow (TreeRuns.moved x TreeAdvance.chooses_left) (same (part (same-node n h) s))

    then_right : {t : Tree} {a b : ℕ} → Stands loops k t (Form.choice a b) → Front root past names around ys t
        → Follows root (record { past = past; parts = node b names ∷ xs })
    then_right (is_choice h g) x = follow (TreeRuns.moved x TreeAdvance.chooses_right) (same (part (same-node n g) s))

    then-body : {t : Tree} {a : ℕ} → At loops k t → Stands loops k t (Form.loop a) → Front root past names around ys t
        → Follows root (record { past = past; parts = node a names ∷ xs })
    then-body a (is_loop h) x = follow (TreeRuns.moved x TreeAdvance.enters) (same (part (same-node (one_more n a) h) s))

    -- a back whose label means nothing runs itself again, and adds no step
    then-again : {t : Tree} {a : ℕ} → At loops k t → Stands loops k t (Form.back a) → Front root past names around ys t
        → Follows root (record { past = past; parts = node a names ∷ xs })
    then-again a (is-back {l} e) x = go (loops l) refl e
      where
        go : {a : ℕ} (o : Option ℕ) → loops l ≡ o → back_to o k ≡ a → Follows root (record { past = past; parts = node a names ∷ xs })
        go none m e =
            subst (λ (j : ℕ). Follows root (record { past = past; parts = node j names ∷ xs })) e
            (follow x (same (part (same-node n a) s)))
        go (some i) m e =
            let y = by_number l i n m in
            subst (λ (j : ℕ). Follows root (record { past = past; parts = node j names ∷ xs })) e
            (follow (TreeRuns.moved x (TreeAdvance.repeats y.means)) (same (part (same-node y.numbers y.stands) s)))

    then-given : {t : Tree} {m b r : ℕ} → Stands loops k t (Form.fresh m b) → Front root past names around ys t → statics ≤ r
        → (Occurs r past → ⊥)
        → Follows root (record { past = event create r ∷ past; parts = node b (give names m r) ∷ xs })
    then-given (is-fresh h) x l o = follow (TreeRuns.moved x (TreeAdvance.creates l o)) (same (part (same-node n h) s))

    then-opened : {t : Tree} {p b : ℕ} → Stands loops k t (Form.sandbox p b) → Front root past names around ys t
        → Follows root (record { past = opening p ∷ past; parts = node b names ∷ close p ∷ xs })
    then-opened (is-sandbox h) x =
        follow (TreeRuns.moved x TreeAdvance.opens) (same (part (same-node n h) (part same-close s)))

  follows : {root : Tree} {r r' : Run} {q : TreeRun} → TreeRuns root q → Same r q → Advance ns r r' → Follows root r'
  follows x (same (part (same-node n a) s)) (Advance.ends i) = then-ends n s (standing a i) x
  follows x (same (part (same-node n a) s)) (Advance.fires_static i) = then-static n s (standing a i) x
  follows x (same (part (same-node n a) s)) (Advance.fires_name i e) = then-name n s (standing a i) x e
  follows x (same (part (same-node n a) s)) (Advance.sequences i) = then-both n s (standing a i) x
  follows x (same (part (same-node n a) s)) (Advance.chooses_left i) = then-left n s (standing a i) x
  follows x (same (part (same-node n a) s)) (Advance.chooses_right i) = then_right n s (standing a i) x
  follows x (same (part (same-node n a) s)) (Advance.enters i) = then-body n s a (standing a i) x
  follows x (same (part (same-node n a) s)) (Advance.repeats i) = then-again n s a (standing a i) x
  follows x (same (part (same-node n a) s)) (Advance.creates i l o) = then-given n s (standing a i) x l o
  follows x (same (part (same-node n a) s)) (Advance.opens i) = then-opened n s (standing a i) x
  follows {root = root} x (same {past = past} no_part) x15 = elim x15 [ ]
  follows x (same (part same-close s)) Advance.closes = follow (TreeRuns.moved x TreeAdvance.closes) (same s)

  -- ── A move of the tree's run ──

  data Shows (q : TreeRun) : Type 0 where
    show : {r : Run} → Runs ns r → Same r q → Shows q

  -- from a run with the node of the tree in front
  module _ {past : Past} {names : Names} {loops : Loops} {around : List LabelledLoop} {k : ℕ} {xs : List Part} {ys : List TreePart}
      (x : Runs ns (record { past = past; parts = node k names ∷ xs })) (n : Numbers loops around) (s : SameParts xs ys) where
    shown-end : {f : Form} → Stands loops k end f → Is ns k f → Shows (record { past = past; parts = ys })
    shown-end is-end i = show (moved x (Advance.ends i)) (same s)

    shown-static : {f : Form} {a r : ℕ} → Stands loops k (static_event a r) f → Is ns k f
        → Shows (record { past = event a r ∷ past; parts = ys })
    shown-static is_static i = show (moved x (Advance.fires_static i)) (same s)

    shown-name : {f : Form} {a m r : ℕ} → Stands loops k (named_event a m) f → Is ns k f → names m ≡ some r
        → Shows (record { past = event a r ∷ past; parts = ys })
    shown-name is_name i e = show (moved x (Advance.fires_name i e)) (same s)

    shown-both : {f : Form} {t u : Tree} → Stands loops k (sequence t u) f → Is ns k f
        → Shows (record { past = past; parts = TreePart.tree t names around ∷ TreePart.tree u names around ∷ ys })
    shown-both (is-sequence h g) i =
        show (moved x (Advance.sequences i)) (same (part (same-node n h) (part (same-node n g) s)))

    shown-left : {f : Form} {t u : Tree} → Stands loops k (choice t u) f → Is ns k f
        → Shows (record { past = past; parts = TreePart.tree t names around ∷ ys })
    shown-left (is_choice h g) i = show (moved x (Advance.chooses_left i)) (same (part (same-node n h) s))

    shown-right : {f : Form} {t u : Tree} → Stands loops k (choice t u) f → Is ns k f
        → Shows (record { past = past; parts = TreePart.tree u names around ∷ ys })
    shown-right (is_choice h g) i = show (moved x (Advance.chooses_right i)) (same (part (same-node n g) s))

    shown-body : {f : Form} {l : ℕ} {t : Tree} → At loops k (loop l t) → Stands loops k (loop l t) f → Is ns k f
        → Shows (record { past = past; parts = TreePart.tree t names (record { label = l; body = t } ∷ around) ∷ ys })
    shown-body a (is_loop h) i = show (moved x (Advance.enters i)) (same (part (same-node (one_more n a) h) s))

    shown-again : {f : Form} {l : ℕ} {t : Tree} {outer : List LabelledLoop} → Stands loops k (back l) f → Is ns k f
        → MeansLoop l around t outer
        → Shows (record { past = past; parts = TreePart.tree (loop l t) names outer ∷ ys })
    shown-again {l = l} {t = t} (is-back e) i m =
        let y = by-label n m in
        let j : y.number ≡ _ = sym (ap (λ (o : Option ℕ). back_to o k) y.is) ∙ e in
        show (moved x (Advance.repeats i)) (same (part (same-node y.numbers (subst (λ (c : ℕ). At y.inner c (loop l t)) j
        y.stands)) s))

    shown-given : {f : Form} {m r : ℕ} {t : Tree} → Stands loops k (fresh m t) f → Is ns k f → statics ≤ r → (Occurs r past → ⊥)
        → Shows (record { past = event create r ∷ past; parts = TreePart.tree t (give names m r) around ∷ ys })
    shown-given (is-fresh h) i l o = show (moved x (Advance.creates i l o)) (same (part (same-node n h) s))

    shown-opened : {f : Form} {p : ℕ} {t : Tree} → Stands loops k (sandbox p t) f → Is ns k f
        → Shows (record { past = opening p ∷ past; parts = TreePart.tree t names around ∷ TreePart.close p ∷ ys })
    shown-opened (is-sandbox h) i = show (moved x (Advance.opens i)) (same (part (same-node n h) (part same-close s)))

  shows : {r : Run} {q q' : TreeRun} → Runs ns r → Same r q → TreeAdvance q q' → Shows q'
  shows x (same (part (same-node n a) s)) TreeAdvance.ends = let z = found a in shown-end x n s z.stands z.is
  shows x (same (part (same-node n a) s)) TreeAdvance.fires_static = let z = found a in shown-static x n s z.stands z.is
  shows x (same (part (same-node n a) s)) (TreeAdvance.fires_name e) = let z = found a in shown-name x n s z.stands z.is e
  shows x (same (part (same-node n a) s)) TreeAdvance.sequences = let z = found a in shown-both x n s z.stands z.is
  shows x (same (part (same-node n a) s)) TreeAdvance.chooses_left = let z = found a in shown-left x n s z.stands z.is
  shows x (same (part (same-node n a) s)) TreeAdvance.chooses_right = let z = found a in shown-right x n s z.stands z.is
  shows x (same (part (same-node n a) s)) TreeAdvance.enters = let z = found a in shown-body x n s a z.stands z.is
  shows x (same (part (same-node n a) s)) (TreeAdvance.repeats m) = let z = found a in shown-again x n s z.stands z.is m
  shows x (same (part (same-node n a) s)) (TreeAdvance.creates l o) = let z = found a in shown-given x n s z.stands z.is l o
  shows x (same (part (same-node n a) s)) TreeAdvance.opens = let z = found a in shown-opened x n s z.stands z.is
  shows x (same {past = past} no_part) x15 = elim x15 [ ]
  shows x (same (part same-close s)) TreeAdvance.closes = show (moved x Advance.closes) (same s)

-- ── The traces ──

begins : (t : Tree) → SameParts (tree_nodes t) (node 0 no_names ∷ []) (TreePart.tree t no_names [] ∷ [])
begins t = part (same-node no_loop (at (whole-held t))) no_part

table_runs : (t : Tree) {r : Run} → Runs (tree_nodes t) r → Follows (tree_nodes t) t r
table_runs t started = follow TreeRuns.started (same (begins t))
table_runs t (moved x a) = next (table_runs t x) a
  where
    next : {r r' : Run} → Follows (tree_nodes t) t r → Advance (tree_nodes t) r r' → Follows (tree_nodes t) t r'
    next (follow y s) b = follows (tree_nodes t) y s b

tree-runs : (t : Tree) {q : TreeRun} → TreeRuns t q → Shows (tree_nodes t) q
tree-runs t TreeRuns.started = show started (same (begins t))
tree-runs t (TreeRuns.moved x a) = next (tree-runs t x) a
  where
    next : {q q' : TreeRun} → Shows (tree_nodes t) q → TreeAdvance q q' → Shows (tree_nodes t) q'
    next (show y s) b = shows (tree_nodes t) y s b

-- the traces of the node table are those of the tree
pub same-traces : (t : Tree) (past : Past) → IsTrace (tree_nodes t) past ↔ TreeTrace t past
same-traces t past = (λ (ps, x). over (table_runs t x), λ (ps, x). back-over (tree-runs t x))
  where
    over : {ps : List Part} → Follows (tree_nodes t) t (record { past = past; parts = ps }) → TreeTrace t past
    over (follow x (same s)) = (_, x)

    back-over : {ps : List TreePart} → Shows (tree_nodes t) (record { past = past; parts = ps }) → IsTrace (tree_nodes t) past
    back-over (show x (same s)) = (_, x)
