-- The answer for one policy, from the flat tables of edges and nodes.
use Prim.Native.Nat.{ℕ, ◌+◌, ◌*◌, ◌/◌, ◌<◌, ◌≤◌}
use mathlib.Core.Path.{◌≡◌, refl, sym, ap, ◌∙◌, subst}
use mathlib.Core.Bool.{Bool, true, false, ◌&&◌}
use mathlib.Core.List.{List}
use mathlib.Core.Logic.{◌⊎◌, inl, inr}
use native.Mathlib.Omega.{arith}
use lib.Dec.{eqb, leb}
use borrow.Author.Tests.{eqb-true, eq-eqb, leb-true, leb-false}
use lib.ListN.{length, get_or, replicate}
use Rattle.usage.specs.Limits.{policies, most_nodes, node_fields}
use Rattle.usage.specs.declared.Edge.{Edge}
use Rattle.usage.specs.Policy.{PairPolicy, EdgesOk}
use Rattle.usage.specs.Valid.{Scope, OutlineOk}
use Rattle.usage.specs.Tables.{edge_at, edges_of, nodes_of}
use Rattle.usage.specs.Check.{Leaves, Checked, accepts, names}
use Rattle.usage.specs.Tests.{Decides, some_below}
use Rattle.usage.proofs.Logic.{false-true, and_left, and_right, and_both}
use Rattle.automaton.specs.Move.{rows_at}
use Rattle.automaton.proofs.MaskLaws.{some_at, some-found}
use Rattle.usage.proofs.TableLaws.{nodes-length, edges-member}
use Rattle.checker_account.specs.Views.{views}
use Rattle.checker_account.specs.Tables.{places, rows_in}
use Rattle.checker_account.specs.declared.Resources.{Resources}
use Rattle.checker_account.specs.Filling.{forms_in, Asked, SearchedAll}
use Rattle.checker_account.specs.Holds.{RowsOk}
use Rattle.checker_account.specs.RowTable.{image_in, fill_rows}
use Rattle.std.specs.Prelude.{Some, None}
use Rattle.checker.specs.Code.{opens, has_edge_lem, policy_verdict, pair_in}
use Rattle.checker_account.proofs.Exact.{exact}
use Rattle.checker_account.proofs.RowLaws.{rows_ok}
use Rattle.checker_account.proofs.RowTableLaws.{rows-from}
use Rattle.checker_account.proofs.NodeLaws.{names-ok, targets-ok, forms-of}
use Rattle.checker.proofs.SkipLaws.{no-hits, not_opened, bare-leaves, never-broken}
use Rattle.checker_account.proofs.SearchLaws.{broken-exact}
use Rattle.checker_account.proofs.EventLaws.{event-image}
use Rattle.checker_account.proofs.ScopedLaws.{scoped}

module _ (local : Bool) (e t : List ℕ) (edges : EdgesOk (edges_of e)) (ok : OutlineOk (nodes_of t)) where
  pub few_nodes : length t / node_fields ≤ most_nodes
  few_nodes = let l = ok.few in let n = nodes-length t in omega arith

  refuted : (p : ℕ) → (Leaves local (edges_of e) (nodes_of t) p → ⊥) → Decides false (Leaves local (edges_of e) (nodes_of t) p)
  refuted p h = ((λ b. false-true b), (λ l. absurd (h l)))

  shut : (p : ℕ) → opens t p ≡ false → Decides false (Leaves local (edges_of e) (nodes_of t) p)
  shut p h = refuted p (λ l.
      let x = (exact local (edges_of e) (nodes_of t) (Scope (nodes_of t)) p edges (scoped (nodes_of t) ok)).0 l in
      no-hits local (edges_of e) (nodes_of t) p (views x.0) (not_opened t p h) x.4)

  bare : (p : ℕ) → has_edge_lem e p ≡ false → Decides false (Leaves local (edges_of e) (nodes_of t) p)
  bare p h = refuted p (bare-leaves local e (nodes_of t) p h)

  -- a policy that no sandbox opens, or that has no edge
  pub unmoved : (p : ℕ) → (opens t p ≡ false) ⊎ (has_edge_lem e p ≡ false) → Decides false (Leaves local (edges_of e) (nodes_of t) p)
  unmoved p (inl h) = shut p h
  unmoved p (inr h) = bare p h

  -- a pair policy has an edge on the second resource
  pub pair-decides : (p : ℕ) → Decides (pair_in e p) (PairPolicy (edges_of e) p)
  unfolding pair_in
  pair-decides p = (to, back)
    where
      to : some_below (λ i. eqb (get_or e (6 * i) 0) p && eqb (get_or e (6 * i + 3) 0) 3) (length e / 6) ≡ true → PairPolicy (edges_of e) p
      to h =
          let (i, l, f) = some-found (length e / 6) (λ i. eqb (get_or e (6 * i) 0) p && eqb (get_or e (6 * i + 3) 0) 3) h in
          record {
            edge = edge_at e i;
            listed = (edges-member e (edge_at e i)).1 (i, l, refl);
            policy = eqb-true (get_or e (6 * i) 0) p (and_left (eqb (get_or e (6 * i) 0) p) (eqb (get_or e (6 * i + 3) 0) 3) f);
            second = eqb-true (get_or e (6 * i + 3) 0) 3 (and_right (eqb (get_or e (6 * i) 0) p) (eqb (get_or e (6 * i + 3) 0) 3) f);
          }

      back : PairPolicy (edges_of e) p → some_below (λ i. eqb (get_or e (6 * i) 0) p && eqb (get_or e (6 * i + 3) 0) 3) (length e / 6) ≡ true
      back h =
          let (i, l, f) = (edges-member e h.edge).0 h.listed in
          some_at (length e / 6) (λ i. eqb (get_or e (6 * i) 0) p && eqb (get_or e (6 * i + 3) 0) 3) i l
          (and_both (eqb (get_or e (6 * i) 0) p) (eqb (get_or e (6 * i + 3) 0) 3)
          (eq-eqb (get_or e (6 * i) 0) p (ap (λ (g : Edge). g.policy) (sym f) ∙ h.policy))
          (eq-eqb (get_or e (6 * i + 3) 0) 3 (ap (λ (g : Edge). g.on) (sym f) ∙ h.second)))

  -- the table of rows of a policy
  abbrev pub rows_by : Bool → ℕ → List ℕ
  rows_by pair p = fill_rows (rows_at (edges_of e)) pair p (length t / 3) (forms_in t) (replicate places 0)

  abbrev pub rows_for : ℕ → List ℕ
  rows_for p = rows_by (pair_in e p) p

  pub rows_right : (p : ℕ) → p < policies → (x : Resources) → Asked (pair_in e p) x
      → RowsOk (edges_of e) (nodes_of t) p x (rows_in (rows_for p))
  rows_right p small x asked =
      let es = edges_of e in
      let ns = nodes_of t in
      let made = rows-from (rows_at es) (pair_in e p) p (forms_in t) (replicate places 0) refl ns (length t / 3) few_nodes (forms-of t) in
      rows_ok es ns p x asked (rows_in (rows_for p)) (image_in (rows_at es) p) edges (names-ok ns ok) (event-image es edges p small) made

  pub looked : (p : ℕ) → p < policies → (r : List ℕ) → r ≡ rows_for p → (answer : Bool)
      → SearchedAll local (rows_in r) p (pair_in e p) (length t / 3) (forms_in t) answer → Decides answer (Leaves local (edges_of e) (nodes_of t) p)
  looked p small r er answer h =
      let es = edges_of e in
      let ns = nodes_of t in
      let rows = subst (λ (u : List ℕ). SearchedAll local (rows_in u) p (pair_in e p) (length t / 3) (forms_in t) answer) er h in
      broken-exact local es ns p (rows_in (rows_for p)) (pair-decides p) edges (rows_right p small) (names-ok ns ok) (targets-ok ns ok)
      (length t / 3) (forms_in t) few_nodes (forms-of t) (Scope ns) (scoped ns ok) answer rows

  -- the same by what the code was told of the policy
  pub looked-by : (p : ℕ) → p < policies → (pair : Bool) → pair ≡ pair_in e p → (r : List ℕ) → r ≡ rows_by pair p → (answer : Bool)
      → SearchedAll local (rows_in r) p pair (length t / 3) (forms_in t) answer → Decides answer (Leaves local (edges_of e) (nodes_of t) p)
  looked-by p small pair same r er answer h =
      looked p small r (er ∙ ap (λ (b : Bool). rows_by b p) same) answer
      (subst (λ (b : Bool). SearchedAll local (rows_in r) p b (length t / 3) (forms_in t) answer) same h)

  -- ── All policies ──

  -- a number that is no policy has no edge
  pub none-higher : (p : ℕ) → policies ≤ p → Leaves local (edges_of e) (nodes_of t) p → ⊥
  none-higher p h l = never-broken local (edges_of e) p (λ g m d. let s = (edges.each g m).policy in omega arith) l.2.1

  pub named-lowest : (p : ℕ) → Leaves local (edges_of e) (nodes_of t) p
      → ((s : ℕ) → s < p → Leaves local (edges_of e) (nodes_of t) s → ⊥) → Checked local (edges_of e) (nodes_of t) (policy_verdict (Some p))
  named-lowest p l lower = names l lower

  pub all-good : ((s : ℕ) → s < policies → Leaves local (edges_of e) (nodes_of t) s → ⊥)
      → Checked local (edges_of e) (nodes_of t) (policy_verdict None)
  all-good h = accepts (λ s l. go s l (leb policies s) refl)
    where
      go : (s : ℕ) → Leaves local (edges_of e) (nodes_of t) s → (b : Bool) → leb policies s ≡ b → ⊥
      go s l true f = none-higher s (leb-true policies s f) l
      go s l false f = h s (leb-false policies s f) l
