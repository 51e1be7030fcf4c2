-- The promise of the check, from its parts.
use Prim.Native.Nat.{ℕ}
use mathlib.Core.Path.{◌≡◌, refl, subst}
use mathlib.Core.Bool.{Bool, true, false}
use mathlib.Core.Logic.{◌↔◌}
use mathlib.Core.List.{List}
use Rattle.usage.specs.declared.Edge.{Edge}
use Rattle.usage.specs.declared.Node.{Node}
use Rattle.usage.specs.Answers.{Verdict, allowed, refused}
use Rattle.usage.specs.Check.{Leaves, Checked, accepts, names}
use Rattle.usage.specs.Tables.{edges_of, nodes_of, EdgeTable, NodeTable, is_edge_table, is_node_table}
use Rattle.usage.proofs.Logic.{clash}
use Rattle.usage.proofs.CheckLaws.{checked-unique}
use Rattle.usage.proofs.Decides.{refutes}
use Rattle.usage.proofs.TableLaws.{decides-edge-table, decides-node-table}
use Rattle.checker.specs.Accepted.{NeverHalted}
use Rattle.checker.specs.Promise.{RightVerdict, no_edges, no_nodes, checked, CheckPromise}
use Rattle.checker.proofs.AcceptedLaws.{never_halted}

-- ── The tests of the two tables ──

module _ (local : Bool) (t n : List ℕ) where
  pub edges-refused : is_edge_table t ≡ false → RightVerdict local t n (refused 41)
  edges-refused e = no_edges (refutes (decides-edge-table t) e)

  pub nodes-refused : is_node_table n ≡ false → RightVerdict local t n (refused 41)
  nodes-refused e = no_nodes (refutes (decides-node-table n) e)

  -- both tables are those of accepted sheets
  pub answered : {v : Verdict} → is_edge_table t ≡ true → is_node_table n ≡ true → Checked local (edges_of t) (nodes_of n) v
      → RightVerdict local t n v
  answered e f c = checked ((decides-edge-table t).0 e) ((decides-node-table n).0 f) c

-- ── What is right is promised ──

-- at most one verdict is right
pub right_unique : {local : Bool} {t n : List ℕ} {v w : Verdict} → RightVerdict local t n v → RightVerdict local t n w → v ≡ w
right_unique (no_edges f) (no_edges g) = refl
right_unique (no_edges f) (no_nodes g) = refl
right_unique (no_edges f) (checked edges nodes d) = absurd (f edges)
right_unique (no_nodes f) (no_edges g) = refl
right_unique (no_nodes f) (no_nodes g) = refl
right_unique (no_nodes f) (checked edges nodes d) = absurd (f nodes)
right_unique (checked edges nodes c) (no_edges g) = absurd (g edges)
right_unique (checked edges nodes c) (no_nodes g) = absurd (g nodes)
right_unique (checked edges nodes c) (checked edges' nodes' d) = checked-unique c d

none_left : {local : Bool} {es : List Edge} {ns : List Node} {v : Verdict} → Checked local es ns v → v ≡ allowed → (p : ℕ)
    → Leaves local es ns p → ⊥
none_left (accepts f) e p l = f p l
none_left (names l low) e p k = clash (cc)

-- what it accepts, the judge never halts
right-guarded : {local : Bool} {t n : List ℕ} {v : Verdict} → RightVerdict local t n v → v ≡ allowed → NeverHalted t local (nodes_of n)
right-guarded (no_edges f) e = clash (cc)
right-guarded (no_nodes f) e = clash (cc)
right-guarded {local} {t} {n} (checked edges nodes c) e =
    never_halted t ((decides-edge-table t).1 edges) local (nodes_of n) nodes.outline (none_left c e)

pub right-promised : (local : Bool) (t n : List ℕ) (v : Verdict) → RightVerdict local t n v → CheckPromise local t n v
right-promised local t n v h = record {
  exact = λ w. (λ k. right_unique h k, λ e. subst (RightVerdict local t n) e h);
  guarded = right-guarded h;
}

-- the verdict that is told is right
pub promised-right : {local : Bool} {t n : List ℕ} {v : Verdict} → CheckPromise local t n v → RightVerdict local t n v
promised-right {v = v} h = (h.exact v).1 refl

-- ── The promise, by the two tables ──

pub right-checked : {local : Bool} {t n : List ℕ} {v : Verdict} → EdgeTable t → NodeTable n → RightVerdict local t n v
    → Checked local (edges_of t) (nodes_of n) v
right-checked edges nodes (no_edges f) = absurd (f edges)
right-checked edges nodes (no_nodes f) = absurd (f nodes)
right-checked edges nodes (checked edges' nodes' c) = c

-- of tables that accepted sheets give, the verdict is that of the outline
pub promise-checked : {local : Bool} {t n : List ℕ} {v : Verdict} → CheckPromise local t n v → EdgeTable t → NodeTable n
    → (w : Verdict) → Checked local (edges_of t) (nodes_of n) w ↔ (v ≡ w)
promise-checked h edges nodes w = (λ c. (h.exact w).0 (checked edges nodes c), λ e. right-checked edges nodes ((h.exact w).1 e))

-- and of others 41
pub promise-no-edges : {local : Bool} {t n : List ℕ} {v : Verdict} → CheckPromise local t n v → (EdgeTable t → ⊥) → v ≡ refused 41
promise-no-edges h f = (h.exact (refused 41)).0 (no_edges f)

pub promise-no-nodes : {local : Bool} {t n : List ℕ} {v : Verdict} → CheckPromise local t n v → (NodeTable n → ⊥) → v ≡ refused 41
promise-no-nodes h f = (h.exact (refused 41)).0 (no_nodes f)
