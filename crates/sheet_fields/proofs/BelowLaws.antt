-- Lists of numbers below a bound, and what the values of a line in range are below: no field goes beyond the resources, and those of an edge
-- and of a node fit a byte.
use Prim.Native.Nat.{ℕ, zero, suc, ◌-◌, ◌<◌, ◌≤◌}
use mathlib.Core.Path.{◌≡◌, refl}
use mathlib.Core.Bool.{Bool, true, false, ◌&&◌}
use mathlib.Core.List.{List, [], ◌∷◌, ◌++◌}
use native.Mathlib.Omega.{arith}
use lib.Dec.{eqb, ltb, leb}
use lib.ListN.{length, get_or, get_elem?, drop, replicate}
use borrow.Author.Tests.{eqb-true, eqb-false, ltb-true, leb-true}
use Rattle.usage.specs.declared.Edge.{Edge}
use Rattle.usage.specs.Limits.{statics, resources, most_nodes, edge_fields, step_fields, Kind, fit}
use Rattle.usage.specs.Policy.{EdgeOk}
use Rattle.usage.specs.Judge.{step_kinds}
use Rattle.usage.specs.Outline.{node_kinds}
use Rattle.usage.specs.Valid.{NodeOk}
use Rattle.usage.specs.Tests.{every, node_ok}
use Rattle.usage.specs.Tables.{edge_at}
use Rattle.usage.proofs.Logic.{and_left, and_right}
use Rattle.usage.proofs.ValidLaws.{decides-edge, decides-node, decides-fit}
use Rattle.sheet_fields.specs.Fields.{edge_line_lem, step_line_lem, step_ok, node_line_lem, node_of, node_line_fields}

pub data Below (m : ℕ) : List ℕ → Type 0 where
  none_left : Below m []
  one_below : {v : ℕ} {vs : List ℕ} → v < m → Below m vs → Below m (v ∷ vs)

-- past the end of a list stands 0
pub below_at : {m : ℕ} {vs : List ℕ} → Below m vs → 0 < m → (i : ℕ) → get_or vs i 0 < m
below_at none_left z i = z
below_at (one_below l b) z zero = l
below_at (one_below l b) z (suc i) = below_at b z i

pub below-append : {m : ℕ} {us vs : List ℕ} → Below m us → Below m vs → Below m (us ++ vs)
below-append none_left b = b
below-append (one_below l a) b = one_below l (below-append a b)

pub below-drop : {m : ℕ} {vs : List ℕ} (k : ℕ) → Below m vs → Below m (drop k vs)
below-drop zero b = b
below-drop (suc k) none_left = none_left
below-drop (suc k) (one_below l b) = below-drop k b

pub zeros-below : (m n : ℕ) → 0 < m → Below m (replicate n 0)
zeros-below m zero z = none_left
zeros-below m (suc n) z = one_below z (zeros-below m n z)

pub more-below : {m : ℕ} {vs : List ℕ} (n : ℕ) → m ≤ n → Below m vs → Below n vs
more-below n h none_left = none_left
more-below n h (one_below {v} l b) = one_below {v = v} (omega arith) (more-below n h b)

pub at-below : (m : ℕ) (vs : List ℕ) → ((i : ℕ) → i < length vs → get_or vs i 0 < m) → Below m vs
at-below m [] h = none_left
at-below m (v ∷ vs) h = one_below (h 0 (omega arith)) (at-below m vs (λ i l. h (suc i) (omega arith)))

-- ── An edge's line ──

pub who-below : (e : Edge) → EdgeOk e → e.who < statics
who-below e ok = go (eqb e.on 0) refl
  where
    go : (x : Bool) → eqb e.on 0 ≡ x → e.who < statics
    go true q = ok.who_static (eqb-true e.on 0 q)
    go false q = let z = ok.who_unused (eqb-false e.on 0 q) in omega arith

pub edge-below : (vs : List ℕ) → length vs ≡ edge_fields → edge_line_lem vs ≡ true → Below 256 vs
edge-below vs k e = let ok = (decides-edge (edge_at vs 0)).0 e in at-below 256 vs (λ i l. go ok (who-below (edge_at vs 0) ok) i (omega arith))
  where
    go : EdgeOk (edge_at vs 0) → (edge_at vs 0).who < statics → (i : ℕ) → i < edge_fields → get_or vs i 0 < 256
    go f w zero h = let x = f.policy in omega arith
    go f w (suc zero) h = let x = f.from in omega arith
    go f w (suc (suc zero)) h = let x = f.action in omega arith
    go f w (suc (suc (suc zero))) h = let x = f.on in omega arith
    go f w (suc (suc (suc (suc zero)))) h = omega arith
    go f w (suc (suc (suc (suc (suc zero))))) h = let x = f.to in omega arith
    go f w (suc (suc (suc (suc (suc (suc i)))))) h = absurd (omega arith)

-- ── A node's line ──

-- no field of any kind goes beyond m, by one test of the kinds
pub kinds-most : {A : Type 0} (m : ℕ) (ks : List (Kind A)) → every (λ k. leb k.a.most m && leb k.b.most m) ks ≡ true
    → (k a b : ℕ) → fit (get_elem? ks k) a b → (k < length ks) × ((a ≤ m) × (b ≤ m))
unfolding every
kinds-most m [] e k a b h = absurd h
kinds-most m (x ∷ ks) e zero a b h =
    let t = and_left (leb x.a.most m && leb x.b.most m) (every (λ k. leb k.a.most m && leb k.b.most m) ks) e in
    let p = leb-true x.a.most m (and_left (leb x.a.most m) (leb x.b.most m) t) in
    let q = leb-true x.b.most m (and_right (leb x.a.most m) (leb x.b.most m) t) in
    let u = h.0.most in
    let v = h.1.most in
    (omega arith, (omega arith, omega arith))
kinds-most m (x ∷ ks) e (suc k) a b h =
    let r = kinds-most m ks (and_right (leb x.a.most m && leb x.b.most m)
    (every (λ k. leb k.a.most m && leb k.b.most m) ks) e) k a b h in
    let l = r.0 in
    (omega arith, r.1)

node-most : (a b k : ℕ) → NodeOk (record { kind = k; a = a; b = b }) → (k < length node_kinds) × ((a ≤ 255) × (b ≤ 255))
unfolding every NodeOk
node-most a b k h = kinds-most 255 node_kinds refl k a b h

pub node-below : (vs : List ℕ) → length vs ≡ node_line_fields → node_line_lem vs ≡ true → Below 256 vs
node-below vs k e = at-below 256 vs (λ i l. go i (omega arith))
  where
    place : get_or vs 0 0 < most_nodes
    place = ltb-true (get_or vs 0 0) most_nodes (and_left (ltb (get_or vs 0 0) most_nodes) (node_ok (node_of vs)) e)

    fields : (get_or vs 1 0 < length node_kinds) × ((get_or vs 2 0 ≤ 255) × (get_or vs 3 0 ≤ 255))
    fields =
        node-most (get_or vs 2 0) (get_or vs 3 0) (get_or vs 1 0)
        ((decides-node (node_of vs)).0 (and_right (ltb (get_or vs 0 0) most_nodes) (node_ok (node_of vs)) e))

    go : (i : ℕ) → i < node_line_fields → get_or vs i 0 < 256
    go zero h = omega (arith, place)
    go (suc zero) h = omega (arith, fields.0)
    go (suc (suc zero)) h = omega (arith, fields.1.0)
    go (suc (suc (suc zero))) h = omega (arith, fields.1.1)
    go (suc (suc (suc (suc i)))) h = absurd (omega arith)

-- ── A step's line ──

pub step-below : (vs : List ℕ) → length vs ≡ step_fields → step_line_lem vs ≡ true → Below resources vs
unfolding step_ok every
step-below vs k e = at-below resources vs (λ i l. go i (omega arith))
  where
    fields : (get_or vs 0 0 < length step_kinds) × ((get_or vs 1 0 ≤ resources - 1) × (get_or vs 2 0 ≤ resources - 1))
    fields =
        kinds-most (resources - 1) step_kinds refl (get_or vs 0 0) (get_or vs 1 0) (get_or vs 2 0)
        ((decides-fit (get_elem? step_kinds (get_or vs 0 0)) (get_or vs 1 0) (get_or vs 2 0)).0 e)

    go : (i : ℕ) → i < step_fields → get_or vs i 0 < resources
    go zero h = omega (arith, fields.0)
    go (suc zero) h = omega (arith, fields.1.0)
    go (suc (suc zero)) h = omega (arith, fields.1.1)
    go (suc (suc (suc i))) h = absurd (omega arith)
