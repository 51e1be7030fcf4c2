-- The nodes of a flat table, and the values of its nodes.
use Prim.Native.Nat.{ℕ, zero, suc, ◌+◌, ◌*◌, ◌/◌, ◌≤◌}
use mathlib.Core.Path.{◌≡◌, refl, ap, ◌∙◌}
use mathlib.Core.List.{List, ◌∷◌, flatten}
use native.Mathlib.Omega.{arith}
use native.Mathlib.Numerals.{add-one, add-two}
use native.Mathlib.Nat.{zero-add}
use lib.ListN.{length, get_or, take}
use lib.Seq.{get_or-take, length-take-le}
use Rattle.usage.specs.Limits.{node_fields}
use Rattle.usage.specs.Tables.{from, node_at_lem, nodes_of}
use Rattle.usage.proofs.TableLaws.{from-ext}
use Rattle.sheet_expression.specs.Expression.{table_rows}

-- the values of n nodes, one after the other, are those of the table
pub rows-from : (t : List ℕ) (k n : ℕ)
    → flatten (table_rows (from (node_at_lem t) k n)) ≡ from (λ i. get_or t i 0) (node_fields * k) (node_fields * n)
unfolding from flatten
rows-from t k zero = refl
rows-from t k (suc n) =
    let e : node_fields * suc n ≡ suc (suc (suc (node_fields * n))) = omega arith in
    let f : node_fields * suc k ≡ suc (suc (suc (node_fields * k))) = omega arith in
    rw (e, add-one (node_fields * k), add-two (node_fields * k))
    (ap (λ (xs : List ℕ). get_or t (node_fields * k) 0 ∷ get_or t (suc (node_fields * k)) 0 ∷ get_or t (suc (suc (node_fields * k))) 0 ∷ xs)
    (rows-from t (suc k) n ∙ ap (λ (j : ℕ). from (λ i. get_or t i 0) j (node_fields * n)) f))

-- the nodes of the first n
pub nodes-of : (t : List ℕ) (n : ℕ) → node_fields * n ≤ length t → nodes_of (take (node_fields * n) t) ≡ from (node_at_lem t) 0 n
unfolding nodes_of
nodes-of t n h =
    let e : length (take (3 * n) t) / 3 ≡ n = ap (λ (m : ℕ). m / 3) (length-take-le (3 * n) t h)
    ∙ (let z : 3 * n / 3 ≡ n = omega arith in z) in
    ap (λ (m : ℕ). from (node_at_lem (take (3 * n) t)) 0 m) e
    ∙ from-ext (node_at_lem (take (3 * n) t)) (node_at_lem t) 0 n (λ i l.
    rw (
      zero-add i,
      get_or-take (3 * n) t (3 * i) 0 (omega arith),
      get_or-take (3 * n) t (3 * i + 1) 0 (omega arith),
      get_or-take (3 * n) t (3 * i + 2) 0 (omega arith),
    ))
