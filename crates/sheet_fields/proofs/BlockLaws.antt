-- Where a block of eight edges has no fault each of its edges is in range and none is on 3.
use Prim.Native.Nat.{ℕ, zero, suc, ◌+◌, ◌-◌, ◌*◌, ◌<◌, ◌≤◌, min}
use mathlib.Core.Path.{◌≡◌, refl, sym, ap, ◌∙◌}
use mathlib.Core.Bool.{true}
use mathlib.Core.List.{List}
use mathlib.Core.Logic.{◌⊎◌, inl, inr}
use native.Mathlib.Omega.{arith}
use native.Mathlib.Nat.{suc-min-suc, min-le_left}
use lib.Dec.{eqb}
use lib.Bits.{bit_and, bit_or, and_mask, and_le_l, and_le_r, or_add_and}
use lib.ListN.{get_or}
use borrow.Author.Tests.{eqb-true}
use Rattle.usage.specs.Limits.{policies, states, actions, statics, edge_fields}
use Rattle.usage.specs.Tests.{every}
use Rattle.usage.specs.Tables.{from, edge_at}
use Rattle.usage.proofs.Logic.{by_cases, last-or-lower}
use Rattle.usage.proofs.ValidLaws.{decides-edge}
use Rattle.sheet_fields.specs.Code.{tested_in, block_edges, block_bytes, repeated, field_most, field_paired, byte_fault, fault_at, faults}
use Rattle.sheet_fields.proofs.EveryLaws.{each-passes}
use Rattle.sheet_fields.proofs.EdgeLaws.{Plain, tested-plain}

-- ── Joined faults ──

none_left : (a b : ℕ) → bit_or a b ≡ 0 → a ≡ 0
none_left a b e = omega (arith, or_add_and a b, and_le_r a b)

none_right : (a b : ℕ) → bit_or a b ≡ 0 → b ≡ 0
none_right a b e = omega (arith, or_add_and a b, and_le_l a b)

module _ (t : List ℕ) (k : ℕ) (most masks : List ℕ) where
  no-fault : (n : ℕ) → faults t k most masks n ≡ 0 → (j : ℕ) → j < n → fault_at t k most masks j ≡ 0
  unfolding faults
  no-fault zero e j l = absurd (omega arith)
  no-fault (suc n) e j l = by_cases (last-or-lower j n l)
      (λ q. rw q (none_right (faults t k most masks n) (fault_at t k most masks n) e))
      (λ q. no-fault n (none_left (faults t k most masks n) (fault_at t k most masks n) e) j q)

-- ── One byte ──

range-in : (x y m mask : ℕ) → byte_fault x y m mask ≡ 0 → x ≤ m
range-in x y m mask e = omega (arith, none_left (x - m) (bit_and (min x y) mask) e)

min-none : (x y : ℕ) → min x y ≡ 0 → (x ≡ 0) ⊎ (y ≡ 0)
min-none zero y e = inl refl
min-none (suc x) zero e = inr refl
min-none (suc x) (suc y) e = absurd (omega (arith, suc-min-suc x y, e))

none-paired : (x y m : ℕ) → m < 256 → byte_fault x y m 255 ≡ 0 → (x ≡ 0) ⊎ (y ≡ 0)
none-paired x y m l e =
    let n = range-in x y m 255 e in
    min-none x y (omega (arith, and_mask (min x y) 8, none_right (x - m) (bit_and (min x y) 255) e, min-le_left x y, n, l))

-- ── One edge ──

abbrev block_most : List ℕ
block_most = repeated block_edges field_most

abbrev block_paired : List ℕ
block_paired = repeated block_edges field_paired

-- what stands at field r of each edge of a block, by computing all eight
field_is : (l : List ℕ) (r v : ℕ) → every (λ (e : ℕ). eqb (get_or l (edge_fields * e + r) 0) v) (from (λ (e : ℕ). e) 0 block_edges) ≡ true
    → (e : ℕ) → e < block_edges → get_or l (edge_fields * e + r) 0 ≡ v
field_is l r v h e b =
    eqb-true (get_or l (edge_fields * e + r) 0) v
    (each-passes (λ (e : ℕ). eqb (get_or l (edge_fields * e + r) 0) v) (λ (e : ℕ). e) block_edges h e b)

-- six cases
six : (P : ℕ → Type 0) → P 0 → P 1 → P 2 → P 3 → P 4 → P 5 → (r : ℕ) → r < edge_fields → P r
six P a b c d e f zero l = a
six P a b c d e f (suc zero) l = b
six P a b c d e f (suc (suc zero)) l = c
six P a b c d e f (suc (suc (suc zero))) l = d
six P a b c d e f (suc (suc (suc (suc zero)))) l = e
six P a b c d e f (suc (suc (suc (suc (suc zero))))) l = f
six P a b c d e f (suc (suc (suc (suc (suc (suc r)))))) l = absurd (omega arith)

-- edge e of block i
module _ (t : List ℕ) (i e : ℕ) (l : e < block_edges) where
  abbrev fault : ℕ → ℕ
  fault r = fault_at t (block_bytes * i) block_most block_paired (edge_fields * e + r)

  -- a field's fault, with its place in the table and what its field allows
  fault-is : (r a b m p : ℕ) → block_bytes * i + (edge_fields * e + r) ≡ a → a + 1 ≡ b
      → every (λ (e : ℕ). eqb (get_or block_most (edge_fields * e + r) 0) m) (from (λ (e : ℕ). e) 0 block_edges) ≡ true
      → every (λ (e : ℕ). eqb (get_or block_paired (edge_fields * e + r) 0) p) (from (λ (e : ℕ). e) 0 block_edges) ≡ true
      → fault r ≡ byte_fault (get_or t a 0) (get_or t b 0) m p
  fault-is r a b m p x y z w = rw (x, y, field_is block_most r m z e l, field_is block_paired r p w e l) refl

  abbrev number : ℕ
  number = block_edges * i + e

  abbrev start : ℕ
  start = edge_fields * number

  policy-is : fault 0 ≡ byte_fault (get_or t start 0) (get_or t (start + 1) 0) (policies - 1) 0
  unfolding every from repeated
  policy-is = fault-is 0 start (start + 1) (policies - 1) 0 (omega arith) (omega arith) refl refl

  from_is : fault 1 ≡ byte_fault (get_or t (start + 1) 0) (get_or t (start + 2) 0) (states - 1) 0
  unfolding every from repeated
  from_is = fault-is 1 (start + 1) (start + 2) (states - 1) 0 (omega arith) (omega arith) refl refl

  action-is : fault 2 ≡ byte_fault (get_or t (start + 2) 0) (get_or t (start + 3) 0) (actions - 1) 0
  unfolding every from repeated
  action-is = fault-is 2 (start + 2) (start + 3) (actions - 1) 0 (omega arith) (omega arith) refl refl

  on-is : fault 3 ≡ byte_fault (get_or t (start + 3) 0) (get_or t (start + 4) 0) 2 255
  unfolding every from repeated
  on-is = fault-is 3 (start + 3) (start + 4) 2 255 (omega arith) (omega arith) refl refl

  who-is : fault 4 ≡ byte_fault (get_or t (start + 4) 0) (get_or t (start + 5) 0) (statics - 1) 0
  unfolding every from repeated
  who-is = fault-is 4 (start + 4) (start + 5) (statics - 1) 0 (omega arith) (omega arith) refl refl

  to_is : fault 5 ≡ byte_fault (get_or t (start + 5) 0) (get_or t (start + 6) 0) (states - 1) 0
  unfolding every from repeated
  to_is = fault-is 5 (start + 5) (start + 6) (states - 1) 0 (omega arith) (omega arith) refl refl

  none-edge : ((r : ℕ) → r < edge_fields → fault r ≡ 0) → Plain t number
  none-edge h =
      let low = range-in (get_or t (start + 3) 0) (get_or t (start + 4) 0) 2 255 (sym on-is ∙ h 3 (omega arith)) in
      let one = none-paired (get_or t (start + 3) 0) (get_or t (start + 4) 0) 2 (omega arith) (sym on-is ∙ h 3 (omega arith)) in (
        (decides-edge (edge_at t number)).1 (record {
          policy = omega (arith, range-in (get_or t start 0) (get_or t (start + 1) 0) (policies - 1) 0 (sym policy-is ∙ h 0 (omega arith)));
          «from» = omega (arith, range-in (get_or t (start + 1) 0) (get_or t (start + 2) 0) (states - 1) 0 (sym from_is ∙ h 1 (omega arith)));
          action = omega (
            arith,
            range-in (get_or t (start + 2) 0) (get_or t (start + 3) 0) (actions - 1) 0
                (sym action-is ∙ h 2 (omega arith)),
          );
          on = omega arith;
          who_static = λ q. omega (
            arith,
            range-in (get_or t (start + 4) 0) (get_or t (start + 5) 0) (statics - 1) 0
                (sym who-is ∙ h 4 (omega arith)),
          );
          who_unused = λ q. by_cases one (λ z. absurd (q z)) (λ z. z);
          to = omega (arith, range-in (get_or t (start + 5) 0) (get_or t (start + 6) 0) (states - 1) 0 (sym to_is ∙ h 5 (omega arith)));
        }),
        λ q. omega (arith, low),
      )

-- ── A block ──

module _ (t : List ℕ) (i : ℕ) where
  abbrev block_faults : ℕ
  block_faults = faults t (block_bytes * i) block_most block_paired block_bytes

  -- the blocks up to this one say what this one says with them
  pub block-plain : block_faults ≡ 0 → tested_in t (block_edges * i) ≡ tested_in t (block_edges * (i + 1))
  block-plain h = tested-plain t (block_edges * i) block_edges (λ e l. none-edge t i e l
      (λ r b. no-fault t (block_bytes * i) block_most block_paired block_bytes h (edge_fields * e + r) (omega (arith, l, b))))
      ∙ ap (tested_in t) (next i)
    where
      next : (i : ℕ) → block_edges * i + block_edges ≡ block_edges * (i + 1)
      next i = omega arith
