-- The flat table of a list of edges: the table that the loop leaves, and the edges that are read from it.
use Prim.Native.Nat.{ℕ, zero, suc, ◌+◌, ◌*◌, ◌/◌, ◌%◌, ◌<◌, ◌≤◌}
use mathlib.Core.Path.{◌≡◌, refl, sym, ap, ◌∙◌}
use mathlib.Core.Bool.{false}
use mathlib.Core.List.{List, [], ◌∷◌, ◌++◌, append_assoc, append-nil}
use native.Mathlib.Omega.{arith}
use lib.ListN.{length, get_or, take, set, length-set}
use lib.Seq.{take-suc-set}
use borrow.Author.Tests.{lt-leb, eq-eqb}
use Rattle.usage.specs.declared.Edge.{Edge}
use Rattle.usage.specs.Limits.{most_edges, edge_places}
use Rattle.usage.specs.Tables.{from, edge_at, edges_of, is_edge_table}
use Rattle.usage.specs.Tests.{edges_ok}
use Rattle.api_records.specs.declared.flat.Flat.{Flat}
use Rattle.api_records.specs.Flat.{flat}
use Rattle.api_records.specs.Code.{record_stored, zeros, add_of, flat_of, flat_held}

-- ── The edges of the flat table ──

abbrev fields : Edge → List ℕ
fields e = e.policy ∷ e.from ∷ e.action ∷ e.on ∷ e.who ∷ e.to ∷ []

pub flat-length : (es : List Edge) → length (flat es) ≡ 6 * length es
unfolding flat
flat-length [] = refl
flat-length (e ∷ es) = step (length (flat es)) (length es) (flat-length es)
  where
    step : (m n : ℕ) → m ≡ 6 * n → suc (suc (suc (suc (suc (suc m))))) ≡ 6 * suc n
    step m n h = omega arith

-- the numbers after the first record's
past_first : (e : Edge) (t : List ℕ) (i j : ℕ) → j ≡ suc (suc (suc (suc (suc (suc i))))) → get_or (fields e ++ t) j 0 ≡ get_or t i 0
past_first e t i j h = ap (λ (k : ℕ). get_or (fields e ++ t) k 0) h

-- record i + 1 of a table is record i of what follows the first
next_edge : (e : Edge) (t : List ℕ) (i : ℕ) → edge_at (fields e ++ t) (suc i) ≡ edge_at t i
next_edge e t i =
    rw (
      past_first e t (6 * i) (6 * suc i) (omega arith),
      past_first e t (6 * i + 1) (6 * suc i + 1) (omega arith),
      past_first e t (6 * i + 2) (6 * suc i + 2) (omega arith),
      past_first e t (6 * i + 3) (6 * suc i + 3) (omega arith),
      past_first e t (6 * i + 4) (6 * suc i + 4) (omega arith),
      past_first e t (6 * i + 5) (6 * suc i + 5) (omega arith),
    )

from_next : {A : Type 0} (f g : ℕ → A) → ((i : ℕ) → f (suc i) ≡ g i) → (k n : ℕ) → from f (suc k) n ≡ from g k n
unfolding from
from_next f g h k zero = refl
from_next f g h k (suc n) = rw (h k, from_next f g h (suc k) n)

records-of-flat : (es : List Edge) → from (edge_at (flat es)) 0 (length es) ≡ es
unfolding flat from
records-of-flat [] = refl
records-of-flat (e ∷ es) = ap (λ (l : List Edge). e ∷ l) (from_next (edge_at (fields e ++ flat es)) (edge_at (flat es))
    (next_edge e (flat es)) 0 (length es) ∙ records-of-flat es)

-- the edges that are read from the flat table are those that it was made of
pub edges-flat : (es : List Edge) → edges_of (flat es) ≡ es
unfolding edges_of
edges-flat es = ap (λ (n : ℕ). from (edge_at (flat es)) 0 n) (sixth (length (flat es)) (length es) (flat-length es)) ∙ records-of-flat es
  where
    sixth : (m n : ℕ) → m ≡ 6 * n → m / 6 ≡ n
    sixth m n h = omega arith

-- it is the table of an accepted sheet where they are the edges of one
pub table-flat : (es : List Edge) → is_edge_table (flat es) ≡ edges_ok es
unfolding is_edge_table
table-flat es = rw (edges-flat es, eq-eqb (length (flat es) % 6) 0 (whole (length (flat es)) (length es) (flat-length es)))
  where
    whole : (m n : ℕ) → m ≡ 6 * n → m % 6 ≡ 0
    whole m n h = omega arith

-- more records than a sheet has are not those of one
pub too_many : (es : List Edge) → most_edges < length es → edges_ok es ≡ false
unfolding edges_ok
too_many es h = rw (lt-leb (length es) most_edges h)

-- ── The table that the loop leaves ──

-- the list's numbers stored from k on
abbrev write : List ℕ → ℕ → List ℕ → List ℕ
write t k [] = t
write t k (v ∷ vs) = write (set t k v) (suc k) vs

stored-written : (t : List ℕ) (k : ℕ) (e : Edge) → record_stored t k e ≡ write t k (fields e)
stored-written t k e =
    let k₁ : k + 1 ≡ suc k = omega arith in
    let k₂ : k + 2 ≡ suc (suc k) = omega arith in
    let k₃ : k + 3 ≡ suc (suc (suc k)) = omega arith in
    let k₄ : k + 4 ≡ suc (suc (suc (suc k))) = omega arith in
    let k₅ : k + 5 ≡ suc (suc (suc (suc (suc k)))) = omega arith in
    rw (k₁, k₂, k₃, k₄, k₅)

-- what was there up to k, and then the list
written : (vs t : List ℕ) (k m : ℕ) → m ≡ k + length vs → m ≤ length t → take m (write t k vs) ≡ take k t ++ vs
written [] t k m e h = let q : m ≡ k = omega arith in ap (λ (n : ℕ). take n t) q ∙ sym (append-nil (take k t))
written (v ∷ vs) t k m e h =
    written vs (set t k v) (suc k) m (omega arith) (rw (length-set t k v) h)
    ∙ ap (λ (l : List ℕ). l ++ vs) (take-suc-set t k v (omega arith))
    ∙ append_assoc (take k t) (v ∷ []) vs

-- g holds what f does, and the edges after it
pub record Holds (f : Flat) (es : List Edge) (g : Flat) : Type 0 where
  count : g.count ≡ f.count + length es
  bytes : flat_held g ≡ flat_held f ++ flat es

added-table : (f : Flat) (e : Edge) → f.count < most_edges → length f.bytes ≡ edge_places → flat_held (add_of f e) ≡ flat_held f ++ fields e
added-table f e h l =
    ap (take (6 * (f.count + 1))) (stored-written f.bytes (6 * f.count) e)
    ∙ written (fields e) f.bytes (6 * f.count) (6 * (f.count + 1)) (omega arith) (omega arith)

added-length : (f : Flat) (e : Edge) → length (add_of f e).bytes ≡ length f.bytes
added-length f e = simp (length-set)

few : (es : List Edge) (f : Flat) → f.count + length es ≤ most_edges → length f.bytes ≡ edge_places → Holds f es (flat_of f es)
unfolding flat_of flat
few [] f h l = record { count = omega arith; bytes = sym (append-nil (flat_held f)) }
few (e ∷ es) f h l =
    let k : Holds (add_of f e) es (flat_of (add_of f e) es) = few es (add_of f e) (omega arith) (added-length f e ∙ l) in
    record {
      count = omega (arith, k.count);
      bytes = k.bytes ∙ ap (λ (t : List ℕ). t ++ flat es) (added-table f e (omega arith) l)
          ∙ append_assoc (flat_held f) (fields e) (flat es);
    }

-- of at most 256 edges the loop leaves the flat table
pub loop-few : (es : List Edge) → length es ≤ most_edges → Holds zeros es (flat_of zeros es)
unfolding zeros
loop-few es h = few es zeros (omega arith) refl

pub few-flat : (es : List Edge) → Holds zeros es (flat_of zeros es) → ((flat_of zeros es).count ≡ length es)
    × (flat_held (flat_of zeros es) ≡ flat es)
unfolding zeros
few-flat es k = (omega (arith, k.count), k.bytes)
