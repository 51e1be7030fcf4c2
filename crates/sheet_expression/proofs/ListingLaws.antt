-- Laws of the nodes so far: one more, and those of a table with a node put between.
use Prim.Native.Nat.{ℕ, zero, suc, ◌+◌, ◌*◌, ◌<◌, ◌≤◌}
use mathlib.Core.Path.{◌≡◌, refl, sym, ap, ap₂, ◌∙◌}
use mathlib.Core.List.{List, [], ◌∷◌, ◌++◌, map, append_assoc}
use native.Mathlib.Omega.{arith}
use native.Mathlib.Numerals.{add-one}
use native.Mathlib.Nat.{zero-add, add-zero, add-suc, suc-add}
use lib.ListN.{length, get_or, set, take, drop, length-set}
use lib.Seq.{get_or-set_same, get_or-set_other}
use Rattle.usage.specs.declared.Node.{Node}
use Rattle.usage.specs.Tables.{from, node_at_lem}
use Rattle.usage.proofs.TableLaws.{from-snoc, from-ext}
use Rattle.sheet_grammar.specs.Nodes.{node_with}
use Rattle.sheet_expression.specs.Code.{shifted}

-- ── One node more ──

-- a node is stored at its place
abbrev pub stored : List ℕ → ℕ → ℕ → ℕ → ℕ → List ℕ
stored t c k a b = set (set (set t (3 * c) k) (3 * c + 1) a) (3 * c + 2) b

module _ (t : List ℕ) (c k a b : ℕ) (l : c < 64) (n : length t ≡ 192) where
  long₁ : length (set t (3 * c) k) ≡ 192
  long₁ = length-set t (3 * c) k ∙ n

  long₂ : length (set (set t (3 * c) k) (3 * c + 1) a) ≡ 192
  long₂ = length-set (set t (3 * c) k) (3 * c + 1) a ∙ long₁

  field₀ : get_or (stored t c k a b) (3 * c) 0 ≡ k
  field₀ =
      get_or-set_other (set (set t (3 * c) k) (3 * c + 1) a) (3 * c + 2) (3 * c) b 0 (omega arith)
      ∙ get_or-set_other (set t (3 * c) k) (3 * c + 1) (3 * c) a 0 (omega arith)
      ∙ get_or-set_same t (3 * c) k 0 (omega arith)

  field₁ : get_or (stored t c k a b) (3 * c + 1) 0 ≡ a
  field₁ =
      get_or-set_other (set (set t (3 * c) k) (3 * c + 1) a) (3 * c + 2) (3 * c + 1) b 0 (omega arith)
      ∙ get_or-set_same (set t (3 * c) k) (3 * c + 1) a 0 (omega (arith, long₁))

  field₂ : get_or (stored t c k a b) (3 * c + 2) 0 ≡ b
  field₂ = get_or-set_same (set (set t (3 * c) k) (3 * c + 1) a) (3 * c + 2) b 0 (omega (arith, long₂))

  other : (i : ℕ) → i < 3 * c → get_or (stored t c k a b) i 0 ≡ get_or t i 0
  other i h =
      get_or-set_other (set (set t (3 * c) k) (3 * c + 1) a) (3 * c + 2) i b 0 (omega arith)
      ∙ get_or-set_other (set t (3 * c) k) (3 * c + 1) i a 0 (omega arith)
      ∙ get_or-set_other t (3 * c) i k 0 (omega arith)

  at_same : node_at_lem (stored t c k a b) c ≡ node_with k a b
  at_same = rw (field₀, field₁, field₂)

  at_other : (i : ℕ) → i < c → node_at_lem (stored t c k a b) i ≡ node_at_lem t i
  at_other i h = rw (other (3 * i) (omega arith), other (3 * i + 1) (omega arith), other (3 * i + 2) (omega arith))

  pub one_more : from (node_at_lem (stored t c k a b)) 0 (c + 1) ≡ from (node_at_lem t) 0 c ++ (node_with k a b ∷ [])
  one_more =
      ap (λ (j : ℕ). from (node_at_lem (stored t c k a b)) 0 j) (add-one c)
      ∙ from-snoc (node_at_lem (stored t c k a b)) 0 c
      ∙ ap₂ (λ (xs : List Node) (x : Node). xs ++ (x ∷ []))
      (from-ext (node_at_lem (stored t c k a b)) (node_at_lem t) 0 c (λ i h. rw (zero-add i) (at_other i h)))
      (ap (node_at_lem (stored t c k a b)) (zero-add c) ∙ at_same)

-- ── Parts of a listing ──

module _ {A : Type 0} (f : ℕ → A) where
  pub drop-from : (k n m : ℕ) → drop n (from f k (n + m)) ≡ from f (k + n) m
  unfolding from
  drop-from k zero m = ap₂ (λ (i j : ℕ). from f i j) (sym (add-zero k)) (zero-add m)
  drop-from k (suc n) m =
      ap (λ (j : ℕ). drop (suc n) (from f k j)) (suc-add n m)
      ∙ drop-from (suc k) n m
      ∙ ap (λ (i : ℕ). from f i m) (suc-add k n ∙ sym (add-suc k n))

  pub take-from : (k m n : ℕ) → n ≤ m → take n (from f k m) ≡ from f k n
  unfolding from
  take-from k zero zero l = refl
  take-from k zero (suc n) l = absurd (let z : ⊥ = omega arith in z)
  take-from k (suc m) zero l = refl
  take-from k (suc m) (suc n) l = ap (λ (xs : List A). f k ∷ xs) (take-from (suc k) m n (omega arith))

pub map-append : (f : Node → Node) (xs ys : List Node) → map f (xs ++ ys) ≡ map f xs ++ map f ys
map-append f [] ys = refl
map-append f (x ∷ xs) ys = ap (λ (l : List Node). f x ∷ l) (map-append f xs ys)

-- ── A node put between ──

module _ (t : List ℕ) (start : ℕ) (n : Node) where
  -- the nodes before `start`, then n, then m of those that move up
  unfoldable pub between : ℕ → List Node
  between m = from (node_at_lem t) 0 start ++ (n ∷ map (shifted start) (from (node_at_lem t) start m))

  pub between_none : from (node_at_lem t) 0 start ++ (n ∷ []) ≡ between 0
  unfolding between from
  between_none = refl

  pub between_more : (m : ℕ) → between m ++ (shifted start (node_at_lem t (start + m)) ∷ []) ≡ between (suc m)
  unfolding between
  between_more m =
      append_assoc (from (node_at_lem t) 0 start) (n ∷ map (shifted start) (from (node_at_lem t) start m)) (shifted start (node_at_lem t (start + m)) ∷ [])
      ∙ ap (λ (l : List Node). from (node_at_lem t) 0 start ++ (n ∷ l))
      (sym (map-append (shifted start) (from (node_at_lem t) start m) (node_at_lem t (start + m) ∷ []))
      ∙ ap (λ (l : List Node). map (shifted start) l) (sym (from-snoc (node_at_lem t) start m)))

  pub between-all : (count m : ℕ) → count ≡ start + m
      → between m ≡ take start (from (node_at_lem t) 0 count) ++ (n ∷ map (shifted start) (drop start (from (node_at_lem t) 0 count)))
  unfolding between
  between-all count m e =
      ap₂ (λ (xs ys : List Node). xs ++ (n ∷ map (shifted start) ys))
      (sym (take-from (node_at_lem t) 0 count start (omega arith)))
      (ap (λ (i : ℕ). from (node_at_lem t) i m) (sym (zero-add start)) ∙ sym (drop-from (node_at_lem t) 0 start m)
      ∙ ap (λ (j : ℕ). drop start (from (node_at_lem t) 0 j)) (sym e))
