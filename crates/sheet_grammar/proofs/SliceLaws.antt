-- The bytes of a text, or the nodes of a table, from one place up to another.
use Prim.Native.Nat.{ℕ, zero, suc, ◌+◌, ◌<◌, ◌≤◌}
use mathlib.Core.Path.{◌≡◌, refl, sym, ap, subst, ◌∙◌}
use mathlib.Core.Option.{none, some, some-injective}
use mathlib.Core.List.{List, [], ◌∷◌, ◌++◌, append-nil}
use native.Mathlib.Omega.{arith}
use native.Mathlib.Nat.{zero-add, suc-add}
use lib.ListN.{get_elem?, length, drop}
use Rattle.usage.proofs.Logic.{by_cases, last-or-lower, none-some}
use Rattle.sheet_grammar.specs.Places.{Like}

-- from place i up to place e the text s has the bytes w
pub data Slice {A : Type 0} (s : List A) : ℕ → List A → ℕ → Type 0 where
  nil : {i : ℕ} → Slice s i [] i
  cons : {i e : ℕ} {b : A} {w : List A} → get_elem? s i ≡ some b → Slice s (suc i) w e → Slice s i (b ∷ w) e

pub first_byte : {A : Type 0} {s w : List A} {m e : ℕ} {b : A} → Slice s m (b ∷ w) e → (get_elem? s m ≡ some b) × Slice s (suc m) w e
first_byte (cons h p) = (h, p)

pub last_byte : {A : Type 0} {s : List A} {m e : ℕ} {b : A} → Slice s m (b ∷ []) e → (get_elem? s m ≡ some b) × (e ≡ suc m)
last_byte (cons h nil) = (h, refl)

pub slice-append : {A : Type 0} {s : List A} {i j e : ℕ} {v w : List A} → Slice s i v j → Slice s j w e → Slice s i (v ++ w) e
slice-append nil q = q
slice-append (cons h p) q = cons h (slice-append p q)

pub slice-byte : {A : Type 0} {s : List A} {i j : ℕ} {b : A} {v : List A} → Slice s i v j → get_elem? s j ≡ some b
    → Slice s i (v ++ (b ∷ [])) (suc j)
slice-byte p h = slice-append p (cons h nil)

-- a slice of two parts, taken apart
pub record Parted {A : Type 0} (s : List A) (i : ℕ) (v w : List A) (e : ℕ) : Type 0 where
  pub middle : ℕ
  pub left : Slice s i v middle
  pub right : Slice s middle w e

pub slice-split : {A : Type 0} {s : List A} {i e : ℕ} (v w : List A) → Slice s i (v ++ w) e → Parted s i v w e
slice-split {i} [] w p = record { middle = i; left = nil; right = p }
slice-split (b ∷ v) w (cons h p) =
    let r = slice-split v w p in
    record { middle = r.middle; left = cons h r.left; right = r.right }

pub slice-le : {A : Type 0} {s : List A} {i e : ℕ} {w : List A} → Slice s i w e → i ≤ e
slice-le nil = omega arith
slice-le (cons h p) = let q = slice-le p in omega arith

pub slice-like : {s s' : List ℕ} {i e : ℕ} {w : List ℕ} → Slice s i w e → Like s s' e → Slice s' i w e
slice-like nil l = nil
slice-like (cons {i} h p) l = let q = slice-le p in cons (sym (l i (omega arith)) ∙ h) (slice-like p l)

-- two texts with the same bytes between two places
pub slice-same : {s s' : List ℕ} {i e : ℕ} {w : List ℕ} → Slice s i w e → Slice s' i w e → (k : ℕ) → i ≤ k → k < e
    → get_elem? s k ≡ get_elem? s' k
slice-same nil q k a b = absurd (let z : ⊥ = omega arith in z)
slice-same {s} {s'} (cons {i} {e} h p) (cons g q) k a b = by_cases (last-or-lower i k (omega arith))
    (λ x. subst (λ (m : ℕ). get_elem? s m ≡ get_elem? s' m) x (h ∙ sym g))
    (λ l. slice-same p q k l b)

pub both-like : {s s' : List ℕ} {e : ℕ} {w : List ℕ} → Slice s 0 w e → Slice s' 0 w e → Like s s' e
both-like p q k l = slice-same p q k (omega arith) l

-- ── Texts made of words ──

-- after x comes w
pub slice_in : {A : Type 0} (x w r : List A) → Slice (x ++ (w ++ r)) (length x) w (length x + length w)
slice_in {A} x w r = go x w r
  where
    up : {s : List A} {i e : ℕ} {c : A} {w : List A} → Slice s i w e → Slice (c ∷ s) (suc i) w (suc e)
    up nil = nil
    up (cons h p) = cons h (up p)

    here : (w r : List A) → Slice (w ++ r) 0 w (length w)
    here [] r = nil
    here (b ∷ w) r = cons refl (up (here w r))

    go : (x w r : List A) → Slice (x ++ (w ++ r)) (length x) w (length x + length w)
    go [] w r = rw zero-add (here w r)
    go (c ∷ x) w r = rw suc-add (up (go x w r))

pub slice_front : {A : Type 0} (w r : List A) → Slice (w ++ r) 0 w (length w)
slice_front w r = rw zero-add at (slice_in [] w r)

-- the text after a slice of it
pub slice-drop : {s : List ℕ} {i e : ℕ} {w : List ℕ} → Slice s i w e → drop i s ≡ w ++ drop e s
slice-drop nil = refl
slice-drop {s} (cons {i} {e} {b} {w} h p) = here s i b h ∙ ap (λ (l : List ℕ). b ∷ l) (slice-drop p)
  where
    here : (s : List ℕ) (i b : ℕ) → get_elem? s i ≡ some b → drop i s ≡ b ∷ drop (suc i) s
    here [] i b h = none-some h
    here (c ∷ s) zero b h = ap (λ (x : ℕ). x ∷ s) (some-injective c b h)
    here (c ∷ s) (suc i) b h = here s i b h

-- a slice from the beginning to the end is the text
pub slice_all : {s w : List ℕ} {e : ℕ} → Slice s 0 w e → get_elem? s e ≡ none → s ≡ w
slice_all {s} {w} {e} p h = slice-drop p ∙ ap (λ (l : List ℕ). w ++ l) (past s e h) ∙ append-nil w
  where
    past : (s : List ℕ) (i : ℕ) → get_elem? s i ≡ none → drop i s ≡ []
    past [] zero h = refl
    past [] (suc i) h = refl
    past (c ∷ s) zero h = none-some (sym h)
    past (c ∷ s) (suc i) h = past s i h

pub slice-length : {A : Type 0} {s w : List A} {i e : ℕ} → Slice s i w e → e ≡ i + length w
slice-length {i} nil = omega arith
slice-length (cons {w} h p) = omega (arith, slice-length p)
