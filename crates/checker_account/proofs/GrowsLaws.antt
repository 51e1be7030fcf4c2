-- A step of filling joins sets to a table: nothing is lost, and the table is as it was exactly if the sum of its entries is.
use Prim.Native.Nat.{ℕ, zero, suc, ◌+◌, ◌-◌, ◌*◌, ◌<◌, ◌≤◌}
use mathlib.Core.Path.{◌≡◌, refl, sym, ap, ap₂, ◌∙◌, subst}
use mathlib.Core.Bool.{Bool, true, false, not, ◌||◌}
use mathlib.Core.List.{List, [], ◌∷◌}
use mathlib.Core.Logic.{◌⊎◌, inl, inr}
use native.Mathlib.Nat.{not-suc-le-zero, le_of_suc-le-suc}
use native.Mathlib.Numerals.{add-one}
use native.Mathlib.Omega.{arith}
use lib.Dec.{eqb, ltb, leb}
use lib.Bits.{bit_or}
use lib.ListN.{length, get_or, set, length-set}
use lib.Seq.{set_out, set-get_or}
use borrow.Author.Tests.{eqb-true, eqb-false, ltb-true, ltb-false, lt-ltb, le-ltb, leb-true, leb-false}
use Rattle.usage.proofs.Logic.{last-or-lower}
use Rattle.automaton.proofs.MaskLaws.{left_le}
use Rattle.checker_account.specs.Filling.{repeat, total, grown, Wide, Derived, start, joins}
use Rattle.checker_account.specs.Tables.{joined_at}

-- ── The sum of the entries ──

total-set : (t : List ℕ) (i v : ℕ) → i < length t → total (set t i v) + get_or t i 0 ≡ total t + v
unfolding total
total-set [] i v h = absurd (not-suc-le-zero h)
total-set (w ∷ t) zero v h = omega arith
total-set (w ∷ t) (suc i) v h = let e = total-set t i v (le_of_suc-le-suc h) in omega arith

pub total-le : (t : List ℕ) → ((i : ℕ) → get_or t i 0 < 65536) → total t ≤ 65536 * length t
unfolding total
total-le [] h = omega arith
total-le (w ∷ t) h = let l = h 0 in let r = total-le t (λ i. h (suc i)) in omega arith

-- ── Growing ──

pub record Grows (t t' : List ℕ) : Type 0 where
  pub len : length t' ≡ length t
  pub up : total t ≤ total t'
  pub still : total t' ≡ total t → t' ≡ t

pub grows_self : (t : List ℕ) → Grows t t
grows_self t = record { len = refl; up = omega arith; still = λ e. refl }

pub grows-trans : {a b c : List ℕ} → Grows a b → Grows b c → Grows a c
grows-trans {a} {b} {c} g h = record {
  len = h.len ∙ g.len;
  up = omega (arith, g.up, h.up);
  still = λ e.
      let u = g.up in
      let w = h.up in
      let eb : total b ≡ total a = omega arith in
      let ec : total c ≡ total b = omega arith in
      h.still ec ∙ g.still eb;
}

-- where two steps together change nothing, the first does not
pub grows-still : {a b c : List ℕ} → Grows a b → Grows b c → c ≡ a → b ≡ a
grows-still {a} {b} {c} g h e = let d : total c ≡ total a = ap total e in g.still (omega (arith, g.up, h.up))

-- the set at i, joined
module _ (t : List ℕ) (i v : ℕ) where
  abbrev old : ℕ
  old = get_or t i 0

  joined_in : i < length t → Grows t (joined_at t i v)
  unfolding joined_at
  joined_in h =
      let e = total-set t i (bit_or old v) h in
      let l = left_le old v in
      record {
        len = length-set t i (bit_or old v);
        up = omega arith;
        still = λ f. let d : bit_or old v ≡ old = omega arith in ap (set t i) d ∙ set-get_or t i 0;
      }

  joined-out : length t ≤ i → joined_at t i v ≡ t
  unfolding joined_at
  joined-out h = set_out t i (bit_or old v) h

  pub joined-grows : Grows t (joined_at t i v)
  joined-grows = go (leb (length t) i) refl
    where
      go : (b : Bool) → leb (length t) i ≡ b → Grows t (joined_at t i v)
      go true e = subst (Grows t) (sym (joined-out (leb-true (length t) i e))) (grows_self t)
      go false e = joined_in (leb-false (length t) i e)

  -- whether it has changed anything
  pub grown-joined : i < length t → grown t (joined_at t i v) ≡ not (eqb (bit_or old v) old)
  unfolding joined_at grown
  grown-joined h = go (eqb (bit_or old v) old) refl
    where
      e : total (set t i (bit_or old v)) + old ≡ total t + bit_or old v
      e = total-set t i (bit_or old v) h

      more : (bit_or old v ≡ old → ⊥) → total t < total (set t i (bit_or old v))
      more d = go (leb (bit_or old v) old) refl
        where
          go : (b : Bool) → leb (bit_or old v) old ≡ b → total t < total (set t i (bit_or old v))
          go true f = let k = leb-true (bit_or old v) old f in let l = left_le old v in absurd (d (omega arith))
          go false f = let k = leb-false (bit_or old v) old f in let g = e in omega arith

      go : (b : Bool) → eqb (bit_or old v) old ≡ b → ltb (total t) (total (set t i (bit_or old v))) ≡ not b
      go true f = let d = eqb-true (bit_or old v) old f in let g = e in le-ltb (total t) (total (set t i (bit_or old v))) (omega arith)
      go false f = lt-ltb (total t) (total (set t i (bit_or old v))) (more (eqb-false (bit_or old v) old f))

-- ── Whether it has grown ──

pub grown-self : (t : List ℕ) → grown t t ≡ false
unfolding grown
grown-self t = le-ltb (total t) (total t) (omega arith)

pub grown-trans : {a b c : List ℕ} → Grows a b → Grows b c → grown a c ≡ (grown a b || grown b c)
unfolding grown
grown-trans {a} {b} {c} g h = go (ltb (total a) (total b)) refl
  where
    go : (d : Bool) → ltb (total a) (total b) ≡ d → ltb (total a) (total c) ≡ (d || ltb (total b) (total c))
    go true e = let l = ltb-true (total a) (total b) e in let w = h.up in lt-ltb (total a) (total c) (omega arith)
    go false e =
        let l = ltb-false (total a) (total b) e in
        let w = g.up in
        let f : total a ≡ total b = omega arith in
        ap (λ (n : ℕ). ltb n (total c)) f

pub grown-false : {a b : List ℕ} → Grows a b → grown a b ≡ false → b ≡ a
unfolding grown
grown-false {a} {b} g e = g.still (let l = ltb-false (total a) (total b) e in let w = g.up in omega arith)

pub grown-true : (a b : List ℕ) → grown a b ≡ true → total a < total b
unfolding grown
grown-true a b e = ltb-true (total a) (total b) e

-- two steps, and what the code says of each
pub grown-two : (a b c : List ℕ) (r₁ r₂ r : Bool) → Grows a b → Grows b c → r₁ ≡ grown a b → r₂ ≡ grown b c → r ≡ (r₁ || r₂) → r ≡ grown a c
grown-two a b c r₁ r₂ r g h e₁ e₂ e = e ∙ ap₂ (λ (x y : Bool). x || y) e₁ e₂ ∙ sym (grown-trans g h)

-- a table to which a set was joined
pub grows-joined : (t u : List ℕ) (i v : ℕ) → u ≡ joined_at t i v → Grows t u
grows-joined t u i v e = subst (Grows t) (sym e) (joined-grows t i v)

-- ── Many steps ──

pub repeat-keeps : (P : List ℕ → Type 0) (f : ℕ → List ℕ → List ℕ) (n : ℕ) → ((i : ℕ) (t : List ℕ) → i < n → P t → P (f i t)) → (t : List ℕ)
    → P t → P (repeat f n t)
unfolding repeat
repeat-keeps P f zero h t p = p
repeat-keeps P f (suc n) h t p = h n (repeat f n t) (omega arith) (repeat-keeps P f n (λ i t l. h i t (omega arith)) t p)

-- one turn more
pub repeat-more : (f : ℕ → List ℕ → List ℕ) (n : ℕ) (t₀ t u : List ℕ) → t ≡ repeat f n t₀ → u ≡ f n t → u ≡ repeat f (n + 1) t₀
unfolding repeat
repeat-more f n t₀ t u e g = rw (add-one n) (g ∙ ap (f n) e)

-- steps that do the same
pub repeat-same : (f g : ℕ → List ℕ → List ℕ) (n : ℕ) → ((i : ℕ) (t : List ℕ) → i < n → f i t ≡ g i t) → (t : List ℕ)
    → repeat f n t ≡ repeat g n t
unfolding repeat
repeat-same f g zero h t = refl
repeat-same f g (suc n) h t = h n (repeat f n t) (omega arith) ∙ ap (g n) (repeat-same f g n (λ i t l. h i t (omega arith)) t)

module _ (f : ℕ → List ℕ → List ℕ) (grows : (i : ℕ) (t : List ℕ) → Grows t (f i t)) where
  pub repeat-grows : (n : ℕ) (t : List ℕ) → Grows t (repeat f n t)
  unfolding repeat
  repeat-grows zero t = grows_self t
  repeat-grows (suc n) t = grows-trans (repeat-grows n t) (grows n (repeat f n t))

  -- where all of them together change nothing, none does
  pub repeat-still : (n : ℕ) (t : List ℕ) → repeat f n t ≡ t → (i : ℕ) → i < n → f i t ≡ t
  unfolding repeat
  repeat-still zero t e i h = absurd (not-suc-le-zero h)
  repeat-still (suc n) t e i h = go (repeat-still n t) (last-or-lower i n h)
    where
      same : repeat f n t ≡ t
      same = grows-still (repeat-grows n t) (grows n (repeat f n t)) e

      go : (repeat f n t ≡ t → (i : ℕ) → i < n → f i t ≡ t) → (i ≡ n) ⊎ (i < n) → f i t ≡ t
      go ih (inl k) = ap (λ (j : ℕ). f j t) k ∙ ap (f n) (sym same) ∙ e
      go ih (inr l) = ih same i l

  pub repeat-length : (n : ℕ) (t₀ t : List ℕ) → t ≡ repeat f n t₀ → length t ≡ length t₀
  repeat-length n t₀ t e = ap length e ∙ (repeat-grows n t₀).len

  -- one turn more of a loop that notes in c whether the table has changed since the start; r: whether it has in this turn
  pub turn : (n : ℕ) (t₀ t u : List ℕ) (c r : Bool) → (t ≡ repeat f n t₀) × (c ≡ grown t₀ t) → u ≡ f n t → r ≡ grown t u
      → (u ≡ repeat f (n + 1) t₀) × ((c || r) ≡ grown t₀ u)
  turn n t₀ t u c r (e, d) g k = (
    repeat-more f n t₀ t u e g,
    grown-two t₀ t u c r (c || r) (subst (Grows t₀) (sym e) (repeat-grows n t₀)) (subst (Grows t) (sym g) (grows n t)) d k refl,
  )

-- ── Tables that rules make ──

module _ (Rule : List ℕ → ℕ → ℕ → Type 0) (t₀ : List ℕ) where
  pub derived-grows : {t : List ℕ} → Derived Rule t₀ t → Grows t₀ t
  derived-grows start = grows_self t₀
  derived-grows (joins {t = t} {i = i} {v = v} d e r) = grows-trans (derived-grows d) (joined-grows t i v)

  -- what holds of the first, and still holds once what a rule gives is joined, holds of all of them
  pub derived-keeps : (P : List ℕ → Type 0) → P t₀ → ((t by : List ℕ) (i v : ℕ) → P t → P by → Rule by i v → P (joined_at t i v))
      → {t : List ℕ} → Derived Rule t₀ t → P t
  derived-keeps P p h start = p
  derived-keeps P p h (joins {t = t} {by = by} {i = i} {v = v} d e r) =
      h t by i v (derived-keeps P p h d) (derived-keeps P p h e) r

-- the table so far
pub record Filling (Rule : List ℕ → ℕ → ℕ → Type 0) (t₀ t : List ℕ) : Type 0 where
  pub derived : Derived Rule t₀ t
  pub wide : Wide t

pub filling-length : (size : ℕ) (Rule : List ℕ → ℕ → ℕ → Type 0) (t₀ t : List ℕ) → length t₀ ≡ size → Filling Rule t₀ t → length t ≡ size
filling-length size Rule t₀ t l h = (derived-grows Rule t₀ h.derived).len ∙ l

-- what a table of entries of 16 bits can sum up to; one that grows comes nearer to it
abbrev pub most : ℕ → ℕ
most size = 65536 * size

pub nearer : (size : ℕ) (t u : List ℕ) → length u ≡ size → Wide u → grown t u ≡ true → most size - total u < most size - total t
nearer size t u l w g =
    let b = total-le u w in
    let m = grown-true t u g in
    omega arith
