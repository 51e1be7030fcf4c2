-- Brackets counted: those of an event don't nest, and as many are closed as opened.
use Prim.Native.Nat.{ℕ, zero, suc, ◌+◌, ◌<◌, ◌≤◌}
use mathlib.Core.Path.{◌≡◌, refl, sym, ap, subst, ◌∙◌}
use mathlib.Core.Bool.{Bool, true, false}
use mathlib.Core.Option.{some, some-injective}
use mathlib.Core.List.{List, [], ◌∷◌, ◌++◌}
use native.Mathlib.Omega.{arith}
use native.Mathlib.Decide.{dec_lt}
use lib.ListN.{get_elem?}
use borrow.Author.Tests.{ne_eqb}
use Rattle.usage.specs.Past.{add_if}
use Rattle.usage.proofs.Logic.{none-some, by_cases}
use Rattle.sheet_grammar.specs.Tree.{Tree}
use Rattle.sheet_grammar.specs.Grammar.{Label, label, Number, one, two, Atom}
use Rattle.sheet_grammar.specs.Places.{among, opens_bracket, closes_bracket, AfterDigit, Nests}
use Rattle.sheet_grammar.proofs.SliceLaws.{Slice, nil, cons, slice-split, first_byte, last_byte}

-- ── Counting ──

pub add-swap : (x y : Bool) (n : ℕ) → add_if x (add_if y n) ≡ add_if y (add_if x n)
add-swap true true n = refl
add-swap true false n = refl
add-swap false true n = refl
add-swap false false n = refl

pub among-step : (test : ℕ → Bool) (s : List ℕ) (i b : ℕ) → get_elem? s i ≡ some b → among test s (suc i) ≡ add_if (test b) (among test s i)
unfolding among
among-step test [] i b h = none-some h
among-step test (c ∷ s) zero b h = ap (λ (x : ℕ). add_if (test x) 0) (some-injective c b h)
among-step test (c ∷ s) (suc i) b h =
    ap (λ (n : ℕ). add_if (test c) n) (among-step test s i b h) ∙ add-swap (test c) (test b) (among test s i)

-- a byte that is no bracket
pub record Plain (b : ℕ) : Type 0 where
  pub not-opening : opens_bracket b ≡ false
  pub not-closing : closes_bracket b ≡ false

pub plain-digit : {d : ℕ} → d < 10 → Plain (48 + d)
plain-digit {d} l = record {
  not-opening = simp (ne_eqb (48 + d) 40 (omega arith), ne_eqb (48 + d) 123 (omega arith));
  not-closing = simp (ne_eqb (48 + d) 41 (omega arith), ne_eqb (48 + d) 125 (omega arith));
}

-- ── Parts of a text in which no bracket nests ──

module _ (s : List ℕ) where
  -- no bracket from i up to e nests
  abbrev pub Silent : ℕ → ℕ → Type 0
  Silent i e = (j m : ℕ) → i ≤ j → j < e → Nests s j m → ⊥

  pub silent-nil : (i : ℕ) → Silent i i
  silent-nil i j m a b n = let z : ⊥ = omega arith in z

  pub silent-append : {i m e : ℕ} → Silent i m → Silent m e → Silent i e
  silent-append {i} {m} {e} p q j k a b n = go (dec_lt j m)
    where
      go : Dec (j < m) → ⊥
      go (yes l) = p j k a l n
      go (no l) = q j k (omega arith) b n

  pub only : {i j : ℕ} → i ≤ j → j < suc i → i ≡ j
  only a b = omega arith

  pub silent-place : {i : ℕ} → ((m : ℕ) → Nests s i m → ⊥) → Silent i (suc i)
  silent-place f j m a b n = f m (subst (λ (k : ℕ). Nests s k m) (sym (only a b)) n)

  -- a byte that opens nothing
  pub no-nests : {i b : ℕ} → get_elem? s i ≡ some b → (b ≡ 40 → ⊥) → (b ≡ 123 → ⊥) → (m : ℕ) → Nests s i m → ⊥
  no-nests {i} {b} h x y m n = by_cases n.bracket
      (λ p. x (some-injective b 40 (sym h ∙ p.0)))
      (λ p. y (some-injective b 123 (sym h ∙ p)))

  -- as many are opened as closed from i up to e, and none of them nests
  pub record Even (i e : ℕ) : Type 0 where
    pub balance : among opens_bracket s e + among closes_bracket s i ≡ among closes_bracket s e + among opens_bracket s i
    pub silent : Silent i e

  pub even-append : {i m e : ℕ} → Even i m → Even m e → Even i e
  even-append p q =
      record { balance = let x = p.balance in let y = q.balance in omega arith; silent = silent-append p.silent q.silent }

  pub opening-step : (i b : ℕ) → get_elem? s i ≡ some b → (x : Bool) → opens_bracket b ≡ x
      → among opens_bracket s (suc i) ≡ add_if x (among opens_bracket s i)
  opening-step i b h x e = among-step opens_bracket s i b h ∙ ap (λ (t : Bool). add_if t (among opens_bracket s i)) e

  pub closing-step : (i b : ℕ) → get_elem? s i ≡ some b → (x : Bool) → closes_bracket b ≡ x
      → among closes_bracket s (suc i) ≡ add_if x (among closes_bracket s i)
  closing-step i b h x e = among-step closes_bracket s i b h ∙ ap (λ (t : Bool). add_if t (among closes_bracket s i)) e

  pub even-plain : {i b : ℕ} → get_elem? s i ≡ some b → Plain b → (b ≡ 40 → ⊥) → (b ≡ 123 → ⊥) → Even i (suc i)
  even-plain {i} {b} h p x y =
      let f = opening-step i b h false p.not-opening in
      let g = closing-step i b h false p.not-closing in
      record { balance = omega arith; silent = silent-place (no-nests h x y) }

  even-digit : {i d : ℕ} → get_elem? s i ≡ some (48 + d) → d < 10 → Even i (suc i)
  even-digit h l = even-plain h (plain-digit l) (omega arith) (omega arith)

  pub even-label : {w : List ℕ} {i v e : ℕ} → Label w v → Slice s i w e → Even i e
  even-label (label l) (cons h nil) = even-digit h l

  -- a number, and what stands before the place after it
  pub even-number : {w : List ℕ} {i v e : ℕ} → Number w v → Slice s i w e → Even i e × AfterDigit s e
  even-number (one {d} l) (cons {i} h nil) = (even-digit h l, (i, d, refl, l, h))
  even-number (two {d} l m) (cons {i} h (cons g nil)) = (even-append (even-digit h l) (even-digit g m), (suc i, d, refl, m, g))

  -- an event's brackets don't nest
  pub event-nests : {i : ℕ} → get_elem? s i ≡ some 40 → AfterDigit s i → (m : ℕ) → Nests s i m → ⊥
  event-nests {i} h d m n = by_cases n.bracket
      (λ p. p.1 d)
      (λ p. let z : ◌≡◌ {A = ℕ} 40 123 = some-injective 40 123 (sym h ∙ p) in let y : ⊥ = omega arith in y)

  event-even : {i f : ℕ} → get_elem? s i ≡ some 40 → AfterDigit s i → Even (suc i) (suc (suc i)) → Even (suc (suc i)) f
      → get_elem? s f ≡ some 41 → Even i (suc f)
  event-even {i} {f} h d p q g =
      let x = opening-step i 40 h true refl in
      let y = closing-step i 40 h false refl in
      let z = opening-step f 41 g false refl in
      let u = closing-step f 41 g true refl in
      let a = p.balance in
      let b = q.balance in
      record {
        balance = omega arith;
        silent =
            silent-append (silent-place (event-nests h d)) (silent-append p.silent
            (silent-append q.silent (silent-place (no-nests g (omega arith) (omega arith)))));
      }

  whole-event : {v w : List ℕ} {a r at e : ℕ} (c : ℕ) → opens_bracket c ≡ false → closes_bracket c ≡ false → (c ≡ 40 → ⊥) → (c ≡ 123 → ⊥)
      → Number v a → Number w r → Slice s at (v ++ (40 ∷ c ∷ (w ++ (41 ∷ [])))) e → Even at e
  whole-event {v} {w} {at} c x y k l p q r =
      let a = slice-split v _ r in
      let h = first_byte a.right in
      let g = first_byte h.1 in
      let b = slice-split w _ g.1 in
      let f = last_byte b.right in
      let n = even-number p a.left in
      let o = even-number q b.left in
      subst (λ (j : ℕ). Even at j) (sym f.1) (even-append n.0
      (event-even h.0 n.1 (even-plain g.0 (record { not-opening = x; not-closing = y }) k l) o.0 f.0))

  pub even-atom : {w : List ℕ} {t : Tree} {at e : ℕ} → Atom w t → Slice s at w e → Even at e
  even-atom Atom.end (cons h nil) = even-plain h (record { not-opening = refl; not-closing = refl }) (omega arith) (omega arith)
  even-atom (Atom.static_event p q) r = whole-event 115 refl refl (omega arith) (omega arith) p q r
  even-atom (Atom.named_event p q) r = whole-event 110 refl refl (omega arith) (omega arith) p q r
  even-atom (Atom.back p) (cons h r) =
      even-append (even-plain h (record { not-opening = refl; not-closing = refl }) (omega arith) (omega arith)) (even-label p r)
