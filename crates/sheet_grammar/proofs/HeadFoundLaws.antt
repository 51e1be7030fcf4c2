-- The beginning of an item: `head_at` finds what is there, and looks no further than it has to.
use Prim.Native.Nat.{ℕ, suc, ◌+◌, ◌<◌}
use mathlib.Core.Path.{◌≡◌, refl, ap}
use mathlib.Core.Bool.{false}
use mathlib.Core.Option.{Option, none, some}
use mathlib.Core.List.{List, [], ◌∷◌, ◌++◌}
use native.Mathlib.Omega.{arith}
use lib.ListN.{get_elem?}
use borrow.Author.Tests.{eq-eqb, ne_eqb}
use Rattle.sheet_grammar.specs.Tree.{Tree}
use Rattle.sheet_grammar.specs.Grammar.{Label, label, Number, one, two, Atom, Bracket, Opener}
use Rattle.sheet_grammar.specs.Reader.{
  byte_is,
  digit_value,
  Num,
  number,
  label_at,
  number_at,
  Head,
  opens,
  First,
  item_first,
  event_letter,
  curly_head,
  head_at,
}
use Rattle.sheet_grammar.proofs.SliceLaws.{Slice, nil, cons, slice-split, last_byte}
use Rattle.sheet_grammar.proofs.ByteLaws.{digit-of}
use Rattle.sheet_grammar.proofs.HeadLaws.{nought}

-- ── What is there is found ──

pub label-found : {s w : List ℕ} {i v e : ℕ} → Label w v → Slice s i w e → label_at s i ≡ number v e
unfolding label_at
label-found (label l) (cons h nil) = rw (h, digit-of l)

-- a number ends where no digit follows
pub number-found : {s w : List ℕ} {i v e : ℕ} → Number w v → Slice s i w e → digit_value (get_elem? s e) ≡ none → number_at s i ≡ number v e
unfolding number_at
number-found (one l) (cons h nil) x = rw (h, digit-of l, x)
number-found (two l m) (cons h (cons g nil)) x = rw (h, g, digit-of l, digit-of m)

-- an item that begins with a digit
pub first-digit : {d : ℕ} → d < 10 → item_first (some (48 + d)) ≡ First.number
unfolding item_first
first-digit {d} l =
    simp (
      ne_eqb (48 + d) 40 (omega arith),
      ne_eqb (48 + d) 109 (omega arith),
      ne_eqb (48 + d) 102 (omega arith),
      ne_eqb (48 + d) 112
          (omega arith),
      ne_eqb (48 + d) 104 (omega arith),
      digit-of l,
    )

pub first-number : {s w : List ℕ} {i v e : ℕ} → Number w v → Slice s i w e → item_first (get_elem? s i) ≡ First.number
first-number (one l) (cons h nil) = rw h (first-digit l)
first-number (two l m) (cons h (cons g nil)) = rw h (first-digit l)

-- what follows an item is no digit and no opening round bracket
pub record Stops (o : Option ℕ) : Type 0 where
  pub no_digit : digit_value o ≡ none
  pub no-round : byte_is o 40 ≡ false

module _ {s : List ℕ} {at : ℕ} where
  event-found : (c : ℕ) (k : ℕ → ℕ → Tree) → event_letter (some c) ≡ some k → {v w : List ℕ} {a r e : ℕ} → Number v a → Number w r
      → Slice s at (v ++ (40 ∷ c ∷ (w ++ (41 ∷ [])))) e → head_at s at ≡ Head.atom (k a r) e
  unfolding head_at
  event-found c k x {v} {w} {a} {r} {e} p q l = go (slice-split v _ l).middle (slice-split v _ l).left (slice-split v _ l).right
    where
      go : (m : ℕ) → Slice s at v m → Slice s m (40 ∷ c ∷ (w ++ (41 ∷ []))) e → head_at s at ≡ Head.atom (k a r) e
      go m y (cons h (cons g z)) = on (slice-split w _ z).middle (slice-split w _ z).left e (slice-split w _ z).right
        where
          on : (f : ℕ) → Slice s (suc (suc m)) w f → (d : ℕ) → Slice s f (41 ∷ []) d → head_at s at ≡ Head.atom (k a r) d
          on f u d (cons i nil) = rw (first-number p y, number-found p y (rw h), h, g, x, number-found q u (rw i), i)

  pub atom-found : {w : List ℕ} {t : Tree} {e : ℕ} → Atom w t → Slice s at w e → Stops (get_elem? s e) → head_at s at ≡ Head.atom t e
  unfolding head_at item_first
  atom-found Atom.end (cons h nil) x = rw (h, number-found nought (cons h nil) x.no_digit, x.no-round, eq-eqb (suc at) (suc at) refl)
  atom-found (Atom.static_event p q) l x = event-found 115 (λ a r. Tree.static_event a r) refl p q l
  atom-found (Atom.named_event p q) l x = event-found 110 (λ a n. Tree.named_event a n) refl p q l
  atom-found (Atom.back p) (cons h l) x = rw (h, label-found p l)

  curly-found : (c : ℕ) (k : ℕ → Bracket) (v : List ℕ) (x i e : ℕ) (m : Num)
      → ((j : ℕ) → Slice s (suc at) v j → get_elem? s j ≡ some 123 → m ≡ number x j) → Slice s (suc at) (v ++ (123 ∷ [])) e → e ≡ suc i
      → curly_head s k m ≡ opens (k x) i
  curly-found c k v x i e m f l y =
      let u = slice-split v _ l in
      let b = last_byte u.right in
      let z : u.middle ≡ i = omega arith in
      rw (f u.middle u.left b.0, b.0, z)

  pub opener-found : {w : List ℕ} {b : Bracket} {e i : ℕ} → Opener w b → Slice s at w e → e ≡ suc i → head_at s at ≡ opens b i
  unfolding head_at item_first
  opener-found {i} Opener.round (cons h nil) y = rw h (ap (λ (j : ℕ). opens Bracket.round j) (let z : at ≡ i = omega arith in z))
  opener-found (Opener.loop {v} {l} p) (cons h q) y =
      rw h (curly-found 109 (λ l. Bracket.loop l) v l _ _ (label_at s (suc at)) (λ j sl g. label-found p sl) q y)
  opener-found (Opener.fresh {v} {n} p) (cons h q) y =
      rw h (curly-found 102 (λ l. Bracket.fresh l) v n _ _ (number_at s (suc at)) (λ j sl g. number-found p sl (rw g)) q y)
  opener-found (Opener.sandbox {v} {p = r} p) (cons h q) y =
      rw h (curly-found 112 (λ l. Bracket.sandbox l) v r _ _ (number_at s (suc at)) (λ j sl g. number-found p sl (rw g)) q y)
