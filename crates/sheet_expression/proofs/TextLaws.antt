-- Laws of a text's places, as the code asks for them.
use Prim.Native.Nat.{ℕ, zero, suc, ◌+◌, ◌*◌, ◌-◌, ◌<◌, ◌≤◌}
use mathlib.Core.Path.{◌≡◌, refl, sym, ap, ◌∙◌}
use mathlib.Core.Bool.{true, false}
use mathlib.Core.Option.{Option, none, some}
use mathlib.Core.List.{List, [], ◌∷◌}
use native.Mathlib.Omega.{arith}
use native.Mathlib.Numerals.{add-one, add-two}
use lib.ListN.{get_elem?, get_or, length}
use borrow.Author.Tests.{lt-ltb, le-ltb, eq-eqb, ne_eqb}
use mathlib.Core.Logic.{inl, inr}
use Rattle.std.specs.Char.{IsNotAsciiDigit}
use Rattle.sheet_grammar.specs.Tree.{Tree}
use Rattle.sheet_grammar.specs.Grammar.{Bracket}
use Rattle.sheet_grammar.specs.Reader.{
  byte_is,
  digit_value,
  number,
  missing,
  label_at,
  number_at,
  atom,
  opens,
  wrong,
  item_first,
  event_letter,
  curly_head,
  back_head,
  event_end_lem,
  event_from_lem,
  event_head,
  head_at,
}
use Rattle.usage.proofs.Logic.{none-some}
use Rattle.sheet_grammar.proofs.ByteLaws.{is_true, digit-byte}
use Rattle.sheet_grammar.proofs.RuleLaws.{in_text}
use Rattle.sheet_grammar.proofs.HeadFoundLaws.{first-digit}

pub here : (s : List ℕ) (i : ℕ) → i < length s → get_elem? s i ≡ some (get_or s i 0)
here [] i l = absurd (let z : ⊥ = omega arith in z)
here (b ∷ s) zero l = refl
here (b ∷ s) (suc i) l = here s i (omega arith)

pub over : (s : List ℕ) (i : ℕ) → length s ≤ i → get_elem? s i ≡ none
over [] i l = refl
over (b ∷ s) zero l = absurd (let z : ⊥ = omega arith in z)
over (b ∷ s) (suc i) l = over s i (omega arith)

-- within a list the default is not read
pub same : {A : Type 0} (xs : List A) (i : ℕ) (d e : A) → i < length xs → get_or xs i d ≡ get_or xs i e
same [] i d e n = absurd (let z : ⊥ = omega arith in z)
same (x ∷ xs) zero d e n = refl
same (x ∷ xs) (suc i) d e n = same xs i d e (omega arith)

-- where a byte, or a digit, is found, the text goes on
pub is-in : (s : List ℕ) (i b : ℕ) → byte_is (get_elem? s i) b ≡ true → i < length s
is-in s i b e = in_text s i b (is_true _ _ e)

pub digit-in : (s : List ℕ) (i d : ℕ) → digit_value (get_elem? s i) ≡ some d → (i < length s) × (d < 10)
digit-in s i d e = let h = digit-byte (get_elem? s i) d e in (in_text s i (48 + d) h.byte, h.small)

-- a digit, or none
module _ (s : List ℕ) (i : ℕ) where
  pub digit-over : length s ≤ i → none ≡ digit_value (get_elem? s i)
  digit-over l = rw (over s i l)

  module _ (b : ℕ) (l : i < length s) (o : b ≡ get_or s i b) where
    e : b ≡ get_or s i 0
    e = o ∙ same s i b 0 l

    pub digit-is : 48 ≤ b → b ≤ 57 → some (b - 48) ≡ digit_value (get_elem? s i)
    digit-is h g = rw (here s i l, ← e, le-ltb b 48 h, lt-ltb b 58 (omega arith))

    pub digit-not : IsNotAsciiDigit b → none ≡ digit_value (get_elem? s i)
    digit-not x =
        elim x [
          | inl h ↦ rw (here s i l, ← e, lt-ltb b 48 h)
          | inr h ↦ rw (here s i l, ← e, le-ltb b 48 (omega arith), le-ltb b 58 (omega arith))
        ]

-- ── Labels and numbers ──

module _ (s : List ℕ) (i : ℕ) where
  pub label-none : digit_value (get_elem? s i) ≡ none → missing i ≡ label_at s i
  unfolding label_at
  label-none e = rw e

  pub label-one : (d : ℕ) → digit_value (get_elem? s i) ≡ some d → number d (i + 1) ≡ label_at s i
  unfolding label_at
  label-one d e = rw (e, add-one i)

  pub number-none : digit_value (get_elem? s i) ≡ none → missing i ≡ number_at s i
  unfolding number_at
  number-none e = rw e

  pub number-one : (d : ℕ) → digit_value (get_elem? s i) ≡ some d → digit_value (get_elem? s (i + 1)) ≡ none → number d (i + 1) ≡ number_at s i
  unfolding number_at
  number-one d e f = rw (e, add-one i, rw (add-one i) at f)

  pub number-two : (c d : ℕ) → digit_value (get_elem? s i) ≡ some c → digit_value (get_elem? s (i + 1)) ≡ some d
      → number (10 * c + d) (i + 2) ≡ number_at s i
  unfolding number_at
  number-two c d e f = rw (e, add-two i, rw (add-one i) at f)

-- ── The beginning of an item ──

module _ (s : List ℕ) where
  -- a curly bracket, or none
  pub curly-yes : (k : ℕ → Bracket) (v e : ℕ) → byte_is (get_elem? s e) 123 ≡ true → opens (k v) e ≡ curly_head s k (number v e)
  curly-yes k v e x = rw x

  pub curly-no : (k : ℕ → Bracket) (v e : ℕ) → byte_is (get_elem? s e) 123 ≡ false → wrong e ≡ curly_head s k (number v e)
  curly-no k v e x = rw x

  -- an event's end
  pub event-end-yes : (k : ℕ → Tree) (v e : ℕ) → byte_is (get_elem? s e) 41 ≡ true → atom (k v) (e + 1) ≡ event_end_lem s k (number v e)
  event-end-yes k v e x = rw (x, add-one e)

  pub event-end-no : (k : ℕ → Tree) (v e : ℕ) → byte_is (get_elem? s e) 41 ≡ false → wrong e ≡ event_end_lem s k (number v e)
  event-end-no k v e x = rw x

  -- a number at the beginning of an item
  pub event-yes : (at v e : ℕ) → byte_is (get_elem? s e) 40 ≡ true
      → event_from_lem s v (e + 1) (event_letter (get_elem? s (e + 1))) ≡ event_head s at (number v e)
  event-yes at v e x = rw (x, add-one e)

  pub event-long : (at v e : ℕ) → byte_is (get_elem? s e) 40 ≡ false → (e ≡ at + 1 → ⊥) → wrong e ≡ event_head s at (number v e)
  event-long at v e x y = rw (x, ne_eqb e (suc at) (λ z. y (z ∙ sym (add-one at))))

  pub event-other : (at v e : ℕ) → byte_is (get_elem? s e) 40 ≡ false → e ≡ at + 1 → (v ≡ 0 → ⊥) → wrong e ≡ event_head s at (number v e)
  event-other at v e x y z = rw (x, eq-eqb e (suc at) (y ∙ add-one at), ne_eqb v 0 z)

  pub event-nought : (at v e : ℕ) → byte_is (get_elem? s e) 40 ≡ false → e ≡ at + 1 → v ≡ 0 → atom Tree.end e ≡ event_head s at (number v e)
  event-nought at v e x y z = rw (x, eq-eqb e (suc at) (y ∙ add-one at), eq-eqb v 0 z)

  -- by the first byte
  pub head-over : (at : ℕ) → length s ≤ at → wrong at ≡ head_at s at
  unfolding head_at item_first
  head-over at l = rw (over s at l)

  pub head-round : (at : ℕ) → at < length s → get_or s at 0 ≡ 40 → opens Bracket.round at ≡ head_at s at
  unfolding head_at item_first
  head-round at l e = rw (here s at l, e)

  pub head-loop : (at : ℕ) → at < length s → get_or s at 0 ≡ 109 → curly_head s (λ l. Bracket.loop l) (label_at s (at + 1)) ≡ head_at s at
  unfolding head_at item_first
  head-loop at l e = rw (here s at l, e, add-one at)

  pub head-fresh : (at : ℕ) → at < length s → get_or s at 0 ≡ 102 → curly_head s (λ l. Bracket.fresh l) (number_at s (at + 1)) ≡ head_at s at
  unfolding head_at item_first
  head-fresh at l e = rw (here s at l, e, add-one at)

  pub head-sandbox : (at : ℕ) → at < length s → get_or s at 0 ≡ 112 → curly_head s (λ l. Bracket.sandbox l) (number_at s (at + 1)) ≡ head_at s at
  unfolding head_at item_first
  head-sandbox at l e = rw (here s at l, e, add-one at)

  pub head-back : (at : ℕ) → at < length s → get_or s at 0 ≡ 104 → back_head (label_at s (at + 1)) ≡ head_at s at
  unfolding head_at item_first
  head-back at l e = rw (here s at l, e, add-one at)

  pub head-number : (at : ℕ) → at < length s → 48 ≤ get_or s at 0 → get_or s at 0 < 58 → event_head s at (number_at s at) ≡ head_at s at
  unfolding head_at
  head-number at l h g =
      let z : get_or s at 0 ≡ 48 + (get_or s at 0 - 48) = omega arith in
      rw (here s at l ∙ ap some z, first-digit (let y : get_or s at 0 - 48 < 10 = omega arith in y))

  -- none of them
  pub head-other : (at : ℕ) → at < length s → (get_or s at 0 ≡ 40 → ⊥) → (get_or s at 0 ≡ 109 → ⊥) → (get_or s at 0 ≡ 102 → ⊥)
      → (get_or s at 0 ≡ 112 → ⊥) → (get_or s at 0 ≡ 104 → ⊥) → digit_value (some (get_or s at 0)) ≡ none → wrong at ≡ head_at s at
  unfolding head_at item_first
  head-other at l a b c d e x =
      rw (
        here s at l,
        ne_eqb (get_or s at 0) 40 a,
        ne_eqb (get_or s at 0) 109 b,
        ne_eqb (get_or s at 0) 102 c,
        ne_eqb (get_or s at 0) 112 d,
        ne_eqb
            (get_or s at 0) 104 e,
        x,
      )

  pub low_digit : (b : ℕ) → b < 48 → digit_value (some b) ≡ none
  low_digit b h = rw (lt-ltb b 48 h)

  pub high_digit : (b : ℕ) → 58 ≤ b → digit_value (some b) ≡ none
  high_digit b h = rw (le-ltb b 48 (omega arith), le-ltb b 58 h)

-- ── Letters ──

module _ (s : List ℕ) (i : ℕ) where
  pub letter-in : (k : ℕ → ℕ → Tree) → event_letter (get_elem? s i) ≡ some k → i < length s
  letter-in k e = go (get_elem? s i) refl e
    where
      go : (o : Option ℕ) → get_elem? s i ≡ o → event_letter o ≡ some k → i < length s
      go none p q = none-some q
      go (some b) p q = in_text s i b p

  pub from-none : (a : ℕ) → event_letter (get_elem? s i) ≡ none → wrong i ≡ event_from_lem s a i (event_letter (get_elem? s i))
  from-none a e = rw e

  pub from_some : (a : ℕ) (k : ℕ → ℕ → Tree) → event_letter (get_elem? s i) ≡ some k
      → event_end_lem s (k a) (number_at s (i + 1)) ≡ event_from_lem s a i (event_letter (get_elem? s i))
  from_some a k e = rw (e, add-one i)
