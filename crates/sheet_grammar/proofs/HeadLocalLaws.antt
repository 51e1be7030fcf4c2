-- The beginning of an item is told by the places up to where it ends or goes wrong: texts that are alike so far have the same.
use Prim.Native.Nat.{ℕ, suc, ◌≤◌}
use mathlib.Core.Path.{◌≡◌, refl, sym}
use mathlib.Core.Bool.{Bool, true, false, cond}
use mathlib.Core.Option.{Option, none, some}
use mathlib.Core.List.{List}
use native.Mathlib.Omega.{arith}
use lib.Dec.{eqb}
use lib.ListN.{get_elem?}
use Rattle.sheet_grammar.specs.Tree.{Tree}
use Rattle.sheet_grammar.specs.Grammar.{Bracket}
use Rattle.sheet_grammar.specs.Places.{Like}
use Rattle.sheet_grammar.specs.Reader.{
  byte_is,
  digit_value,
  Num,
  number,
  missing,
  one_digit,
  two_digits,
  label_at,
  number_at,
  Head,
  atom,
  opens,
  wrong,
  First,
  item_first,
  event_letter,
  curly_head,
  back_head,
  event_end_lem,
  event_from_lem,
  event_head,
  head_by,
  head_at,
}

-- the last place that was looked at
abbrev pub end : Num → ℕ
end (number v e) = e
end (missing i) = i

abbrev pub last : Head → ℕ
last (atom t e) = e
last (opens b i) = i
last (wrong i) = i

-- ── How far it looks ──

module _ (s : List ℕ) where
  label-end : (i : ℕ) → i ≤ end (label_at s i)
  unfolding label_at
  label-end i = go (digit_value (get_elem? s i))
    where
      go : (x : Option ℕ) → i ≤ end (one_digit x i)
      go none = omega arith
      go (some d) = omega arith

  number-end : (i : ℕ) → i ≤ end (number_at s i)
  unfolding number_at
  number-end i = go (digit_value (get_elem? s i)) (digit_value (get_elem? s (suc i)))
    where
      go : (x y : Option ℕ) → i ≤ end (two_digits x y i)
      go none y = omega arith
      go (some d) none = omega arith
      go (some c) (some d) = omega arith

  curly-end : (k : ℕ → Bracket) (m : Num) → end m ≤ last (curly_head s k m)
  curly-end k (missing i) = omega arith
  curly-end k (number v e) = go (byte_is (get_elem? s e) 123)
    where
      go : (t : Bool) → e ≤ last (cond t (opens (k v) e) (wrong e))
      go true = omega arith
      go false = omega arith

  back_end : (m : Num) → end m ≤ last (back_head m)
  back_end (missing i) = omega arith
  back_end (number v e) = omega arith

  event-end-end : (k : ℕ → Tree) (m : Num) → end m ≤ last (event_end_lem s k m)
  event-end-end k (missing i) = omega arith
  event-end-end k (number v e) = go (byte_is (get_elem? s e) 41)
    where
      go : (t : Bool) → e ≤ last (cond t (atom (k v) (suc e)) (wrong e))
      go true = omega arith
      go false = omega arith

  event-from-end : (a e : ℕ) (o : Option (ℕ → ℕ → Tree)) → e ≤ last (event_from_lem s a e o)
  event-from-end a e none = omega arith
  event-from-end a e (some k) = omega (arith, number-end (suc e), event-end-end (k a) (number_at s (suc e)))

  zero-end : (at a e : ℕ) (y z : Bool) → last (cond y (cond z (atom Tree.end e) (wrong e)) (wrong e)) ≡ e
  zero-end at a e true true = refl
  zero-end at a e true false = refl
  zero-end at a e false z = refl

  event-of-end : (at : ℕ) (m : Num) → end m ≤ last (event_head s at m)
  event-of-end at (missing i) = omega arith
  event-of-end at (number a e) = go (byte_is (get_elem? s e) 40)
    where
      go : (t : Bool)
          → e ≤ last (cond t (event_from_lem s a (suc e) (event_letter (get_elem? s (suc e))))
          (cond (eqb e (suc at)) (cond (eqb a 0) (atom Tree.end e) (wrong e)) (wrong e)))
      go true = omega (arith, event-from-end a (suc e) (event_letter (get_elem? s (suc e))))
      go false = omega (arith, zero-end at a e (eqb e (suc at)) (eqb a 0))

  pub head-end : (at : ℕ) → at ≤ last (head_at s at)
  unfolding head_at
  head-end at = go (item_first (get_elem? s at))
    where
      go : (f : First) → at ≤ last (head_by s at f)
      go First.round = omega arith
      go First.loop = omega (arith, label-end (suc at), curly-end (λ l. Bracket.loop l) (label_at s (suc at)))
      go First.fresh = omega (arith, number-end (suc at), curly-end (λ l. Bracket.fresh l) (number_at s (suc at)))
      go First.sandbox = omega (arith, number-end (suc at), curly-end (λ l. Bracket.sandbox l) (number_at s (suc at)))
      go First.back = omega (arith, label-end (suc at), back_end (label_at s (suc at)))
      go First.number = omega (arith, number-end at, event-of-end at (number_at s at))
      go First.nothing = omega arith

-- ── Texts alike up to the place m ──

module _ (s s' : List ℕ) (m : ℕ) (same : Like s s' (suc m)) where
  alike : (i : ℕ) → i ≤ m → get_elem? s' i ≡ get_elem? s i
  alike i l = sym (same i (omega arith))

  label-local : (i : ℕ) → end (label_at s i) ≤ m → label_at s' i ≡ label_at s i
  unfolding label_at
  label-local i l = rw (alike i (omega (arith, label-end s i)))

  number-local : (i : ℕ) → end (number_at s i) ≤ m → number_at s' i ≡ number_at s i
  unfolding number_at
  number-local i l = rw (alike i (omega (arith, number-end s i))) (go (digit_value (get_elem? s i)) (digit_value (get_elem? s (suc i))) refl l)
    where
      go : (x y : Option ℕ) → digit_value (get_elem? s (suc i)) ≡ y → end (two_digits x y i) ≤ m
          → two_digits x (digit_value (get_elem? s' (suc i))) i ≡ two_digits x y i
      go none y e l = refl
      go (some d) none e l = rw (alike (suc i) (omega arith), e)
      go (some c) (some d) e l = rw (alike (suc i) (omega arith), e)

  curly-local : (k : ℕ → Bracket) (n : Num) → last (curly_head s k n) ≤ m → curly_head s' k n ≡ curly_head s k n
  curly-local k (missing i) l = refl
  curly-local k (number v e) l = rw (alike e (omega (arith, curly-end s k (number v e))))

  event-end-local : (k : ℕ → Tree) (n : Num) → last (event_end_lem s k n) ≤ m → event_end_lem s' k n ≡ event_end_lem s k n
  event-end-local k (missing i) l = refl
  event-end-local k (number v e) l = rw (alike e (omega (arith, event-end-end s k (number v e))))

  event-from-local : (a e : ℕ) (o : Option (ℕ → ℕ → Tree)) → last (event_from_lem s a e o) ≤ m → event_from_lem s' a e o ≡ event_from_lem s a e o
  event-from-local a e none l = refl
  event-from-local a e (some k) l =
      rw (number-local (suc e) (omega (arith, event-end-end s (k a) (number_at s (suc e))))) (event-end-local (k a) (number_at s (suc e)) l)

  event-of-local : (at : ℕ) (n : Num) → last (event_head s at n) ≤ m → event_head s' at n ≡ event_head s at n
  event-of-local at (missing i) l = refl
  event-of-local at (number a e) l = rw (alike e (omega (arith, event-of-end s at (number a e)))) (go (byte_is (get_elem? s e) 40) l)
    where
      go : (t : Bool)
          → last (cond t (event_from_lem s a (suc e) (event_letter (get_elem? s (suc e))))
          (cond (eqb e (suc at)) (cond (eqb a 0) (atom Tree.end e) (wrong e)) (wrong e))) ≤ m
          → cond t (event_from_lem s' a (suc e) (event_letter (get_elem? s' (suc e))))
          (cond (eqb e (suc at)) (cond (eqb a 0) (atom Tree.end e) (wrong e)) (wrong e))
          ≡ cond t (event_from_lem s a (suc e) (event_letter (get_elem? s (suc e))))
          (cond (eqb e (suc at)) (cond (eqb a 0) (atom Tree.end e) (wrong e)) (wrong e))
      go true l =
          rw (alike (suc e) (omega (arith, event-from-end s a (suc e) (event_letter (get_elem? s (suc e))))))
          (event-from-local a (suc e) (event_letter (get_elem? s (suc e))) l)
      go false l = refl

  head-by-local : (at : ℕ) (f : First) → last (head_by s at f) ≤ m → head_by s' at f ≡ head_by s at f
  head-by-local at First.round l = refl
  head-by-local at First.loop l =
      rw (label-local (suc at) (omega (arith, curly-end s (λ l. Bracket.loop l) (label_at s (suc at)))))
      (curly-local (λ l. Bracket.loop l) (label_at s (suc at)) l)
  head-by-local at First.fresh l =
      rw (number-local (suc at) (omega (arith, curly-end s (λ l. Bracket.fresh l) (number_at s (suc at)))))
      (curly-local (λ l. Bracket.fresh l) (number_at s (suc at)) l)
  head-by-local at First.sandbox l =
      rw (number-local (suc at) (omega (arith, curly-end s (λ l. Bracket.sandbox l) (number_at s (suc at)))))
      (curly-local (λ l. Bracket.sandbox l) (number_at s (suc at)) l)
  head-by-local at First.back l = rw (label-local (suc at) (omega (arith, back_end s (label_at s (suc at)))))
  head-by-local at First.number l =
      rw (number-local at (omega (arith, event-of-end s at (number_at s at)))) (event-of-local at (number_at s at) l)
  head-by-local at First.nothing l = refl

  pub head-local : (at : ℕ) → last (head_at s at) ≤ m → head_at s' at ≡ head_at s at
  unfolding head_at
  head-local at l = rw (alike at (omega (arith, head-end s at))) (head-by-local at (item_first (get_elem? s at)) l)
