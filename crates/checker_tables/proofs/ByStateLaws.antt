-- Eight sets at once: filled one after the other, and the unions over them.
use Prim.Native.Nat.{ℕ, zero, suc, ◌+◌, ◌%◌, ◌^◌, ◌<◌, ◌≤◌}
use mathlib.Core.Path.{◌≡◌, refl, sym, ap, ap₂, ◌∙◌, subst}
use mathlib.Core.Bool.{Bool, true, false, ◌||◌, cond}
use mathlib.Core.List.{List, [], ◌∷◌}
use native.Mathlib.Nat.{not-suc-le-zero}
use native.Mathlib.Numerals.{add-one}
use native.Mathlib.Omega.{arith}
use lib.Bits.{bit_or, or_self, or_comm, or_zero_l, or_zero_r}
use lib.ListN.{length, get_or, set, length-set}
use lib.Seq.{get_or-set_same, get_or-set_other}
use borrow.Author.Count.{below_more}
use Rattle.usage.specs.Limits.{states}
use Rattle.automaton.specs.Mask.{has, union}
use Rattle.automaton.proofs.MaskLaws.{has-or, or_assoc}
use Rattle.checker_account.specs.Tables.{over}
use Rattle.checker_account.proofs.MaskLaws.{has-half}
use Rattle.checker_tables.specs.ByState.{ByState}

-- ── Filled one after the other ──

module _ (f : ℕ → ℕ) where
  pub by-none : (l : List ℕ) → length l ≡ states → ByState 0 f l
  by-none l e = record { len = e; held = λ q h. absurd (not-suc-le-zero h) }

  pub by-more : (i : ℕ) (l : List ℕ) (v : ℕ) → i < states → v ≡ f i → ByState i f l → ByState (i + 1) f (set l i v)
  by-more i l v h e s = record {
    len = length-set l i v ∙ s.len;
    held =
        below_more (λ (q : ℕ). get_or (set l i v) q 0 ≡ f q) i
        (λ q b. get_or-set_other l i q v 0 (λ d. absurd (apart q b d)) ∙ s.held q b)
        (get_or-set_same l i v 0 (omega (arith, s.len)) ∙ e);
  }
    where
      apart : (q : ℕ) → q < i → q ≡ i → ⊥
      apart q b d = omega arith

  pub by_as : (g : ℕ → ℕ) (l : List ℕ) → ByState states g l → ((q : ℕ) → q < states → g q ≡ f q) → ByState states f l
  by_as g l s h = record { len = s.len; held = λ q b. s.held q b ∙ h q b }

-- ── Replaced one after the other ──

-- l: the sets v, the first i of them replaced by f 0, f 1, …
pub record InPlace (f : ℕ → ℕ) (v : List ℕ) (i : ℕ) (l : List ℕ) : Type 0 where
  pub made : ByState i f l
  pub left : (q : ℕ) → i ≤ q → get_or l q 0 ≡ get_or v q 0

module _ (f : ℕ → ℕ) (v : List ℕ) where
  pub place_none : length v ≡ states → InPlace f v 0 v
  place_none e = record { made = by-none f v e; left = λ q h. refl }

  pub place-more : (i : ℕ) (l : List ℕ) (w : ℕ) → i < states → w ≡ f i → InPlace f v i l → InPlace f v (i + 1) (set l i w)
  place-more i l w h e s = record {
    made = by-more f i l w h e s.made;
    left = λ q b. get_or-set_other l i q w 0 (λ d. absurd (apart q b d)) ∙ s.left q (omega arith);
  }
    where
      apart : (q : ℕ) → i + 1 ≤ q → q ≡ i → ⊥
      apart q b d = omega arith

  pub place-all : (i : ℕ) (l : List ℕ) → i ≡ states → InPlace f v i l → ByState states f l
  place-all i l e s = subst (λ (n : ℕ). ByState n f l) e s.made

-- the state q alone
pub singles : (q : ℕ) → q < states → get_or (1 ∷ 2 ∷ 4 ∷ 8 ∷ 16 ∷ 32 ∷ 64 ∷ 128 ∷ []) q 0 ≡ 2 ^ q
singles zero h = refl
singles (suc zero) h = refl
singles (suc (suc zero)) h = refl
singles (suc (suc (suc zero))) h = refl
singles (suc (suc (suc (suc zero)))) h = refl
singles (suc (suc (suc (suc (suc zero))))) h = refl
singles (suc (suc (suc (suc (suc (suc zero)))))) h = refl
singles (suc (suc (suc (suc (suc (suc (suc zero))))))) h = refl
singles (suc (suc (suc (suc (suc (suc (suc (suc q)))))))) h = absurd (omega arith)

-- ── Unions: one more set, over two sets, and over the halves of one ──

pub union_more : (f : ℕ → ℕ) (n : ℕ) → bit_or (union n f) (f n) ≡ union (n + 1) f
unfolding union
union_more f n = rw (add-one n) refl

cond-or : (a b : Bool) (v : ℕ) → cond (a || b) v 0 ≡ bit_or (cond a v 0) (cond b v 0)
cond-or true true v = sym (or_self v)
cond-or true false v = sym (or_zero_r v)
cond-or false true v = sym (or_zero_l v)
cond-or false false v = sym (or_zero_l 0)

exchange : (a b c d : ℕ) → bit_or (bit_or a b) (bit_or c d) ≡ bit_or (bit_or a c) (bit_or b d)
exchange a b c d =
    or_assoc a b (bit_or c d)
    ∙ ap (bit_or a) (sym (or_assoc b c d) ∙ ap (λ (n : ℕ). bit_or n d) (or_comm b c) ∙ or_assoc c b d)
    ∙ sym (or_assoc a c (bit_or b d))

union-or : (f : ℕ → ℕ) (v w n : ℕ) → union n (λ q. cond (has (bit_or v w) q) (f q) 0)
    ≡ bit_or (union n (λ q. cond (has v q) (f q) 0)) (union n (λ q. cond (has w q) (f q) 0))
unfolding union
union-or f v w zero = sym (or_zero_l 0)
union-or f v w (suc n) =
    ap₂ (λ (a b : ℕ). bit_or a b) (union-or f v w n) (ap (λ (b : Bool). cond b (f n) 0) (has-or v w n) ∙ cond-or (has v n) (has w n) (f n))
    ∙ exchange (union n (λ q. cond (has v q) (f q) 0)) (union n (λ q. cond (has w q) (f q) 0)) (cond (has v n) (f n) 0)
    (cond (has w n) (f n) 0)

pub over-or : (f : ℕ → ℕ) (v w : ℕ) → over f (bit_or v w) ≡ bit_or (over f v) (over f w)
unfolding over
over-or f v w = union-or f v w states

union-low : (f : ℕ → ℕ) (v n : ℕ) → n ≤ states → union n (λ q. cond (has v q) (f q) 0) ≡ union n (λ q. cond (has (v % 256) q) (f q) 0)
unfolding union
union-low f v zero h = refl
union-low f v (suc n) h =
    ap₂ (λ (a b : ℕ). bit_or a b) (union-low f v n (omega arith)) (ap (λ (b : Bool). cond b (f n) 0) (has-half false v n (omega arith)))

pub over-low : (f : ℕ → ℕ) (v : ℕ) → over f v ≡ over f (v % 256)
unfolding over
over-low f v = union-low f v states (omega arith)
