-- The laws of the sets that the check has, as bit masks.
use Prim.Native.Nat.{ℕ, zero, suc, ◌+◌, ◌*◌, ◌-◌, ◌/◌, ◌%◌, ◌^◌, ◌<◌}
use mathlib.Core.Path.{◌≡◌, refl, sym, ap, ◌∙◌, subst}
use mathlib.Core.Bool.{Bool, true, false, ◌||◌, cond}
use mathlib.Core.Logic.{◌⊎◌, inl, inr}
use native.Mathlib.Nat.{div-div-eq-div-mul}
use native.Mathlib.Numerals.{add-one}
use native.Mathlib.Omega.{arith}
use lib.Dec.{eqb}
use lib.Bits.{bit_or, bit_and, or_zero_r, and_mask}
use lib.Pow.{pow-add, field, mod-mod-pow}
use borrow.Author.Tests.{eq-eqb, ne_eqb, eqb-true}
use Rattle.usage.specs.Limits.{states}
use Rattle.usage.specs.Policy.{Offending}
use Rattle.usage.specs.Tests.{some_below}
use Rattle.usage.proofs.Logic.{not-both, or_left, or_right, or_cases}
use Rattle.automaton.specs.Mask.{has, union, offends}
use Rattle.automaton.proofs.MaskLaws.{all-below, all-below-at, some_at, some-found, has-or, has-zero, has-pow, has-offending, union-has}
use Rattle.checker_account.specs.Tables.{at, half, made, kept, kept_in, meaning_in, is_late_lem, over, restarted}

-- ── Members of unions ──

pub has_left : (a b q : ℕ) → has a q ≡ true → has (bit_or a b) q ≡ true
has_left a b q h = has-or a b q ∙ or_left (has a q) (has b q) h

pub has_right : (a b q : ℕ) → has b q ≡ true → has (bit_or a b) q ≡ true
has_right a b q h = has-or a b q ∙ or_right (has a q) (has b q) h

pub has_either : (a b q : ℕ) → has (bit_or a b) q ≡ true → (has a q ≡ true) ⊎ (has b q ≡ true)
has_either a b q h = or_cases (has a q) (has b q) (sym (has-or a b q) ∙ h)

-- nothing is in the empty set
pub has_none : {A : Type 0} (q : ℕ) → has 0 q ≡ true → A
has_none q h = not-both (has 0 q) h (has-zero q)

-- a set that is told to be there or not
pub has-if : (b : Bool) (v q : ℕ) → has (cond b v 0) q ≡ true → (b ≡ true) × (has v q ≡ true)
has-if true v q h = (refl, h)
has-if false v q h = has_none q h

pub has-unless : (b : Bool) (v q : ℕ) → has (cond b 0 v) q ≡ true → (b ≡ false) × (has v q ≡ true)
has-unless true v q h = has_none q h
has-unless false v q h = (refl, h)

pub has-where : (b : Bool) (v q : ℕ) → b ≡ true → has v q ≡ true → has (cond b v 0) q ≡ true
has-where b v q e h = ap (λ (b : Bool). has (cond b v 0) q) e ∙ h

pub has-where-not : (b : Bool) (v q : ℕ) → b ≡ false → has v q ≡ true → has (cond b 0 v) q ≡ true
has-where-not b v q e h = ap (λ (b : Bool). has (cond b 0 v) q) e ∙ h

-- a member of the union over a set comes from a member of the set
pub over-found : (f : ℕ → ℕ) (m d : ℕ) → has (over f m) d ≡ true → (q : ℕ) × (q < states) × (has m q ≡ true) × (has (f q) d ≡ true)
unfolding over
over-found f m d h =
    let r = some-found states _ (sym (union-has states (λ q. cond (has m q) (f q) 0) d) ∙ h) in go r.0 r.1 (has m r.0) refl r.2
  where
    go : (q : ℕ) → q < states → (b : Bool) → has m q ≡ b → has (cond b (f q) 0) d ≡ true
        → (q : ℕ) × (q < states) × (has m q ≡ true) × (has (f q) d ≡ true)
    go q l true b h = (q, l, b, h)
    go q l false b h = has_none d h

pub over-at : (f : ℕ → ℕ) (m d q : ℕ) → q < states → has m q ≡ true → has (f q) d ≡ true → has (over f m) d ≡ true
unfolding over
over-at f m d q l h g =
    union-has states (λ q. cond (has m q) (f q) 0) d
    ∙ some_at states (λ q. has (cond (has m q) (f q) 0) d) q l (ap (λ (b : Bool). has (cond b (f q) 0) d) h ∙ g)

-- one more turn of the loop that gathers the union, by the code's test
module _ (f : ℕ → ℕ) (v q : ℕ) where
  abbrev part : ℕ → ℕ
  part j = cond (has v j) (f j) 0

  pub test_in : bit_and (v / 2 ^ q) 1 ≡ 1 → has v q ≡ true
  unfolding has
  test_in h = eq-eqb (v / 2 ^ q % 2) 1 (sym (and_mask (v / 2 ^ q) 1) ∙ h)

  pub test-out : (bit_and (v / 2 ^ q) 1 ≡ 1 → ⊥) → has v q ≡ false
  unfolding has
  test-out h = ne_eqb (v / 2 ^ q % 2) 1 (λ e. h (and_mask (v / 2 ^ q) 1 ∙ e))

  pub over-in : bit_and (v / 2 ^ q) 1 ≡ 1 → bit_or (union q part) (f q) ≡ union (q + 1) part
  unfolding union
  over-in h = rw (add-one q) (ap (λ (b : Bool). bit_or (union q part) (cond b (f q) 0)) (sym (test_in h)))

  pub over-out : (bit_and (v / 2 ^ q) 1 ≡ 1 → ⊥) → union q part ≡ union (q + 1) part
  unfolding union
  over-out h = rw (add-one q) (sym (or_zero_r (union q part)) ∙ ap (λ (b : Bool). bit_or (union q part) (cond b (f q) 0)) (sym (test-out h)))

-- ── The two halves of a set of ends ──

low_bit : (x q : ℕ) → q < states → has (x % 256) q ≡ has x q
unfolding has
low_bit x q h =
    let e : (8 - (1 + q)) + (1 + q) ≡ 8 = omega arith in
    ap (λ (n : ℕ). eqb n 1)
    (sym (field (x % 2 ^ 8) 1 q)
    ∙ ap (λ (n : ℕ). n / 2 ^ q) (subst (λ (m : ℕ). x % 2 ^ m % 2 ^ (1 + q) ≡ x % 2 ^ (1 + q)) e (mod-mod-pow x (8 - (1 + q)) (1 + q)))
    ∙ field x 1 q)

high_bit : (x q : ℕ) → has x (8 + q) ≡ has (x / 256) q
unfolding has
high_bit x q = ap (λ (n : ℕ). eqb (n % 2) 1) (ap (λ (n : ℕ). x / n) (pow-add 2 8 q) ∙ sym (div-div-eq-div-mul x 256 (2 ^ q)))

pub has-half : (c : Bool) (v q : ℕ) → q < states → has v (at c q) ≡ has (half c v) q
has-half false v q h = sym (low_bit v q h)
has-half true v q h = high_bit v q

module _ (v : ℕ) where
  low-none : v % 256 / 256 ≡ 0
  low-none = omega arith

  high-none : v % 256 * 256 % 256 ≡ 0
  high-none = omega arith

  high-all : v % 256 * 256 / 256 ≡ v % 256
  high-all = omega arith

  -- the ends with the states of v and x as it was
  pub kept-found : (m : ℕ) (c : Bool) (q : ℕ) → q < states → has (kept m v) (at c q) ≡ true → (made m ≡ c) × (has v q ≡ true)
  kept-found zero false q l h = (refl, sym (low_bit v q l) ∙ h)
  kept-found zero true q l h = has_none q (ap (λ (n : ℕ). has n q) (sym low-none) ∙ sym (has-half true (v % 256) q l) ∙ h)
  kept-found (suc m) false q l h = has_none q (ap (λ (n : ℕ). has n q) (sym high-none) ∙ sym (has-half false (v % 256 * 256) q l) ∙ h)
  kept-found (suc m) true q l h =
      (refl, sym (low_bit v q l) ∙ ap (λ (n : ℕ). has n q) (sym high-all) ∙ sym (has-half true (v % 256 * 256) q l) ∙ h)

  pub kept_at : (m q : ℕ) → q < states → has v q ≡ true → has (kept m v) (at (made m) q) ≡ true
  kept_at zero q l h = low_bit v q l ∙ h
  kept_at (suc m) q l h = has-half true (v % 256 * 256) q l ∙ ap (λ (n : ℕ). has n q) high-all ∙ low_bit v q l ∙ h

-- by an entry in which 17 is made there is no end
pub kept-in-found : (e v : ℕ) (h : Bool) (q : ℕ) → q < states → has (kept_in e v) (at h q) ≡ true
    → ((made (meaning_in e) ≡ h) × (is_late_lem e ≡ false)) × (has v q ≡ true)
unfolding kept_in
kept-in-found e v h q l s =
    let (late, r) = has-unless (is_late_lem e) (kept (meaning_in e) v) (at h q) s in
    let (m, k) = kept-found v (meaning_in e) h q l r in
    ((m, late), k)

pub kept-in-at : (e v : ℕ) (h : Bool) (q : ℕ) → q < states → (made (meaning_in e) ≡ h) × (is_late_lem e ≡ false) → has v q ≡ true
    → has (kept_in e v) (at h q) ≡ true
unfolding kept_in
kept-in-at e v h q l (m, late) s =
    ap (λ (b : Bool). has (cond b 0 (kept (meaning_in e) v)) (at h q)) late
    ∙ subst (λ (d : Bool). has (kept (meaning_in e) v) (at d q) ≡ true) m (kept_at v (meaning_in e) q l s)

-- ── Offending states ──

-- 6 or 7 is among the states of a set of ends
pub offends-has : (v : ℕ) → offends (half false v) ≡ true → (q : ℕ) × Offending q × (has v q ≡ true)
offends-has v h = go (or_cases (has (v % 256) 6) (has (v % 256) 7) (sym (has-offending (v % 256) (omega arith)) ∙ h))
  where
    go : (has (v % 256) 6 ≡ true) ⊎ (has (v % 256) 7 ≡ true) → (q : ℕ) × Offending q × (has v q ≡ true)
    go (inl e) = (6, inl refl, sym (low_bit v 6 (omega arith)) ∙ e)
    go (inr e) = (7, inr refl, sym (low_bit v 7 (omega arith)) ∙ e)

pub has-offends : (v q : ℕ) → Offending q → has v q ≡ true → offends (half false v) ≡ true
has-offends v q (inl e) h = has-offending (v % 256) (omega arith)
    ∙ or_left (has (v % 256) 6) (has (v % 256) 7) (low_bit v 6 (omega arith) ∙ ap (has v) (sym e) ∙ h)
has-offends v q (inr e) h = has-offending (v % 256) (omega arith)
    ∙ or_right (has (v % 256) 6) (has (v % 256) 7) (low_bit v 7 (omega arith) ∙ ap (has v) (sym e) ∙ h)

-- ── Sets after an opening ──

some-test : all-below 256 (λ w. eqb w 0 || some_below (has w) states) ≡ true
unfolding all-below some_below has
some-test = refl

-- a set of states that is not empty has one
some-state : (v : ℕ) → eqb (v % 256) 0 ≡ false → (q : ℕ) × (q < states) × (has v q ≡ true)
some-state v e =
    let w = v % 256 in
    let t = all-below-at 256 (λ w. eqb w 0 || some_below (has w) states) some-test w (omega arith) in
    let (q, l, h) = some-found states (has w) (ap (λ (b : Bool). b || some_below (has w) states) (sym e) ∙ t) in
    (q, l, sym (low_bit v q l) ∙ h)

empty-none : (v q : ℕ) → q < states → v % 256 ≡ 0 → has v q ≡ false
empty-none v q l e = sym (low_bit v q l) ∙ ap (λ (w : ℕ). has w q) e ∙ has-zero q

pub restarted-found : (reset : Bool) (v q : ℕ) → q < states → has (restarted reset v) q ≡ true
    → (j : ℕ) × (j < states) × (has v j ≡ true) × (cond reset 0 j ≡ q)
restarted-found false v q l h = (q, l, h, refl)
restarted-found true v q l h = go (eqb (v % 256) 0) refl h
  where
    go : (b : Bool) → eqb (v % 256) 0 ≡ b → has (cond b 0 1) q ≡ true → (j : ℕ) × (j < states) × (has v j ≡ true) × (0 ≡ q)
    go true e g = has_none q g
    go false e g = let (j, lj, hj) = some-state v e in (j, lj, hj, eqb-true 0 q (sym (has-pow 0 q (omega arith) l) ∙ g))

pub restarted-at : (reset : Bool) (v j : ℕ) → j < states → has v j ≡ true → has (restarted reset v) (cond reset 0 j) ≡ true
restarted-at false v j l h = h
restarted-at true v j l h = go (eqb (v % 256) 0) refl
  where
    go : (b : Bool) → eqb (v % 256) 0 ≡ b → has (cond b 0 1) 0 ≡ true
    go true e = not-both (has v j) h (empty-none v j l (eqb-true (v % 256) 0 e))
    go false e = has-pow 0 0 (omega arith) (omega arith)

pub restarted-none : (reset : Bool) → restarted reset 0 ≡ 0
restarted-none true = refl
restarted-none false = refl
