-- The judge's set of broken policies is that of the open policies that the past does not respect.
use Prim.Native.Nat.{ℕ, ◌<◌, ◌≤◌}
use mathlib.Core.Path.{◌≡◌, refl, sym, ap, ◌∙◌, subst}
use mathlib.Core.Bool.{Bool, true, false, ◌&&◌, ◌||◌}
use mathlib.Core.List.{List}
use mathlib.Core.Logic.{◌⊎◌, inl, inr, ◌↔◌}
use native.Mathlib.Omega.{arith}
use lib.Dec.{eqb, ltb, lit<}
use lib.ListN.{get_or-eq_default}
use borrow.Author.Tests.{eqb-true, lt-ltb, ltb-true, ltb-false}
use Rattle.usage.specs.declared.Edge.{Edge}
use Rattle.usage.specs.Limits.{policies}
use Rattle.usage.specs.Policy.{Offending, EdgesOk}
use Rattle.usage.specs.Past.{Past, Broken, Open, Violates}
use Rattle.usage.specs.Placed.{At}
use Rattle.usage.proofs.Logic.{not-both, or_left, or_right, or_cases, and_left, and_right, and_both}
use Rattle.usage.proofs.PlacedLaws.{broken-placed}
use Rattle.automaton.specs.Mask.{has, offends, lowest_in}
use Rattle.automaton.proofs.MaskLaws.{has-zero, has-offending, mask_of-has, mask_of-lt, lowest-is}
use Rattle.automaton.proofs.MoveLaws.{ends_of}
use Rattle.monitor_state.specs.declared.State.{State}
use Rattle.monitor_state.specs.Judge.{openings_of, possible_in, broken}
use Rattle.monitor_state.specs.Represents.{Stands, Represents}
use Rattle.monitor_state.proofs.StartLaws.{may-lt}
use Rattle.monitor_state.proofs.StandsLaws.{somewhere}
use Rattle.monitor_state.proofs.UnclosedLaws.{open-count-pos, count-pos-open}

-- the set of broken policies is a byte, from every state at all
pub broken-lt : (s : State) → broken s < 256
unfolding broken
broken-lt s = mask_of-lt (λ p. ltb 0 (openings_of s.unclosed p) && offends (possible_in s.tracked p))

module _ (local : Bool) (es : List Edge) (past : Past) (h : Bool) (s : State) (R : Represents local es past h s) where
  -- an offending state is among the possible ones exactly where some instance, wherever it stands, may be in it
  placed : (p : ℕ) → Broken local es p past
      ↔ ((places : List ℕ) × (q : ℕ) × At local es p (Stands past s.created) past places q × Offending q)
  placed p = broken-placed local es p (Stands past s.created) (somewhere past s.created R.created) past

  pub offends-broken : EdgesOk es → (p : ℕ) → p < policies → offends (possible_in s.tracked p) ≡ true → Broken local es p past
  offends-broken v p k o =
      (placed p).1 (go (or_cases (has m 6) (has m 7) (sym (has-offending m (R.tracked.possible_bytes p)) ∙ o)))
    where
      m : ℕ
      m = possible_in s.tracked p

      go : (has m 6 ≡ true) ⊎ (has m 7 ≡ true)
          → (places : List ℕ) × (q : ℕ) × At local es p (Stands past s.created) past places q × Offending q
      go (inl e) = let (places, y) = (R.tracked.gathers p 6 k (lit< tt)).0 e in (places, 6, y, inl refl)
      go (inr e) = let (places, y) = (R.tracked.gathers p 7 k (lit< tt)).0 e in (places, 7, y, inr refl)

  broken-offends : EdgesOk es → (p : ℕ) → p < policies → Broken local es p past → offends (possible_in s.tracked p) ≡ true
  broken-offends v p k b = let (places, q, y, o) = (placed p).0 b in offends-at places q y o
    where
      m : ℕ
      m = possible_in s.tracked p

      go : {q : ℕ} → has m q ≡ true → Offending q → (has m 6 || has m 7) ≡ true
      go e (inl o) = or_left (has m 6) (has m 7) (ap (has m) (sym o) ∙ e)
      go e (inr o) = or_right (has m 6) (has m 7) (ap (has m) (sym o) ∙ e)

      offends-at : (places : List ℕ) (q : ℕ) → At local es p (Stands past s.created) past places q → Offending q → offends m ≡ true
      offends-at places q y o =
          has-offending m (R.tracked.possible_bytes p)
          ∙ go ((R.tracked.gathers p q k (may-lt (ends_of v) y.may)).1 (places, y)) o

  -- only policies 0 to 7 can be open
  open-lt : (p : ℕ) → Open p past → p < policies
  open-lt p o = go (ltb p policies) refl
    where
      go : (b : Bool) → ltb p policies ≡ b → p < policies
      go true e = ltb-true p policies e
      go false e =
          let z : openings_of s.unclosed p ≡ 0 =
          get_or-eq_default s.unclosed.counts 0 (subst (λ (n : ℕ). n ≤ p) (sym R.unclosed.counts_length) (ltb-false p policies e)) in
          absurd (omega (arith, open-count-pos past s.unclosed R.unclosed p o, z))

  violates-has : EdgesOk es → (p : ℕ) → Violates local es p past → has (broken s) p ≡ true
  unfolding broken
  violates-has v p b =
      let l : p < policies = open-lt p b.0 in
      mask_of-has (λ p. ltb 0 (openings_of s.unclosed p) && offends (possible_in s.tracked p)) p l
      ∙ and_both (ltb 0 (openings_of s.unclosed p)) (offends (possible_in s.tracked p)) (lt-ltb 0 (openings_of s.unclosed p) (open-count-pos past s.unclosed R.unclosed p b.0))
      (broken-offends v p l b.1)

  has-violates : EdgesOk es → (p : ℕ) → p < policies → has (broken s) p ≡ true → Violates local es p past
  unfolding broken
  has-violates v p l e =
      let t : (ltb 0 (openings_of s.unclosed p) && offends (possible_in s.tracked p)) ≡ true =
      sym (mask_of-has (λ p. ltb 0 (openings_of s.unclosed p) && offends (possible_in s.tracked p)) p l) ∙ e in (
        count-pos-open past s.unclosed R.unclosed p (ltb-true 0 (openings_of s.unclosed p) (and_left (ltb 0 (openings_of s.unclosed p)) (offends (possible_in s.tracked p)) t)),
        offends-broken v p l (and_right (ltb 0 (openings_of s.unclosed p)) (offends (possible_in s.tracked p)) t),
      )

  -- where the set is empty every open policy is respected
  pub none-violated : EdgesOk es → eqb (broken s) 0 ≡ true → (p : ℕ) → Violates local es p past → ⊥
  none-violated v e p b = not-both (has 0 p) (ap (λ (m : ℕ). has m p) (sym (eqb-true (broken s) 0 e)) ∙ violates-has v p b) (has-zero p)

  -- else its lowest number is the lowest open policy that is not respected
  pub record First : Type 0 where
    pub is : Violates local es (lowest_in (broken s)) past
    pub least : (q : ℕ) → q < lowest_in (broken s) → Violates local es q past → ⊥

  pub first-violated : EdgesOk es → eqb (broken s) 0 ≡ false → First
  first-violated v e =
      let l = lowest-is (broken s) (broken-lt s) e in
      record {
        is = has-violates v (lowest_in (broken s)) l.below-8 l.inside;
        least = λ q k b. not-both (has (broken s) q) (violates-has v q b) (l.no_lower q k);
      }
