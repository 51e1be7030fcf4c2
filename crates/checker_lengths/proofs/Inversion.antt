-- From a length that a rule gives back to what the rule read.
use Prim.Native.Nat.{ℕ, ◌+◌, ◌-◌, ◌%◌, ◌<◌, ◌≤◌}
use mathlib.Core.Path.{◌≡◌, refl, sym, ◌∙◌}
use mathlib.Core.Bool.{Bool, true, false, ◌&&◌, cond}
use mathlib.Core.List.{List}
use mathlib.Core.Logic.{◌⊎◌, inl, inr}
use native.Mathlib.Omega.{arith}
use native.Mathlib.Decide.{ℕ_discrete, dec_le}
use lib.Dec.{eqb, ltb, leb}
use borrow.Author.Tests.{eqb-true, ltb-true, ltb-false, leb-true}
use Rattle.usage.specs.Limits.{most_shown}
use Rattle.usage.proofs.Logic.{and_left, and_right}
use Rattle.checker_account.specs.Tables.{half}
use Rattle.automaton.specs.Mask.{has, offends}
use Rattle.checker_lengths.specs.declared.Entry.{Entry}
use Rattle.checker_lengths.specs.declared.WatchOne.{WatchOne}
use Rattle.checker_lengths.specs.Entries.{no_length}
use Rattle.checker_lengths.specs.Offers.{
  low_end_lem,
  one_if,
  at_node,
  first_entry,
  second_entry,
  body_entry,
  inner_entry,
  state_in,
  around,
  born,
  ending_of,
  breaking,
  event_of,
  still_of,
  sequence_of,
  fresh_of,
  sandbox_of,
}
use Rattle.checker_lengths.proofs.EntryLaws.{plus-is}
use Rattle.checker_lengths.proofs.OfferLaws.{
  sequence-not,
  sequence-first,
  sequence-both,
  fresh-breaks,
  fresh-dead,
  fresh_on,
  sandbox-on,
  sandbox-breaks,
}

one-is : (b : Bool) (n : ℕ) → one_if b ≡ n → n ≤ most_shown → (b ≡ true) × (n ≡ 1)
one-is true n h l = (refl, sym h)
one-is false n h l = absurd (omega arith)

zero_is : (b : Bool) (n : ℕ) → cond b 0 no_length ≡ n → n ≤ most_shown → (b ≡ true) × (n ≡ 0)
zero_is true n h l = (refl, sym h)
zero_is false n h l = absurd (omega arith)

module _ (e : Entry) (n : ℕ) (few : n ≤ most_shown) where
  pub still-inv : still_of e ≡ n → (n ≡ 0) × (e.aim ≡ low_end_lem e.meaning + e.state)
  unfolding still_of
  still-inv h =
      let (b, z) = zero_is (eqb e.aim (low_end_lem e.meaning + e.state)) n h few in
      (z, eqb-true e.aim (low_end_lem e.meaning + e.state) b)

  pub ending-inv : (v : ℕ) → ending_of v e ≡ n → (n ≡ 1) × (j : ℕ) × (j < 8) × (has v j ≡ true) × (e.aim ≡ low_end_lem e.meaning + j)
  unfolding ending_of
  ending-inv v h = go (ltb e.aim (low_end_lem e.meaning)) refl h
    where
      go : (b : Bool) → ltb e.aim (low_end_lem e.meaning) ≡ b
          → cond b no_length (one_if (ltb (e.aim - low_end_lem e.meaning) 8 && has v (e.aim - low_end_lem e.meaning))) ≡ n
          → (n ≡ 1) × (j : ℕ) × (j < 8) × (has v j ≡ true) × (e.aim ≡ low_end_lem e.meaning + j)
      go true f g = absurd (omega arith)
      go false f g =
          let j = e.aim - low_end_lem e.meaning in
          let (b, z) = one-is (ltb j 8 && has v j) n g few in
          let l = ltb-false e.aim (low_end_lem e.meaning) f in
          (z, j, ltb-true j 8 (and_left (ltb j 8) (has v j) b), and_right (ltb j 8) (has v j) b, omega arith)

  pub breaking-inv : (v : ℕ) → breaking v e ≡ n → (n ≡ 1) × (e.aim ≡ 16) × (e.opened ≡ true) × (offends (half false v) ≡ true)
  unfolding breaking
  breaking-inv v h =
      let (b, z) = one-is (eqb e.aim 16 && (e.opened && offends (half false v))) n h few in
      let u = and_right (eqb e.aim 16) (e.opened && offends (half false v)) b in (
        z,
        eqb-true e.aim 16 (and_left (eqb e.aim 16) (e.opened && offends (half false v)) b),
        and_left e.opened (offends (half false v)) u,
        and_right e.opened (offends (half false v)) u,
      )

  pub sequence-inv : (look : Entry → ℕ) (a b r : ℕ) → sequence_of look e a b r ≡ n
      → ((r < 16) × (look (first_entry e a r) + look (second_entry e b r) ≡ n)) ⊎ ((e.aim ≡ 16) × (look (at_node e a) ≡ n))
  sequence-inv look a b r h = go (dec_le 16 r) (ℕ_discrete e.aim 16)
    where
      go : Dec (16 ≤ r) → Dec (e.aim ≡ 16) → ((r < 16) × (look (first_entry e a r) + look (second_entry e b r) ≡ n))
          ⊎ ((e.aim ≡ 16) × (look (at_node e a) ≡ n))
      go (yes l) (yes f) = inr (f, sequence-first look e a b r l f ∙ h)
      go (yes l) (no f) = let g = sequence-not look e a b r l f in absurd (omega arith)
      go (no l) d = let k : r < 16 = omega arith in
          inl (k, plus-is (look (first_entry e a r)) (look (second_entry e b r)) n (sequence-both look e a b r k ∙ h) few)

  pub fresh-inv : (rows : List ℕ) (look : Entry → ℕ) (m b r : ℕ) → fresh_of rows look e m b r ≡ n
      → ((r < 16) × (has (born rows e (leb 8 r)) (r % 8) ≡ true) × (1 + look (body_entry e m b r) ≡ n))
      ⊎ ((16 ≤ r) × (breaking (born rows e (leb 17 r)) e ≡ n))
  fresh-inv rows look m b r h = go (dec_le 16 r) (has (born rows e (leb 8 r)) (r % 8)) refl
    where
      go : Dec (16 ≤ r) → (d : Bool) → has (born rows e (leb 8 r)) (r % 8) ≡ d
          → ((r < 16) × (has (born rows e (leb 8 r)) (r % 8) ≡ true) × (1 + look (body_entry e m b r) ≡ n))
          ⊎ ((16 ≤ r) × (breaking (born rows e (leb 17 r)) e ≡ n))
      go (yes l) d f = inr (l, fresh-breaks rows look e m b r l ∙ h)
      go (no l) true f = let k : r < 16 = omega arith in
          inl (k, f, plus-is 1 (look (body_entry e m b r)) n (fresh_on rows look e m b r k f ∙ h) few)
      go (no l) false f = let g = fresh-dead rows look e m b r (omega arith) f in absurd (omega arith)

  pub sandbox-inv : (w : WatchOne) (look : Entry → ℕ) (s b r : ℕ) → sandbox_of w look e s b r ≡ n
      → ((r ≡ 0) × (around e + look (inner_entry w e s b) ≡ n))
      ⊎ ((r ≡ 0 → ⊥) × (n ≡ 1) × (e.aim ≡ 16) × (s ≡ w.policy) × (6 ≤ state_in w e s))
  sandbox-inv w look s b r h = go (ℕ_discrete r 0)
    where
      go : Dec (r ≡ 0) → ((r ≡ 0) × (around e + look (inner_entry w e s b) ≡ n))
          ⊎ ((r ≡ 0 → ⊥) × (n ≡ 1) × (e.aim ≡ 16) × (s ≡ w.policy) × (6 ≤ state_in w e s))
      go (yes f) = inl (f, plus-is (around e) (look (inner_entry w e s b)) n (sandbox-on w look e s b r f ∙ h) few)
      go (no f) =
          let t = eqb e.aim 16 && (eqb s w.policy && leb 6 (state_in w e s)) in
          let (g, z) = one-is t n (sandbox-breaks w look e s b r t f refl ∙ h) few in
          let u = and_right (eqb e.aim 16) (eqb s w.policy && leb 6 (state_in w e s)) g in
          inr (
            f,
            z,
            eqb-true e.aim 16 (and_left (eqb e.aim 16) (eqb s w.policy && leb 6 (state_in w e s)) g),
            eqb-true s w.policy (and_left (eqb s w.policy) (leb 6 (state_in w e s)) u),
            leb-true 6 (state_in w e s) (and_right (eqb s w.policy) (leb 6 (state_in w e s)) u),
          )

  pub event-inv : (v r : ℕ) → event_of v e r ≡ n → (ending_of v e ≡ n) ⊎ (breaking v e ≡ n)
  unfolding event_of
  event-inv v r h = go (eqb r 0) h
    where
      go : (b : Bool) → cond b (ending_of v e) (breaking v e) ≡ n → (ending_of v e ≡ n) ⊎ (breaking v e ≡ n)
      go true g = inl g
      go false g = inr g
