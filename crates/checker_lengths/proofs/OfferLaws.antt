-- What the code on single rules computes is what the definitions say.
use Prim.Native.Nat.{ℕ, zero, suc, ◌+◌, ◌-◌, ◌/◌, ◌%◌, ◌^◌, ◌<◌, ◌≤◌}
use mathlib.Core.Path.{◌≡◌, refl, sym, ap, ◌∙◌}
use mathlib.Core.Bool.{Bool, true, false, ◌&&◌, cond}
use mathlib.Core.List.{List}
use mathlib.Core.Logic.{◌⊎◌, inl, inr}
use native.Mathlib.Omega.{arith}
use native.Mathlib.Numerals.{add-one}
use lib.Dec.{eqb, leb}
use lib.Bits.{bit_and, and_mask}
use borrow.Author.Tests.{lt-ltb, le-ltb, le-leb, lt-leb, eq-eqb, ne_eqb}
use Rattle.usage.specs.Limits.{most_shown}
use Rattle.usage.specs.Past.{reopened}
use Rattle.automaton.specs.Mask.{has}
use Rattle.checker_account.specs.Tables.{made}
use Rattle.checker_tables.specs.Search.{lost}
use Rattle.checker_tables.proofs.MeaningLaws.{lost-name}
use Rattle.checker_lengths.specs.declared.Entry.{Entry}
use Rattle.checker_lengths.specs.declared.WatchOne.{WatchOne}
use Rattle.checker_lengths.specs.Entries.{no_length, entry_of, plus}
use Rattle.checker_lengths.specs.Offers.{low_end_lem, one_if, moved, born, ending_of, breaking, still_of, heir, named, sequence_of, fresh_of, sandbox_of, second_entry, body_entry, inner_entry}
use Rattle.checker_lengths.proofs.EntryLaws.{plus_none}

-- ── Sets of states ──

pub has-bit : (v j : ℕ) → eqb (bit_and (v / 2 ^ j) 1) 1 ≡ has v j
unfolding has
has-bit v j = ap (λ (n : ℕ). eqb n 1) (and_mask (v / 2 ^ j) 1)

-- ── One step, or none ──

module _ (v : ℕ) (e : Entry) (low : ℕ) (h : low ≡ low_end_lem e.meaning) where
  pub ending-by : (b : Bool) → low ≤ e.aim → e.aim - low < 8 → has v (e.aim - low) ≡ b → one_if b ≡ ending_of v e
  unfolding ending_of
  ending-by b l k g = rw (← h) (rw (le-ltb e.aim low l) (rw (lt-ltb (e.aim - low) 8 k) (rw g)))

  pub still-here : low ≤ e.aim → e.aim - low ≡ e.state → 0 ≡ still_of e
  unfolding still_of
  still-here l k = rw (← h) (rw (eq-eqb e.aim (low + e.state) (omega arith)))

-- ── Creations ──

module _ (rows : List ℕ) (e : Entry) (own : Bool) where
  pub born-some : (e.meaning ≤ 0) ⊎ (own ≡ false) → moved rows e own ≡ born rows e own
  unfolding born
  born-some (inl l) = go e.meaning refl own
    where
      go : (m : ℕ) → e.meaning ≡ m → (b : Bool) → moved rows e own ≡ cond (b && made e.meaning) 0 (moved rows e own)
      go m f false = refl
      go zero f true = rw f
      go (suc m) f true = absurd (omega arith)
  born-some (inr h) = ap (λ (b : Bool). cond (b && made e.meaning) 0 (moved rows e own)) (sym h)

-- ── Meanings ──

pub heir-old : (m c : ℕ) → 8 ≤ c → (m ≡ 0 → ⊥) → m ≡ heir m c
unfolding heir
heir-old zero c l d = absurd (d refl)
heir-old (suc m) c l d = rw (le-leb 8 c l)

pub named_other : (m n c : ℕ) → c < 8 → lost m (n + 1) ≡ named m n c
unfolding named
named_other m n c l = lost-name m n ∙ rw (lt-ltb c 8 l)

pub named-own : (m n c : ℕ) → 8 ≤ c → n + 1 ≡ named m n c
unfolding named
named-own m n c l = add-one n ∙ rw (le-ltb c 8 l)

pub body_is : (e : Entry) (n b c m : ℕ) → m ≡ named e.meaning n c → entry_of b e.opened m (c % 8) e.aim ≡ body_entry e n b c
body_is e n b c m h = ap (λ (i : ℕ). entry_of b e.opened i (c % 8) e.aim) h

-- ── Rules ──

module _ (look : Entry → ℕ) (e : Entry) (a b c : ℕ) where
  pub sequence-not : 16 ≤ c → (e.aim ≡ 16 → ⊥) → no_length ≡ sequence_of look e a b c
  unfolding sequence_of
  sequence-not l d = rw (le-leb 16 c l, ne_eqb e.aim 16 d)

  pub sequence-first : 16 ≤ c → e.aim ≡ 16 → look (entry_of a e.opened e.meaning e.state e.aim) ≡ sequence_of look e a b c
  unfolding sequence_of
  sequence-first l d = rw (le-leb 16 c l, eq-eqb e.aim 16 d)

  pub sequence-both : c < 16 → plus (look (entry_of a e.opened e.meaning e.state c))
      (look (second_entry e b c)) ≡ sequence_of look e a b c
  unfolding sequence_of
  sequence-both l = rw (lt-leb 16 c l)

  pub sequence-dead : c < 16 → most_shown < look (entry_of a e.opened e.meaning e.state c) → no_length ≡ sequence_of look e a b c
  sequence-dead l d = plus_none (look (entry_of a e.opened e.meaning e.state c)) (look (second_entry e b c)) (omega arith)
      ∙ sequence-both l

module _ (rows : List ℕ) (look : Entry → ℕ) (e : Entry) (n b c : ℕ) where
  pub fresh-breaks : 16 ≤ c → breaking (born rows e (leb 17 c)) e ≡ fresh_of rows look e n b c
  unfolding fresh_of
  fresh-breaks l = rw (le-leb 16 c l)

  pub fresh-dead : c < 16 → has (born rows e (leb 8 c)) (c % 8) ≡ false → no_length ≡ fresh_of rows look e n b c
  unfolding fresh_of
  fresh-dead l d = rw (lt-leb 16 c l, d)

  pub fresh_on : c < 16 → has (born rows e (leb 8 c)) (c % 8) ≡ true → plus 1 (look (body_entry e n b c)) ≡ fresh_of rows look e n b c
  unfolding fresh_of
  fresh_on l d = rw (lt-leb 16 c l, d)

module _ (w : WatchOne) (look : Entry → ℕ) (e : Entry) (s b c : ℕ) where
  pub sandbox-on : c ≡ 0 → plus (cond (eqb e.aim 16) 1 2) (look (inner_entry w e s b)) ≡ sandbox_of w look e s b c
  unfolding sandbox_of
  sandbox-on h = rw (eq-eqb c 0 h)

  pub sandbox-breaks : (r : Bool) → (c ≡ 0 → ⊥) → (eqb e.aim 16 &&
      (eqb s w.policy && leb 6 (reopened w.local w.policy s e.opened e.state))) ≡ r
      → one_if r ≡ sandbox_of w look e s b c
  unfolding sandbox_of
  sandbox-breaks r h g = rw (ne_eqb c 0 h, g)

  module _ (q : ℕ) (h : c ≡ 0 → ⊥) (aim : e.aim ≡ 16) (own : s ≡ w.policy)
      (g : q ≡ reopened w.local w.policy s e.opened e.state) where
    hits : (r : Bool) → leb 6 q ≡ r → (eqb e.aim 16 &&
        (eqb s w.policy && leb 6 (reopened w.local w.policy s e.opened e.state))) ≡ r
    hits r l =
        ap (λ (b : Bool). b && (eqb s w.policy && leb 6 (reopened w.local w.policy s e.opened e.state)))
        (eq-eqb e.aim 16 aim)
        ∙ ap (λ (b : Bool). b && leb 6 (reopened w.local w.policy s e.opened e.state)) (eq-eqb s w.policy own)
        ∙ ap (leb 6) (sym g) ∙ l

    pub sandbox-hits : 6 ≤ q → 1 ≡ sandbox_of w look e s b c
    sandbox-hits l = sandbox-breaks true h (hits true (le-leb 6 q l))
