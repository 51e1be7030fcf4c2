-- Entries: their bounds and places, and what the code on them computes.
use Prim.Native.Nat.{ℕ, suc, ◌+◌, ◌<◌, ◌≤◌}
use mathlib.Core.Path.{◌≡◌, refl, sym, ap, ◌∙◌}
use mathlib.Core.Bool.{Bool, true, false, ◌&&◌, cond}
use mathlib.Core.List.{List}
use native.Mathlib.Omega.{arith}
use native.Mathlib.Decide.{dec_le}
use lib.Dec.{ltb}
use lib.ListN.{get_or}
use borrow.Author.Tests.{ltb-true, lt-ltb, le-ltb, le-leb, lt-leb}
use Rattle.usage.specs.Limits.{states, most_nodes, most_shown}
use Rattle.usage.proofs.Logic.{and_left, and_right}
use Rattle.checker_lengths.specs.declared.Entry.{Entry}
use Rattle.checker_account.specs.Tables.{made, meanings}
use Rattle.checker_lengths.specs.Offers.{toward, low_end_lem}
use Rattle.checker_lengths.specs.Entries.{no_length, entry_of, nodes_before, linear, in_table, Bounds, below, held, plus, aims}

pub bounds : (e : Entry) → in_table e ≡ true → Bounds e
unfolding in_table
bounds e h =
    let h₁ = and_right (ltb e.node most_nodes) (ltb e.meaning meanings && (ltb e.state states && ltb e.aim aims)) h in
    let h₂ = and_right (ltb e.meaning meanings) (ltb e.state states && ltb e.aim aims) h₁ in
    record {
      node = ltb-true e.node most_nodes
          (and_left (ltb e.node most_nodes) (ltb e.meaning meanings && (ltb e.state states && ltb e.aim aims)) h);
      meaning = ltb-true e.meaning meanings (and_left (ltb e.meaning meanings) (ltb e.state states && ltb e.aim aims) h₁);
      state = ltb-true e.state states (and_left (ltb e.state states) (ltb e.aim aims) h₂);
      aim = ltb-true e.aim aims (and_right (ltb e.state states) (ltb e.aim aims) h₂);
    }

pub in-table : (e : Entry) → e.node < most_nodes → e.meaning < meanings → e.state < states → e.aim < aims → in_table e ≡ true
unfolding in_table
in-table e a b c d = simp (lt-ltb _ _ a, lt-ltb _ _ b, lt-ltb _ _ c, lt-ltb _ _ d)

-- the same start with another aim
pub toward-in : (s : Entry) (i : ℕ) → in_table (toward s 0) ≡ true → i < 17 → in_table (toward s i) ≡ true
toward-in s i h l = let b = bounds (toward s 0) h in in-table (toward s i) b.node b.meaning b.state l

pub low-end-le : (m : ℕ) → low_end_lem m ≤ 8
low-end-le m = go (made m)
  where
    go : (b : Bool) → cond b 8 0 ≤ 8
    go true = omega arith
    go false = omega arith

pub half_le : (o : Bool) → nodes_before o ≤ most_nodes
half_le true = omega arith
half_le false = omega arith

pub linear-lt : (e : Entry) → in_table e ≡ true → linear e < 104448
linear-lt e h = let b = bounds e h in omega (arith, half_le e.opened)

same-entry : (o : Bool) (k k' m m' q q' i i' : ℕ) → k ≡ k' → m ≡ m' → q ≡ q' → i ≡ i' → entry_of k o m q i ≡ entry_of k' o m' q' i'
same-entry o k k' m m' q q' i i' a b c d = rw (a, b, c, d)

-- two entries have two places
pub linear-one : (e e' : Entry) → in_table e ≡ true → in_table e' ≡ true → linear e ≡ linear e' → e ≡ e'
linear-one e e' h h' f = go e.opened e'.opened refl refl
  where
    go : (o o' : Bool) → e.opened ≡ o → e'.opened ≡ o' → e ≡ e'
    go o o' p p' = ap (λ (z : Bool). entry_of e.node z e.meaning e.state e.aim) p
        ∙ cases o o' (ap nodes_before p) (ap nodes_before p')
        ∙ ap (λ (z : Bool). entry_of e'.node z e'.meaning e'.state e'.aim) (sym p')
      where
        cases : (o o' : Bool) → nodes_before e.opened ≡ nodes_before o → nodes_before e'.opened ≡ nodes_before o'
            → entry_of e.node o e.meaning e.state e.aim ≡ entry_of e'.node o' e'.meaning e'.state e'.aim
        cases false false p p' =
            let b = bounds e h in
            let b' = bounds e' h' in
            same-entry false e.node e'.node e.meaning e'.meaning e.state e'.state e.aim e'.aim (omega arith)
            (omega arith) (omega arith) (omega arith)
        cases false true p p' = let b = bounds e h in let b' = bounds e' h' in absurd (omega arith)
        cases true false p p' = let b = bounds e h in let b' = bounds e' h' in absurd (omega arith)
        cases true true p p' =
            let b = bounds e h in
            let b' = bounds e' h' in
            same-entry true e.node e'.node e.meaning e'.meaning e.state e'.state e.aim e'.aim (omega arith)
            (omega arith) (omega arith) (omega arith)

-- ── What is held ──

module _ (t : List ℕ) (most : ℕ) (e : Entry) where
  pub held_out : in_table e ≡ false → no_length ≡ held t most e
  unfolding held
  held_out h = rw h

  pub held_in : in_table e ≡ true → held t most e ≡ below most (get_or t (linear e) 0)
  unfolding held
  held_in h = rw h

  pub held-less : (at : ℕ) → in_table e ≡ true → at ≡ linear e → get_or t at 0 < most → get_or t at 0 ≡ held t most e
  unfolding below
  held-less at h f l = sym (held_in h ∙ ap (λ (i : ℕ). below most (get_or t i 0)) (sym f)
      ∙ ap (λ (b : Bool). cond b (get_or t at 0) no_length) (lt-ltb (get_or t at 0) most l))

  pub held_more : (at : ℕ) → in_table e ≡ true → at ≡ linear e → most ≤ get_or t at 0 → no_length ≡ held t most e
  unfolding below
  held_more at h f l = sym (held_in h ∙ ap (λ (i : ℕ). below most (get_or t i 0)) (sym f)
      ∙ ap (λ (b : Bool). cond b (get_or t at 0) no_length) (le-ltb (get_or t at 0) most l))

  -- a length that is held stands in the table
  pub held-is : (n : ℕ) → held t most e ≡ n → n < no_length → (in_table e ≡ true) × (get_or t (linear e) 0 ≡ n) × (n < most)
  held-is n h l = go (in_table e) refl
    where
      stands : in_table e ≡ true → Dec (get_or t (linear e) 0 < most) → (in_table e ≡ true) × (get_or t (linear e) 0 ≡ n) × (n < most)
      stands f (yes k) = let s = held-less (linear e) f refl k in (f, omega arith, omega arith)
      stands f (no k) = let s = held_more (linear e) f refl (omega arith) in absurd (omega arith)

      go : (b : Bool) → in_table e ≡ b → (in_table e ≡ true) × (get_or t (linear e) 0 ≡ n) × (n < most)
      go false f = let g = held_out f in absurd (omega arith)
      go true f = stands f (dec_le (suc (get_or t (linear e) 0)) most)

-- ── Sums ──

pub plus_none : (a b : ℕ) → most_shown < a + b → no_length ≡ plus a b
unfolding plus
plus_none a b h = rw (lt-leb (a + b) most_shown h)

pub plus-some : (a b : ℕ) → a + b ≤ most_shown → a + b ≡ plus a b
unfolding plus
plus-some a b h = rw (le-leb (a + b) most_shown h)

pub plus-is : (a b n : ℕ) → plus a b ≡ n → n ≤ most_shown → a + b ≡ n
plus-is a b n h l = go (dec_le (a + b) most_shown)
  where
    go : Dec (a + b ≤ most_shown) → a + b ≡ n
    go (yes f) = plus-some a b f ∙ h
    go (no f) = let g = plus_none a b (omega arith) in absurd (omega arith)
