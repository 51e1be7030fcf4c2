-- One pass over some entries after another, and the pass over a single entry.
use Prim.Native.Nat.{ℕ, zero, suc, ◌+◌, ◌<◌, ◌≤◌}
use mathlib.Core.Path.{◌≡◌, refl, sym, ap, ◌∙◌, subst}
use mathlib.Core.Bool.{Bool, true, false, ◌||◌}
use mathlib.Core.Option.{Option}
use mathlib.Core.List.{List, [], ◌∷◌}
use native.Mathlib.Omega.{arith}
use native.Mathlib.Nat.{not-suc-le-zero, le_of_suc-le-suc}
use native.Mathlib.Decide.{ℕ_discrete}
use lib.ListN.{length, get_or, set, length-set}
use lib.Seq.{get_or-set_same, get_or-set_other}
use Rattle.usage.specs.Outline.{Form}
use Rattle.usage.proofs.Logic.{false-true}
use Rattle.checker_account.specs.Filling.{total}
use Rattle.checker_lengths.specs.declared.Entry.{Entry}
use Rattle.checker_lengths.specs.declared.WatchOne.{WatchOne}
use Rattle.checker_lengths.specs.Entries.{all_lengths, entry_of, linear, in_table, below, held}
use Rattle.checker_lengths.specs.Offers.{toward, offer_from}
use Rattle.checker_lengths.specs.Filling.{Reach, falls, Settled, RuleSettled, StartSettled, StatesSettled, NodeSettled}
use Rattle.checker_lengths.specs.Code.{Fell, Apart, Pass}
use Rattle.checker_lengths.proofs.EntryLaws.{linear-one, held_in, held_out}

-- ── Sums ──

total-set : (t : List ℕ) (i v : ℕ) → i < length t → total (set t i v) + get_or t i 0 ≡ total t + v
unfolding total
total-set [] i v h = absurd (not-suc-le-zero h)
total-set (x ∷ t) zero v h = omega arith
total-set (x ∷ t) (suc i) v h = let g = total-set t i v (le_of_suc-le-suc h) in omega arith

-- ── Passes ──

le-self : (n : ℕ) → n ≤ n
le-self n = omega arith

le-both : {a b c : ℕ} → a ≤ b → b ≤ c → a ≤ c
le-both h k = omega arith

pub fell-none : {k : ℕ} {t : List ℕ} → Fell k t t
fell-none {t = t} = record { beside = λ e h d. refl; down = λ i. le-self (get_or t i 0) }

pub fell-then : {k : ℕ} {t u v : List ℕ} → Fell k t u → Fell k u v → Fell k t v
fell-then p q = record { beside = λ e h d. q.beside e h d ∙ p.beside e h d; down = λ i. le-both (q.down i) (p.down i) }

-- what stands for another node
module _ {k : ℕ} {t u : List ℕ} (g : Fell k t u) where
  pub same-held : (e : Entry) → (e.node ≡ k → ⊥) → held u all_lengths e ≡ held t all_lengths e
  same-held e d = go (in_table e) refl
    where
      go : (b : Bool) → in_table e ≡ b → held u all_lengths e ≡ held t all_lengths e
      go true h = held_in u all_lengths e h ∙ ap (below all_lengths) (g.beside e h d) ∙ sym (held_in t all_lengths e h)
      go false h = sym (held_out u all_lengths e h) ∙ held_out t all_lengths e h

-- what was settled stays so, where the node does not read its own entries; and so it is with those of another node that does not read them
module _ (w : WatchOne) (rows : List ℕ) (k : ℕ) (f : Option Form) (apart : Apart w rows k f) {t u : List ℕ} (g : Fell k t u) where
  pub settled-lasts : (e : Entry) (c : ℕ) → Settled w rows f t e c → Settled w rows f u e c
  settled-lasts e c h few =
      let same = apart t u g e c in
      let low = g.down (linear e) in
      let l = h (omega (arith, same)) in
      omega (arith, same)

  pub rule-lasts : (s : Entry) (c : ℕ) → RuleSettled w rows f t s c → RuleSettled w rows f u s c
  rule-lasts s c h i low l = settled-lasts (toward s i) c (h i low l)

  pub start-lasts : (s : Entry) → StartSettled w rows f t s → StartSettled w rows f u s
  start-lasts s h c l = rule-lasts s c (h c l)

  pub states-last : (j : ℕ) (o : Bool) (m v : ℕ) → StatesSettled w rows f t j o m v → StatesSettled w rows f u j o m v
  states-last j o m v h q l b = start-lasts (entry_of j o m q 0) (h q l b)

  pub node-lasts : (come : List ℕ) (l j : ℕ) → NodeSettled w rows f come t l j → NodeSettled w rows f come u l j
  node-lasts come l j h o m q low high small b = start-lasts (entry_of j o m q 0) (h o m q low high small b)

module _ {w : WatchOne} {rows : List ℕ} {k : ℕ} {f : Option Form} where
  less-or-same : {C : List ℕ → Type 0} {t u : List ℕ} (r : Bool) → Pass w rows k f C t u r → total u ≤ total t
  less-or-same {t = t} {u = u} true p = let l = p.lower refl in omega arith
  less-or-same {t = t} {u = u} false p = let e : total u ≡ total t = ap total (p.kept refl) in omega arith

  -- one pass after another
  pub pass-then : {C D F : List ℕ → Type 0} {t u v : List ℕ} {r s : Bool} → ((y : List ℕ) → C y → D y → F y)
      → (Apart w rows k f → Fell k u v → C u → C v)
      → Pass w rows k f C t u r → Pass w rows k f D u v s → Pass w rows k f F t v (r || s)
  pass-then {t = t} {u = u} {v = v} {r = true} {s = s} join lasts p q = record {
    same_size = q.same_size ∙ p.same_size;
    changes = λ nodes l h d. q.changes nodes l h (p.changes nodes l h d);
    kept = λ y. false-true (sym y);
    settled = λ y. false-true (sym y);
    lower = λ y. let l = p.lower refl in let k = less-or-same s q in omega arith;
    fell = fell-then p.fell q.fell;
    done = λ a. join v (lasts a q.fell (p.done a)) (q.done a);
  }
  pass-then {D = D} {t = t} {u = u} {v = v} {r = false} join lasts p q = record {
    same_size = q.same_size ∙ p.same_size;
    changes = λ nodes l h d. q.changes nodes l h (p.changes nodes l h d);
    kept = λ y. q.kept y ∙ p.kept refl;
    settled = λ y. join t (p.settled refl) (subst D (p.kept refl) (q.settled y));
    lower = λ y. let l = q.lower y in let k : total u ≡ total t = ap total (p.kept refl) in omega arith;
    fell = fell-then p.fell q.fell;
    done = λ a. join v (lasts a q.fell (p.done a)) (q.done a);
  }

  pub pass-none : {C : List ℕ → Type 0} {t : List ℕ} → C t → Pass w rows k f C t t false
  pass-none h = record {
    same_size = refl;
    changes = λ nodes l h d. d;
    kept = λ e. refl;
    settled = λ e. h;
    lower = λ e. false-true e;
    fell = fell-none;
    done = λ a. h;
  }

  pub pass-map : {C D : List ℕ → Type 0} {t u : List ℕ} {r : Bool} → ((y : List ℕ) → C y → D y) → Pass w rows k f C t u r
      → Pass w rows k f D t u r
  pass-map {t = t} {u = u} g p = record {
    same_size = p.same_size;
    changes = p.changes;
    kept = p.kept;
    settled = λ e. g t (p.settled e);
    lower = p.lower;
    fell = p.fell;
    done = λ a. g u (p.done a);
  }

-- ── A single entry ──

module _ (w : WatchOne) (rows : List ℕ) (f : Option Form) (e : Entry) (c : ℕ) (t : List ℕ) (at v : ℕ) (place : at ≡ linear e)
    (offered : v ≡ offer_from w rows (held t all_lengths) e c f) where
  pub pass_kept : get_or t at 0 ≤ v → Pass w rows e.node f (λ u. Settled w rows f u e c) t t false
  pass_kept l =
      pass-none (λ _. subst (λ (i : ℕ). get_or t i 0 ≤ offer_from w rows (held t all_lengths) e c f) place
      (subst (λ (n : ℕ). get_or t at 0 ≤ n) offered l))

  module _ (small : at < length t) (inside : in_table e ≡ true) (l : v < get_or t at 0) where
    fallen : Fell e.node t (set t at v)
    fallen = record {
      beside = λ e' h d. get_or-set_other t at (linear e') v 0 (λ z. d (ap (λ (y : Entry). y.node) (linear-one e' e h inside (z ∙ place))));
      down = λ i. go i (ℕ_discrete i at);
    }
      where
        go : (i : ℕ) → Dec (i ≡ at) → get_or (set t at v) i 0 ≤ get_or t i 0
        go i (yes z) = subst (λ (j : ℕ). get_or (set t at v) j 0 ≤ get_or t j 0) (sym z) (let s = get_or-set_same t at v 0 small in omega arith)
        go i (no z) = let s = get_or-set_other t at i v 0 z in omega arith

    pub pass-falls : Pass w rows e.node f (λ u. Settled w rows f u e c) t (set t at v) true
    pass-falls = record {
      same_size = length-set t at v;
      changes = λ nodes h g r. subst (λ (i : ℕ). Reach w rows nodes (set t i v)) (sym place)
          (falls e c r inside h (offered ∙ ap (offer_from w rows (held t all_lengths) e c) (sym g)));
      kept = λ g. false-true (sym g);
      settled = λ g. false-true (sym g);
      lower = λ g. let s = total-set t at v small in omega arith;
      fell = fallen;
      done = λ a few.
          let same = a t (set t at v) fallen e c in
          let new : get_or (set t at v) (linear e) 0 ≡ v = ap (λ (i : ℕ). get_or (set t at v) i 0) (sym place) ∙ get_or-set_same t at v 0 small in
          at_most (new ∙ offered ∙ sym same);
    }
      where
        at_most : {a b : ℕ} → a ≡ b → a ≤ b
        at_most h = omega arith
