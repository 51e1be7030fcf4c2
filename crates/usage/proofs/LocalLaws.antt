-- What the local meaning is (02, L7): a policy sees what has happened since its sandbox was opened, and nothing before.
use Prim.Native.Nat.{ℕ, suc, ◌+◌, ◌<◌, ◌≤◌}
use mathlib.Core.Path.{◌≡◌, refl, sym, ap, subst, ◌∙◌}
use mathlib.Core.Bool.{Bool, true, false}
use mathlib.Core.List.{List, [], ◌∷◌, ◌++◌}
use mathlib.Core.Logic.{◌↔◌, inl, inr}
use native.Mathlib.Omega.{arith}
use lib.Dec.{ltb}
use borrow.Author.Tests.{eq-eqb, lt-ltb, le-ltb, ltb-true, ltb-false}
use Rattle.usage.specs.declared.Edge.{Edge}
use Rattle.usage.specs.Policy.{Sees, Offending}
use Rattle.usage.specs.Past.{Step, event, opening, closing, retiring, Past, add_if, count, openings, closings, is_opening, is_closing}
use Rattle.usage.specs.Past.{Open, is_open}
use Rattle.usage.specs.Past.{reopened, May, start, moved, opened, closed, retired, Broken, Violates}
use Rattle.usage.proofs.PastLaws.{before-all, before-event, before-opening, before-closing, before-retiring, may-anew, may-same}

-- ── One step ──

-- "At an opening of a policy that is not open, all its instances go back to state 0": 0 is the only state of any instance
pub opened-anew : (es : List Edge) (p : ℕ) (xs : List ℕ) (past : Past) (q : ℕ) → (Open p past → ⊥)
    → May true es p (Sees xs) (opening p ∷ past) q ↔ (q ≡ 0)
opened-anew es p xs past q n = may-anew es p xs p past q refl n

-- "A further opening of a policy already open resets nothing"
pub opened-further : (local : Bool) (es : List Edge) (p : ℕ) (xs : List ℕ) (past : Past) (q : ℕ) → Open p past
    → May local es p (Sees xs) (opening p ∷ past) q ↔ May local es p (Sees xs) past q
opened-further local es p xs past q o = may-same local es p xs p past q (inr (inr o))

-- nor does an opening of another policy
pub opened-other : (local : Bool) (es : List Edge) (p : ℕ) (xs : List ℕ) (s : ℕ) (past : Past) (q : ℕ) → (s ≡ p → ⊥)
    → May local es p (Sees xs) (opening s ∷ past) q ↔ May local es p (Sees xs) past q
opened-other local es p xs s past q d = may-same local es p xs s past q (inr (inl d))

-- and no closing does
pub closed_same : (local : Bool) (es : List Edge) (p : ℕ) (xs : List ℕ) (s : ℕ) (past : Past) (q : ℕ)
    → May local es p (Sees xs) (closing s ∷ past) q ↔ May local es p (Sees xs) past q
closed_same local es p xs s past q = (before-closing, closed)

start_fine : Offending 0 → ⊥
start_fine (inl e) = omega arith
start_fine (inr e) = omega arith

-- so an opening of a policy that is not open never breaks it
pub anew-respected : (es : List Edge) (p : ℕ) (past : Past) → (Open p past → ⊥) → Broken true es p (opening p ∷ past) → ⊥
anew-respected es p past n (xs, i, q, m, o) = start_fine (subst Offending ((opened-anew es p xs past q n).0 m) o)

pub anew-kept : (es : List Edge) (p : ℕ) (past : Past) → (Open p past → ⊥) → Violates true es p (opening p ∷ past) → ⊥
anew-kept es p past n v = anew-respected es p past n v.1

-- ── A whole sandbox ──

-- how often a past has what is counted, before and since
count-append : (test : Step → Bool) (later past : Past) → count test (later ++ past) ≡ count test later + count test past
unfolding count
count-append test [] past = omega arith
count-append test (s ∷ later) past = go (test s) (count-append test later past)
  where
    go : (b : Bool) → count test (later ++ past) ≡ count test later + count test past
        → add_if b (count test (later ++ past)) ≡ add_if b (count test later) + count test past
    go true e = omega arith
    go false e = e

same-ltb : (a b c d : ℕ) → (a < b → c < d) → (c < d → a < b) → ltb a b ≡ ltb c d
same-ltb a b c d to back = go (ltb c d) refl
  where
    go : (x : Bool) → ltb c d ≡ x → ltb a b ≡ x
    go true e = lt-ltb a b (back (ltb-true c d e))
    go false e = le-ltb a b (not-below (λ l. let h = to l in let k = ltb-false c d e in omega arith))
      where
        not-below : (a < b → ⊥) → b ≤ a
        not-below n = omega arith

-- The steps `later` after an opening of p, with what was before it or without. Before it, all openings of p were closed.
module _ (es : List Edge) (p : ℕ) (xs : List ℕ) (past : Past) (shut : openings p past ≡ closings p past) where
  abbrev Since : Past → Past
  Since later = later ++ (opening p ∷ past)

  abbrev Alone : Past → Past
  Alone later = later ++ (opening p ∷ [])

  -- p is open with it exactly if it is without
  open-alike : (later : Past) → is_open p (Since later) ≡ is_open p (Alone later)
  unfolding count
  open-alike later =
      let one = eq-eqb p p refl in
      let c : closings p (Since later) ≡ closings p later + closings p past = count-append (is_closing p) later (opening p ∷ past) in
      let o : openings p (Since later) ≡ openings p later + suc (openings p past) = count-append (is_opening p) later (opening p ∷ past)
      ∙ ap (λ (b : Bool). openings p later + add_if b (openings p past)) one in
      let d : closings p (Alone later) ≡ closings p later + 0 = count-append (is_closing p) later (opening p ∷ []) in
      let n : openings p (Alone later) ≡ openings p later + 1 = count-append (is_opening p) later (opening p ∷ [])
      ∙ ap (λ (b : Bool). openings p later + add_if b 0) one in
      same-ltb (closings p (Since later)) (openings p (Since later)) (closings p (Alone later)) (openings p (Alone later))
      (λ l. omega arith) (λ l. omega arith)

  abbrev Alike : Past → ℕ → Type 0
  Alike later q = May true es p (Sees xs) (Since later) q ↔ May true es p (Sees xs) (Alone later) q

  -- The past before the sandbox does not count: source document 000's meaning.
  pub since-alone : (later : Past) (q : ℕ) → Alike later q
  unfolding count
  since-alone [] q =
      let a = opened-anew es p xs past q (λ o. omega arith) in
      let b = opened-anew es p xs [] q (λ o. omega arith) in
      (λ m. b.1 (a.0 m), λ m. a.1 (b.0 m))
  since-alone (event a r ∷ later) q = (
    λ m. let (q₀, m₀, v) = before-event m in moved ((since-alone later q₀).0 m₀) v,
    λ m. let (q₀, m₀, v) = before-event m in moved ((since-alone later q₀).1 m₀) v,
  )
  since-alone (opening s ∷ later) q = (
    λ m. let (q₀, m₀, f) = before-opening m in
        subst (λ (t : ℕ). May true es p (Sees xs) (Alone (opening s ∷ later)) t)
        (ap (λ (o : Bool). reopened true p s o q₀) (sym (open-alike later)) ∙ f) (opened ((since-alone later q₀).0 m₀)),
    λ m. let (q₀, m₀, f) = before-opening m in
        subst (λ (t : ℕ). May true es p (Sees xs) (Since (opening s ∷ later)) t)
        (ap (λ (o : Bool). reopened true p s o q₀) (open-alike later) ∙ f) (opened ((since-alone later q₀).1 m₀)),
  )
  since-alone (closing s ∷ later) q = (
    λ m. closed ((since-alone later q).0 (before-closing m)),
    λ m. closed ((since-alone later q).1 (before-closing m)),
  )
  since-alone (retiring r ∷ later) q = (
    λ m. retired ((since-alone later q).0 (before-retiring m)),
    λ m. retired ((since-alone later q).1 (before-retiring m)),
  )

-- so whether p is broken depends on its sandbox alone
pub sandbox-alone : (es : List Edge) (p : ℕ) (past : Past) → openings p past ≡ closings p past → (later : Past)
    → Broken true es p (later ++ (opening p ∷ past)) ↔ Broken true es p (later ++ (opening p ∷ []))
sandbox-alone es p past shut later = (
  λ (xs, i, q, m, o). (xs, i, q, (since-alone es p xs past shut later q).0 m, o),
  λ (xs, i, q, m, o). (xs, i, q, (since-alone es p xs past shut later q).1 m, o),
)

-- ── Within one sandbox the two meanings agree ──

module _ (es : List Edge) (p : ℕ) (xs : List ℕ) where
  -- p is open before each of the steps after its opening
  abbrev StaysOpen : Past → Type 0
  StaysOpen [] = Unit {0}
  StaysOpen (s ∷ later) = Open p (later ++ (opening p ∷ [])) × StaysOpen later

  pub sandbox-whole : (later : Past) (q : ℕ) → StaysOpen later
      → May true es p (Sees xs) (later ++ (opening p ∷ [])) q ↔ May false es p (Sees xs) (later ++ (opening p ∷ [])) q
  unfolding count
  sandbox-whole [] q h =
      let a = opened-anew es p xs [] q (λ o. omega arith) in
      let b = may-same false es p xs p [] q (inl refl) in
      (λ m. b.1 (subst (λ (t : ℕ). May false es p (Sees xs) [] t) (sym (a.0 m)) start), λ m. a.1 (sym (before-all (b.0 m))))
  sandbox-whole (event a r ∷ later) q h = (
    λ m. let (q₀, m₀, v) = before-event m in moved ((sandbox-whole later q₀ h.1).0 m₀) v,
    λ m. let (q₀, m₀, v) = before-event m in moved ((sandbox-whole later q₀ h.1).1 m₀) v,
  )
  sandbox-whole (opening s ∷ later) q h =
      let a = may-same true es p xs s (later ++ (opening p ∷ [])) q (inr (inr h.0)) in
      let b = may-same false es p xs s (later ++ (opening p ∷ [])) q (inl refl) in
      let i = sandbox-whole later q h.1 in
      (λ m. b.1 (i.0 (a.0 m)), λ m. a.1 (i.1 (b.0 m)))
  sandbox-whole (closing s ∷ later) q h = (
    λ m. closed ((sandbox-whole later q h.1).0 (before-closing m)),
    λ m. closed ((sandbox-whole later q h.1).1 (before-closing m)),
  )
  sandbox-whole (retiring r ∷ later) q h = (
    λ m. retired ((sandbox-whole later q h.1).0 (before-retiring m)),
    λ m. retired ((sandbox-whole later q h.1).1 (before-retiring m)),
  )
