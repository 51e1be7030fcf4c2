-- The unclosed openings of a past: each policy stands in them as often as it is open, and a run closes the newest first.
use Prim.Native.Nat.{ℕ, suc, ◌+◌, ◌<◌}
use mathlib.Core.Path.{◌≡◌, refl, sym, ap, ◌∙◌, subst}
use mathlib.Core.Bool.{Bool, true, false, cond}
use mathlib.Core.Option.{some}
use mathlib.Core.List.{List, [], ◌∷◌}
use native.Mathlib.Omega.{arith}
use lib.Dec.{eqb, ltb}
use lib.ListN.{get_elem?}
use borrow.Author.Tests.{eqb-true, eqb-false, eq-eqb, ne_eqb, ltb-true, ltb-false}
use Rattle.usage.specs.declared.Edge.{Edge}
use Rattle.usage.specs.declared.Node.{Node}
use Rattle.usage.specs.declared.RawStep.{RawStep}
use Rattle.usage.specs.Past.{Step, event, opening, closing, retiring, Past, add_if, count, openings, closings, Open}
use Rattle.usage.specs.Past.{without, open_stack, occurrences, OpenedLast}
use Rattle.usage.specs.Answers.{allowed}
use Rattle.usage.specs.Judge.{step_of, not_open, Judged, is_allowed}
use Rattle.usage.specs.Outline.{Part, node, close, Run, Advance, ends, fires_static, fires_name, sequences, chooses_left}
use Rattle.usage.specs.Outline.{chooses_right, enters, repeats, creates, opens, closes, Runs, started, moved}

-- ── Taking an opening away ──

pub without-first : (p : ℕ) (stack : List ℕ) → without p (p ∷ stack) ≡ stack
unfolding without
without-first p stack = rw (eq-eqb p p refl)

without-own : (p : ℕ) (stack : List ℕ) → 0 < occurrences p stack → suc (occurrences p (without p stack)) ≡ occurrences p stack
unfolding without occurrences
without-own p [] h = omega arith
without-own p (s ∷ stack) h = go (eqb s p) refl h (without-own p stack)
  where
    go : (b : Bool) → eqb s p ≡ b → 0 < add_if b (occurrences p stack)
        → (0 < occurrences p stack → suc (occurrences p (without p stack)) ≡ occurrences p stack)
        → suc (occurrences p (without p (s ∷ stack))) ≡ add_if b (occurrences p stack)
    go true e h rest = rw e
    go false e h rest = rw (e, e) (rest h)

without_other : (p s : ℕ) (stack : List ℕ) → (s ≡ p → ⊥) → occurrences p (without s stack) ≡ occurrences p stack
unfolding without occurrences
without_other p s [] n = refl
without_other p s (t ∷ stack) n = go (eqb t s) refl (without_other p s stack n)
  where
    go : (b : Bool) → eqb t s ≡ b → occurrences p (without s stack) ≡ occurrences p stack
        → occurrences p (cond b stack (t ∷ without s stack)) ≡ add_if (eqb t p) (occurrences p stack)
    go true e rest = rw (ne_eqb t p (λ f. n (subst (λ (k : ℕ). k ≡ p) (eqb-true t s e) f)))
    go false e rest = ap (add_if (eqb t p)) rest

-- ── A policy stands in the stack as often as it has more openings than closings ──

-- every closing closed a policy that was open
abbrev pub Closable : Past → Type 0
Closable [] = Unit {0}
Closable (event a r ∷ past) = Closable past
Closable (opening p ∷ past) = Closable past
Closable (closing p ∷ past) = Open p past × Closable past
Closable (retiring r ∷ past) = Closable past

pub stack-count : (p : ℕ) (past : Past) → Closable past → occurrences p (open_stack past) + closings p past ≡ openings p past
unfolding open_stack occurrences count
stack-count p [] h = refl
stack-count p (event a r ∷ past) h = stack-count p past h
stack-count p (opening s ∷ past) h = go (eqb s p) (stack-count p past h)
  where
    go : (b : Bool) → occurrences p (open_stack past) + closings p past ≡ openings p past
        → add_if b (occurrences p (open_stack past)) + closings p past ≡ add_if b (openings p past)
    go true e = omega arith
    go false e = e
stack-count p (closing s ∷ past) (o, h) = go (eqb s p) refl (stack-count p past h)
  where
    go : (b : Bool) → eqb s p ≡ b → occurrences p (open_stack past) + closings p past ≡ openings p past
        → occurrences p (without s (open_stack past)) + add_if b (closings p past) ≡ openings p past
    go true e i =
        let q : s ≡ p = eqb-true s p e in
        let l : closings p past < openings p past = subst (λ (k : ℕ). Open k past) q o in
        let w : suc (occurrences p (without p (open_stack past))) ≡ occurrences p (open_stack past) =
        without-own p (open_stack past) (omega arith) in
        subst (λ (k : ℕ). occurrences p (without k (open_stack past)) + suc (closings p past) ≡ openings p past) (sym q) (omega arith)
    go false e i = ap (λ (n : ℕ). n + closings p past) (without_other p s (open_stack past) (eqb-false s p e)) ∙ i
stack-count p (retiring r ∷ past) h = stack-count p past h

-- the judge allows no other pasts
pub allowed-closable : {local : Bool} {es : List Edge} {past : Past} {raw : RawStep} (step : Step)
    → Judged local es past false raw allowed → step_of raw ≡ some step → Closable past → Closable (step ∷ past)
allowed-closable (event a r) j e h = h
allowed-closable (opening p) j e h = h
allowed-closable {past = past} (closing p) (is_allowed t f x) e h = (go (ltb (closings p past) (openings p past)) refl, h)
  where
    go : (b : Bool) → ltb (closings p past) (openings p past) ≡ b → Open p past
    go true q = ltb-true (closings p past) (openings p past) q
    go false q = absurd (t 25 (not_open e (λ o. let l = ltb-false (closings p past) (openings p past) q in omega arith)))
allowed-closable (retiring r) j e h = h

-- ── The closings that a run has still to make ──

unfoldable pub closings_left : List Part → List ℕ
closings_left [] = []
closings_left (node k names ∷ parts) = closings_left parts
closings_left (close p ∷ parts) = p ∷ closings_left parts

-- "8: adds the opening of policy a; node b, then a closing of policy a": they are those of the unclosed openings, in the same order
abbrev pub Nested : Run → Type 0
Nested r = open_stack r.past ≡ closings_left r.parts

nested-move : {ns : List Node} {r r' : Run} → Nested r → Advance ns r r' → Nested r'
unfolding open_stack closings_left
nested-move h (ends e) = h
nested-move h (fires_static e) = h
nested-move h (fires_name e m) = h
nested-move h (sequences e) = h
nested-move h (chooses_left e) = h
nested-move h (chooses_right e) = h
nested-move h (enters e) = h
nested-move h (repeats e) = h
nested-move h (creates e l f) = h
nested-move h (opens {p = p} e) = ap (λ (stack : List ℕ). p ∷ stack) h
nested-move h (closes {p} {rest = rest}) = ap (without p) h ∙ without-first p (closings_left rest)

pub nested : {ns : List Node} {r : Run} → Runs ns r → Nested r
unfolding open_stack closings_left
nested started = refl
nested (moved rs m) = nested-move (nested rs) m

-- where a closing is next, its policy is the one opened last
pub next_last : {ns : List Node} {p : ℕ} {past : Past} {rest : List Part}
    → Runs ns (record { past = past; parts = close p ∷ rest }) → OpenedLast p past
unfolding closings_left
next_last rs = ap (λ (stack : List ℕ). get_elem? stack 0) (nested rs)
