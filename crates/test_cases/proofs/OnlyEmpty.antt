-- Case L has "no trace but the empty one".
use Prim.Native.Nat.{ℕ, zero, suc}
use mathlib.Core.Path.{◌≡◌, refl, sym, subst}
use mathlib.Core.Option.{some, some-injective}
use mathlib.Core.List.{List, [], ◌∷◌}
use mathlib.Core.Logic.{◌⊎◌, inl, inr, ◌↔◌}
use Rattle.usage.specs.declared.Node.{Node}
use Rattle.usage.specs.Past.{Past}
use Rattle.usage.specs.Outline.{Form, loop, back, form_of, form_at, Is, Part, node, close, Run, Advance, ends}
use Rattle.usage.specs.Outline.{fires_static, fires_name, sequences, chooses_left, chooses_right, enters}
use Rattle.usage.specs.Outline.{repeats, creates, opens, closes, Runs, started, moved, IsTrace}
use Rattle.usage.specs.Tables.{from, nodes_of}
use Rattle.usage.proofs.Logic.{clash, by_cases, none-some}
use Rattle.usage.proofs.TraceLaws.{trace-empty}
use Rattle.test_cases.specs.Cases.{nodes_l}

abbrev outline-L : List Node
outline-L = nodes_of nodes_l

forms : (k : ℕ) (f : Form) → form_at outline-L k ≡ some f → (f ≡ loop 1) ⊎ (f ≡ back 0)
unfolding from nodes_of form_of
forms zero f e = inl (sym (some-injective _ _ e))
forms (suc zero) f e = inr (sym (some-injective _ _ e))
forms (suc (suc k)) f e = none-some e

-- no step, and no closing to run
abbrev Nodes : List Part → Type 0
Nodes [] = Unit {0}
Nodes (node k names ∷ rest) = Nodes rest
Nodes (close p ∷ rest) = ⊥

abbrev Idle : Run → Type 0
Idle r = (r.past ≡ []) × Nodes r.parts

no_other : {A : Type 0} {k : ℕ} {f : Form} → Is outline-L k f → (f ≡ loop 1 → ⊥) → (f ≡ back 0 → ⊥) → A
no_other {k = k} {f} i l b = by_cases (forms k f i.form) (λ e. absurd (l e)) (λ e. absurd (b e))

idle-move : {r r' : Run} → Idle r → Advance outline-L r r' → Idle r'
idle-move h (ends e) = no_other e (λ q. clash (cc)) (λ q. clash (cc))
idle-move h (fires_static e) = no_other e (λ q. clash (cc)) (λ q. clash (cc))
idle-move h (fires_name e m) = no_other e (λ q. clash (cc)) (λ q. clash (cc))
idle-move h (sequences e) = no_other e (λ q. clash (cc)) (λ q. clash (cc))
idle-move h (chooses_left e) = no_other e (λ q. clash (cc)) (λ q. clash (cc))
idle-move h (chooses_right e) = no_other e (λ q. clash (cc)) (λ q. clash (cc))
idle-move h (enters e) = h
idle-move h (repeats e) = h
idle-move h (creates e l f) = no_other e (λ q. clash (cc)) (λ q. clash (cc))
idle-move h (opens e) = no_other e (λ q. clash (cc)) (λ q. clash (cc))
idle-move h closes = absurd h.1

idle : {r : Run} → Runs outline-L r → Idle r
idle started = (refl, tt)
idle (moved rs m) = idle-move (idle rs) m

pub only-empty-L : (past : Past) → IsTrace outline-L past ↔ (past ≡ [])
only-empty-L past = (λ t. (idle t.1).0, λ e. subst (IsTrace outline-L) (sym e) (trace-empty outline-L))
