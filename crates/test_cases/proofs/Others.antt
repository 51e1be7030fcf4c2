-- Case F is broken by every instance but that of 3.
use Prim.Native.Nat.{ℕ}
use mathlib.Core.Path.{◌≡◌, refl, sym, ap, subst, ◌∙◌}
use mathlib.Core.Option.{Option, some}
use mathlib.Core.List.Memᴰ
use mathlib.Core.List.{[], ◌∷◌}
use mathlib.Core.Logic.{inl, inr}
use native.Mathlib.Omega.{arith}
use Rattle.usage.specs.declared.Edge.{Edge}
use Rattle.usage.specs.Policy.{Sees, other, Moves, along, stays, Offending}
use Rattle.usage.specs.Past.{start, moved, opened}
use Rattle.usage.specs.Judge.{step_of}
use Rattle.usage.specs.Tables.{from, edges_of}
use Rattle.usage.proofs.SeesLaws.{place-one}
use Rattle.usage.proofs.PastLaws.{before-all, before-event, before-opening}
use Rattle.test_cases.specs.Cases.{BrokenBy, by_others, Right, others_f}

-- "edge 0 0 4 2 0 6 only"
abbrev edge-F : Edge
edge-F = record { policy = 0; «from» = 0; action = 4; on = 2; who = 0; to = 6 }

sees-other : {x r who : ℕ} → Sees (x ∷ []) r 2 who → r ≡ x → ⊥
sees-other (other d) e = d 0 (ap {B = Option ℕ} some (sym e))

-- from state 0 the event on 3 leads its own instance to no offending state
own-stays : {x q q' : ℕ} → 3 ≡ x → 0 ≡ q → Moves (edge-F ∷ []) 0 4 (Sees (x ∷ []) 3) q q' → Offending q' → ⊥
own-stays {x} own z (along e m f) o =
    let h : e ≡ edge-F = Memᴰ.eq_of_singleton m in
    sees-other (subst (λ (n : ℕ). Sees (x ∷ []) 3 n e.who) (ap (λ (d : Edge). d.on) h) f.label) own
own-stays own z (stays n) (inl e) = omega arith
own-stays own z (stays n) (inr e) = omega arith

-- and that of any other to state 6
other-moves : {x : ℕ} → (x ≡ 3 → ⊥) → Moves (edge-F ∷ []) 0 4 (Sees (x ∷ []) 3) 0 6
other-moves {x} d = along edge-F (Memᴰ.head refl)
    (record { policy = refl; «from» = refl; action = refl; label = other (λ i e. d (place-one x i 3 e)) })

pub right-others-F : Right (by_others others_f)
unfolding from edges_of step_of
right-others-F x = (spared, broken)
  where
    spared : BrokenBy others_f.about others_f.policy x → x ≡ others_f.spared → ⊥
    spared (q, m, o) e =
        let (q₁, m₁, v) = before-event m in
        let (q₀, m₀, f) = before-opening m₁ in
        own-stays (sym e) (before-all m₀ ∙ f) v o

    broken : (x ≡ others_f.spared → ⊥) → BrokenBy others_f.about others_f.policy x
    broken d = (6, moved (opened start) (other-moves d), inl refl)
