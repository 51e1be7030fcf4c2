-- Examples of the local meaning (02, L7): where the two meanings differ, and where they do not.
use Prim.Native.Nat.{ℕ}
use mathlib.Core.Path.{◌≡◌, refl, sym, ap, subst, ◌∙◌}
use mathlib.Core.Bool.{Bool, true, false}
use mathlib.Core.List.Memᴰ
use mathlib.Core.List.{List, [], ◌∷◌, Memᴰ}
use mathlib.Core.Logic.{◌⊎◌, inl, inr}
use native.Mathlib.Omega.{arith}
use Rattle.usage.specs.declared.Edge.{Edge}
use Rattle.usage.specs.Policy.{Instance, single, Place, Sees, own, Fires, Moves, along, stays, Offending}
use Rattle.usage.specs.Past.{event, opening, closing, Past, May, start, moved, opened, closed, count, Violates}
use Rattle.usage.specs.Tests.{some_of, is_pair}
use Rattle.usage.proofs.Logic.{by_cases}
use Rattle.usage.proofs.Decides.{refutes}
use Rattle.usage.proofs.PastLaws.{before-all, before-event, before-opening}
use Rattle.usage.proofs.ValidLaws.{decides-pair}
use Rattle.usage.proofs.LocalLaws.{anew-kept}

-- action 1 on x leads from 0 to 1, and action 2 on x from 0 to 6, as in document 01's policies P
abbrev one : Edge
one = record { policy = 0; «from» = 0; action = 1; on = 1; who = 0; to = 1 }

abbrev six : Edge
six = record { policy = 0; «from» = 0; action = 2; on = 1; who = 0; to = 6 }

abbrev turning : List Edge
turning = one ∷ six ∷ []

turning-single : {x : ℕ} → Instance turning 0 (x ∷ [])
unfolding is_pair some_of
turning-single = single (refutes (decides-pair turning 0) refl)

module _ {local : Bool} {past : Past} where
  -- action 1 and action 2 on 3, in state 0
  turned : May local turning 0 (Sees (3 ∷ [])) past 0 → May local turning 0 (Sees (3 ∷ [])) (event 1 3 ∷ past) 1
  turned m =
      let f : Fires one 0 1 (Sees (3 ∷ []) 3) 0 = record { policy = refl; «from» = refl; action = refl; label = own refl } in
      moved m (along one (Memᴰ.head refl) f)

  offended : May local turning 0 (Sees (3 ∷ [])) past 0 → May local turning 0 (Sees (3 ∷ [])) (event 2 3 ∷ past) 6
  offended m =
      let f : Fires six 0 2 (Sees (3 ∷ []) 3) 0 = record { policy = refl; «from» = refl; action = refl; label = own refl } in
      moved m (along six (Memᴰ.tail (Memᴰ.head refl)) f)

-- ── Case C under both meanings ──

-- "read 3 (action 2), then open 0: violated at the opening"
late-violated : Violates false turning 0 (opening 0 ∷ event 2 3 ∷ [])
unfolding count
late-violated = (omega arith, (3 ∷ [], turning-single, 6, opened (offended start), inl refl))

late-allowed : Violates true turning 0 (opening 0 ∷ event 2 3 ∷ []) → ⊥
unfolding count
late-allowed v = anew-kept turning 0 (event 2 3 ∷ []) (λ o. omega arith) v

-- ── Where the local meaning refuses what the whole past allows ──

-- action 1 on 3, then open 0, then action 2 on 3: the opening takes the instance of 3 back to state 0, from which action 2 offends
turned-back : Violates true turning 0 (event 2 3 ∷ opening 0 ∷ event 1 3 ∷ [])
unfolding count
turned-back = (omega arith, (3 ∷ [], turning-single, 6, offended (opened (turned start)), inl refl))

-- with the whole past it is in state 1, which action 2 leaves as it is; and the instances of others see no event on their own
sees-own : {xs : List ℕ} {r k who : ℕ} → k ≡ 1 → Sees xs r k who → Place xs 0 r
sees-own {xs} {r} {k} {who} e s = own-only (subst (λ (n : ℕ). Sees xs r n who) e s)
  where
    own-only : {w : ℕ} → Sees xs r 1 w → Place xs 0 r
    own-only (own e) = e

-- an edge of the two
edge_of : {e : Edge} → Memᴰ e turning → (e ≡ one) ⊎ (e ≡ six)
edge_of m = by_cases (Memᴰ.cases_cons m) inl (λ j. inr (Memᴰ.eq_of_singleton j))

-- after action 1 from state 0: in 1, or the event was on another
after_one : {xs : List ℕ} {q q' : ℕ} → q ≡ 0 → Moves turning 0 1 (Sees xs 3) q q' → (q' ≡ 1) ⊎ ((q' ≡ 0) × (Place xs 0 3 → ⊥))
after_one z (along e m f) = by_cases (edge_of m)
    (λ (g : e ≡ one). inl (ap (λ (d : Edge). d.to) g))
    (λ (g : e ≡ six). let a : 2 ≡ 1 = sym (ap (λ (d : Edge). d.action) g) ∙ f.action in absurd (omega arith))
after_one z (stays n) = inr (
  z,
  λ i. n one (Memᴰ.head refl) (record { policy = refl; «from» = sym z; action = refl; label = own i }),
)

-- action 2 then leads to no offending state
after_two : {xs : List ℕ} {q q' : ℕ} → (q ≡ 1) ⊎ ((q ≡ 0) × (Place xs 0 3 → ⊥)) → Moves turning 0 2 (Sees xs 3) q q' → Offending q' → ⊥
after_two w (along e m f) o = by_cases (edge_of m)
    (λ (g : e ≡ one). let a : 1 ≡ 2 = sym (ap (λ (d : Edge). d.action) g) ∙ f.action in absurd (omega arith))
    (λ (g : e ≡ six).
    by_cases w
    (λ h. let b : 0 ≡ 1 = sym (ap (λ (d : Edge). d.from) g) ∙ f.from ∙ h in absurd (omega arith))
    (λ h. h.1 (sees-own (ap (λ (d : Edge). d.on) g) f.label)))
after_two (inl h) (stays n) (inl e) = omega arith
after_two (inl h) (stays n) (inr e) = omega arith
after_two (inr h) (stays n) (inl e) = let z = h.0 in omega arith
after_two (inr h) (stays n) (inr e) = let z = h.0 in omega arith

whole-allows : Violates false turning 0 (event 2 3 ∷ opening 0 ∷ event 1 3 ∷ []) → ⊥
whole-allows (o, (xs, i, q, m, f)) =
    let (q₂, m₂, v₂) = before-event m in
    let (q₁, m₁, same) = before-opening m₂ in
    let (q₀, m₀, v₁) = before-event m₁ in
    after_two (subst (λ (n : ℕ). (n ≡ 1) ⊎ ((n ≡ 0) × (Place xs 0 3 → ⊥))) same (after_one (sym (before-all m₀)) v₁)) v₂ f

-- ── Nested, and opened again ──

-- a nested opening resets nothing: the offending state that the instance of 3 came to stays
nested-violated : Violates true turning 0 (opening 0 ∷ event 2 3 ∷ opening 0 ∷ [])
unfolding count
nested-violated = (omega arith, (3 ∷ [], turning-single, 6, opened (offended (opened start)), inl refl))

-- an opening after the closing resets again: this state is gone, and state 1 is too
again-allowed : Violates true turning 0 (opening 0 ∷ closing 0 ∷ event 2 3 ∷ opening 0 ∷ []) → ⊥
unfolding count
again-allowed v = anew-kept turning 0 (closing 0 ∷ event 2 3 ∷ opening 0 ∷ []) (λ o. omega arith) v

again-violated : Violates true turning 0 (event 2 3 ∷ opening 0 ∷ closing 0 ∷ event 1 3 ∷ opening 0 ∷ [])
unfolding count
again-violated = (omega arith, (3 ∷ [], turning-single, 6, offended (opened (closed (turned (opened start)))), inl refl))

-- with the whole past the first of these is violated: a closing resets nothing
again-whole : Violates false turning 0 (opening 0 ∷ closing 0 ∷ event 2 3 ∷ opening 0 ∷ [])
unfolding count
again-whole = (omega arith, (3 ∷ [], turning-single, 6, opened (closed (offended (opened start))), inl refl))
